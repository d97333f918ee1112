-- The slots of a node as a part of their row. Assumes nothing.
use Rattle.std.proofs.Common.{◌≡◌, ℕ, zero, suc, ◌<◌, ◌≤◌, List, [], ◌∷◌, length, get_or, take, sym, ap, ◌∙◌, refl, arith}
use lib.Count.{ones}
use Rattle.std.proofs.lemmas.List.{get_or-take}
use Rattle.std.proofs.lemmas.List.FromFn.{fill_by_all}
use Rattle.tables.specs.Cells.{listed}
use Rattle.tables.proofs.NodeCounts.{length_listed, listed_at}

-- the first slots, as many as a map has bits
pub listed_take : (m : ℕ) (l : List ℕ) → ones m ≤ length l → listed m l ≡ take (ones m) l
unfolding listed
listed_take m l h =
    sym (fill_by_all (λ k. get_or l k 0) (take (ones m) l) (ones m) 0 (long (ones m) l h) (λ k p. get_or-take (ones m) l k 0 p))
  where
    long : (n : ℕ) (l : List ℕ) → n ≤ length l → length (take n l) ≡ n
    long zero l h = refl
    long (suc n) [] h = absurd (omega arith)
    long (suc n) (x ∷ l) h = ap suc (long n l (omega arith))

-- a row of them, read at a place, and come to its end
module _ (m : ℕ) (l row : List ℕ) (k : ℕ) (is : row ≡ listed m l) where
  pub listed_rank : k < length row → (k < ones m) × (get_or row k 0 ≡ get_or l k 0)
  listed_rank p =
      let q : k < ones m = omega (arith, ap length is, length_listed m l) in
      (q, ap (λ (r : List ℕ). get_or r k 0) is ∙ listed_at m l k q)

  pub listed_past : length row ≤ k → ones m ≤ k
  listed_past p = omega (arith, ap length is, length_listed m l)

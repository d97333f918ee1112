-- Walks along the chain of free cells. Assumes nothing.
use Rattle.std.proofs.Common.{◌≡◌, ℕ, zero, suc, ◌+◌, ◌<◌, ◌≤◌, List, [], ◌∷◌, ◌++◌, length, sym, refl, ap, subst, arith}
use native.Mathlib.Numerals.{unary_clauses}
use Rattle.tables.specs.Chains.{occ, Linked}
use Rattle.tables.specs.Walks.{walk, after}
use Rattle.tables.proofs.Occurrences.{occ_nil, occ_cons, occ_head}

module _ (next : ℕ → ℕ) where
  pub walk_none : (h : ℕ) → walk next h 0 ≡ []
  unfolding walk
  walk_none h = refl

  pub after_none : (h : ℕ) → after next h 0 ≡ h
  unfolding after
  after_none h = refl

  pub walk_more : (h k : ℕ) → walk next h (k + 1) ≡ walk next h k ++ (after next h k ∷ [])
  unfolding walk after
  walk_more h zero = refl
  walk_more h (suc k) = simp unary_clauses (ap (λ l. h ∷ l) (simp unary_clauses at (walk_more (next h) k)))

  pub after_more : (h k : ℕ) → after next h (k + 1) ≡ next (after next h k)
  unfolding after
  after_more h zero = refl
  after_more h (suc k) = simp unary_clauses (simp unary_clauses at (after_more (next h) k))

  -- the walk over the first cells of a chain has them in its order
  pub walk_linked : (h : ℕ) (l m : List ℕ) → Linked next h (l ++ m) → walk next h (length l) ≡ l
  unfolding walk Linked
  walk_linked h [] m p = refl
  walk_linked h (x ∷ l) m (e, p) = cc (e, ap (λ r. h ∷ r) (subst (λ y. walk next (next y) (length l) ≡ l) (sym e) (walk_linked (next x) l m p)))

  pub after_walked : (h k n : ℕ) → k < n → 0 < occ (after next h k) (walk next h n)
  unfolding walk after
  after_walked h zero (suc n) p = occ_head h (walk next (next h) n)
  after_walked h (suc k) (suc n) p = omega (arith, occ_cons (after next (next h) k) h (walk next (next h) n), after_walked (next h) k n (omega arith))
  after_walked h k zero p = absurd (omega (arith, p))

  -- a walk of fewer cells has no other
  pub walk_within : (h i k n : ℕ) → k ≤ n → occ i (walk next h k) ≤ occ i (walk next h n)
  unfolding walk
  walk_within h i zero n p = omega (arith, occ_nil i)
  walk_within h i (suc k) zero p = absurd (omega (arith, p))
  walk_within h i (suc k) (suc n) p =
      omega (arith, occ_cons i h (walk next (next h) k), occ_cons i h (walk next (next h) n), walk_within (next h) i k n (omega arith))

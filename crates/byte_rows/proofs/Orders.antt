-- Rows that are the same, and rows in order. Assumes nothing.
use Rattle.std.proofs.Common.{◌≡◌, ℕ, ◌<◌, Bool, true, false, ◌⊎◌, List, [], ◌∷◌, Decides, Ordering, Less, Equal, Greater, sym, refl, inl, inr, arith, rules}
use Rattle.std.specs.Cmp.Lexicographic.{slice_cmp}
use Rattle.std.specs.Cmp.{ranked as nat_ranked}
use Rattle.std.specs.Ordering.{MatchOrdering, nat_cmp, ordering_then}
use Rattle.std.proofs.lemmas.Slice.Eq.{compares_Decides}
use Rattle.std.proofs.lemmas.Bool.{false≢true, both_ways}
use Rattle.std.proofs.lemmas.Bool.Decides.{nat_tests}
use Rattle.byte_rows.specs.Rows.{same, earlier}

pub same_decides : (a b : List ℕ) → Decides (same a b) (a ≡ b)
same_decides a b = compares_Decides same (search rules) a b

-- a test and its truth, for `grind`
pub same_tells : (a b : List ℕ) → ((same a b ≡ true) × (a ≡ b)) ⊎ ((same a b ≡ false) × (a ≡ b → ⊥))
same_tells a b = go (same a b) refl
  where
    go : (t : Bool) → same a b ≡ t → ((same a b ≡ true) × (a ≡ b)) ⊎ ((same a b ≡ false) × (a ≡ b → ⊥))
    go true e = inl (e, (same_decides a b).0 e)
    go false e = inr (e, λ h. both_ways _ e ((same_decides a b).1 h))

pub earlier_not_self : (a : List ℕ) → earlier a a ≡ false
earlier_not_self [] = refl
earlier_not_self (x ∷ a) = let h = earlier_not_self a in grind (arith, nat_tests)

pub earlier_onward : (a b c : List ℕ) → earlier a b ≡ true → earlier b c ≡ true → earlier a c ≡ true
earlier_onward [] [] c h k = absurd (false≢true h)
earlier_onward [] (y ∷ b) [] h k = absurd (false≢true k)
earlier_onward [] (y ∷ b) (z ∷ c) h k = refl
earlier_onward (x ∷ a) [] c h k = absurd (false≢true h)
earlier_onward (x ∷ a) (y ∷ b) [] h k = absurd (false≢true k)
earlier_onward (x ∷ a) (y ∷ b) (z ∷ c) h k = let on = earlier_onward a b c in grind (arith, nat_tests)

pub earlier_or_same : (a b : List ℕ) → earlier a b ≡ false → earlier b a ≡ false → a ≡ b
earlier_or_same [] [] h k = refl
earlier_or_same [] (y ∷ b) h k = absurd (false≢true (sym h))
earlier_or_same (x ∷ a) [] h k = absurd (false≢true (sym k))
earlier_or_same (x ∷ a) (y ∷ b) h k = let rest = earlier_or_same a b in grind (arith, nat_tests)

-- one byte more in front of two rows
ranked_more : (x y : ℕ) (a b : List ℕ) (k r : Ordering) → MatchOrdering r (earlier a b ≡ true) (a ≡ b) (earlier b a ≡ true) → MatchOrdering k (x < y) (x ≡ y) (y < x) →
    MatchOrdering (ordering_then k r) (earlier (x ∷ a) (y ∷ b) ≡ true) (x ∷ a ≡ y ∷ b) (earlier (y ∷ b) (x ∷ a) ≡ true)
ranked_more x y a b Less r f h = grind (arith, nat_tests)
ranked_more x y a b Equal Less f h = grind (arith, nat_tests)
ranked_more x y a b Equal Equal f h = cc
ranked_more x y a b Equal Greater f h = grind (arith, nat_tests)
ranked_more x y a b Greater r f h = grind (arith, nat_tests)

-- what a comparison of two slices answers
pub ranked : (a b : List ℕ) (r : Ordering) → r ≡ slice_cmp nat_cmp a b → MatchOrdering r (earlier a b ≡ true) (a ≡ b) (earlier b a ≡ true)
ranked [] [] r h = rw h refl
ranked [] (y ∷ b) r h = rw h refl
ranked (x ∷ a) [] r h = rw h refl
ranked (x ∷ a) (y ∷ b) r h = rw h (ranked_more x y a b (nat_cmp x y) (slice_cmp nat_cmp a b) (ranked a b _ refl) (nat_ranked x y _ refl))

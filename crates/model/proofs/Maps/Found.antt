-- Rows that are the same, and look-ups that find the same. Assumes nothing.
use Rattle.std.proofs.Common.{◌≡◌, ℕ, Bool, true, false, ◌⊎◌, List, Some, None, Option, refl, ap, inl, inr}
use Rattle.std.proofs.lemmas.Bool.{both_ways}
use Rattle.byte_rows.specs.Rows.{same}
use Rattle.byte_rows.proofs.Orders.{same_decides}
use Rattle.model.specs.Maps.{same_found}

pub same_self : (k : List ℕ) → same k k ≡ true
same_self k = (same_decides k k).1 refl

pub found_true : (a b : Option (List ℕ)) → same_found a b ≡ true → a ≡ b
found_true None None e = refl
found_true None (Some b) e = cc
found_true (Some a) None e = cc
found_true (Some a) (Some b) e = ap Some ((same_decides a b).0 e)

pub found_self : (a : Option (List ℕ)) → same_found a a ≡ true
found_self None = refl
found_self (Some a) = same_self a

-- a test and its truth, for `grind`
pub found_tells : (a b : Option (List ℕ)) → ((same_found a b ≡ true) × (a ≡ b)) ⊎ ((same_found a b ≡ false) × (a ≡ b → ⊥))
found_tells a b = go (same_found a b) refl
  where
    go : (t : Bool) → same_found a b ≡ t → ((same_found a b ≡ true) × (a ≡ b)) ⊎ ((same_found a b ≡ false) × (a ≡ b → ⊥))
    go true e = inl (e, found_true a b e)
    go false e = inr (e, λ p. both_ways _ e (cc (found_self a)))

-- One cell of a table is written, whatever its cells are. Assumes nothing.
use Rattle.std.proofs.Common.{◌≡◌, ℕ, ◌<◌, List, length, get_or, set, sym, ap, ◌∙◌, subst, inl, inr}
use Rattle.std.proofs.lemmas.List.{get_or-set_same, get_or-set_other}
use Rattle.std.proofs.lemmas.Bool.{cases_eq}

module _ {A : Type 0} (d : A) (xs : List A) (j : ℕ) (y : A) (h : j < length xs) where
  -- what holds of the new cell, and of each other
  pub at_set : (P : A → Type 0) (i : ℕ) → (i ≡ j → P y) → ((i ≡ j → ⊥) → P (get_or xs i d)) → P (get_or (set xs j y) i d)
  at_set P i same other =
      elim (cases_eq i j) [
        | inl e ↦ subst P (sym (ap (λ (n : ℕ). get_or (set xs j y) n d) e ∙ get_or-set_same xs j y d h)) (same e)
        | inr n ↦ subst P (sym (get_or-set_other xs j i y d n)) (other n)
      ]

  -- the same where it speaks of the cell's number
  pub at_each : (P : ℕ → A → Type 0) → P j y → ((i : ℕ) → (i ≡ j → ⊥) → P i (get_or xs i d)) → (i : ℕ) → P i (get_or (set xs j y) i d)
  at_each P same other i = at_set (P i) i (λ e. let Q : ℕ → Type 0 = λ k. P k y in subst Q (sym e) same) (other i)

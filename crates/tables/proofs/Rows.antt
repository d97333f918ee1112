-- What stands in a row made from one. Assumes nothing.
use Rattle.std.proofs.Common.{◌≡◌, ℕ, ◌<◌, List, [], ◌∷◌, ◌++◌, map, sym, refl, ap, subst, ap₂, inl, inr, arith}
use mathlib.Core.List.Memᴰ
use mathlib.Core.List.{Memᴰ}
use Rattle.std.specs.List.{flat_map}
use Rattle.std.proofs.lemmas.Bool.{cases_eq}
use Rattle.tables.specs.Chains.{occ}
use Rattle.tables.proofs.Occurrences.{hit_same, occ_nil, occ_cons, occ_head, occ_later, occ_rest}

-- each number of a mapped row comes from one of the row, and the other way round
pub from_map : (f : ℕ → ℕ) (l : List ℕ) (k : ℕ) → 0 < occ k (map f l) → (g : ℕ) × ((0 < occ g l) × (k ≡ f g))
from_map f [] k p = absurd (omega (arith, occ_nil k))
from_map f (x ∷ l) k p =
    elim (cases_eq k (f x)) [
      | inl q ↦ (x, (occ_head x l, q))
      | inr q ↦ let r = from_map f l k (occ_rest k (f x) (map f l) p q) in (r.0, (occ_later r.0 x l r.1.0, r.1.1))
    ]

pub to_map : (f : ℕ → ℕ) (l : List ℕ) (g : ℕ) → 0 < occ g l → 0 < occ (f g) (map f l)
to_map f [] g p = absurd (omega (arith, occ_nil g))
to_map f (x ∷ l) g p =
    elim (cases_eq g x) [
      | inl q ↦ omega (arith, occ_cons (f g) (f x) (map f l), hit_same (f g) (f x) (ap f q))
      | inr q ↦ occ_later (f g) (f x) (map f l) (to_map f l g (occ_rest g x l p q))
    ]

module _ {A : Type 0} where
  pub map_same : (f g : ℕ → A) (l : List ℕ) → ((k : ℕ) → 0 < occ k l → f k ≡ g k) → map f l ≡ map g l
  map_same f g [] h = refl
  map_same f g (x ∷ l) h = ap₂ ◌∷◌ (h x (occ_head x l)) (map_same f g l (λ k p. h k (occ_later k x l p)))

  pub joined_same : (f g : ℕ → List A) (l : List ℕ) → ((k : ℕ) → 0 < occ k l → f k ≡ g k) → flat_map f l ≡ flat_map g l
  joined_same f g [] h = refl
  joined_same f g (x ∷ l) h = ap₂ ◌++◌ (h x (occ_head x l)) (joined_same f g l (λ k p. h k (occ_later k x l p)))

  pub joined_map : (f : ℕ → List A) (g : ℕ → ℕ) (l : List ℕ) → flat_map f (map g l) ≡ flat_map (λ k. f (g k)) l
  joined_map f g [] = refl
  joined_map f g (x ∷ l) = ap (λ (r : List A). f (g x) ++ r) (joined_map f g l)

  -- what stands in a joined row stands in one of the rows, and the other way round
  pub from_joined : (x : A) (f : ℕ → List A) (l : List ℕ) → Memᴰ x (flat_map f l) → (k : ℕ) × ((0 < occ k l) × Memᴰ x (f k))
  from_joined x f [] m = absurd (Memᴰ.not-nil m)
  from_joined x f (k ∷ l) m =
      elim (Memᴰ.append_cases (f k) m) [
        | inl h ↦ (k, (occ_head k l, h))
        | inr h ↦ let r = from_joined x f l h in (r.0, (occ_later r.0 k l r.1.0, r.1.1))
      ]

  pub to_joined : (x : A) (f : ℕ → List A) (l : List ℕ) (k : ℕ) → 0 < occ k l → Memᴰ x (f k) → Memᴰ x (flat_map f l)
  to_joined x f [] k p m = absurd (omega (arith, occ_nil k))
  to_joined x f (j ∷ l) k p m =
      elim (cases_eq k j) [
        | inl q ↦ Memᴰ.append_left (flat_map f l) (subst (λ i. Memᴰ x (f i)) q m)
        | inr q ↦ Memᴰ.append_right (f j) (to_joined x f l k (occ_rest k j l p q) m)
      ]

  pub from_labels : (x : A) (f : ℕ → A) (l : List ℕ) → Memᴰ x (map f l) → (k : ℕ) × ((0 < occ k l) × (f k ≡ x))
  from_labels x f [] m = absurd (Memᴰ.not-nil m)
  from_labels x f (k ∷ l) m =
      elim (Memᴰ.cases_cons m) [
        | inl e ↦ (k, (occ_head k l, sym e))
        | inr h ↦ let r = from_labels x f l h in (r.0, (occ_later r.0 k l r.1.0, r.1.1))
      ]

  pub to_labels : (f : ℕ → A) (l : List ℕ) (k : ℕ) → 0 < occ k l → Memᴰ (f k) (map f l)
  to_labels f [] k p = absurd (omega (arith, occ_nil k))
  to_labels f (j ∷ l) k p =
      elim (cases_eq k j) [
        | inl q ↦ Memᴰ.head (ap f q)
        | inr q ↦ Memᴰ.tail (to_labels f l k (occ_rest k j l p q))
      ]

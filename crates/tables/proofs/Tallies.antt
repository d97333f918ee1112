-- How many cells of a table are free: all but those that its labels count. Assumes nothing.
use Rattle.std.proofs.Common.{◌≡◌, ℕ, zero, suc, ◌+◌, ◌<◌, cond, eqb, List, [], ◌∷◌, length, sym, refl, ap, ◌∙◌, subst, ap₂, inl, inr, arith}
use mathlib.Core.List.Memᴰ
use mathlib.Core.List.{Memᴰ}
use Rattle.std.proofs.lemmas.Bool.{cases_eq, cases_lt, eq-eqb, ne_eqb, cond-true, cond-false}
use Rattle.model.specs.Sharing.{Marked}
use Rattle.model.specs.Accounts.{distinct}
use Rattle.model.specs.Runs.{Distinct}
use Rattle.model.proofs.Counts.{counted_once}
use Rattle.tables.specs.Chains.{occ, Chain}
use Rattle.tables.proofs.Occurrences.{hit, hit_same, hit_other, occ_nil, occ_cons, occ_head, occ_later}

-- ---- sums over the numbers below a limit

unfoldable pub tally : (ℕ → ℕ) → ℕ → ℕ
tally f zero = 0
tally f (suc n) = f n + tally f n

pub tally_same : (n : ℕ) (f g : ℕ → ℕ) → ((i : ℕ) → i < n → f i ≡ g i) → tally f n ≡ tally g n
unfolding tally
tally_same zero f g e = refl
tally_same (suc n) f g e = ap₂ ◌+◌ (e n (omega arith)) (tally_same n f g (λ i p. e i (omega arith)))

pub tally_plus : (n : ℕ) (f g h : ℕ → ℕ) → ((i : ℕ) → i < n → h i ≡ f i + g i) → tally h n ≡ tally f n + tally g n
unfolding tally
tally_plus zero f g h e = refl
tally_plus (suc n) f g h e = omega (arith, e n (omega arith), tally_plus n f g h (λ i p. e i (omega arith)))

pub tally_none : (n : ℕ) (f : ℕ → ℕ) → ((i : ℕ) → i < n → f i ≡ 0) → tally f n ≡ 0
unfolding tally
tally_none zero f e = refl
tally_none (suc n) f e = omega (arith, e n (omega arith), tally_none n f (λ i p. e i (omega arith)))

pub tally_hit : (n x : ℕ) → x < n → tally (λ i. hit i x) n ≡ 1
unfolding tally
tally_hit zero x p = absurd (omega arith)
tally_hit (suc n) x p =
    elim (cases_eq n x) [
      | inl e ↦ omega (arith, hit_same n x e, tally_none n (λ i. hit i x) (λ i q. hit_other i x (λ k. omega arith)))
      | inr k ↦ omega (arith, hit_other n x k, tally_hit n x (omega (arith, cases_lt x n)))
    ]

-- a row of numbers below the limit is as long as its occurrences sum up to
pub tally_occ : (n : ℕ) (l : List ℕ) → ((i : ℕ) → 0 < occ i l → i < n) → tally (λ i. occ i l) n ≡ length l
tally_occ n [] h = tally_none n (λ i. occ i []) (λ i p. occ_nil i)
tally_occ n (x ∷ l) h =
    let rest = tally_occ n l (λ i p. h i (occ_later i x l p)) in
    let one = tally_hit n x (h x (occ_head x l)) in
    omega (arith, rest, one, tally_plus n (λ i. hit i x) (λ i. occ i l) (λ i. occ i (x ∷ l)) (λ i p. occ_cons i x l))

-- ---- the free cells

abbrev pub is_free : (ℕ → ℕ) → ℕ → ℕ
is_free holders i = cond (eqb (holders i) 0) 1 0

free_one : (holders : ℕ → ℕ) (i : ℕ) → holders i ≡ 0 → is_free holders i ≡ 1
free_one holders i e = cond-true {A = ℕ} (eqb (holders i) 0) 1 0 (eq-eqb (holders i) 0 e)

free_none : (holders : ℕ → ℕ) (i : ℕ) → (holders i ≡ 0 → ⊥) → is_free holders i ≡ 0
free_none holders i k = cond-false {A = ℕ} (eqb (holders i) 0) 1 0 (ne_eqb (holders i) 0 k)

pub chain_tally : (next holders : ℕ → ℕ) (n head spare : ℕ) → Chain next holders n head spare → tally (is_free holders) n ≡ spare
chain_tally next holders n head spare C =
    tally_same n (is_free holders) (λ i. occ i C.list) once ∙ tally_occ n C.list (λ i p. (C.free i p).0) ∙ C.many
  where
    once : (i : ℕ) → i < n → is_free holders i ≡ occ i C.list
    once i p =
        elim (cases_eq (holders i) 0) [
          | inl e ↦ omega (arith, free_one holders i e, C.every i p e, C.once i)
          | inr k ↦ elim (cases_lt 0 (occ i C.list)) [
            | inl q ↦ absurd (k (C.free i q).1)
            | inr q ↦ omega (arith, free_none holders i k)
          ]
        ]

-- ---- the labels of the held cells

module _ (holders : ℕ → ℕ) (label : ℕ → Marked) where
  unfoldable pub labels : ℕ → List Marked
  labels zero = []
  labels (suc n) = cond (eqb (holders n) 0) (labels n) (label n ∷ labels n)

  labels_free : (n : ℕ) → holders n ≡ 0 → labels (suc n) ≡ labels n
  unfolding labels
  labels_free n e = cond-true (eqb (holders n) 0) _ _ (eq-eqb (holders n) 0 e)

  labels_held : (n : ℕ) → (holders n ≡ 0 → ⊥) → labels (suc n) ≡ label n ∷ labels n
  unfolding labels
  labels_held n k = cond-false (eqb (holders n) 0) _ _ (ne_eqb (holders n) 0 k)

  pub labels_length : (n : ℕ) → tally (is_free holders) n + length (labels n) ≡ n
  unfolding tally labels
  labels_length zero = refl
  labels_length (suc n) =
      elim (cases_eq (holders n) 0) [
        | inl e ↦ omega (arith, labels_length n, free_one holders n e, ap length (labels_free n e))
        | inr k ↦ omega (arith, labels_length n, free_none holders n k, ap length (labels_held n k))
      ]

  pub from_table : (n : ℕ) (x : Marked) → Memᴰ x (labels n) → (i : ℕ) × ((i < n) × ((0 < holders i) × (label i ≡ x)))
  unfolding labels
  from_table zero x m = absurd (Memᴰ.not-nil m)
  from_table (suc n) x m =
      let later : Memᴰ x (labels n) → (i : ℕ) × ((i < suc n) × ((0 < holders i) × (label i ≡ x))) =
      λ q. let r = from_table n x q in (r.0, (omega (arith, r.1.0), r.1.1)) in
      elim (cases_eq (holders n) 0) [
        | inl e ↦ later (subst (Memᴰ x) (labels_free n e) m)
        | inr k ↦ elim (Memᴰ.cases_cons (subst (Memᴰ x) (labels_held n k) m)) [
          | inl e ↦ (n, (omega arith, (omega arith, sym e)))
          | inr q ↦ later q
        ]
      ]

  pub to_table : (n i : ℕ) → i < n → 0 < holders i → Memᴰ (label i) (labels n)
  to_table zero i p h = absurd (omega arith)
  to_table (suc n) i p h =
      elim (cases_eq i n) [
        | inl e ↦ subst (Memᴰ (label i)) (sym (labels_held n (λ z. omega (arith, ap holders e)))) (Memᴰ.head (ap label e))
        | inr k ↦ elim (cases_eq (holders n) 0) [
          | inl z ↦ subst (Memᴰ (label i)) (sym (labels_free n z)) (to_table n i (omega arith) h)
          | inr z ↦ subst (Memᴰ (label i)) (sym (labels_held n z)) (Memᴰ.tail (to_table n i (omega arith) h))
        ]
      ]

  module _ (once : (i j : ℕ) → 0 < holders i → 0 < holders j → label i ≡ label j → i ≡ j) where
    pub labels_differ : (n : ℕ) → Distinct (labels n)
    unfolding labels
    labels_differ zero = tt
    labels_differ (suc n) =
        elim (cases_eq (holders n) 0) [
          | inl e ↦ subst Distinct (sym (labels_free n e)) (labels_differ n)
          | inr k ↦ subst Distinct (sym (labels_held n k)) ((λ m. let r = from_table n (label n) m in omega (arith, r.1.0, once r.0 n r.1.1.0 (omega arith) r.1.1.1)), labels_differ n)
        ]

    -- a row of just the labels of the held cells tells how many are free
    pub spare_count :
        (next : ℕ → ℕ) (n head spare : ℕ) → Chain next holders n head spare → (L : List Marked)
        → ((x : Marked) → Memᴰ x L → (i : ℕ) × ((i < n) × ((0 < holders i) × (label i ≡ x))))
        → ((i : ℕ) → 0 < holders i → Memᴰ (label i) L)
        → spare + distinct L ≡ n
    spare_count next n head spare C L each all =
        let same : length (labels n) ≡ distinct L =
        counted_once (labels n) L (labels_differ n)
        (λ x m. let r = from_table n x m in subst (λ y. Memᴰ y L) r.1.1.1 (all r.0 r.1.1.0))
        (λ x m. let r = each x m in subst (λ y. Memᴰ y (labels n)) r.1.1.1 (to_table n r.0 r.1.0 r.1.1.0)) in
        omega (arith, same, labels_length n, chain_tally next holders n head spare C)

-- What a test picks from rows that stand one after another, and the digits at which a node has a child. Assumes nothing.
use Rattle.std.proofs.Common.{◌≡◌, ℕ, ◌<◌, ◌≤◌, Bool, true, false, cond, ltb, List, [], ◌∷◌, ◌++◌, length, sym, refl, ap, ◌∙◌, subst, ap₂, inl, inr, arith}
use Rattle.std.specs.List.{range_with_len, flat_map}
use Rattle.std.proofs.lemmas.List.{append-nil}
use Rattle.std.proofs.lemmas.Bool.{cases_eq, cases_Bool, cond-true, cond-false, cond_both, lt-ltb}
use Rattle.kinds.specs.Kinds.{KeyKind}
use Rattle.model.specs.Tries.{filter, sixteen, at_digit, many, branching}
use Rattle.model.proofs.Images.Lists.{filter_append, filter_none}
use Rattle.model.proofs.Marks.Members.{Mem, all_from_mem, filter_all}
use Rattle.tables.specs.Chains.{occ}
use Rattle.tables.specs.Notes.{Seat, branches}
use Rattle.tables.proofs.Occurrences.{hit_same, hit_other, occ_nil, occ_cons, occ_head, occ_later, occ_rest, occ_counting}
use Rattle.tables.proofs.Rows.{from_joined}

-- ---- rows

module _ {A : Type 0} (q : A → Bool) where
  pub filter_every : (xs : List A) → ((x : A) → Mem x xs → q x ≡ true) → filter q xs ≡ xs
  filter_every xs f = filter_all q xs (all_from_mem (λ x. q x ≡ true) xs f)

  pub filter_nothing : (xs : List A) → ((x : A) → Mem x xs → q x ≡ false) → filter q xs ≡ []
  filter_nothing xs f = filter_none q xs (all_from_mem (λ x. q x ≡ false) xs f)

  -- of rows one after another, a test that passes nothing of any
  pub filter_joined_none : (f : ℕ → List A) (l : List ℕ) → ((k : ℕ) → 0 < occ k l → (x : A) → Mem x (f k) → q x ≡ false) → filter q (flat_map f l) ≡ []
  filter_joined_none f l fail = filter_nothing (flat_map f l) (λ x m. let r = from_joined x f l m in fail r.0 r.1.0 x r.1.1)

  -- a test that passes just what the row of g has picks that row
  pub filter_joined :
      (f : ℕ → List A) (g : ℕ) (l : List ℕ) → 0 < occ g l → ((k : ℕ) → occ k l ≤ 1)
      → ((x : A) → Mem x (f g) → q x ≡ true)
      → ((k : ℕ) → 0 < occ k l → (k ≡ g → ⊥) → (x : A) → Mem x (f k) → q x ≡ false)
      → filter q (flat_map f l) ≡ f g
  filter_joined f g [] p o pass fail = absurd (omega (arith, occ_nil g))
  filter_joined f g (k ∷ l) p o pass fail =
      elim (cases_eq k g) [
        | inl e ↦
            let gone : occ g l ≡ 0 = omega (arith, o g, occ_cons g k l, hit_same g k (sym e)) in
            let here : filter q (f k) ≡ f g = ap (λ (j : ℕ). filter q (f j)) e ∙ filter_every (f g) pass in
            let rest : filter q (flat_map f l) ≡ [] = filter_joined_none f l (λ j m. fail j (occ_later j k l m) (λ z. omega (arith, ap (λ (i : ℕ). occ i l) z))) in
            filter_append q (f k) (flat_map f l) ∙ ap₂ ◌++◌ here rest ∙ append-nil (f g)
        | inr e ↦
            let here : filter q (f k) ≡ [] = filter_nothing (f k) (fail k (occ_head k l) e) in
            let rest : filter q (flat_map f l) ≡ f g = filter_joined f g l (occ_rest g k l p (λ z. e (sym z))) (λ j. omega (arith, o j, occ_cons j k l)) pass (λ j m. fail j (occ_later j k l m)) in
            filter_append q (f k) (flat_map f l) ∙ ap₂ ◌++◌ here rest
      ]

-- ---- digits

pub occ_filter : (q : ℕ → Bool) (l : List ℕ) (g : ℕ) → occ g (filter q l) ≡ cond (q g) (occ g l) 0
occ_filter q [] g = none (q g)
  where
    none : (b : Bool) → occ g [] ≡ cond b (occ g []) 0
    none true = refl
    none false = occ_nil g
occ_filter q (x ∷ l) g =
    elim (cases_eq g x) [
      | inl z ↦ elim (cases_Bool (q x)) [
        | inl e ↦ let f : q g ≡ true = ap q z ∙ e in grind (arith, occ_filter q l g, occ_cons g x l, occ_cons g x (filter q l))
        | inr e ↦ let f : q g ≡ false = ap q z ∙ e in grind (arith, occ_filter q l g)
      ]
      | inr z ↦ grind (arith, occ_filter q l g, occ_cons g x l, occ_cons g x (filter q l), hit_other g x z)
    ]

-- tests that agree on a row pick the same from it
pub filter_same : (q r : ℕ → Bool) (l : List ℕ) → ((k : ℕ) → 0 < occ k l → q k ≡ r k) → filter q l ≡ filter r l
filter_same q r [] h = refl
filter_same q r (x ∷ l) h = ap₂ (λ (b : Bool) (m : List ℕ). cond b (x ∷ m) m) (h x (occ_head x l)) (filter_same q r l (λ k p. h k (occ_later k x l p)))

-- a row of one that has a number is that number's
pub only_one : (l : List ℕ) (k : ℕ) → length l ≡ 1 → 0 < occ k l → l ≡ k ∷ []
only_one [] k n p = absurd (omega arith)
only_one (x ∷ []) k n p = elim (cases_eq k x) [ inl e ↦ ap (λ (y : ℕ). y ∷ []) (sym e) | inr e ↦ absurd (omega (arith, occ_rest k x [] p e, occ_nil k)) ]
only_one (x ∷ y ∷ l) k n p = absurd (omega arith)

pub none_long : {A : Type 0} (l : List A) → length l ≡ 0 → l ≡ []
none_long [] n = refl
none_long (x ∷ l) n = absurd (omega arith)

sixteen_is : sixteen ≡ range_with_len 0 16
unfolding sixteen
sixteen_is = refl

-- each of the sixteen digits stands once in their row
pub digit_once : (g : ℕ) → occ g sixteen ≤ 1
digit_once g = subst (λ (l : List ℕ). occ g l ≤ 1) (sym sixteen_is) (occ_counting 0 16 g).0

pub digit_in : (g : ℕ) → g < 16 → 0 < occ g sixteen
digit_in g h = subst (λ (l : List ℕ). 0 < occ g l) (sym sixteen_is) ((occ_counting 0 16 g).1.1 (omega arith) h)

pub picked_once : (q : ℕ → Bool) (g : ℕ) → occ g (filter q sixteen) ≤ 1
picked_once q g =
    subst (λ (n : ℕ). n ≤ 1) (sym (occ_filter q sixteen g))
    (cond_both (q g) (occ g sixteen) 0 (λ n. n ≤ 1) (λ e. digit_once g) (λ e. omega arith))

pub picked_in : (q : ℕ → Bool) (g : ℕ) → g < 16 → q g ≡ true → 0 < occ g (filter q sixteen)
picked_in q g h e = subst (λ (n : ℕ). 0 < n) (sym (occ_filter q sixteen g ∙ cond-true (q g) (occ g sixteen) 0 e)) (digit_in g h)

pub picked_passes : (q : ℕ → Bool) (g : ℕ) → 0 < occ g (filter q sixteen) → q g ≡ true
picked_passes q g h = elim (cases_Bool (q g)) [ inl e ↦ e | inr e ↦ absurd (omega (arith, occ_filter q sixteen g ∙ cond-false (q g) (occ g sixteen) 0 e)) ]

-- ---- the digits at which a node has a child

module _ (K : KeyKind) (s : Seat) (g : ℕ) where
  pub branch_once : occ g (branches K s) ≤ 1
  branch_once =
      cond_both (ltb (length s.prefix) 8) (branching K (length s.prefix) s.settings) [] (λ l. occ g l ≤ 1)
      (λ e. picked_once (λ h. many (at_digit K (length s.prefix) s.settings h)) g)
      (λ e. omega (arith, occ_nil g))

  pub branch_in : length s.prefix < 8 → g < 16 → many (at_digit K (length s.prefix) s.settings g) ≡ true → 0 < occ g (branches K s)
  branch_in short h e =
      subst (λ l. 0 < occ g l) (sym (cond-true (ltb (length s.prefix) 8) (branching K (length s.prefix) s.settings) [] (lt-ltb (length s.prefix) 8 short)))
      (picked_in (λ h. many (at_digit K (length s.prefix) s.settings h)) g h e)

  pub branch_many : 0 < occ g (branches K s) → many (at_digit K (length s.prefix) s.settings g) ≡ true
  branch_many =
      cond_both (ltb (length s.prefix) 8) (branching K (length s.prefix) s.settings) [] (λ l. 0 < occ g l → many (at_digit K (length s.prefix) s.settings g) ≡ true)
      (λ e. picked_passes (λ h. many (at_digit K (length s.prefix) s.settings h)) g)
      (λ e p. absurd (omega (arith, occ_nil g)))

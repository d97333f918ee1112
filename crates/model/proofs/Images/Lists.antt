-- Membership, filters, lists joined by digits, and totals. Assumes nothing.
use Rattle.std.proofs.Common.{◌≡◌, ℕ, suc, ◌+◌, ◌<◌, ◌≤◌, Bool, true, false, cond, eqb, ◌⊎◌, List, [], ◌∷◌, ◌++◌, map, length, sym, refl, ap, ◌∙◌, subst, inl, inr, arith}
use Rattle.std.specs.List.{AllByRecursion}
use Rattle.std.proofs.lemmas.Bool.{eqb-true, eqb-false, eq-eqb, ne_eqb, cases_Bool, both_ways}
use Rattle.std.proofs.lemmas.List.{append-nil, length-append}
use Rattle.model.specs.Tries.{filter, concat}

abbrev pub flat : {A B : Type 0} → (A → List B) → List A → List B
flat f xs = concat (map f xs)

abbrev pub Mem : {A : Type 0} → A → List A → Type 0
Mem x [] = ⊥
Mem x (y ∷ ys) = (x ≡ y) ⊎ Mem x ys

pub all_to : {A : Type 0} (P Q : A → Type 0) → ((x : A) → P x → Q x) → (xs : List A) → AllByRecursion P xs → AllByRecursion Q xs
all_to P Q f [] a = tt
all_to P Q f (x ∷ xs) a = (f x a.0, all_to P Q f xs a.1)

pub all_both : {A : Type 0} (P Q R : A → Type 0) → ((x : A) → P x → Q x → R x) → (xs : List A) → AllByRecursion P xs → AllByRecursion Q xs → AllByRecursion R xs
all_both P Q R f [] a b = tt
all_both P Q R f (x ∷ xs) a b = (f x a.0 b.0, all_both P Q R f xs a.1 b.1)

pub all_mem : {A : Type 0} (P : A → Type 0) (xs : List A) (x : A) → AllByRecursion P xs → Mem x xs → P x
all_mem P [] x a m = absurd m
all_mem P (y ∷ ys) x a m = elim m [ inl e ↦ subst P (sym e) a.0 | inr n ↦ all_mem P ys x a.1 n ]

pub all_from_mem : {A : Type 0} (P : A → Type 0) (xs : List A) → ((x : A) → Mem x xs → P x) → AllByRecursion P xs
all_from_mem P [] f = tt
all_from_mem P (x ∷ xs) f = (f x (inl refl), all_from_mem P xs (λ y m. f y (inr m)))

pub all_join : {A : Type 0} (P : A → Type 0) (xs ys : List A) → AllByRecursion P xs → AllByRecursion P ys → AllByRecursion P (xs ++ ys)
all_join P [] ys a b = b
all_join P (x ∷ xs) ys a b = (a.0, all_join P xs ys a.1 b)

pub all_filter : {A : Type 0} (P : A → Type 0) (p : A → Bool) (xs : List A) → AllByRecursion P xs → AllByRecursion P (filter p xs)
all_filter P p [] a = tt
all_filter P p (x ∷ xs) a =
    elim (p x) as (λ b. AllByRecursion P (cond b (x ∷ filter p xs) (filter p xs))) [
      | true ↦ (a.0, all_filter P p xs a.1)
      | false ↦ all_filter P p xs a.1
    ]

pub filter_passes : {A : Type 0} (p : A → Bool) (xs : List A) → AllByRecursion (λ x. p x ≡ true) (filter p xs)
filter_passes p [] = tt
filter_passes p (x ∷ xs) = go (p x) refl (filter_passes p xs)
  where
    go : (b : Bool) → p x ≡ b → AllByRecursion (λ y. p y ≡ true) (filter p xs) → AllByRecursion (λ y. p y ≡ true) (cond b (x ∷ filter p xs) (filter p xs))
    go true e a = (e, a)
    go false e a = a

pub filter_all : {A : Type 0} (p : A → Bool) (xs : List A) → AllByRecursion (λ x. p x ≡ true) xs → filter p xs ≡ xs
filter_all p [] a = refl
filter_all p (x ∷ xs) a = rw (a.0, filter_all p xs a.1)

pub filter_none : {A : Type 0} (p : A → Bool) (xs : List A) → AllByRecursion (λ x. p x ≡ false) xs → filter p xs ≡ []
filter_none p [] a = refl
filter_none p (x ∷ xs) a = rw (a.0, filter_none p xs a.1)

pub filter_like : {A : Type 0} (p q : A → Bool) (xs : List A) → AllByRecursion (λ x. p x ≡ q x) xs → filter p xs ≡ filter q xs
filter_like p q [] a = refl
filter_like p q (x ∷ xs) a = rw (a.0, filter_like p q xs a.1)

pub filter_append : {A : Type 0} (p : A → Bool) (xs ys : List A) → filter p (xs ++ ys) ≡ filter p xs ++ filter p ys
filter_append p [] ys = refl
filter_append p (x ∷ xs) ys =
    elim (p x) as (λ b. cond b (x ∷ filter p (xs ++ ys)) (filter p (xs ++ ys)) ≡ cond b (x ∷ filter p xs) (filter p xs) ++ filter p ys) [
      | true ↦ ap (λ l. x ∷ l) (filter_append p xs ys)
      | false ↦ filter_append p xs ys
    ]

pub length_filter : {A : Type 0} (p : A → Bool) (xs : List A) → length (filter p xs) ≤ length xs
length_filter p [] = omega arith
length_filter p (x ∷ xs) = go (p x) (length_filter p xs)
  where
    go : (b : Bool) → length (filter p xs) ≤ length xs → length (cond b (x ∷ filter p xs) (filter p xs)) ≤ suc (length xs)
    go true h = omega arith
    go false h = omega arith

pub filter_swap : {A : Type 0} (p q : A → Bool) (xs : List A) → filter p (filter q xs) ≡ filter q (filter p xs)
filter_swap p q [] = refl
filter_swap p q (x ∷ xs) = go (p x) (q x) refl refl (filter_swap p q xs)
  where
    go : (b c : Bool) → p x ≡ b → q x ≡ c → filter p (filter q xs) ≡ filter q (filter p xs) →
        filter p (cond c (x ∷ filter q xs) (filter q xs)) ≡ filter q (cond b (x ∷ filter p xs) (filter p xs))
    go true true e f h = rw (e, f, h)
    go true false e f h = rw (f, h)
    go false true e f h = rw (e, h)
    go false false e f h = h

pub filter_within : {A : Type 0} (p q : A → Bool) → ((x : A) → p x ≡ true → q x ≡ true) → (xs : List A) → filter p (filter q xs) ≡ filter p xs
filter_within p q f [] = refl
filter_within p q f (x ∷ xs) = go (p x) (q x) refl refl (filter_within p q f xs)
  where
    go : (b c : Bool) → p x ≡ b → q x ≡ c → filter p (filter q xs) ≡ filter p xs → filter p (cond c (x ∷ filter q xs) (filter q xs)) ≡ cond b (x ∷ filter p xs) (filter p xs)
    go true true e g h = rw (e, h)
    go true false e g h = absurd (both_ways (q x) g (f x e))
    go false true e g h = rw (e, h)
    go false false e g h = h

pub mem_filter : {A : Type 0} (p : A → Bool) (xs : List A) (x : A) → Mem x xs → p x ≡ true → Mem x (filter p xs)
mem_filter p [] x m e = m
mem_filter p (y ∷ ys) x m e = go (p y) refl m (λ n. mem_filter p ys x n e)
  where
    go : (b : Bool) → p y ≡ b → (x ≡ y) ⊎ Mem x ys → (Mem x ys → Mem x (filter p ys)) → Mem x (cond b (y ∷ filter p ys) (filter p ys))
    go true c (inl q) f = inl q
    go true c (inr n) f = inr (f n)
    go false c (inl q) f = absurd (let z : true ≡ false = sym e ∙ (ap p q ∙ c) in let o : ◌≡◌ {A = ℕ} 0 1 = cc in omega arith)
    go false c (inr n) f = f n

pub mem_of_filter : {A : Type 0} (p : A → Bool) (xs : List A) (x : A) → Mem x (filter p xs) → Mem x xs
mem_of_filter p [] x m = m
mem_of_filter p (y ∷ ys) x m = go (p y) m (mem_of_filter p ys x)
  where
    go : (b : Bool) → Mem x (cond b (y ∷ filter p ys) (filter p ys)) → (Mem x (filter p ys) → Mem x ys) → (x ≡ y) ⊎ Mem x ys
    go true (inl q) f = inl q
    go true (inr n) f = inr (f n)
    go false n f = inr (f n)

-- the numbers from k on
abbrev pub Counts : ℕ → List ℕ → Type 0
Counts k [] = Unit {0}
Counts k (g ∷ gs) = (g ≡ k) × Counts (suc k) gs

-- no number twice
abbrev pub Apart : List ℕ → Type 0
Apart [] = Unit {0}
Apart (g ∷ gs) = AllByRecursion (λ x. eqb g x ≡ false) gs × Apart gs

pub apart_filter : (p : ℕ → Bool) (gs : List ℕ) → Apart gs → Apart (filter p gs)
apart_filter p [] d = tt
apart_filter p (g ∷ gs) d =
    elim (p g) as (λ b. Apart (cond b (g ∷ filter p gs) (filter p gs))) [
      | true ↦ (all_filter (λ x. eqb g x ≡ false) p gs d.0, apart_filter p gs d.1)
      | false ↦ apart_filter p gs d.1
    ]

counts_from : (j k : ℕ) (gs : List ℕ) → j < k → Counts k gs → AllByRecursion (λ x. eqb j x ≡ false) gs
counts_from j k [] h c = tt
counts_from j k (g ∷ gs) h c = (ne_eqb j g (omega arith), counts_from j (suc k) gs (omega arith) c.1)

pub counts_apart : (k : ℕ) (gs : List ℕ) → Counts k gs → Apart gs
counts_apart k [] c = tt
counts_apart k (g ∷ gs) c = (subst (λ x. AllByRecursion (λ y. eqb x y ≡ false) gs) (sym c.0) (counts_from k (suc k) gs (omega arith) c.1), counts_apart (suc k) gs c.1)

pub counts_mem : (k : ℕ) (gs : List ℕ) (n : ℕ) → Counts k gs → k ≤ n → n < k + length gs → Mem n gs
counts_mem k [] n c l h = absurd (omega arith)
counts_mem k (g ∷ gs) n c l h =
    elim (cases_Bool (eqb n k)) [
      | inl e ↦ inl (eqb-true n k e ∙ sym c.0)
      | inr e ↦ inr (counts_mem (suc k) gs n c.1 (omega (arith, eqb-false n k e)) (omega arith))
    ]

pub flat_like : {A B : Type 0} (f g : A → List B) (xs : List A) → AllByRecursion (λ x. f x ≡ g x) xs → flat f xs ≡ flat g xs
flat_like f g [] a = refl
flat_like f g (x ∷ xs) a = rw (a.0, flat_like f g xs a.1)

pub all_flat : {A B : Type 0} (P : B → Type 0) (f : A → List B) (xs : List A) → AllByRecursion (λ x. AllByRecursion P (f x)) xs → AllByRecursion P (flat f xs)
all_flat P f [] a = tt
all_flat P f (x ∷ xs) a = all_join P (f x) (flat f xs) a.0 (all_flat P f xs a.1)

abbrev pub total : (ℕ → ℕ) → List ℕ → ℕ
total f [] = 0
total f (g ∷ gs) = f g + total f gs

pub total_like : (f f' : ℕ → ℕ) (gs : List ℕ) → AllByRecursion (λ g. f g ≡ f' g) gs → total f gs ≡ total f' gs
total_like f f' [] a = refl
total_like f f' (g ∷ gs) a = omega (arith, a.0, total_like f f' gs a.1)

pub length_flat : {B : Type 0} (f : ℕ → List B) (gs : List ℕ) → length (flat f gs) ≡ total (λ g. length (f g)) gs
length_flat f [] = refl
length_flat f (g ∷ gs) = length-append (f g) (flat f gs) ∙ ap (λ n. length (f g) + n) (length_flat f gs)

pub total_filter : (f : ℕ → ℕ) (p : ℕ → Bool) (gs : List ℕ) → total f (filter p gs) ≡ total (λ g. cond (p g) (f g) 0) gs
total_filter f p [] = refl
total_filter f p (g ∷ gs) =
    elim (p g) as (λ b. total f (cond b (g ∷ filter p gs) (filter p gs)) ≡ cond b (f g) 0 + total (λ x. cond (p x) (f x) 0) gs) [
      | true ↦ ap (λ n. f g + n) (total_filter f p gs)
      | false ↦ omega (arith, total_filter f p gs)
    ]

pub total_add : (f f' : ℕ → ℕ) (gs : List ℕ) → total (λ g. f g + f' g) gs ≡ total f gs + total f' gs
total_add f f' [] = refl
total_add f f' (g ∷ gs) = omega (arith, total_add f f' gs)

pub total_zero : (gs : List ℕ) → total (λ g. 0) gs ≡ 0
total_zero [] = refl
total_zero (g ∷ gs) = omega (arith, total_zero gs)

-- what falls to each digit
module _ {A : Type 0} (dig : A → ℕ) where
  abbrev pub falls : List A → ℕ → List A
  falls xs g = filter (λ x. eqb (dig x) g) xs

  pub falls_here : (xs : List A) (g : ℕ) → AllByRecursion (λ x. dig x ≡ g) xs → falls xs g ≡ xs
  falls_here xs g a = filter_all (λ x. eqb (dig x) g) xs (all_to (λ x. dig x ≡ g) (λ x. eqb (dig x) g ≡ true) (λ x e. eq-eqb (dig x) g e) xs a)

  pub falls_elsewhere : (xs : List A) (g h : ℕ) → eqb g h ≡ false → AllByRecursion (λ x. dig x ≡ g) xs → falls xs h ≡ []
  falls_elsewhere xs g h n a =
      filter_none (λ x. eqb (dig x) h) xs (all_to (λ x. dig x ≡ g) (λ x. eqb (dig x) h ≡ false) (λ x e. ap (λ y. eqb y h) e ∙ n) xs a)

  pub falls_flat_none : (f : ℕ → List A) (gs : List ℕ) (h : ℕ) → AllByRecursion (λ g. AllByRecursion (λ x. dig x ≡ g) (f g)) gs → AllByRecursion (λ g. eqb h g ≡ false) gs → falls (flat f gs) h ≡ []
  falls_flat_none f [] h a n = refl
  falls_flat_none f (g ∷ gs) h a n =
      filter_append (λ x. eqb (dig x) h) (f g) (flat f gs)
      ∙ rw (falls_elsewhere (f g) g h (ne_eqb g h (λ e. eqb-false h g n.0 (sym e))) a.0, falls_flat_none f gs h a.1 n.1)

  pub falls_flat : (f : ℕ → List A) (gs : List ℕ) (h : ℕ) → Apart gs → AllByRecursion (λ g. AllByRecursion (λ x. dig x ≡ g) (f g)) gs → Mem h gs → falls (flat f gs) h ≡ f h
  falls_flat f [] h d a m = absurd m
  falls_flat f (g ∷ gs) h d a m =
      filter_append (λ x. eqb (dig x) h) (f g) (flat f gs)
      ∙ elim m [
        | inl e ↦ rw e (rw (falls_here (f g) g a.0, falls_flat_none f gs g a.1 d.0) (append-nil (f g)))
        | inr n ↦ rw (falls_elsewhere (f g) g h (all_mem (λ x. eqb g x ≡ false) gs h d.0 n) a.0) (falls_flat f gs h d.1 a.1 n)
      ]

  pub falls_flat_filter : (f : ℕ → List A) (p : ℕ → Bool) (gs : List ℕ) (h : ℕ) → Apart gs → ((g : ℕ) → AllByRecursion (λ x. dig x ≡ g) (f g)) → Mem h gs →
      falls (flat f (filter p gs)) h ≡ cond (p h) (f h) []
  falls_flat_filter f p gs h d a m = go (p h) refl
    where
      each : AllByRecursion (λ g. AllByRecursion (λ x. dig x ≡ g) (f g)) (filter p gs)
      each = all_from_mem _ (filter p gs) (λ g n. a g)

      go : (b : Bool) → p h ≡ b → falls (flat f (filter p gs)) h ≡ cond b (f h) []
      go true e = falls_flat f (filter p gs) h (apart_filter p gs d) each (mem_filter p gs h m e)
      go false e = falls_flat_none f (filter p gs) h each
          (all_to (λ g. p g ≡ true) (λ g. eqb h g ≡ false) (λ g t. ne_eqb h g (λ q. both_ways (p h) e (ap p q ∙ t))) (filter p gs) (filter_passes p gs))

  bump : (x : A) (xs : List A) (g : ℕ) (b : Bool) → eqb (dig x) g ≡ b → length (falls (x ∷ xs) g) ≡ cond b 1 0 + length (falls xs g)
  bump x xs g true e = rw e (omega arith)
  bump x xs g false e = rw e (omega arith)

  total_miss : (x : A) (xs : List A) (gs : List ℕ) → AllByRecursion (λ g. eqb (dig x) g ≡ false) gs → total (λ g. length (falls (x ∷ xs) g)) gs ≡ total (λ g. length (falls xs g)) gs
  total_miss x xs [] n = refl
  total_miss x xs (g ∷ gs) n = omega (arith, bump x xs g false n.0, total_miss x xs gs n.1)

  total_hit : (x : A) (xs : List A) (gs : List ℕ) → Apart gs → Mem (dig x) gs → total (λ g. length (falls (x ∷ xs) g)) gs ≡ suc (total (λ g. length (falls xs g)) gs)
  total_hit x xs [] d m = absurd m
  total_hit x xs (g ∷ gs) d m = elim m [
    | inl e ↦ omega (arith, bump x xs g true (eq-eqb (dig x) g e), total_miss x xs gs (subst (λ y. AllByRecursion (λ z. eqb y z ≡ false) gs) (sym e) d.0))
    | inr n ↦ omega (
      arith,
      bump x xs g false (ne_eqb (dig x) g (λ e. eqb-false g (dig x) (all_mem (λ y. eqb g y ≡ false) gs (dig x) d.0 n) (sym e))),
      total_hit x xs gs d.1 n,
    )
  ]

  -- the parts have all that the whole has
  pub total_falls : (xs : List A) (gs : List ℕ) → Apart gs → AllByRecursion (λ x. Mem (dig x) gs) xs → total (λ g. length (falls xs g)) gs ≡ length xs
  total_falls [] gs d a = total_zero gs
  total_falls (x ∷ xs) gs d a = total_hit x xs gs d a.0 ∙ ap suc (total_falls xs gs d a.1)

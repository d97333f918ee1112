-- Members of rows: filters, rows one after another, and rows with nothing twice. Assumes nothing.
use Rattle.std.proofs.Common.{◌≡◌, suc, ◌≤◌, Bool, true, false, cond, ◌⊎◌, List, [], ◌∷◌, ◌++◌, map, length, sym, refl, ap, ◌∙◌, subst, inl, inr, arith}
use mathlib.Core.List.Memᴰ
use mathlib.Core.List.{Memᴰ}
use Rattle.std.specs.List.{AllByRecursion}
use Rattle.std.proofs.lemmas.Bool.{cond_both, both_ways}
use Rattle.model.specs.Tries.{filter}
use Rattle.model.specs.Runs.{Distinct, ListsOnce}

-- a thing stands in a row
abbrev pub Mem : {A : Type 0} → A → List A → Type 0
Mem x xs = Memᴰ x xs

-- ---- what holds of each

pub all_mem : {A : Type 0} (P : A → Type 0) (xs : List A) (x : A) → AllByRecursion P xs → Mem x xs → P x
all_mem P [] x a m = absurd (Memᴰ.not-nil m)
all_mem P (y ∷ ys) x a m = elim (Memᴰ.cases_cons m) [ inl e ↦ subst P (sym e) a.0 | inr n ↦ all_mem P ys x a.1 n ]

pub all_from_mem : {A : Type 0} (P : A → Type 0) (xs : List A) → ((x : A) → Mem x xs → P x) → AllByRecursion P xs
all_from_mem P [] f = tt
all_from_mem P (x ∷ xs) f = (f x (Memᴰ.head refl), all_from_mem P xs (λ y m. f y (Memᴰ.tail m)))

pub all_to : {A : Type 0} (P Q : A → Type 0) → ((x : A) → P x → Q x) → (xs : List A) → AllByRecursion P xs → AllByRecursion Q xs
all_to P Q f [] a = tt
all_to P Q f (x ∷ xs) a = (f x a.0, all_to P Q f xs a.1)

pub all_join : {A : Type 0} (P : A → Type 0) (xs ys : List A) → AllByRecursion P xs → AllByRecursion P ys → AllByRecursion P (xs ++ ys)
all_join P [] ys a b = b
all_join P (x ∷ xs) ys a b = (a.0, all_join P xs ys a.1 b)

pub all_map : {A B : Type 0} (P : A → Type 0) (Q : B → Type 0) (f : A → B) → ((x : A) → P x → Q (f x)) → (xs : List A) → AllByRecursion P xs → AllByRecursion Q (map f xs)
all_map P Q f h [] a = tt
all_map P Q f h (x ∷ xs) a = (h x a.0, all_map P Q f h xs a.1)

pub all_filter : {A : Type 0} (P : A → Type 0) (p : A → Bool) (xs : List A) → AllByRecursion P xs → AllByRecursion P (filter p xs)
all_filter P p [] a = tt
all_filter P p (x ∷ xs) a =
    elim (p x) as (λ b. AllByRecursion P (cond b (x ∷ filter p xs) (filter p xs))) [
      | true ↦ (a.0, all_filter P p xs a.1)
      | false ↦ all_filter P p xs a.1
    ]

-- ---- filters

pub mem_filter : {A : Type 0} (p : A → Bool) (xs : List A) (x : A) → Mem x xs → p x ≡ true → Mem x (filter p xs)
mem_filter p [] x m e = m
mem_filter p (y ∷ ys) x m e =
    cond_both (p y) (y ∷ filter p ys) (filter p ys) (Mem x)
    (λ t. elim (Memᴰ.cases_cons m) [ inl q ↦ Memᴰ.head q | inr n ↦ Memᴰ.tail (mem_filter p ys x n e) ])
    (λ t. elim (Memᴰ.cases_cons m) [ inl q ↦ absurd (both_ways (p y) t (ap p (sym q) ∙ e)) | inr n ↦ mem_filter p ys x n e ])

pub mem_of_filter : {A : Type 0} (p : A → Bool) (xs : List A) (x : A) → Mem x (filter p xs) → Mem x xs × (p x ≡ true)
mem_of_filter p [] x m = absurd (Memᴰ.not-nil m)
mem_of_filter {A} p (y ∷ ys) x m = go (p y) refl m (mem_of_filter p ys x)
  where
    go : (b : Bool) → p y ≡ b → Mem x (cond b (y ∷ filter p ys) (filter p ys)) → (Mem x (filter p ys) → Mem x ys × (p x ≡ true)) → Mem x (y ∷ ys) × (p x ≡ true)
    go true e n f = elim (Memᴰ.cases_cons n) [ inl q ↦ (Memᴰ.head q, ap p q ∙ e) | inr o ↦ (Memᴰ.tail (f o).0, (f o).1) ]
    go false e n f = (Memᴰ.tail (f n).0, (f n).1)

pub filter_all : {A : Type 0} (p : A → Bool) (xs : List A) → AllByRecursion (λ x. p x ≡ true) xs → filter p xs ≡ xs
filter_all p [] a = refl
filter_all p (x ∷ xs) a = rw (a.0, filter_all p xs a.1)

pub filter_within : {A : Type 0} (p q : A → Bool) → ((x : A) → p x ≡ true → q x ≡ true) → (xs : List A) → filter p (filter q xs) ≡ filter p xs
filter_within p q f [] = refl
filter_within p q f (x ∷ xs) = go (p x) (q x) refl refl (filter_within p q f xs)
  where
    go : (b c : Bool) → p x ≡ b → q x ≡ c → filter p (filter q xs) ≡ filter p xs → filter p (cond c (x ∷ filter q xs) (filter q xs)) ≡ cond b (x ∷ filter p xs) (filter p xs)
    go true true e g h = rw (e, h)
    go true false e g h = absurd (both_ways (q x) g (f x e))
    go false true e g h = rw (e, h)
    go false false e g h = h

pub filter_short : {A : Type 0} (p : A → Bool) (xs : List A) → length (filter p xs) ≤ length xs
filter_short p [] = omega arith
filter_short p (x ∷ xs) = go (p x) (filter_short p xs)
  where
    go : (b : Bool) → length (filter p xs) ≤ length xs → length (cond b (x ∷ filter p xs) (filter p xs)) ≤ suc (length xs)
    go true h = omega arith
    go false h = omega arith

-- ---- images

pub mem_map : {A B : Type 0} (f : A → B) (xs : List A) (x : A) → Mem x xs → Mem (f x) (map f xs)
mem_map f [] x m = absurd (Memᴰ.not-nil m)
mem_map f (y ∷ ys) x m = elim (Memᴰ.cases_cons m) [ inl e ↦ Memᴰ.head (ap f e) | inr n ↦ Memᴰ.tail (mem_map f ys x n) ]

pub mem_of_map : {A B : Type 0} (f : A → B) (xs : List A) (y : B) → Mem y (map f xs) → (x : A) × (Mem x xs × (y ≡ f x))
mem_of_map f [] y m = absurd (Memᴰ.not-nil m)
mem_of_map {A} f (x ∷ xs) y m = go (Memᴰ.cases_cons m) (mem_of_map f xs y)
  where
    go : (y ≡ f x) ⊎ Mem y (map f xs) → (Mem y (map f xs) → (z : A) × (Mem z xs × (y ≡ f z))) → (z : A) × (Mem z (x ∷ xs) × (y ≡ f z))
    go (inl e) h = (x, (Memᴰ.head refl, e))
    go (inr n) h = let r = h n in (r.0, (Memᴰ.tail r.1.0, r.1.1))

pub map_join : {A B : Type 0} (f : A → B) (xs ys : List A) → map f (xs ++ ys) ≡ map f xs ++ map f ys
map_join f [] ys = refl
map_join f (x ∷ xs) ys = ap (λ l. f x ∷ l) (map_join f xs ys)

-- a filter by what the things are seen as
pub map_filter : {A B : Type 0} (f : A → B) (p : B → Bool) (xs : List A) → map f (filter (λ x. p (f x)) xs) ≡ filter p (map f xs)
map_filter f p [] = refl
map_filter f p (x ∷ xs) =
    elim (p (f x)) as (λ b. map f (cond b (x ∷ filter (λ y. p (f y)) xs) (filter (λ y. p (f y)) xs)) ≡ cond b (f x ∷ filter p (map f xs)) (filter p (map f xs))) [
      | true ↦ ap (λ l. f x ∷ l) (map_filter f p xs)
      | false ↦ map_filter f p xs
    ]

-- ---- rows of rows

-- the rows of some things, one after another
abbrev pub flat : {A B : Type 0} → (A → List B) → List A → List B
flat f [] = []
flat f (x ∷ xs) = f x ++ flat f xs

pub mem_flat : {A B : Type 0} (f : A → List B) (gs : List A) (g : A) (x : B) → Mem g gs → Mem x (f g) → Mem x (flat f gs)
mem_flat f [] g x m n = absurd (Memᴰ.not-nil m)
mem_flat f (h ∷ gs) g x m n =
    elim (Memᴰ.cases_cons m) [
      | inl e ↦ Memᴰ.append_left (flat f gs) (subst (λ y. Mem x (f y)) e n)
      | inr o ↦ Memᴰ.append_right (f h) (mem_flat f gs g x o n)
    ]

pub mem_of_flat : {A B : Type 0} (f : A → List B) (gs : List A) (x : B) → Mem x (flat f gs) → (g : A) × (Mem g gs × Mem x (f g))
mem_of_flat f [] x m = absurd (Memᴰ.not-nil m)
mem_of_flat {A} f (h ∷ gs) x m = go (Memᴰ.append_cases (f h) m) (mem_of_flat f gs x)
  where
    go : Mem x (f h) ⊎ Mem x (flat f gs) → (Mem x (flat f gs) → (g : A) × (Mem g gs × Mem x (f g))) → (g : A) × (Mem g (h ∷ gs) × Mem x (f g))
    go (inl n) k = (h, (Memᴰ.head refl, n))
    go (inr n) k = let r = k n in (r.0, (Memᴰ.tail r.1.0, r.1.1))

-- ---- nothing twice

pub distinct_filter : {A : Type 0} (p : A → Bool) (xs : List A) → Distinct xs → Distinct (filter p xs)
distinct_filter p [] d = tt
distinct_filter p (x ∷ xs) d =
    elim (p x) as (λ b. Distinct (cond b (x ∷ filter p xs) (filter p xs))) [
      | true ↦ (λ m. d.0 (mem_of_filter p xs x m).0, distinct_filter p xs d.1)
      | false ↦ distinct_filter p xs d.1
    ]

pub distinct_join : {A : Type 0} (xs ys : List A) → Distinct xs → Distinct ys → ((x : A) → Mem x xs → Mem x ys → ⊥) → Distinct (xs ++ ys)
distinct_join [] ys d e f = e
distinct_join (x ∷ xs) ys d e f = (
  λ m. elim (Memᴰ.append_cases xs m) [ inl n ↦ d.0 n | inr n ↦ f x (Memᴰ.head refl) n ],
  distinct_join xs ys d.1 e (λ y m n. f y (Memᴰ.tail m) n),
)

-- rows of different things, of which each tells whose it is
pub distinct_flat : {A B : Type 0} (f : A → List B) (Of : A → B → Type 0) → ((g h : A) (x : B) → Of g x → Of h x → g ≡ h) → (gs : List A) → Distinct gs →
    ((g : A) → Mem g gs → Distinct (f g)) → ((g : A) → Mem g gs → (x : B) → Mem x (f g) → Of g x) → Distinct (flat f gs)
distinct_flat f Of tells [] d e o = tt
distinct_flat f Of tells (g ∷ gs) d e o =
    distinct_join (f g) (flat f gs) (e g (Memᴰ.head refl))
    (distinct_flat f Of tells gs d.1 (λ h m. e h (Memᴰ.tail m)) (λ h m. o h (Memᴰ.tail m)))
    (λ x m n. let r = mem_of_flat f gs x n in
    d.0 (Memᴰ.cast (tells g r.0 x (o g (Memᴰ.head refl) x m) (o r.0 (Memᴰ.tail r.1.0) x r.1.1)) r.1.0))

-- ---- rows that list things once

pub lists_like : {A : Type 0} (P Q : A → Type 0) (row : List A) → ((x : A) → P x → Q x) → ((x : A) → Q x → P x) → ListsOnce P row → ListsOnce Q row
lists_like P Q row f g l = record { once = l.once; each = λ x m. f x (l.each x m); all = λ x q. l.all x (g x q) }

pub lists_filter : {A : Type 0} (P : A → Type 0) (p : A → Bool) (row : List A) → ListsOnce P row → ListsOnce (λ x. P x × (p x ≡ true)) (filter p row)
lists_filter P p row l = record {
  once = distinct_filter p row l.once;
  each = λ x m. let r = mem_of_filter p row x m in (l.each x r.0, r.1);
  all = λ x h. mem_filter p row x (l.all x h.0) h.1;
}

-- How many different marked things a row has. Assumes nothing.
use Rattle.std.proofs.Common.{◌≡◌, ℕ, suc, ◌+◌, ◌≤◌, Bool, true, false, cond, ◌&&◌, ◌||◌, eqb, ◌⊎◌, List, [], ◌∷◌, ◌++◌, length, sym, refl, ap, ◌∙◌, subst, ap₂, inl, inr, arith}
use mathlib.Core.List.{Memᴰ}
use Rattle.std.proofs.lemmas.Bool.{and_parts, and_from, eqb-true, eq-eqb, or_cases, or_left, or_right, cond-true, cond-false, both_ways, false≢true}
use Rattle.byte_rows.specs.Rows.{same}
use Rattle.byte_rows.proofs.Orders.{same_decides}
use Rattle.model.specs.Sharing.{Marked}
use Rattle.model.specs.Accounts.{in_row, distinct}
use Rattle.model.specs.Runs.{Distinct}

-- ---- equal marks

abbrev is : Marked → Marked → Bool
is x y = eqb x.mark y.mark && same x.what y.what

is_true : (x y : Marked) → is x y ≡ true → x ≡ y
is_true x y e =
    let both = and_parts (eqb x.mark y.mark) _ e in
    let make : List ℕ → ℕ → Marked = λ w m. record { what = w; mark = m } in
    ap₂ make ((same_decides _ _).0 both.1) (eqb-true _ _ both.0)

is_self : (x : Marked) → is x x ≡ true
is_self x = and_from _ _ (eq-eqb x.mark x.mark refl) ((same_decides x.what x.what).1 refl)

-- a test and its truth, for `grind`
is_tells : (x y : Marked) → ((is x y ≡ true) × (x ≡ y)) ⊎ ((is x y ≡ false) × (x ≡ y → ⊥))
is_tells x y = go (is x y) refl
  where
    go : (t : Bool) → is x y ≡ t → ((is x y ≡ true) × (x ≡ y)) ⊎ ((is x y ≡ false) × (x ≡ y → ⊥))
    go true e = inl (e, is_true x y e)
    go false e = inr (e, λ p. both_ways _ e (subst (λ z. is x z ≡ true) p (is_self x)))

-- ---- membership

pub in_row_member : (x : Marked) (xs : List Marked) → in_row x xs ≡ true → Memᴰ x xs
in_row_member x [] e = absurd (false≢true e)
in_row_member x (y ∷ xs) e = go (or_cases (is x y) (in_row x xs) e) (in_row_member x xs)
  where
    go : (is x y ≡ true) ⊎ (in_row x xs ≡ true) → (in_row x xs ≡ true → Memᴰ x xs) → Memᴰ x (y ∷ xs)
    go (inl t) f = Memᴰ.head (is_true x y t)
    go (inr t) f = Memᴰ.tail (f t)

pub member_in_row : (x : Marked) {xs : List Marked} → Memᴰ x xs → in_row x xs ≡ true
member_in_row x (Memᴰ.head {x = y} {xs = xs} e) = or_left (is x y) (in_row x xs) (subst (λ z. is x z ≡ true) e (is_self x))
member_in_row x (Memᴰ.tail {x = y} {xs = xs} h) = or_right (is x y) (in_row x xs) (member_in_row x h)

pub in_append : (x : Marked) (xs ys : List Marked) → in_row x (xs ++ ys) ≡ (in_row x xs || in_row x ys)
in_append x [] ys = refl
in_append x (y ∷ xs) ys = let i = in_append x xs ys in grind arith

-- ---- counts

-- a row without one thing
abbrev without : Marked → List Marked → List Marked
without x [] = []
without x (y ∷ ys) = cond (is x y) (without x ys) (y ∷ without x ys)

in_without : (x z : Marked) (ys : List Marked) → (x ≡ z → ⊥) → in_row z (without x ys) ≡ in_row z ys
in_without x z [] ne = refl
in_without x z (y ∷ ys) ne = let i = in_without x z ys ne in grind (arith, is_tells)

without_none : (x : Marked) (ys : List Marked) → in_row x ys ≡ false → without x ys ≡ ys
without_none x [] h = refl
without_none x (y ∷ ys) h = let i = without_none x ys in grind (arith, is_tells)

distinct_without : (x : Marked) (ys : List Marked) → in_row x ys ≡ true → distinct ys ≡ 1 + distinct (without x ys)
distinct_without x [] h = absurd (false≢true h)
distinct_without x (y ∷ ys) h = go (is_tells x y) (distinct_without x ys)
  where
    first : x ≡ y → (t : Bool) → in_row y ys ≡ t → (in_row x ys ≡ true → distinct ys ≡ 1 + distinct (without x ys)) → cond (in_row y ys) (distinct ys) (1 + distinct ys) ≡ 1 + distinct (without x ys)
    first e true r f = cond-true _ _ _ r ∙ f (ap (λ (z : Marked). in_row z ys) e ∙ r)
    first e false r f = cond-false _ _ _ r ∙ ap (λ l. 1 + distinct l) (sym (without_none x ys (ap (λ (z : Marked). in_row z ys) e ∙ r)))

    later : (t u : Bool) → u ≡ t → distinct ys ≡ 1 + distinct (without x ys) → cond t (distinct ys) (1 + distinct ys) ≡ 1 + cond u (distinct (without x ys)) (1 + distinct (without x ys))
    later t u e f = rw e (pick t)
      where
        pick : (b : Bool) → cond b (distinct ys) (1 + distinct ys) ≡ 1 + cond b (distinct (without x ys)) (1 + distinct (without x ys))
        pick true = f
        pick false = omega (arith, f)

    go : ((is x y ≡ true) × (x ≡ y)) ⊎ ((is x y ≡ false) × (x ≡ y → ⊥)) → (in_row x ys ≡ true → distinct ys ≡ 1 + distinct (without x ys)) → distinct (y ∷ ys) ≡ 1 + distinct (without x (y ∷ ys))
    go (inl (t, e)) f = first e (in_row y ys) refl f ∙ sym (ap (λ l. 1 + distinct l) (cond-true (is x y) (without x ys) (y ∷ without x ys) t))
    go (inr (t, ne)) f =
        later (in_row y ys) (in_row y (without x ys)) (in_without x y ys ne) (f (sym (ap (λ b. b || in_row x ys) t) ∙ h))
        ∙ sym (ap (λ l. 1 + distinct l) (cond-false (is x y) (without x ys) (y ∷ without x ys) t))

-- a row within another has no more different things
pub distinct_within : (xs ys : List Marked) → ((x : Marked) → in_row x xs ≡ true → in_row x ys ≡ true) → distinct xs ≤ distinct ys
distinct_within [] ys h = omega arith
distinct_within (x ∷ xs) ys h = go (in_row x xs) refl (distinct_within xs)
  where
    rest : (z : Marked) → in_row z xs ≡ true → in_row z ys ≡ true
    rest z e = h z (or_right (is z x) (in_row z xs) e)

    go : (t : Bool) → in_row x xs ≡ t → ((zs : List Marked) → ((z : Marked) → in_row z xs ≡ true → in_row z zs ≡ true) → distinct xs ≤ distinct zs) → distinct (x ∷ xs) ≤ distinct ys
    go true e f = rw (e) (f ys rest)
    go false e f =
        let there : in_row x ys ≡ true = h x (or_left (is x x) (in_row x xs) (is_self x)) in
        let fewer : distinct xs ≤ distinct (without x ys) =
        f (without x ys) (λ z m. in_without x z ys (λ same_x. both_ways _ e (subst (λ (u : Marked). in_row u xs ≡ true) (sym same_x) m)) ∙ rest z m) in
        rw e (omega (arith, distinct_without x ys there, fewer))

-- a row with nothing twice has as many different things as things
pub distinct_length : (xs : List Marked) → Distinct xs → distinct xs ≡ length xs
distinct_length [] d = refl
distinct_length (x ∷ xs) d = go (in_row x xs) refl (distinct_length xs d.1)
  where
    go : (t : Bool) → in_row x xs ≡ t → distinct xs ≡ length xs → distinct (x ∷ xs) ≡ suc (length xs)
    go true e i = absurd (d.0 (in_row_member x xs e))
    go false e i = rw e (omega (arith, i))

-- so a row that lists once the things of another counts them
pub counted_once : (row xs : List Marked) → Distinct row → ((x : Marked) → Memᴰ x row → Memᴰ x xs) → ((x : Marked) → Memᴰ x xs → Memᴰ x row) → length row ≡ distinct xs
counted_once row xs d there back =
    let more = distinct_within row xs (λ x m. member_in_row x (there x (in_row_member x row m))) in
    let less = distinct_within xs row (λ x m. member_in_row x (back x (in_row_member x xs m))) in
    omega (arith, distinct_length row d, more, less)

-- ---- a row with each thing once

pub once : List Marked → List Marked
once [] = []
once (x ∷ xs) = cond (in_row x xs) (once xs) (x ∷ once xs)

pub in_once : (z : Marked) (xs : List Marked) → in_row z (once xs) ≡ in_row z xs
unfolding once
in_once z [] = refl
in_once z (x ∷ xs) = go (in_row x xs) refl (in_once z xs)
  where
    go : (t : Bool) → in_row x xs ≡ t → in_row z (once xs) ≡ in_row z xs → in_row z (once (x ∷ xs)) ≡ in_row z (x ∷ xs)
    go true e i = ap (λ l. in_row z l) (cond-true (in_row x xs) (once xs) (x ∷ once xs) e) ∙ i ∙ already (is_tells z x)
      where
        already : ((is z x ≡ true) × (z ≡ x)) ⊎ ((is z x ≡ false) × (z ≡ x → ⊥)) → in_row z xs ≡ in_row z (x ∷ xs)
        already (inl (t, p)) = (ap (λ (y : Marked). in_row y xs) p ∙ e) ∙ sym (or_left (is z x) (in_row z xs) t)
        already (inr (t, p)) = sym (ap (λ b. b || in_row z xs) t)
    go false e i = ap (λ l. in_row z l) (cond-false (in_row x xs) (once xs) (x ∷ once xs) e) ∙ ap (λ b. is z x || b) i

pub once_differ : (xs : List Marked) → Distinct (once xs)
unfolding once
once_differ [] = tt
once_differ (x ∷ xs) = go (in_row x xs) refl (once_differ xs)
  where
    go : (t : Bool) → in_row x xs ≡ t → Distinct (once xs) → Distinct (once (x ∷ xs))
    go true e d = subst Distinct (sym (cond-true (in_row x xs) (once xs) (x ∷ once xs) e)) d
    go false e d = subst Distinct (sym (cond-false (in_row x xs) (once xs) (x ∷ once xs) e)) ((λ m. both_ways _ e (sym (in_once x xs) ∙ member_in_row x m)), d)

-- One setting more, found place by place. Assumes nothing.
use Rattle.std.proofs.Common.{◌≡◌, ℕ, ◌+◌, ◌<◌, ◌≤◌, Bool, true, false, List, [], ◌∷◌, ◌++◌, Ok, Err, map, length, get_or, take, drop, set, sym, refl, ap, ◌∙◌, subst, add-one, arith}
use Rattle.std.specs.List.{insert}
use Rattle.std.proofs.lemmas.List.{at_drop_more, append_assoc, take_more, drop_more, set_split, get_or-map, map-set, map-append, take-map, drop-map, length-map}
use Rattle.std.proofs.lemmas.List.Edits.{length-insert}
use Rattle.std.proofs.lemmas.Bool.{cond-true, cond-false, both_ways}
use Rattle.kinds.specs.Kinds.{KeyKind, ValueKind}
use Rattle.sovindrate.specs.declared.sheet.Setting.{Setting}
use Rattle.sovindrate.specs.Sheets.{Pair, Stands, pair, meaning, united}

abbrev blank : Pair
blank = pair [] []

module _ (K : KeyKind) (V : ValueKind) (k : List ℕ) (row : List Pair) where
  -- the settings before i come before the key
  abbrev pub Passed : ℕ → Type 0
  Passed i = (v : List ℕ) → united K V k v row ≡ take i row ++ united K V k v (drop i row)

  module _ (i : ℕ) (h : i < length row) (passed : Passed i) where
    here : (v : List ℕ) → united K V k v row ≡ take i row ++ united K V k v (get_or row i blank ∷ drop (i + 1) row)
    here v = passed v ∙ ap (λ r. take i row ++ r) (at_drop_more (united K V k v) row i blank h)

    pub past : K.before (get_or row i blank).key k ≡ true → Passed (i + 1)
    past b v =
        here v ∙ ap (λ r. take i row ++ r) (cond-true _ _ _ b)
        ∙ sym (ap (λ r. r ++ united K V k v (drop (i + 1) row)) (take_more row i blank h) ∙ append_assoc (take i row) _ _)

    pub same_here : (get_or row i blank).key ≡ k → (v : List ℕ) → united K V k v row ≡ set row i (pair k (V.join (get_or row i blank).value v))
    same_here e v =
        let down : K.before (get_or row i blank).key k ≡ false = ap (λ x. K.before x k) e ∙ K.before_not_self k in
        let up : K.before k (get_or row i blank).key ≡ false = ap (λ x. K.before k x) e ∙ K.before_not_self k in
        here v ∙ ap (λ r. take i row ++ r) (cond-false _ _ _ down ∙ cond-false _ _ _ up)
        ∙ ap (λ n. take i row ++ (pair k (V.join (get_or row i blank).value v) ∷ drop n row)) (add-one i)
        ∙ sym (set_split row i _ h)

    pub before_here : K.before k (get_or row i blank).key ≡ true → (v : List ℕ) → united K V k v row ≡ insert row i (pair k v)
    before_here b v =
        here v ∙ ap (λ r. take i row ++ r) (cond-false _ _ _ (not_after (K.before (get_or row i blank).key k) refl) ∙ cond-true _ _ _ b)
        ∙ ap (λ r. take i row ++ (pair k v ∷ r)) (sym (drop_more row i blank h))
      where
        not_after : (t : Bool) → K.before (get_or row i blank).key k ≡ t → K.before (get_or row i blank).key k ≡ false
        not_after true e = absurd (both_ways _ (K.before_not_self k) (K.before_onward k (get_or row i blank).key k b e))
        not_after false e = e

module _ {X Y : Type 0} (kb : X → List ℕ) (vb : Y → List ℕ) where
  abbrev f : Setting X Y → Pair
  f s = pair (kb s.key) (vb s.value)

  meaning_inserted : (xs : List (Setting X Y)) (i : ℕ) (s : Setting X Y) → meaning kb vb (insert xs i s) ≡ insert (meaning kb vb xs) i (f s)
  meaning_inserted xs i s =
      map-append f (take i xs) (s ∷ drop i xs) ∙ ap (λ r. r ++ (f s ∷ map f (drop i xs))) (sym (take-map f i xs)) ∙ ap (λ r. take i (map f xs) ++ (f s ∷ r)) (sym (drop-map f i xs))

  -- ---- the search, at the setting s that was read at i

  module _ (K : KeyKind) (V : ValueKind) (k : List ℕ) (xs : List (Setting X Y)) (i : ℕ) (s : Setting X Y) (h : i < length xs) (read : s ≡ get_or xs i s)
      (passed : Passed K V k (meaning kb vb xs) i) where
    within : i < length (meaning kb vb xs)
    within = rw (length-map xs f) h

    is : get_or (meaning kb vb xs) i blank ≡ f s
    is = get_or-map f xs i s blank h ∙ sym (ap f read)

    pub found_lower : K.before (kb s.key) k ≡ true → Passed K V k (meaning kb vb xs) (i + 1)
    found_lower b = past K V k (meaning kb vb xs) i within passed (ap (λ (p : Pair). K.before p.key k) is ∙ b)

    pub found_same : kb s.key ≡ k → Stands K V k (meaning kb vb xs) (Ok i)
    found_same e = (within, same_here K V k (meaning kb vb xs) i within passed (ap (λ (p : Pair). p.key) is ∙ e))

    pub found_higher : K.before k (kb s.key) ≡ true → Stands K V k (meaning kb vb xs) (Err i)
    found_higher b = (omega (arith, within), before_here K V k (meaning kb vb xs) i within passed (ap (λ (p : Pair). K.before k p.key) is ∙ b))

  -- ---- the edit, where the slice ys of the sheet xs was searched

  module _ (K : KeyKind) (V : ValueKind) (k : X) (v : Y) (xs ys : List (Setting X Y)) (i : ℕ) (whole : ys ≡ xs) where
    pub same_within : Stands K V (kb k) (meaning kb vb ys) (Ok i) → i < length xs
    same_within st = let e : length (meaning kb vb ys) ≡ length xs = ap (λ l. length (meaning kb vb l)) whole ∙ length-map xs f in omega (arith, st.0, e)

    pub before_within : Stands K V (kb k) (meaning kb vb ys) (Err i) → i ≤ length xs
    before_within st = let e : length (meaning kb vb ys) ≡ length xs = ap (λ l. length (meaning kb vb l)) whole ∙ length-map xs f in omega (arith, st.0, e)

    pub set_united : (s : Setting X Y) (w : Y) → s ≡ get_or xs i s → vb w ≡ V.join (vb s.value) (vb v) → Stands K V (kb k) (meaning kb vb ys) (Ok i) →
        meaning kb vb (set xs i (record { key = k; value = w })) ≡ united K V (kb k) (vb v) (meaning kb vb xs)
    set_united s w read joined st =
        let there = subst (λ l. Stands K V (kb k) (meaning kb vb l) (Ok i)) whole st in
        let is : get_or (meaning kb vb xs) i blank ≡ f s = get_or-map f xs i s blank (same_within st) ∙ sym (ap f read) in
        let old : V.join (vb s.value) (vb v) ≡ V.join (get_or (meaning kb vb xs) i blank).value (vb v) = ap (λ (p : Pair). V.join p.value (vb v)) (sym is) in
        map-set f xs i (record { key = k; value = w }) ∙ ap (λ x. set (meaning kb vb xs) i (pair (kb k) x)) (joined ∙ old) ∙ sym (there.1 (vb v))

    pub insert_united : (zs : List (Setting X Y)) → zs ≡ insert xs i (record { key = k; value = v }) → Stands K V (kb k) (meaning kb vb ys) (Err i) →
        (meaning kb vb zs ≡ united K V (kb k) (vb v) (meaning kb vb xs)) × (length zs ≡ length xs + 1)
    insert_united zs e st =
        let there = subst (λ l. Stands K V (kb k) (meaning kb vb l) (Err i)) whole st in
        (ap (meaning kb vb) e ∙ meaning_inserted xs i (record { key = k; value = v }) ∙ sym (there.1 (vb v)), ap length e ∙ length-insert xs i _ (before_within st))

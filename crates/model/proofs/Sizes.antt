-- A map has no more settings than its version has marked entries. Assumes nothing.
use Rattle.std.proofs.Common.{◌≡◌, ℕ, suc, ◌≤◌, Bool, true, false, cond, List, [], ◌∷◌, map, length, is_some, Some, sym, refl, ap, ◌∙◌, subst, arith}
use mathlib.Core.List.{Memᴰ}
use lib.ListN.{length-map}
use Rattle.std.specs.List.{AllByRecursion}
use Rattle.std.proofs.lemmas.Bool.{both_ways}
use Rattle.byte_rows.specs.Rows.{same}
use Rattle.byte_rows.proofs.Orders.{same_decides}
use Rattle.kinds.specs.Kinds.{KeyKind}
use Rattle.model.specs.Maps.{Setting, Map, keys, look, Rises}
use Rattle.model.specs.Sharing.{Marked}
use Rattle.model.specs.Runs.{Distinct, ListsOnce}

-- ---- a row without a member

module _ {A : Type 0} where
  taken_out : {x : A} {ys : List A} → Memᴰ x ys → List A
  taken_out (Memᴰ.head {xs = ys} e) = ys
  taken_out (Memᴰ.tail {x = y} h) = y ∷ taken_out h

  length_out : {x : A} {ys : List A} (m : Memᴰ x ys) → length ys ≡ suc (length (taken_out m))
  unfolding taken_out
  length_out (Memᴰ.head e) = refl
  length_out (Memᴰ.tail h) = ap suc (length_out h)

  member_out : {x : A} {ys : List A} (m : Memᴰ x ys) (z : A) → (z ≡ x → ⊥) → Memᴰ z ys → Memᴰ z (taken_out m)
  unfolding taken_out
  member_out (Memᴰ.head e) z ne (Memᴰ.head e') = absurd (ne (e' ∙ sym e))
  member_out (Memᴰ.head e) z ne (Memᴰ.tail h') = h'
  member_out (Memᴰ.tail h) z ne (Memᴰ.head e') = Memᴰ.head e'
  member_out (Memᴰ.tail h) z ne (Memᴰ.tail h') = Memᴰ.tail (member_out h z ne h')

  -- different things of one row are no more than another row that has them all
  pub no_more : (xs ys : List A) → Distinct xs → ((x : A) → Memᴰ x xs → Memᴰ x ys) → length xs ≤ length ys
  no_more [] ys d h = omega arith
  no_more (x ∷ xs) ys d h =
      let there = h x (Memᴰ.head refl) in
      let rest = no_more xs (taken_out there) d.1 (λ z m. member_out there z (λ e. d.0 (subst (λ y. Memᴰ y xs) e m)) (h z (Memᴰ.tail m))) in
      omega (arith, rest, length_out there)

-- ---- the keys of a map that rises

ahead_none : (K : KeyKind) (k : List ℕ) (m : Map) → AllByRecursion (λ t. K.before k t.key ≡ true) m → Memᴰ k (keys m) → ⊥
ahead_none K k [] a h = elim h [ ]
ahead_none K k (t ∷ m) a (Memᴰ.head e) = both_ways _ (K.before_not_self k) (ap (K.before k) e ∙ a.0)
ahead_none K k (t ∷ m) a (Memᴰ.tail h) = ahead_none K k m a.1 h

keys_differ : (K : KeyKind) (m : Map) → Rises K m → Distinct (keys m)
keys_differ K [] r = tt
keys_differ K (s ∷ m) r = (ahead_none K s.key m r.0, keys_differ K m r.1)

key_found : (k : List ℕ) (m : Map) → Memᴰ k (keys m) → is_some (look m k) ≡ true
key_found k [] h = elim h [ ]
key_found k (s ∷ m) (Memᴰ.head e) = ap (λ t. is_some (cond t (Some s.value) (look m k))) ((same_decides s.key k).1 (sym e))
key_found k (s ∷ m) (Memᴰ.tail h) = go (same s.key k) (key_found k m h)
  where
    go : (t : Bool) → is_some (look m k) ≡ true → is_some (cond t (Some s.value) (look m k)) ≡ true
    go true e = refl
    go false e = e

-- ---- marked entries

abbrev whats : List Marked → List (List ℕ)
whats xs = map (λ x. x.what) xs

what_member : (x : Marked) {xs : List Marked} → Memᴰ x xs → Memᴰ x.what (whats xs)
what_member x (Memᴰ.head e) = Memᴰ.head (ap (λ (y : Marked). y.what) e)
what_member x (Memᴰ.tail h) = Memᴰ.tail (what_member x h)

pub marks_differ : (xs : List Marked) → Distinct (whats xs) → Distinct xs
marks_differ [] d = tt
marks_differ (x ∷ xs) d = (λ m. d.0 (what_member x m), marks_differ xs d.1)

pub settings_counted : (K : KeyKind) (m : Map) (entries : List Marked) → Rises K m → ListsOnce (λ k. is_some (look m k) ≡ true) (whats entries) → length m ≤ length entries
settings_counted K m entries r l =
    let most = no_more (keys m) (whats entries) (keys_differ K m r) (λ k h. l.all k (key_found k m h)) in
    omega (arith, most, length-map m (λ (s : Setting). s.key), length-map entries (λ (x : Marked). x.what))

-- What goes on by a digit, of a map and of what an edit makes of maps; a map is what goes on by its digits. Assumes nothing.
use Rattle.std.proofs.Common.{◌≡◌, ℕ, ◌+◌, ◌<◌, Bool, true, false, cond, eqb, List, [], ◌∷◌, length, Some, None, Option, sym, refl, ap, ◌∙◌, ap₂, arith}
use Rattle.std.proofs.lemmas.Bool.{and_from, eq-eqb, ne_eqb, cond-true}
use Rattle.byte_rows.specs.Rows.{same}
use Rattle.byte_rows.proofs.Orders.{same_tells}
use Rattle.kinds.specs.Kinds.{KeyKind, ValueKind}
use Rattle.model.specs.Maps.{Setting, Map, look, put, remove, same_map, decided, merge, Sound}
use Rattle.model.specs.Tries.{filter, digit, at_digit, sixteen}
pub use Rattle.model.proofs.Marks.Keys.{same_map_self}
use Rattle.model.proofs.Maps.Found.{same_self}
use Rattle.model.proofs.Maps.Order.{sound_equal}
use Rattle.model.proofs.Maps.Edits.{sound_put, look_put, sound_remove, look_remove, sound_merge, look_merge}
use Rattle.model.proofs.Maps.Crowds.{sound_filter}
use Rattle.model.proofs.Marks.Keys.{same_map_true}
use Rattle.model.proofs.Marks.Prefixes.{digit_below}
use Rattle.plans.specs.Plans.{every, total}
use Rattle.plans.proofs.Rows.{every_from, every_at, total_same, total_plus, total_zero, total_once}

-- ---- the settings whose keys pass a test

abbrev only : (List ℕ → Bool) → Map → Map
only q m = filter (λ s. q s.key) m

look_only : (q : List ℕ → Bool) (m : Map) (k : List ℕ) → look (only q m) k ≡ cond (q k) (look m k) None
look_only q [] k = nothing (q k)
  where
    nothing : (b : Bool) → look [] k ≡ cond b (look [] k) None
    nothing true = refl
    nothing false = refl
look_only q (s ∷ m) k = go (q s.key) refl (look_only q m k)
  where
    go : (b : Bool) → q s.key ≡ b → look (only q m) k ≡ cond (q k) (look m k) None → look (cond b (s ∷ only q m) (only q m)) k ≡ cond (q k) (look (s ∷ m) k) None
    go true e i = grind (arith, same_tells)
    go false e i = grind (arith, same_tells)

-- a test of keys commutes with the edits
module _ (K : KeyKind) (V : ValueKind) (q : List ℕ → Bool) where
  sound_only : (m : Map) → Sound K V m → Sound K V (only q m)
  sound_only m s = sound_filter K V (λ s. q s.key) m s

  only_merge : (o b t : Map) → Sound K V o → Sound K V t → only q (merge K V o b t) ≡ merge K V (only q o) (only q b) (only q t)
  only_merge o b t go gt =
      sound_equal K V (only q (merge K V o b t)) (merge K V (only q o) (only q b) (only q t))
      (sound_only (merge K V o b t) (sound_merge K V o b t go gt)) (sound_merge K V (only q o) (only q b) (only q t) (sound_only o go) (sound_only t gt))
      λ k. look_only q (merge K V o b t) k ∙ ap (λ (x : Option (List ℕ)). cond (q k) x None) (look_merge K V o b t go gt k)
      ∙ through (q k) (look o k) (look b k) (look t k)
      ∙ sym (look_merge K V (only q o) (only q b) (only q t) (sound_only o go) (sound_only t gt) k ∙ three k)
    where
      through : (c : Bool) (x y z : Option (List ℕ)) → cond c (decided V x y z) None ≡ decided V (cond c x None) (cond c y None) (cond c z None)
      through true x y z = refl
      through false x y z = refl

      three : (k : List ℕ) → decided V (look (only q o) k) (look (only q b) k) (look (only q t) k) ≡ decided V (cond (q k) (look o k) None) (cond (q k) (look b k) None) (cond (q k) (look t k) None)
      three k =
          ap (λ (w : Option (List ℕ)). decided V w (look (only q b) k) (look (only q t) k)) (look_only q o k)
          ∙ ap (λ (w : Option (List ℕ)). decided V (cond (q k) (look o k) None) w (look (only q t) k)) (look_only q b k)
          ∙ ap (λ (w : Option (List ℕ)). decided V (cond (q k) (look o k) None) (cond (q k) (look b k) None) w) (look_only q t k)

  module _ (m : Map) (k : List ℕ) (good : Sound K V m) (key : K.readable k ≡ true) where
    module _ (v : List ℕ) (value : V.readable v ≡ true) where
      only_put : q k ≡ true → only q (put K m k v) ≡ put K (only q m) k v
      only_put e =
          sound_equal K V (only q (put K m k v)) (put K (only q m) k v)
          (sound_only (put K m k v) (sound_put K V m k good key v value)) (sound_put K V (only q m) k (sound_only m good) key v value)
          λ x. look_only q (put K m k v) x ∙ ap (λ (y : Option (List ℕ)). cond (q x) y None) (look_put K V m k good key v value x)
          ∙ through x (look_only q m x) ∙ sym (look_put K V (only q m) k (sound_only m good) key v value x)
        where
          through : (x : List ℕ) → look (only q m) x ≡ cond (q x) (look m x) None → cond (q x) (cond (same x k) (Some v) (look m x)) None ≡ cond (same x k) (Some v) (look (only q m) x)
          through x i = grind (arith, same_tells)

      only_put_other : q k ≡ false → only q (put K m k v) ≡ only q m
      only_put_other e =
          sound_equal K V (only q (put K m k v)) (only q m) (sound_only (put K m k v) (sound_put K V m k good key v value)) (sound_only m good)
          λ x. look_only q (put K m k v) x ∙ ap (λ (y : Option (List ℕ)). cond (q x) y None) (look_put K V m k good key v value x)
          ∙ through x ∙ sym (look_only q m x)
        where
          through : (x : List ℕ) → cond (q x) (cond (same x k) (Some v) (look m x)) None ≡ cond (q x) (look m x) None
          through x = grind (arith, same_tells)

    only_remove : only q (remove K m k) ≡ remove K (only q m) k
    only_remove =
        sound_equal K V (only q (remove K m k)) (remove K (only q m) k)
        (sound_only (remove K m k) (sound_remove K V m k good key)) (sound_remove K V (only q m) k (sound_only m good) key)
        λ x. look_only q (remove K m k) x ∙ ap (λ (y : Option (List ℕ)). cond (q x) y None) (look_remove K V m k good key x)
        ∙ through x (look_only q m x) ∙ sym (look_remove K V (only q m) k (sound_only m good) key x)
      where
        through : (x : List ℕ) → look (only q m) x ≡ cond (q x) (look m x) None → cond (q x) (cond (same x k) None (look m x)) None ≡ cond (same x k) None (look (only q m) x)
        through x i = grind (arith, same_tells)

    only_remove_other : q k ≡ false → only q (remove K m k) ≡ only q m
    only_remove_other e =
        sound_equal K V (only q (remove K m k)) (only q m) (sound_only (remove K m k) (sound_remove K V m k good key)) (sound_only m good)
        λ x. look_only q (remove K m k) x ∙ ap (λ (y : Option (List ℕ)). cond (q x) y None) (look_remove K V m k good key x)
        ∙ through x ∙ sym (look_only q m x)
      where
        through : (x : List ℕ) → cond (q x) (cond (same x k) None (look m x)) None ≡ cond (q x) (look m x) None
        through x = grind (arith, same_tells)

-- ---- what goes on by a digit

-- a key goes on by a digit
abbrev pub falls : KeyKind → ℕ → ℕ → List ℕ → Bool
falls K d g k = eqb (digit (K.hash k) d) g

pub look_at : (K : KeyKind) (d g : ℕ) (m : Map) (k : List ℕ) → look (at_digit K d m g) k ≡ cond (falls K d g k) (look m k) None
look_at K d g m k = look_only (falls K d g) m k

module _ (K : KeyKind) (V : ValueKind) (d g : ℕ) where
  pub sound_at : (m : Map) → Sound K V m → Sound K V (at_digit K d m g)
  sound_at m s = sound_only K V (falls K d g) m s

  pub at_merge : (o b t : Map) → Sound K V o → Sound K V t → at_digit K d (merge K V o b t) g ≡ merge K V (at_digit K d o g) (at_digit K d b g) (at_digit K d t g)
  at_merge o b t go gt = only_merge K V (falls K d g) o b t go gt

  module _ (m : Map) (k : List ℕ) (good : Sound K V m) (key : K.readable k ≡ true) where
    pub at_put_here : (v : List ℕ) → V.readable v ≡ true → digit (K.hash k) d ≡ g → at_digit K d (put K m k v) g ≡ put K (at_digit K d m g) k v
    at_put_here v value e = only_put K V (falls K d g) m k good key v value (eq-eqb (digit (K.hash k) d) g e)

    pub at_put_other : (v : List ℕ) → V.readable v ≡ true → (digit (K.hash k) d ≡ g → ⊥) → at_digit K d (put K m k v) g ≡ at_digit K d m g
    at_put_other v value e = only_put_other K V (falls K d g) m k good key v value (ne_eqb (digit (K.hash k) d) g e)

    -- no matter the key's digit
    pub at_remove : at_digit K d (remove K m k) g ≡ remove K (at_digit K d m g) k
    at_remove = only_remove K V (falls K d g) m k good key

    pub at_remove_here : digit (K.hash k) d ≡ g → at_digit K d (remove K m k) g ≡ remove K (at_digit K d m g) k
    at_remove_here e = at_remove

    pub at_remove_other : (digit (K.hash k) d ≡ g → ⊥) → at_digit K d (remove K m k) g ≡ at_digit K d m g
    at_remove_other e = only_remove_other K V (falls K d g) m k good key (ne_eqb (digit (K.hash k) d) g e)

-- ---- a map is what goes on by its digits

-- tests that hold at the same time are one
pub one_test : (a b : Bool) → (a ≡ true → b ≡ true) → (b ≡ true → a ≡ true) → a ≡ b
one_test true true f g = refl
one_test true false f g = sym (f refl)
one_test false true f g = g refl
one_test false false f g = refl

module _ (K : KeyKind) (V : ValueKind) (d : ℕ) where
  from_digits : (a b : Map) → Sound K V a → Sound K V b → ((g : ℕ) → g < 16 → at_digit K d a g ≡ at_digit K d b g) → a ≡ b
  from_digits a b p q h = sound_equal K V a b p q λ k. alike k (h (digit (K.hash k) d) (digit_below (K.hash k) d))
    where
      alike : (k : List ℕ) → at_digit K d a (digit (K.hash k) d) ≡ at_digit K d b (digit (K.hash k) d) → look a k ≡ look b k
      alike k e =
          let g = digit (K.hash k) d in
          let t = eq-eqb g g refl in
          sym (cond-true (falls K d g k) (look a k) None t) ∙ sym (look_at K d g a k) ∙ ap (λ (m : Map). look m k) e ∙ look_at K d g b k ∙ cond-true (falls K d g k) (look b k) None t

  -- whether two maps are the same, by digits
  pub same_by_digits : (a b : Map) → Sound K V a → Sound K V b → same_map a b ≡ every (λ g. same_map (at_digit K d a g) (at_digit K d b g)) sixteen
  same_by_digits a b p q =
      one_test (same_map a b) (every (λ g. same_map (at_digit K d a g) (at_digit K d b g)) sixteen)
      (λ e. every_from (λ g. same_map (at_digit K d a g) (at_digit K d b g)) sixteen
      (λ g. ap (λ (m : Map). same_map (at_digit K d a g) (at_digit K d m g)) (sym (same_map_true a b e)) ∙ same_map_self (at_digit K d a g)))
      (λ e. ap (same_map a) (sym (from_digits a b p q (λ g h. same_map_true (at_digit K d a g) (at_digit K d b g) (every_at (λ g. same_map (at_digit K d a g) (at_digit K d b g)) g e h)))) ∙ same_map_self a)

module _ (K : KeyKind) (d : ℕ) where
  length_more : (s : Setting) (m : Map) (g : ℕ) → length (at_digit K d (s ∷ m) g) ≡ cond (falls K d g s.key) 1 0 + length (at_digit K d m g)
  length_more s m g = go (falls K d g s.key)
    where
      go : (b : Bool) → length (cond b (s ∷ at_digit K d m g) (at_digit K d m g)) ≡ cond b 1 0 + length (at_digit K d m g)
      go true = omega arith
      go false = omega arith

  -- each setting goes on by one digit
  pub length_by_digits : (m : Map) → total (λ g. length (at_digit K d m g)) sixteen ≡ length m
  length_by_digits [] = total_zero (λ g. 0) sixteen (λ g. refl)
  length_by_digits (s ∷ m) =
      let x : ℕ = digit (K.hash s.key) d in
      total_same (λ g. length (at_digit K d (s ∷ m) g)) (λ g. cond (eqb x g) 1 0 + length (at_digit K d m g)) sixteen (length_more s m)
      ∙ total_plus (λ g. cond (eqb x g) 1 0) (λ g. length (at_digit K d m g)) sixteen
      ∙ ap₂ ◌+◌ (total_once x (digit_below (K.hash s.key) d)) (length_by_digits m)
      ∙ omega arith

-- More than 16 keys of one hash, by digits. Assumes nothing.
use Rattle.std.proofs.Common.{◌≡◌, ℕ, zero, suc, ◌+◌, ◌*◌, ◌/◌, ◌^◌, ◌<◌, ◌≤◌, Bool, true, false, cond, ◌&&◌, eqb, ltb, List, [], ◌∷◌, length, sym, refl, ap, ◌∙◌, ap₂, inl, inr, pow-suc, arith}
use mathlib.Core.List.Memᴰ
use native.Mathlib.Nat.{div-div-eq-div-mul, div-add-mod}
use Rattle.std.proofs.lemmas.Bool.{and_parts, and_from, or_cases, or_left, or_right, both_ways, eq-eqb, eqb-true, ltb-true, ltb-false, le-ltb}
use Rattle.kinds.specs.Kinds.{KeyKind}
use Rattle.model.specs.Maps.{Setting, Map}
use Rattle.model.specs.Tries.{filter, digit, at_digit, sixteen, of_hash, crowded_at, crowded, Uncrowded}
use Rattle.model.proofs.Marks.Members.{Mem, mem_of_filter, filter_short}
use Rattle.model.proofs.Marks.Prefixes.{digit_below}
use Rattle.plans.specs.Plans.{crowd}
use Rattle.plans.proofs.Rows.{some_none, some_one, some_at}
use Rattle.plans.proofs.Digits.{falls, one_test}

-- ---- digits say all of a hash

-- two numbers have the same h digits from the digit d on
abbrev agrees : ℕ → ℕ → ℕ → ℕ → Bool
agrees zero d x y = true
agrees (suc h) d x y = eqb (digit x d) (digit y d) && agrees h (suc d) x y

agrees_self : (h d x : ℕ) → agrees h d x x ≡ true
agrees_self zero d x = refl
agrees_self (suc h) d x = and_from (eqb (digit x d) (digit x d)) (agrees h (suc d) x x) (eq-eqb (digit x d) (digit x d) refl) (agrees_self h (suc d) x)

shift : (x d : ℕ) → x / 16 ^ d ≡ 16 * (x / 16 ^ suc d) + digit x d
shift x d = sym (ap (λ (z : ℕ). 16 * z + digit x d) (ap (λ (w : ℕ). x / w) (pow-suc 16 d) ∙ sym (div-div-eq-div-mul x (16 ^ d) 16)) ∙ div-add-mod (x / 16 ^ d) 16)

agrees_shifted : (h d x y : ℕ) → agrees h d x y ≡ true → x / 16 ^ (d + h) ≡ y / 16 ^ (d + h) → x / 16 ^ d ≡ y / 16 ^ d
agrees_shifted zero d x y e f = let z : d + 0 ≡ d = omega arith in rw z at f
agrees_shifted (suc h) d x y e f =
    let a = and_parts (eqb (digit x d) (digit y d)) (agrees h (suc d) x y) e in
    let z : d + suc h ≡ suc d + h = omega arith in
    let i = agrees_shifted h (suc d) x y a.1 (ap (λ (w : ℕ). x / 16 ^ w) (sym z) ∙ f ∙ ap (λ (w : ℕ). y / 16 ^ w) z) in
    shift x d ∙ ap₂ (λ (p q : ℕ). 16 * p + q) i (eqb-true (digit x d) (digit y d) a.0) ∙ sym (shift y d)

agrees_all : (x y : ℕ) → x < 2 ^ 32 → y < 2 ^ 32 → agrees 8 0 x y ≡ eqb x y
agrees_all x y p q =
    one_test (agrees 8 0 x y) (eqb x y)
    (λ e. let f : x / 16 ^ 8 ≡ y / 16 ^ 8 = omega arith in let i = agrees_shifted 8 0 x y e f in eq-eqb x y (omega arith))
    (λ e. ap (agrees 8 0 x) (sym (eqb-true x y e)) ∙ agrees_self 8 0 x)

-- ---- the part at a depth, along a key

abbrev deep : KeyKind → ℕ → ℕ → Map → List ℕ → Map
deep K zero d m k = m
deep K (suc h) d m k = deep K h (suc d) (at_digit K d m (digit (K.hash k) d)) k

filter_both : (q r : Setting → Bool) (m : Map) → filter r (filter q m) ≡ filter (λ s. q s && r s) m
filter_both q r [] = refl
filter_both q r (s ∷ m) = go (q s) (filter_both q r m)
  where
    go : (b : Bool) → filter r (filter q m) ≡ filter (λ s. q s && r s) m →
        filter r (cond b (s ∷ filter q m) (filter q m)) ≡ cond (b && r s) (s ∷ filter (λ s. q s && r s) m) (filter (λ s. q s && r s) m)
    go true i = ap (λ (l : Map). cond (r s) (s ∷ l) l) i
    go false i = i

filter_same : (q r : Setting → Bool) (m : Map) → ((s : Setting) → q s ≡ r s) → filter q m ≡ filter r m
filter_same q r [] h = refl
filter_same q r (s ∷ m) h = ap₂ (λ (b : Bool) (l : Map). cond b (s ∷ l) l) (h s) (filter_same q r m h)

filter_true : (m : Map) → filter (λ s. true) m ≡ m
filter_true [] = refl
filter_true (s ∷ m) = ap (λ (l : Map). s ∷ l) (filter_true m)

module _ (K : KeyKind) where
  deep_is : (h d : ℕ) (m : Map) (k : List ℕ) → deep K h d m k ≡ filter (λ s. agrees h d (K.hash s.key) (K.hash k)) m
  deep_is zero d m k = sym (filter_true m)
  deep_is (suc h) d m k =
      deep_is h (suc d) (at_digit K d m (digit (K.hash k) d)) k
      ∙ filter_both (λ s. falls K d (digit (K.hash k) d) s.key) (λ s. agrees h (suc d) (K.hash s.key) (K.hash k)) m

  -- eight levels down are the settings of one hash
  deepest : (m : Map) (k : List ℕ) → deep K 8 0 m k ≡ of_hash K m (K.hash k)
  deepest m k =
      deep_is 8 0 m k
      ∙ filter_same (λ s. agrees 8 0 (K.hash s.key) (K.hash k)) (λ t. eqb (K.hash t.key) (K.hash k)) m
      (λ s. agrees_all (K.hash s.key) (K.hash k) (K.hash_fits s.key) (K.hash_fits k))

-- ---- some collision node is too full exactly when some hash has too many keys

module _ (K : KeyKind) where
  head_in : (m : Map) → 16 < length m → (s : Setting) × Mem s m
  head_in [] h = absurd (omega arith)
  head_in (s ∷ m) h = (s, Memᴰ.head refl)

  crowd_some : (h d : ℕ) (m : Map) → crowd K h d m ≡ true → (s : Setting) × (Mem s m × (ltb 16 (length (deep K h d m s.key)) ≡ true))
  crowd_some zero d m e = let r = head_in m (ltb-true 16 (length m) e) in (r.0, (r.1, e))
  crowd_some (suc h) d m e =
      let g = some_one (λ g. crowd K h (suc d) (at_digit K d m g)) sixteen e in
      let r = crowd_some h (suc d) (at_digit K d m g.0) g.1 in
      let i = mem_of_filter (λ s. falls K d g.0 s.key) m r.0 r.1.0 in
      (r.0, (i.0, ap (λ (x : ℕ). ltb 16 (length (deep K h (suc d) (at_digit K d m x) r.0.key))) (eqb-true (digit (K.hash r.0.key) d) g.0 i.1) ∙ r.1.1))

  crowd_from : (h d : ℕ) (m : Map) (k : List ℕ) → ltb 16 (length (deep K h d m k)) ≡ true → crowd K h d m ≡ true
  crowd_from zero d m k e = e
  crowd_from (suc h) d m k e =
      some_at (λ g. crowd K h (suc d) (at_digit K d m g)) (digit (K.hash k) d) (crowd_from h (suc d) (at_digit K d m (digit (K.hash k) d)) k e) (digit_below (K.hash k) d)

  -- too many keys have the hash of a setting
  abbrev full : Map → Setting → Bool
  full m s = ltb 16 (length (of_hash K m (K.hash s.key)))

  crowded_some : (m rest : Map) → crowded_at K m rest ≡ true → (s : Setting) × (full m s ≡ true)
  crowded_some m [] e = let z : ◌≡◌ {A = ℕ} 0 1 = cc in absurd (omega arith)
  crowded_some m (s ∷ rest) e = elim (or_cases (full m s) (crowded_at K m rest) e) [ inl h ↦ (s, h) | inr h ↦ crowded_some m rest h ]

  crowded_from : (m rest : Map) (s : Setting) → Mem s rest → full m s ≡ true → crowded_at K m rest ≡ true
  crowded_from m [] s i e = absurd (Memᴰ.not-nil i)
  crowded_from m (t ∷ rest) s i e =
      elim (Memᴰ.cases_cons i) [
        | inl z ↦ or_left (full m t) (crowded_at K m rest) (ap (full m) (sym z) ∙ e)
        | inr j ↦ or_right (full m t) (crowded_at K m rest) (crowded_from m rest s j e)
      ]

  crowd_full : (m : Map) → crowd K 8 0 m ≡ true → (s : Setting) × (Mem s m × (full m s ≡ true))
  crowd_full m e = let r = crowd_some 8 0 m e in (r.0, (r.1.0, ap (λ (w : Map). ltb 16 (length w)) (sym (deepest K m r.0.key)) ∙ r.1.1))

  pub crowd_is_crowded : (m : Map) → crowd K 8 0 m ≡ crowded K m
  crowd_is_crowded m =
      one_test (crowd K 8 0 m) (crowded K m)
      (λ e. let r = crowd_full m e in crowded_from m m r.0 r.1.0 r.1.1)
      (λ e. let r = crowded_some m m e in crowd_from 8 0 m r.0.key (ap (λ (w : Map). ltb 16 (length w)) (deepest K m r.0.key) ∙ r.1))

  -- ---- parts that are not crowded

  pub uncrowded_crowd : (m : Map) → Uncrowded K m → crowd K 8 0 m ≡ false
  uncrowded_crowd m u = go (crowd K 8 0 m) refl
    where
      go : (b : Bool) → crowd K 8 0 m ≡ b → b ≡ false
      go true e = let r = crowd_full m e in absurd (omega (arith, ltb-true 16 (length (of_hash K m (K.hash r.0.key))) r.1.1, u (K.hash r.0.key)))
      go false e = refl

  pub crowd_at : (h d : ℕ) (m : Map) (g : ℕ) → crowd K (suc h) d m ≡ false → g < 16 → crowd K h (suc d) (at_digit K d m g) ≡ false
  crowd_at h d m g e l = go (crowd K h (suc d) (at_digit K d m g)) refl
    where
      go : (b : Bool) → crowd K h (suc d) (at_digit K d m g) ≡ b → b ≡ false
      go true f = absurd (both_ways (crowd K (suc h) d m) e (some_at (λ x. crowd K h (suc d) (at_digit K d m x)) g f l))
      go false f = refl

  pub crowd_deepest : (d : ℕ) (m : Map) → crowd K 0 d m ≡ false → length m ≤ 16
  crowd_deepest d m e = ltb-false 16 (length m) e

  pub crowd_few : (h d : ℕ) (m : Map) → length m ≤ 16 → crowd K h d m ≡ false
  crowd_few zero d m l = le-ltb 16 (length m) l
  crowd_few (suc h) d m l =
      some_none (λ g. crowd K h (suc d) (at_digit K d m g)) sixteen
      (λ g. crowd_few h (suc d) (at_digit K d m g) (omega (arith, filter_short (λ s. falls K d g s.key) m)))

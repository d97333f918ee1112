-- What stands at a digit, by the bits of a map below it. Assumes nothing.
use Rattle.std.proofs.Common.{◌≡◌, ℕ, zero, suc, ◌+◌, ◌*◌, ◌/◌, ◌%◌, ◌^◌, ◌<◌, ◌≤◌, Bool, true, false, cond, eqb, ltb, List, [], ◌∷◌, ◌++◌, map, length, get_or, take, drop, count_by, sym, refl, ap, ◌∙◌, subst, ap₂, mul_assoc, pow-suc, arith}
use lib.Count.{ones}
use lib.Lanes.{mask_l}
use Rattle.std.specs.List.{range_with_len}
use Rattle.std.proofs.lemmas.List.Sums.{sum_by-cons}
use Rattle.std.proofs.lemmas.List.{get_or-map, take-map, take-append-drop, length-take-le, length-map}
use Rattle.std.proofs.lemmas.List.FromFn.{get_or-range_with_len}
use Rattle.std.proofs.lemmas.Nat.{mod_low, and_mask}
use Rattle.std.proofs.lemmas.Simd.{mask_l-lt, bit_mask_l, ones-mask_l}
use Rattle.std.proofs.lemmas.Bool.{cond-true, cond-false, lt-ltb, le-ltb, eqb-true, false≢true}
use Rattle.kinds.specs.Kinds.{KeyKind}
use Rattle.model.specs.Maps.{Setting, Map}
use Rattle.model.specs.Tries.{filter, sixteen, at_digit, one, many}
use Rattle.model.specs.Images.{bits, picked}
use Rattle.tables.specs.declared.cells.NodeCell.{NodeCell}
use Rattle.tables.specs.Cells.{kids, singles}
use Rattle.tables.specs.Notes.{Note, EntryNote, Fits}
use Rattle.tables.specs.Slots.{bit, rank_of}
use Rattle.tables.proofs.NodeCounts.{length_listed, listed_at}

-- ---- masks

bits_mask : (p : Map → Bool) (ms : List Map) → bits p ms ≡ mask_l (map p ms)
bits_mask p [] = refl
bits_mask p (m ∷ ms) = ap (λ (x : ℕ). cond (p m) 1 0 + 2 * x) (bits_mask p ms)

mask_append : (a b : List Bool) → mask_l (a ++ b) ≡ mask_l b * 2 ^ length a + mask_l a
mask_append [] b = omega arith
mask_append (x ∷ a) b =
    let e : mask_l b * 2 ^ suc (length a) ≡ mask_l b * 2 ^ length a * 2 = ap (λ (z : ℕ). mask_l b * z) (pow-suc 2 (length a)) ∙ sym (mul_assoc (mask_l b) (2 ^ length a) 2) in
    omega (arith, e, mask_append a b)

mask_low : (ms : List Bool) (g : ℕ) → g ≤ length ms → mask_l ms % 2 ^ g ≡ mask_l (take g ms)
mask_low ms g h =
    let n : length (take g ms) ≡ g = length-take-le g ms h in
    let w : mask_l ms ≡ mask_l (drop g ms) * 2 ^ g + mask_l (take g ms) =
    ap mask_l (sym (take-append-drop g ms)) ∙ mask_append (take g ms) (drop g ms) ∙ ap (λ (z : ℕ). mask_l (drop g ms) * 2 ^ z + mask_l (take g ms)) n in
    ap (λ (z : ℕ). z % 2 ^ g) w ∙ mod_low (mask_l (drop g ms)) g (mask_l (take g ms)) (subst (λ (z : ℕ). mask_l (take g ms) < 2 ^ z) n (mask_l-lt (take g ms)))

-- ---- one after another, those that pass

-- the thing at the place that counts those before it
module _ {A : Type 0} (q : ℕ → Bool) (f : ℕ → List A) (d : A) where
  -- what each number that passes gives, in order
  given : List ℕ → List A
  given [] = []
  given (x ∷ xs) = cond (q x) (f x) [] ++ given xs

  given_at : (n a g : ℕ) → g < n → q (a + g) ≡ true → ((x : ℕ) → q x ≡ true → (y : A) × (f x ≡ y ∷ [])) →
      (count_by q (take g (range_with_len a n)) < length (given (range_with_len a n))) × (f (a + g) ≡ get_or (given (range_with_len a n)) (count_by q (take g (range_with_len a n))) d ∷ [])
  unfolding given
  given_at zero a g h e one_each = absurd (omega arith)
  given_at (suc n) a zero h e one_each =
      let z : a + 0 ≡ a = omega arith in
      let here = one_each a (ap q (sym z) ∙ e) in
      first (q a) (f a) here.0 (ap q (sym z) ∙ e) here.1 (ap f z)
    where
      first : (b : Bool) (l : List A) (y : A) → b ≡ true → l ≡ y ∷ [] → f (a + 0) ≡ l →
          (0 < length (cond b l [] ++ given (range_with_len (a + 1) n))) × (f (a + 0) ≡ get_or (cond b l [] ++ given (range_with_len (a + 1) n)) 0 d ∷ [])
      first true l y t s r = rw s ((omega arith), r ∙ s)
      first false l y t s r = absurd (false≢true t)
  given_at (suc n) a (suc g) h e one_each =
      let z : a + suc g ≡ a + 1 + g = omega arith in
      let r = given_at n (a + 1) g (omega arith) (ap q (sym z) ∙ e) one_each in
      later (q a) (f a) (one_each a) (count_by q (take g (range_with_len (a + 1) n))) r.0 (ap f z ∙ r.1) (count_by q (take (suc g) (range_with_len a (suc n)))) (sum_by-cons (λ x. cond (q x) 1 0) a (take g (range_with_len (a + 1) n)))
    where
      later : (b : Bool) (l : List A) → (b ≡ true → (y : A) × (l ≡ y ∷ [])) → (c : ℕ) → c < length (given (range_with_len (a + 1) n)) → f (a + suc g) ≡ get_or (given (range_with_len (a + 1) n)) c d ∷ [] →
          (t : ℕ) → t ≡ cond b 1 0 + c → (t < length (cond b l [] ++ given (range_with_len (a + 1) n))) × (f (a + suc g) ≡ get_or (cond b l [] ++ given (range_with_len (a + 1) n)) t d ∷ [])
      later true l single c k s t i =
          let y = single refl in
          let j : t ≡ suc c = omega arith in
          rw y.1 (omega arith, s ∙ ap (λ n'. get_or (y.0 ∷ given (range_with_len (a + 1) n)) n' d ∷ []) (sym j))
      later false l single c k s t i = let j : t ≡ c = omega arith in (omega arith, s ∙ ap (λ n'. get_or (given (range_with_len (a + 1) n)) n' d ∷ []) (sym j))

-- ---- over all sixteen digits

sixteen_is : sixteen ≡ range_with_len 0 16
unfolding sixteen
sixteen_is = refl

module _ (p : Map → Bool) (f : ℕ → Map) (g : ℕ) (small : g < 16) where
  mask_of : bits p (map f sixteen) ≡ mask_l (map (λ x. p (f x)) (range_with_len 0 16))
  mask_of = bits_mask p (map f sixteen) ∙ ap (λ l. mask_l (map p (map f l))) sixteen_is

  digit_bit : bits p (map f sixteen) / 2 ^ g % 2 ≡ cond (p (f g)) 1 0
  digit_bit =
      ap (λ (z : ℕ). z / 2 ^ g % 2) mask_of ∙ bit_mask_l (map (λ x. p (f x)) (range_with_len 0 16)) g
      ∙ ap (λ (b : Bool). cond b 1 0) (get_or-map (λ x. p (f x)) (range_with_len 0 16) g 0 false small ∙ ap (λ x. p (f x)) (get_or-range_with_len 0 16 g 0 small ∙ omega arith))

  bit_is : bit (bits p (map f sixteen)) g ≡ p (f g)
  bit_is = ap (λ n. eqb n 1) digit_bit ∙ back (p (f g))
    where
      back : (b : Bool) → eqb (cond b 1 0) 1 ≡ b
      back true = refl
      back false = refl

  rank_is : rank_of (bits p (map f sixteen)) g ≡ count_by (λ x. p (f x)) (take g (range_with_len 0 16))
  rank_is =
      ap ones (and_mask (bits p (map f sixteen)) g ∙ ap (λ (z : ℕ). z % 2 ^ g) mask_of ∙ mask_low (map (λ x. p (f x)) (range_with_len 0 16)) g (omega arith) ∙ ap mask_l (take-map (λ x. p (f x)) g (range_with_len 0 16)))
      ∙ ones-mask_l (λ x. p (f x)) (take g (range_with_len 0 16))

-- the parts of one setting, one after another
own_given : (f : ℕ → Map) (xs : List ℕ) → picked one (λ q. q) (map f xs) ≡ given (λ x. one (f x)) f (record { key = []; value = [] }) xs
unfolding given
own_given f [] = refl
own_given f (x ∷ xs) = ap (λ r. cond (one (f x)) (f x) [] ++ r) (own_given f xs)

-- the children by their digits, one after another
kids_given : (q : ℕ → Bool) (child : ℕ → ℕ) (xs : List ℕ) → map child (filter q xs) ≡ given q (λ x. child x ∷ []) 0 xs
unfolding given
kids_given q child [] = refl
kids_given q child (x ∷ xs) = go (q x) (kids_given q child xs)
  where
    go : (b : Bool) → map child (filter q xs) ≡ given q (λ x. child x ∷ []) 0 xs → map child (cond b (x ∷ filter q xs) (filter q xs)) ≡ cond b (child x ∷ []) [] ++ given q (λ x. child x ∷ []) 0 xs
    go true e = ap (λ r. child x ∷ r) e
    go false e = e

single : (m : Map) → one m ≡ true → (s : Setting) × (m ≡ s ∷ [])
single [] h = absurd (omega (arith, eqb-true 0 1 h))
single (s ∷ []) h = (s, refl)
single (s ∷ t ∷ m) h = absurd (omega (arith, eqb-true (suc (suc (length m))) 1 h))

-- ---- reading a node that fits, above the deepest level

module _ (K : KeyKind) (note : ℕ → Note) (entry_note : ℕ → EntryNote) (c : NodeCell) (a : Note) (fits : Fits K note entry_note c a) (shallow : length a.label.what < 8) (g : ℕ) (small : g < 16) where
  abbrev below : ℕ → Map
  below x = at_digit K (length a.label.what) a.settings x

  shallow_test : ltb (length a.label.what) 8 ≡ true
  shallow_test = lt-ltb (length a.label.what) 8 shallow

  -- the bit of the node map says whether there is a child
  pub child_bit : bit c.nodemap g ≡ many (below g)
  child_bit = ap (λ m. bit m g) (fits.node_bits shallow) ∙ bit_is many below g small

  -- and its rank says where
  pub child_slot : many (below g) ≡ true → get_or c.children (rank_of c.nodemap g) 0 ≡ a.child g
  child_slot e =
      let r : ℕ = rank_of c.nodemap g in
      let kids_are : kids c ≡ given (λ x. many (below x)) (λ x. a.child x ∷ []) 0 (range_with_len 0 16) =
      fits.children ∙ ap (map a.child) (cond-true _ _ _ shallow_test) ∙ kids_given (λ x. many (below x)) a.child sixteen ∙ ap (given (λ x. many (below x)) (λ x. a.child x ∷ []) 0) sixteen_is in
      let place : r ≡ count_by (λ x. many (below x)) (take g (range_with_len 0 16)) = ap (λ m. rank_of m g) (fits.node_bits shallow) ∙ rank_is many below g small in
      let at = given_at (λ x. many (below x)) (λ x. a.child x ∷ []) 0 16 0 g small (ap (λ x. many (below x)) (let z : 0 + g ≡ g = omega arith in z) ∙ e) (λ x t. (a.child x, refl)) in
      let inside : r < ones c.nodemap = omega (arith, place, at.0, ap length kids_are, length_listed c.nodemap c.children) in
      let found : a.child (0 + g) ≡ get_or (kids c) r 0 = ap (λ l. get_or l 0 0) at.1 ∙ sym (ap₂ (λ (l : List ℕ) (x : ℕ). get_or l x 0) kids_are place) in
      sym (listed_at c.nodemap c.children r inside) ∙ sym found ∙ ap a.child (let z : 0 + g ≡ g = omega arith in z)

  -- the bit of the data map says whether there is an entry
  pub entry_bit : bit c.datamap g ≡ one (below g)
  entry_bit = ap (λ m. bit m g) (fits.data_bits shallow) ∙ bit_is one below g small

  abbrev none : Setting
  none = record { key = []; value = [] }

  own_is : map (λ x. (entry_note x).setting) (singles c) ≡ given (λ x. one (below x)) below none (range_with_len 0 16)
  own_is = fits.owns ∙ cond-true _ _ _ shallow_test ∙ own_given below sixteen ∙ ap (given (λ x. one (below x)) below none) sixteen_is

  entry_place : rank_of c.datamap g ≡ count_by (λ x. one (below x)) (take g (range_with_len 0 16))
  entry_place = ap (λ m. rank_of m g) (fits.data_bits shallow) ∙ rank_is one below g small

  entry_given : one (below g) ≡ true →
      (count_by (λ x. one (below x)) (take g (range_with_len 0 16)) < length (given (λ x. one (below x)) below none (range_with_len 0 16)))
      × (below (0 + g) ≡ get_or (given (λ x. one (below x)) below none (range_with_len 0 16)) (count_by (λ x. one (below x)) (take g (range_with_len 0 16))) none ∷ [])
  entry_given e = given_at (λ x. one (below x)) below none 16 0 g small (ap (λ x. one (below x)) (let z : 0 + g ≡ g = omega arith in z) ∙ e) (λ x t. single (below x) t)

  -- its rank is that of a slot in use
  pub entry_inside : one (below g) ≡ true → rank_of c.datamap g < ones c.datamap
  entry_inside e =
      let long : length (singles c) ≡ length (given (λ x. one (below x)) below none (range_with_len 0 16)) = sym (length-map (singles c) (λ x. (entry_note x).setting)) ∙ ap length own_is in
      omega (arith, entry_place, (entry_given e).0, long, length_listed c.datamap c.entries)

  -- and says where
  pub entry_slot : one (below g) ≡ true → below g ≡ (entry_note (get_or c.entries (rank_of c.datamap g) 0)).setting ∷ []
  entry_slot e =
      let r : ℕ = rank_of c.datamap g in
      let inside : r < ones c.datamap = entry_inside e in
      let within : r < length (singles c) = omega (arith, inside, length_listed c.datamap c.entries) in
      let found : get_or (given (λ x. one (below x)) below none (range_with_len 0 16)) r none ≡ (entry_note (get_or c.entries r 0)).setting =
      sym (ap (λ l. get_or l r none) own_is) ∙ get_or-map (λ x. (entry_note x).setting) (singles c) r 0 none within ∙ ap (λ x. (entry_note x).setting) (listed_at c.datamap c.entries r inside) in
      ap below (let z : g ≡ 0 + g = omega arith in z) ∙ (entry_given e).1 ∙ ap (λ n. get_or (given (λ x. one (below x)) below none (range_with_len 0 16)) n none ∷ []) (sym entry_place) ∙ ap (λ s. s ∷ []) found

-- ---- reading a node that fits, at the deepest level

module _ (K : KeyKind) (note : ℕ → Note) (entry_note : ℕ → EntryNote) (c : NodeCell) (a : Note) (fits : Fits K note entry_note c a) (deep : length a.label.what ≡ 8) where
  deep_test : ltb (length a.label.what) 8 ≡ false
  deep_test = le-ltb (length a.label.what) 8 (omega arith)

  pub no_children : kids c ≡ []
  no_children = fits.children ∙ ap (map a.child) (cond-false _ _ _ deep_test)

  pub all_own : map (λ e. (entry_note e).setting) (singles c) ≡ a.settings
  all_own = fits.owns ∙ cond-false _ _ _ deep_test

  pub as_many : ones c.datamap ≡ length a.settings
  as_many = sym (length_listed c.datamap c.entries) ∙ sym (length-map (singles c) (λ e. (entry_note e).setting)) ∙ ap length all_own

  -- the entries follow the keys
  pub by_key : (k : ℕ) (s : Setting) → k < length a.settings → (entry_note (get_or c.entries k 0)).setting ≡ get_or a.settings k s
  by_key k s p =
      let q : k < ones c.datamap = omega (arith, as_many) in
      let r : k < length (singles c) = omega (arith, length_listed c.datamap c.entries) in
      ap (λ e. (entry_note e).setting) (sym (listed_at c.datamap c.entries k q)) ∙ sym (get_or-map (λ e. (entry_note e).setting) (singles c) k 0 s r) ∙ ap (λ l. get_or l k s) all_own

-- One digit after another of what setting one key would make. Assumes nothing.
use Rattle.std.proofs.Common.{◌≡◌, ℕ, suc, ◌+◌, ◌-◌, ◌*◌, ◌<◌, ◌≤◌, Bool, true, false, cond, eqb, ltb, List, [], ◌∷◌, ◌++◌, length, Some, None, Option, sym, ap, ◌∙◌, subst, ap₂, mul-le-mul, arith}
use lib.ListN.{length-map}
use Rattle.std.specs.List.{range_with_len}
use Rattle.std.proofs.lemmas.List.{length_push}
use Rattle.std.proofs.lemmas.Bool.{eq-eqb, lt-ltb, cond-true, and_from}
use Rattle.byte_rows.specs.Rows.{same}
use Rattle.kinds.specs.Kinds.{KeyKind, ValueKind}
use Rattle.model.specs.Maps.{Setting, Map, keys, look, insert, insert_found, tabulate}
use Rattle.model.specs.Tries.{digit, leads, at_digit}
use Rattle.model.specs.Sharing.{Part, below}
use Rattle.model.proofs.Images.Gets.{leads_push}
use Rattle.model.proofs.Marks.Members.{filter_short}
use Rattle.plans.specs.Plans.{edited, total, crowd, Tally, capped, Told, add, summed, closed}
use Rattle.plans.proofs.Digits.{falls, sound_at, same_map_self}
use Rattle.plans.proofs.Edits.{sound_edited, at_edited_here, at_edited_other}
use Rattle.plans.proofs.Sizes.{capped_few}
use Rattle.plans.proofs.Crowds.{crowd_at}
use Rattle.plans.proofs.Leaves.{told_stays}
use Rattle.plans.proofs.Bounds.{summed_few}
use Rattle.plans.proofs.Tallies.{exact, summed_more, told_exact, told_is, told_by_digits}
use Rattle.branches.specs.declared.branch.Branch.{Branch}
use Rattle.branches.specs.declared.branch.Branch.TheVariants.{Nothing, Entry, Child}
use Rattle.branches.specs.States.{Tables, Notes}
use Rattle.branches.specs.Branches.{Is, GoesOn}
use Rattle.branches.proofs.Gathering.{bushy_many}
use Rattle.edits.specs.declared.estimate.Estimate.{Estimate}
use Rattle.edits.specs.Sets.{Seen, Estimated, tally}
use Rattle.edits.specs.Estimates.{Addable, branch_size, kept_told}
use Rattle.edits.proofs.Turns.{reads}

-- ---- a map with one key set has at most one setting more

insert_long : (K : KeyKind) (s : Setting) (m : Map) → length (insert K s m) ≤ length m + 1
insert_long K s [] = omega arith
insert_long K s (t ∷ m) = go (K.before s.key t.key) (K.before t.key s.key) (insert_long K s m)
  where
    go : (b c : Bool) → length (insert K s m) ≤ length m + 1 → length (cond b (s ∷ (t ∷ m)) (cond c (t ∷ insert K s m) (s ∷ m))) ≤ length (t ∷ m) + 1
    go true c l = omega arith
    go false true l = omega arith
    go false false l = omega arith

pub tabulate_long : (K : KeyKind) (ks : List (List ℕ)) (f : List ℕ → Option (List ℕ)) → length (tabulate K ks f) ≤ length ks
tabulate_long K [] f = omega arith
tabulate_long K (k ∷ ks) f = go (f k) (tabulate_long K ks f)
  where
    go : (x : Option (List ℕ)) → length (tabulate K ks f) ≤ length ks → length (insert_found K k x (tabulate K ks f)) ≤ length (k ∷ ks)
    go (Some v) l = omega (arith, insert_long K (record { key = k; value = v }) (tabulate K ks f))
    go None l = omega arith

pub edited_long : (K : KeyKind) (m : Map) (k : List ℕ) (x : Option (List ℕ)) → length (edited K m k x) ≤ length m + 1
edited_long K m k (Some v) = omega (arith, tabulate_long K (k ∷ keys m) (λ j. cond (same j k) (Some v) (look m j)), length-map m (λ (s : Setting). s.key))
edited_long K m k None = omega (arith, tabulate_long K (keys m) (λ j. cond (same j k) None (look m j)), length-map m (λ (s : Setting). s.key))

-- ---- a branch that is kept

pub kept_size : {X Y : Type 0} (T : Tables X Y) (N : Notes) (b : Branch) (h : ℕ) (p : List ℕ) (a : Part) → h < 8 → Is T N b h p a → branch_size b ≡ capped (length a.settings)
kept_size T N Nothing h p a low is = ap (λ (c : Part). capped (length c.settings)) (sym is)
kept_size T N (Entry e) h p a low is = ap (λ (m : Map). capped (length m)) (sym is.1.settings)
kept_size T N (Child i) h p a low is = sym (cond-true (ltb 1 (length a.settings)) 2 _ (lt-ltb 1 (length a.settings) (bushy_many h a.settings low is.1)))

-- ---- over bare numbers

product_few : (h z : ℕ) → h < 8 → z ≤ 65536 → suc h * z ≤ 9 * 65536
product_few h z l e = mul-le-mul {n₁ = suc h} {m₁ = z} {n₂ = 9} {m₂ = 65536} (omega arith) e

pub sizes_few : (s t y z : ℕ) → s ≡ capped y → t ≡ capped z → s + t ≤ 4
sizes_few s t y z e f = omega (arith, capped_few y, capped_few z)

pub at_most : {s t u : ℕ} → s ≡ t → t ≤ u → s ≤ u
at_most e l = omega arith

-- ---- digits

-- what the account has at a digit, with h levels below that
abbrev pub exact_at : KeyKind → ℕ → ℕ → List ℕ → Part → Map → ℕ → Tally
exact_at K n h p a m g = exact K n h (p ++ (g ∷ [])) (below K p g a) (below K p g a) (at_digit K (length p) m g)

-- the sum is that of the digits before g, whatever part the branch is, for any call
pub record Summed {X Y : Type 0} (K : KeyKind) (V : ValueKind) (kb : X → List ℕ) (vb : Y → List ℕ) (T : Tables X Y) (b : Branch) (k : List ℕ) (x : Option (List ℕ)) (level g : ℕ) (sum : Estimate) : Type 0 where
  pub so_far : (q : Seen K V kb vb T b k x level) (n : ℕ) → 0 < level → tally sum ≡ summed (exact_at K n (level - 1) q.prefix q.source (edited K q.source.settings k x)) (range_with_len 0 g)

-- the estimate is that of the digit g alone
pub record DigitTold {X Y : Type 0} (K : KeyKind) (V : ValueKind) (kb : X → List ℕ) (vb : Y → List ℕ) (T : Tables X Y) (b : Branch) (k : List ℕ) (x : Option (List ℕ)) (level g : ℕ) (c : Estimate) : Type 0 where
  pub is : (q : Seen K V kb vb T b k x level) (n : ℕ) → tally c ≡ exact_at K n (level - 1) q.prefix q.source (edited K q.source.settings k x) g

module _ {X Y : Type 0} (K : KeyKind) (V : ValueKind) (kb : X → List ℕ) (vb : Y → List ℕ) (T : Tables X Y) (b : Branch) (k : List ℕ) (x : Option (List ℕ)) (level : ℕ)
    (q : Seen K V kb vb T b k x level) (tall : 0 < level) where
  abbrev p : List ℕ
  p = q.prefix

  abbrev a : Part
  a = q.source

  abbrev m : Map
  m = edited K q.source.settings k x

  abbrev h : ℕ
  h = level - 1

  low : h < 8
  low = omega (arith, q.deep)

  up : suc h ≡ level
  up = omega arith

  result_few : length m ≤ 65536
  result_few = omega (arith, edited_long K a.settings k x, q.few)

  -- the numbers of the first digits are small
  digits_few : (n i : ℕ) → i ≤ 16 → ((summed (exact_at K n h p a m) (range_with_len 0 i)).nodes ≤ 18 * 65536) × ((summed (exact_at K n h p a m) (range_with_len 0 i)).entries ≤ 18 * 65536)
  digits_few n i l =
      let w = summed_few K n h (omega (arith, low)) p a a m (exact_at K n h p a m) i l (λ g z. told_exact K n h (p ++ (g ∷ [])) (below K p g a) (below K p g a) (at_digit K (length p) m g)) in
      let r = product_few h (length m) low result_few in
      (omega (arith, w.1, r), omega (arith, w.2, result_few))

  -- ---- at a digit
  module _ (g : ℕ) (small : g < 16) (c : Branch) (on : GoesOn K kb vb T b level g c) where
    below_is : Is T q.notes c h (p ++ (g ∷ [])) (below K p g a)
    below_is = on.on q.notes q.roots q.in_hand q.sits p a q.deep tall q.is

    below_calm : crowd K h (length (p ++ (g ∷ []))) (at_digit K (length p) a.settings g) ≡ false
    below_calm =
        ap (λ (d : ℕ). crowd K h d (at_digit K (length p) a.settings g)) (length_push p g ∙ (let z : length p + 1 ≡ suc (length p) = omega arith in z))
        ∙ crowd_at K h (length p) a.settings g (subst (λ (l : ℕ). crowd K l (length p) a.settings ≡ false) (sym up) q.calm) small

    -- the branch is kept
    kept_is : (digit (K.hash k) (length p) ≡ g → ⊥) → (n : ℕ) → kept_told c ≡ exact_at K n h p a m g
    kept_is away n =
        let o = below K p g a in
        let e : at_digit K (length p) m g ≡ o.settings = at_edited_other K V a.settings k q.sound q.key_reads (length p) g x (reads V x q.value_reads) away in
        let s = kept_size T q.notes c h (p ++ (g ∷ [])) o low below_is in
        let t = sym (same_map_self o.settings) in
        (λ i. record { size = s i; ours = true; theirs = t i; crowded = false; nodes = 0; entries = 0 })
        ∙ told_is K n h (p ++ (g ∷ [])) o o (at_digit K (length p) m g) _ (told_stays K n h (p ++ (g ∷ [])) o o (at_digit K (length p) m g) e below_calm)

    -- at the key's digit, the edit goes on
    module _ (falls_here : digit (K.hash k) (length p) ≡ g) where
      pub child_seen : Seen K V kb vb T c k x h
      child_seen = record {
        prefix = p ++ (g ∷ []);
        source = below K p g a;
        notes = q.notes;
        roots = q.roots;
        in_hand = q.in_hand;
        sits = q.sits;
        is = below_is;
        deep = omega (arith, length_push p g, q.deep);
        sound = sound_at K V (length p) g a.settings q.sound;
        key_reads = q.key_reads;
        value_reads = q.value_reads;
        led = leads_push K 0 p g k ∙ and_from (leads K 0 p k) (eqb (digit (K.hash k) (0 + length p)) g) q.led (eq-eqb (digit (K.hash k) (0 + length p)) g (ap (digit (K.hash k)) (let z : 0 + length p ≡ length p = omega arith in z) ∙ falls_here));
        calm = below_calm;
        few = omega (arith, filter_short (λ (s : Setting). falls K (length p) g s.key) a.settings, q.few);
      }

      child_is : (r : Estimate) → Estimated K V kb vb T c k x h r → (n : ℕ) → tally r ≡ exact_at K n h p a m g
      unfolding child_seen
      child_is r d n =
          let o = below K p g a in
          let e : at_digit K (length p) m g ≡ edited K o.settings k x = at_edited_here K V a.settings k q.sound q.key_reads (length p) g x (reads V x q.value_reads) falls_here in
          told_is K n h (p ++ (g ∷ [])) o o (at_digit K (length p) m g) (tally r)
          (subst (λ (w : Map). Told K n h (p ++ (g ∷ [])) o o w (tally r)) (sym e) (d.told child_seen n))

  -- the numbers of one digit more are small
  digit_addable : (g : ℕ) → g < 16 → (sum r : Estimate) → tally sum ≡ summed (exact_at K 0 h p a m) (range_with_len 0 g) → tally r ≡ exact_at K 0 h p a m g → Addable sum r
  digit_addable g small sum r e f =
      let w = digits_few 0 (suc g) (omega arith) in
      let z = ap₂ add e f ∙ sym (summed_more (exact_at K 0 h p a m) g) in
      record {
        sizes = sizes_few _ _ (total (λ y. (exact_at K 0 h p a m y).size) (range_with_len 0 g)) (length (at_digit K (length p) m g)) (ap (λ (t : Tally). t.size) e) (ap (λ (t : Tally). t.size) f);
        nodes = at_most (ap (λ (t : Tally). t.nodes) z) w.0;
        entries = at_most (ap (λ (t : Tally). t.entries) z) w.1;
      }

  -- all digits
  told_whole : (n : ℕ) → Told K n level p a a m (closed level (summed (exact_at K n h p a m) (range_with_len 0 16)))
  told_whole n =
      subst (λ (l : ℕ). Told K n l p a a m (closed l (summed (exact_at K n h p a m) (range_with_len 0 16)))) up
      (told_by_digits K V n h (omega (arith, low)) p a a q.sound q.sound m (sound_edited K V a.settings k q.sound q.key_reads x (reads V x q.value_reads)) (exact_at K n h p a m)
      (λ g l. told_exact K n h (p ++ (g ∷ [])) (below K p g a) (below K p g a) (at_digit K (length p) m g)))

-- ---- whatever the branch is

module _ {X Y : Type 0} (K : KeyKind) (V : ValueKind) (kb : X → List ℕ) (vb : Y → List ℕ) (T : Tables X Y) (b : Branch) (k : List ℕ) (x : Option (List ℕ)) (level : ℕ) where
  -- the key's digit at the prefix
  pub digit_at : (q : Seen K V kb vb T b k x level) (hash digit' g : ℕ) → hash ≡ K.hash k → digit' ≡ digit hash (8 - level) → g ≡ digit' → digit (K.hash k) (length q.prefix) ≡ g
  digit_at q hash digit' g e f l =
      ap₂ digit (sym e) (let z : length q.prefix ≡ 8 - level = omega (arith, q.deep) in z) ∙ sym f ∙ sym l

  module _ (tall : 0 < level) (g : ℕ) (small : g < 16) (c : Branch) (on : GoesOn K kb vb T b level g c) (hash digit' : ℕ) (is_hash : hash ≡ K.hash k) (is_digit : digit' ≡ digit hash (8 - level)) where
    pub digit_set : g ≡ digit' → (r s : Estimate) → s ≡ r → Estimated K V kb vb T c k x (level - 1) r → DigitTold K V kb vb T b k x level g s
    digit_set l r s same_as d = record { is = λ q n. ap tally same_as ∙ child_is K V kb vb T b k x level q tall g small c on (digit_at q hash digit' g is_hash is_digit l) r d n }

    pub digit_kept : (g ≡ digit' → ⊥) → (r s : Estimate) → s ≡ r → tally r ≡ kept_told c → DigitTold K V kb vb T b k x level g s
    digit_kept l r s same_as d = record {
      is = λ q n.
          ap tally same_as ∙ d ∙ kept_is K V kb vb T b k x level q tall g small c on
          (λ w. l (sym w ∙ ap₂ digit (sym is_hash) (let z : length q.prefix ≡ 8 - level = omega (arith, q.deep) in z) ∙ sym is_digit)) n;
    }

  module _ (tall : 0 < level) (g : ℕ) (sum : Estimate) (S : Summed K V kb vb T b k x level g sum) (new : Estimate) (D : DigitTold K V kb vb T b k x level g new) where
    pub addable : g < 16 → Seen K V kb vb T b k x level → Addable sum new
    addable small q = digit_addable K V kb vb T b k x level q tall g small sum new (S.so_far q 0 tall) (D.is q 0)

    pub summed_on : (next : Estimate) → tally next ≡ add (tally sum) (tally new) → Summed K V kb vb T b k x level (g + 1) next
    summed_on next e = record {
      so_far = λ q n t.
          let z : suc g ≡ g + 1 = omega arith in
          let f = exact_at K n (level - 1) q.prefix q.source (edited K q.source.settings k x) in
          e ∙ ap₂ add (S.so_far q n tall) (D.is q n) ∙ sym (summed_more f g) ∙ ap (λ (i : ℕ). summed f (range_with_len 0 i)) z;
    }

  module _ (tall : 0 < level) (g : ℕ) (sum : Estimate) (S : Summed K V kb vb T b k x level g sum) (all : g ≡ 16) where
    pub close_few : Seen K V kb vb T b k x level → sum.nodes ≤ 18 * 65536
    close_few q =
        let w = digits_few K V kb vb T b k x level q tall 0 g (omega arith) in
        at_most (ap (λ (t : Tally). t.nodes) (S.so_far q 0 tall)) w.0

    pub estimated_whole : (r : Estimate) → tally r ≡ closed level (tally sum) → Estimated K V kb vb T b k x level r
    estimated_whole r e = record {
      told = λ q n.
          let f = exact_at K n (level - 1) q.prefix q.source (edited K q.source.settings k x) in
          subst (λ (t : Tally). Told K n level q.prefix q.source q.source (edited K q.source.settings k x) t)
          (sym (e ∙ ap (closed level) (S.so_far q n tall ∙ ap (λ (i : ℕ). summed f (range_with_len 0 i)) all)))
          (told_whole K V kb vb T b k x level q tall n);
    }

-- One digit after another of what a merge would make. Assumes nothing.
use Rattle.std.proofs.Common.{◌≡◌, ℕ, suc, ◌+◌, ◌-◌, ◌*◌, ◌<◌, ◌≤◌, false, List, [], ◌∷◌, ◌++◌, length, sym, ap, ◌∙◌, subst, ap₂, mul-le-mul, arith}
use Rattle.std.specs.List.{range_with_len}
use Rattle.std.proofs.lemmas.List.{length_push}
use Rattle.kinds.specs.Kinds.{KeyKind, ValueKind}
use Rattle.model.specs.Maps.{Setting, Map}
use Rattle.model.specs.Tries.{at_digit}
use Rattle.model.specs.Sharing.{Part, below}
use Rattle.model.proofs.Maps.Edits.{sound_merge}
use Rattle.model.proofs.Marks.Members.{filter_short}
use Rattle.plans.specs.Plans.{total, crowd, Tally, Told, add, summed, closed}
use Rattle.plans.proofs.Digits.{falls, sound_at, at_merge}
use Rattle.plans.proofs.Crowds.{crowd_at}
use Rattle.plans.proofs.Bounds.{summed_few}
use Rattle.plans.proofs.Tallies.{exact, summed_more, told_exact, told_is, told_by_digits}
use Rattle.branches.specs.declared.branch.Branch.{Branch}
use Rattle.branches.specs.States.{Tables}
use Rattle.branches.specs.Branches.{GoesOn}
use Rattle.edits.specs.declared.estimate.Estimate.{Estimate}
use Rattle.edits.specs.Sets.{tally}
use Rattle.edits.specs.Estimates.{Addable}
use Rattle.edits.proofs.Estimates.{sizes_few, at_most}
use Rattle.merges.specs.Merges.{Met, merged, MergeEstimated}
use Rattle.merges.proofs.Results.{merged_long}

-- over bare numbers
product_few : (h z : ℕ) → h < 8 → z ≤ 2 * 65535 → suc h * z ≤ 18 * 65535
product_few h z l e = mul-le-mul {n₁ = suc h} {m₁ = z} {n₂ = 9} {m₂ = 2 * 65535} (omega arith) e

module _ {X Y : Type 0} (K : KeyKind) (V : ValueKind) (kb : X → List ℕ) (vb : Y → List ℕ) (T : Tables X Y) (ours base theirs : Branch) (level : ℕ) where
  -- what the account has at a digit, for the call n
  abbrev pub exact_at : Met K V kb vb T ours base theirs level → ℕ → ℕ → Tally
  exact_at q n g = exact K n (level - 1) (q.prefix ++ (g ∷ [])) (below K q.prefix g q.mine) (below K q.prefix g q.other) (at_digit K (length q.prefix) (merged K V kb vb T ours base theirs level q) g)

  -- the sum is that of the digits before g, whatever parts the branches are, for any call
  pub record Summed (g : ℕ) (sum : Estimate) : Type 0 where
    pub so_far : (q : Met K V kb vb T ours base theirs level) (n : ℕ) → 0 < level → tally sum ≡ summed (exact_at q n) (range_with_len 0 g)

  -- the estimate is that of the digit g alone
  pub record DigitTold (g : ℕ) (c : Estimate) : Type 0 where
    pub is : (q : Met K V kb vb T ours base theirs level) (n : ℕ) → tally c ≡ exact_at q n g

module _ {X Y : Type 0} (K : KeyKind) (V : ValueKind) (kb : X → List ℕ) (vb : Y → List ℕ) (T : Tables X Y) (ours base theirs : Branch) (level : ℕ)
    (q : Met K V kb vb T ours base theirs level) (tall : 0 < level) where
  abbrev p : List ℕ
  p = q.prefix

  abbrev o : Part
  o = q.mine

  abbrev t : Part
  t = q.other

  abbrev m : Map
  m = merged K V kb vb T ours base theirs level q

  abbrev h : ℕ
  h = level - 1

  abbrev told_at : ℕ → ℕ → Tally
  told_at = exact_at K V kb vb T ours base theirs level q

  low : h < 8
  low = omega (arith, q.deep)

  up : suc h ≡ level
  up = omega arith

  result_few : length m ≤ 2 * 65535
  result_few = omega (arith, merged_long K V o.settings q.common.settings t.settings, q.few, q.other_few)

  -- the numbers of the first digits are small
  digits_few : (n i : ℕ) → i ≤ 16 → ((summed (told_at n) (range_with_len 0 i)).nodes ≤ 18 * 65536) × ((summed (told_at n) (range_with_len 0 i)).entries ≤ 18 * 65536)
  digits_few n i l =
      let w = summed_few K n h (omega (arith, low)) p o t m (told_at n) i l (λ g z. told_exact K n h (p ++ (g ∷ [])) (below K p g o) (below K p g t) (at_digit K (length p) m g)) in
      let r = product_few h (length m) low result_few in
      (omega (arith, w.1, r), omega (arith, w.2, result_few))

  -- ---- at a digit
  module _ (g : ℕ) (small : g < 16) where
    calm_below : (a : Part) → crowd K level (length p) a.settings ≡ false → crowd K h (length (p ++ (g ∷ []))) (at_digit K (length p) a.settings g) ≡ false
    calm_below a calm =
        ap (λ (d : ℕ). crowd K h d (at_digit K (length p) a.settings g)) (length_push p g ∙ (let z : length p + 1 ≡ suc (length p) = omega arith in z))
        ∙ crowd_at K h (length p) a.settings g (subst (λ (l : ℕ). crowd K l (length p) a.settings ≡ false) (sym up) calm) small

    few_below : (a : Part) → length a.settings ≤ 65535 → length (at_digit K (length p) a.settings g) ≤ 65535
    few_below a few = omega (arith, filter_short (λ (s : Setting). falls K (length p) g s.key) a.settings, few)

    module _ (b c d : Branch) (ours_on : GoesOn K kb vb T ours level g b) (base_on : GoesOn K kb vb T base level g c) (theirs_on : GoesOn K kb vb T theirs level g d) where
      -- the merge goes on
      pub child_met : Met K V kb vb T b c d h
      child_met = record {
        prefix = p ++ (g ∷ []);
        mine = below K p g o;
        common = below K p g q.common;
        other = below K p g t;
        notes = q.notes;
        roots = q.roots;
        in_hand = q.in_hand;
        sits = q.sits;
        ours_is = ours_on.on q.notes q.roots q.in_hand q.sits p o q.deep tall q.ours_is;
        base_is = base_on.on q.notes q.roots q.in_hand q.sits p q.common q.deep tall q.base_is;
        theirs_is = theirs_on.on q.notes q.roots q.in_hand q.sits p t q.deep tall q.theirs_is;
        deep = omega (arith, length_push p g, q.deep);
        sound = sound_at K V (length p) g o.settings q.sound;
        common_sound = sound_at K V (length p) g q.common.settings q.common_sound;
        other_sound = sound_at K V (length p) g t.settings q.other_sound;
        calm = calm_below o q.calm;
        common_calm = calm_below q.common q.common_calm;
        other_calm = calm_below t q.other_calm;
        few = few_below o q.few;
        common_few = few_below q.common q.common_few;
        other_few = few_below t q.other_few;
      }

      child_is : (r : Estimate) → MergeEstimated K V kb vb T b c d h r → (n : ℕ) → tally r ≡ told_at n g
      unfolding child_met
      child_is r e n =
          told_is K n h (p ++ (g ∷ [])) (below K p g o) (below K p g t) (at_digit K (length p) m g) (tally r)
          (subst (λ (w : Map). Told K n h (p ++ (g ∷ [])) (below K p g o) (below K p g t) w (tally r)) (sym (at_merge K V (length p) g o.settings q.common.settings t.settings q.sound q.other_sound)) (e.told child_met n))

  -- the numbers of one digit more are small
  digit_addable : (g : ℕ) → g < 16 → (sum r : Estimate) → tally sum ≡ summed (told_at 0) (range_with_len 0 g) → tally r ≡ told_at 0 g → Addable sum r
  digit_addable g small sum r e f =
      let c = told_at 0 in
      let w = digits_few 0 (suc g) (omega arith) in
      let z = ap₂ add e f ∙ sym (summed_more c g) in
      record {
        sizes = sizes_few _ _ (total (λ y. (c y).size) (range_with_len 0 g)) (length (at_digit K (length p) m g)) (ap (λ (x : Tally). x.size) e) (ap (λ (x : Tally). x.size) f);
        nodes = at_most (ap (λ (x : Tally). x.nodes) z) w.0;
        entries = at_most (ap (λ (x : Tally). x.entries) z) w.1;
      }

  -- all digits
  told_whole : (n : ℕ) → Told K n level p o t m (closed level (summed (told_at n) (range_with_len 0 16)))
  told_whole n =
      subst (λ (l : ℕ). Told K n l p o t m (closed l (summed (told_at n) (range_with_len 0 16)))) up
      (told_by_digits K V n h (omega (arith, low)) p o t q.sound q.other_sound m (sound_merge K V o.settings q.common.settings t.settings q.sound q.other_sound) (told_at n)
      (λ g l. told_exact K n h (p ++ (g ∷ [])) (below K p g o) (below K p g t) (at_digit K (length p) m g)))

-- ---- whatever the branches are

module _ {X Y : Type 0} (K : KeyKind) (V : ValueKind) (kb : X → List ℕ) (vb : Y → List ℕ) (T : Tables X Y) (ours base theirs : Branch) (level : ℕ) (tall : 0 < level) (g : ℕ) where
  pub digit_told : g < 16 → (b c d : Branch) → GoesOn K kb vb T ours level g b → GoesOn K kb vb T base level g c → GoesOn K kb vb T theirs level g d
      → (r : Estimate) → MergeEstimated K V kb vb T b c d (level - 1) r → DigitTold K V kb vb T ours base theirs level g r
  digit_told small b c d on base_on theirs_on r e = record { is = λ q n. child_is K V kb vb T ours base theirs level q tall g small b c d on base_on theirs_on r e n }

  module _ (sum : Estimate) (S : Summed K V kb vb T ours base theirs level g sum) where
    module _ (new : Estimate) (D : DigitTold K V kb vb T ours base theirs level g new) where
      pub addable : g < 16 → Met K V kb vb T ours base theirs level → Addable sum new
      addable small q = digit_addable K V kb vb T ours base theirs level q tall g small sum new (S.so_far q 0 tall) (D.is q 0)

      pub summed_on : (next : Estimate) → tally next ≡ add (tally sum) (tally new) → Summed K V kb vb T ours base theirs level (g + 1) next
      summed_on next e = record {
        so_far = λ q n l.
            let z : suc g ≡ g + 1 = omega arith in
            let f = exact_at K V kb vb T ours base theirs level q n in
            e ∙ ap₂ add (S.so_far q n l) (D.is q n) ∙ sym (summed_more f g) ∙ ap (λ (i : ℕ). summed f (range_with_len 0 i)) z;
      }

    module _ (all : g ≡ 16) where
      pub close_few : Met K V kb vb T ours base theirs level → sum.nodes ≤ 18 * 65536
      close_few q =
          let w = digits_few K V kb vb T ours base theirs level q tall 0 g (omega arith) in
          at_most (ap (λ (x : Tally). x.nodes) (S.so_far q 0 tall)) w.0

      pub estimated_whole : (r : Estimate) → tally r ≡ closed level (tally sum) → MergeEstimated K V kb vb T ours base theirs level r
      estimated_whole r e = record {
        told = λ q n.
            let f = exact_at K V kb vb T ours base theirs level q n in
            subst (λ (x : Tally). Told K n level q.prefix q.mine q.other (merged K V kb vb T ours base theirs level q) x)
            (sym (e ∙ ap (closed level) (S.so_far q n tall ∙ ap (λ (i : ℕ). summed f (range_with_len 0 i)) all)))
            (told_whole K V kb vb T ours base theirs level q tall n);
      }

-- Where two of three branches are one cell. Assumes nothing.
use Rattle.std.proofs.Common.{◌≡◌, ℕ, ◌<◌, Bool, true, false, List, sym, ap, ◌∙◌, subst}
use Rattle.kinds.specs.Kinds.{KeyKind, ValueKind}
use Rattle.model.specs.Maps.{Map, same_map, merge}
use Rattle.model.specs.Sharing.{Part}
use Rattle.plans.specs.Plans.{Tally, Told}
use Rattle.plans.proofs.Digits.{same_map_self}
use Rattle.plans.proofs.Leaves.{told_stays, told_becomes}
use Rattle.branches.specs.declared.branch.Branch.{Branch}
use Rattle.branches.specs.declared.branch.Branch.TheVariants.{Nothing, Entry, Child}
use Rattle.branches.specs.States.{Tables, Notes}
use Rattle.branches.specs.Branches.{Is}
use Rattle.branches.specs.Compared.{TwoParts, Compared}
use Rattle.edits.specs.declared.estimate.Estimate.{Estimate}
use Rattle.edits.specs.Sets.{tally}
use Rattle.edits.specs.Estimates.{kept_told}
use Rattle.edits.proofs.Estimates.{kept_size}
use Rattle.merges.specs.Merges.{Met, merged, MergeEstimated}
use Rattle.merges.proofs.Results.{merge_same, merge_theirs, merge_ours}

-- one branch has one part's settings
same_settings : {X Y : Type 0} (T : Tables X Y) (N : Notes) (b : Branch) (level : ℕ) (p : List ℕ) (x y : Part) → Is T N b level p x → Is T N b level p y → x.settings ≡ y.settings
same_settings T N Nothing level p x y is also = ap (λ (a : Part). a.settings) (is ∙ sym also)
same_settings T N (Entry e) level p x y is also = is.1.settings ∙ sym also.1.settings
same_settings T N (Child i) level p x y is also = sym is.0.settings ∙ also.0.settings

one_cell : {X Y : Type 0} (T : Tables X Y) (N : Notes) (b d : Branch) (level : ℕ) (p : List ℕ) (x y : Part) → b ≡ d → Is T N b level p x → Is T N d level p y → x.settings ≡ y.settings
one_cell T N b d level p x y e is also = same_settings T N b level p x y is (subst (λ (c : Branch). Is T N c level p y) (sym e) also)

module _ {X Y : Type 0} (K : KeyKind) (V : ValueKind) (kb : X → List ℕ) (vb : Y → List ℕ) (T : Tables X Y) (ours base theirs : Branch) (level : ℕ) where
  -- ours beside theirs, and theirs beside ours
  pub two_parts : Met K V kb vb T ours base theirs level → TwoParts K kb vb T ours theirs level
  two_parts q = record {
    first = record { notes = q.notes; roots = q.roots; in_hand = q.in_hand; sits = q.sits; prefix = q.prefix; part = q.mine; deep = q.deep; is = q.ours_is };
    second = q.other;
    is = q.theirs_is;
  }

  pub two_swapped : Met K V kb vb T ours base theirs level → TwoParts K kb vb T theirs ours level
  two_swapped q = record {
    first = record { notes = q.notes; roots = q.roots; in_hand = q.in_hand; sits = q.sits; prefix = q.prefix; part = q.other; deep = q.deep; is = q.theirs_is };
    second = q.mine;
    is = q.ours_is;
  }

  module _ (low : level < 8) (kept : Estimate) where
    -- ours is theirs: both are the result
    pub told_same : ours ≡ theirs → tally kept ≡ kept_told ours → MergeEstimated K V kb vb T ours base theirs level kept
    told_same e k = record {
      told = λ q n.
          let alike : q.mine.settings ≡ q.other.settings = one_cell T q.notes ours theirs level q.prefix q.mine q.other e q.ours_is q.theirs_is in
          let stays : merged K V kb vb T ours base theirs level q ≡ q.mine.settings =
          ap (merge K V q.mine.settings q.common.settings) (sym alike) ∙ merge_same K V q.mine.settings q.sound q.common.settings in
          let size = kept_size T q.notes ours level q.prefix q.mine low q.ours_is in
          let same : true ≡ same_map q.other.settings q.mine.settings = sym (ap (same_map q.other.settings) alike ∙ same_map_self q.other.settings) in
          subst (Told K n level q.prefix q.mine q.other (merged K V kb vb T ours base theirs level q))
          (sym (k ∙ (λ i. record { size = size i; ours = true; theirs = same i; crowded = false; nodes = 0; entries = 0 })))
          (told_stays K n level q.prefix q.mine q.other (merged K V kb vb T ours base theirs level q) stays q.calm);
    }

    -- ours is the base: the result is theirs
    pub told_theirs : ours ≡ base → tally kept ≡ kept_told theirs → (r : Bool) → Compared K kb vb T ours theirs level r
        → MergeEstimated K V kb vb T ours base theirs level (record { size = kept.size; ours = r; theirs = kept.theirs; crowded = kept.crowded; nodes = kept.nodes; entries = kept.entries })
    told_theirs e k r c = record {
      told = λ q n.
          let alike : q.mine.settings ≡ q.common.settings = one_cell T q.notes ours base level q.prefix q.mine q.common e q.ours_is q.base_is in
          let becomes : merged K V kb vb T ours base theirs level q ≡ q.other.settings =
          ap (λ (b : Map). merge K V q.mine.settings b q.other.settings) (sym alike) ∙ merge_theirs K V q.mine.settings q.sound q.other.settings q.other_sound in
          let size = kept_size T q.notes theirs level q.prefix q.other low q.theirs_is in
          let same = c.same q.notes q.roots q.in_hand q.sits q.prefix q.mine q.other q.deep q.ours_is q.theirs_is q.sound.rises q.other_sound.rises in
          let with_ours : Tally → Bool → Tally = λ t b. record { size = t.size; ours = b; theirs = t.theirs; crowded = t.crowded; nodes = t.nodes; entries = t.entries } in
          subst (Told K n level q.prefix q.mine q.other (merged K V kb vb T ours base theirs level q))
          (sym (ap (λ (t : Tally). with_ours t r) k ∙ (λ i. record { size = size i; ours = same i; theirs = true; crowded = false; nodes = 0; entries = 0 })))
          (told_becomes K n level q.prefix q.mine q.other (merged K V kb vb T ours base theirs level q) becomes q.other_calm);
    }

    -- theirs is the base: the result is ours
    pub told_ours : theirs ≡ base → tally kept ≡ kept_told ours → (r : Bool) → Compared K kb vb T theirs ours level r
        → MergeEstimated K V kb vb T ours base theirs level (record { size = kept.size; ours = kept.ours; theirs = r; crowded = kept.crowded; nodes = kept.nodes; entries = kept.entries })
    told_ours e k r c = record {
      told = λ q n.
          let alike : q.other.settings ≡ q.common.settings = one_cell T q.notes theirs base level q.prefix q.other q.common e q.theirs_is q.base_is in
          let stays : merged K V kb vb T ours base theirs level q ≡ q.mine.settings =
          ap (λ (b : Map). merge K V q.mine.settings b q.other.settings) (sym alike) ∙ merge_ours K V q.mine.settings q.sound q.other.settings q.other_sound in
          let size = kept_size T q.notes ours level q.prefix q.mine low q.ours_is in
          let same = c.same q.notes q.roots q.in_hand q.sits q.prefix q.other q.mine q.deep q.theirs_is q.ours_is q.other_sound.rises q.sound.rises in
          let with_theirs : Tally → Bool → Tally = λ t b. record { size = t.size; ours = t.ours; theirs = b; crowded = t.crowded; nodes = t.nodes; entries = t.entries } in
          subst (Told K n level q.prefix q.mine q.other (merged K V kb vb T ours base theirs level q))
          (sym (ap (λ (t : Tally). with_theirs t r) k ∙ (λ i. record { size = size i; ours = true; theirs = same i; crowded = false; nodes = 0; entries = 0 })))
          (told_stays K n level q.prefix q.mine q.other (merged K V kb vb T ours base theirs level q) stays q.calm);
    }

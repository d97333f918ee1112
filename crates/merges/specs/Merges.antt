-- Three branches are merged: what may be taken for granted, and what it leaves. Assumes nothing.
use Rattle.std.specs.Prelude.{◌≡◌, ℕ, ◌+◌, ◌*◌, ◌≤◌, false, List, [], ◌∷◌, length}
use Rattle.std.specs.List.{AllByRecursion}
use Rattle.kinds.specs.Kinds.{KeyKind, ValueKind}
use Rattle.model.specs.declared.limits.TheConstants.{MOST_CELLS}
use Rattle.model.specs.Maps.{Map, Sound, merge}
use Rattle.model.specs.Sharing.{Part}
use Rattle.plans.specs.Plans.{crowd, portion, Told}
use Rattle.branches.specs.declared.branch.Branch.{Branch}
use Rattle.branches.specs.States.{Tables, Notes, Sits, Clear, Under, Led}
use Rattle.branches.specs.Branches.{Is, Built}
use Rattle.edits.specs.declared.estimate.Estimate.{Estimate}
use Rattle.edits.specs.Sets.{tally}

module _ {X Y : Type 0} (K : KeyKind) (V : ValueKind) (kb : X → List ℕ) (vb : Y → List ℕ) (T : Tables X Y) (ours base theirs : Branch) (level : ℕ) where
  -- three branches are parts at one prefix, of lawful maps of no more settings than a table has entries
  pub record Met : Type 0 where
    pub prefix : List ℕ
    pub mine : Part
    pub common : Part
    pub other : Part
    pub notes : Notes
    pub roots : List ℕ
    pub in_hand : List ℕ
    pub sits : Sits K kb vb T notes roots in_hand
    pub ours_is : Is T notes ours level prefix mine
    pub base_is : Is T notes base level prefix common
    pub theirs_is : Is T notes theirs level prefix other
    pub deep : length prefix + level ≡ 8
    pub sound : Sound K V mine.settings
    pub common_sound : Sound K V common.settings
    pub other_sound : Sound K V other.settings
    pub calm : crowd K level (length prefix) mine.settings ≡ false
    pub common_calm : crowd K level (length prefix) common.settings ≡ false
    pub other_calm : crowd K level (length prefix) other.settings ≡ false
    pub few : length mine.settings ≤ MOST_CELLS
    pub common_few : length common.settings ≤ MOST_CELLS
    pub other_few : length other.settings ≤ MOST_CELLS

  -- what becomes of them
  abbrev pub merged : Met → Map
  merged q = merge K V q.mine.settings q.common.settings q.other.settings

  -- the estimate is the account's, whatever parts the branches are, for any call
  pub record MergeEstimated (c : Estimate) : Type 0 where
    pub told : (q : Met) (n : ℕ) → Told K n level q.prefix q.mine q.other (merged q) (tally c)

  -- ---- building

  -- the same, where nowhere are too many keys of one hash, each key's hash begins with the prefix, there is room, and no label of the call n is below the prefix
  pub record MayMerge : Type 0 where
    pub met : Met
    pub call : ℕ
    pub clear : Clear call (Under met.prefix) (Led K met.prefix) T met.notes
    pub result_calm : crowd K level (length met.prefix) (merged met) ≡ false
    pub led : AllByRecursion (λ s. Led K met.prefix s.key) (merged met)
    pub room : (portion K call level met.prefix (met.mine ∷ (met.other ∷ [])) (merged met)).new_nodes ≤ T.spare
    pub entry_room : (portion K call level met.prefix (met.mine ∷ (met.other ∷ [])) (merged met)).new_entries ≤ T.entry_spare
    pub few_roots : length met.roots + 16 * level + 16 ≤ MOST_CELLS
    pub few_in_hand : length met.in_hand + 16 * level + 16 ≤ MOST_CELLS

  -- in each such case r is the branch of the result, built as the account shares it
  pub record MergeDone (r : Branch) (U : Tables X Y) : Type 0 where
    pub built : (q : MayMerge)
        → Built K kb vb q.call level q.met.prefix (merged q.met) (portion K q.call level q.met.prefix (q.met.mine ∷ (q.met.other ∷ [])) (merged q.met)) T q.met.notes q.met.roots q.met.in_hand r U

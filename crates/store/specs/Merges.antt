-- A draft's root merged with two others: what may be taken for granted, and what it leaves. Assumes nothing.
use Rattle.std.specs.Prelude.{◌≡◌, ℕ, ◌≤◌, List, [], ◌∷◌, length, Option, Result, slice_index_or}
use Rattle.kinds.specs.Kinds.{KeyKind, ValueKind}
use Rattle.kinds.specs.declared.refusal.Refusal.{Refusal}
use Rattle.model.specs.declared.limits.TheConstants.{MOST_CELLS}
use Rattle.model.specs.Maps.{Map, merge}
use Rattle.model.specs.Tries.{Lawful}
use Rattle.model.specs.Sharing.{Part}
use Rattle.model.specs.Accounts.{Version, Account, draft, nth, whole}
use Rattle.model.specs.Calls.{Call, outcome, on_uncrowded, result, version}
use Rattle.model.specs.Runs.{Made}
use Rattle.branches.specs.declared.branch.Branch.{Branch}
use Rattle.branches.specs.Branches.{Is}
use Rattle.store.specs.declared.spot.Spot.TheVariants.{Empty, Draft}
use Rattle.store.specs.Stores.{State, Represents, Answered}
use Rattle.store.specs.Answers.{took_shown}

module _ {X Y : Type 0} (K : KeyKind) (V : ValueKind) (kb : X → List ℕ) (vb : Y → List ℕ) (S : State X Y) (i : ℕ) (ours base theirs : Branch) where
  -- for an account that the store stands for, the versions whose roots these are: the draft at the place, what it is merged over, and the other
  pub record Merging (a : Account) (rep : Represents K V kb vb S a) : Type 0 where
    pub mine : Version
    pub there : nth a.places i ≡ draft mine
    pub ours_is : Is S.tables rep.notes ours 8 [] (whole mine)
    pub common : Part
    pub base_is : Is S.tables rep.notes base 8 [] common
    pub common_lawful : Lawful K V common.settings
    pub common_few : length common.settings ≤ MOST_CELLS
    pub other : Version
    pub theirs_is : Is S.tables rep.notes theirs 8 [] (whole other)
    pub other_lawful : Lawful K V other.settings
    pub other_few : length other.settings ≤ MOST_CELLS

  -- a call is that merge, judged so far, and then a draft of the result with some names
  pub record Judges (c : Call) (a : Account) (rep : Represents K V kb vb S a) : Type 0 where
    pub merging : Merging a rep
    pub names : Option (List ℕ)
    pub outcome_is :
        let m : Map = merge K V merging.mine.settings merging.common.settings merging.other.settings in
        outcome K V a c ≡ on_uncrowded K V a m (result K V a i (merging.mine ∷ (merging.other ∷ [])) m (λ s. draft (version K V a m names s)))

  pub record IsMerge (c : Call) : Type 0 where
    pub made : Made K V c
    pub judges : (a : Account) (rep : Represents K V kb vb S a) → Judges c a rep

  -- the root of the draft at the place, and some call that is the merge of these
  pub record SomeMerge : Type 0 where
    pub at : slice_index_or S.places i Empty ≡ Draft ours
    pub call : Call
    pub is : IsMerge call

  -- whichever call it is, it answers as the account answers
  pub record RootsMerged (S' : State X Y) (r : Result (ℕ × ℕ) Refusal) : Type 0 where
    pub answered : (c : Call) → IsMerge c → Answered K V kb vb S S' c (took_shown r)

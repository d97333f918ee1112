-- What a reading pass finds: of a branch that is kept, of one with no other key, and of digits one after another. Assumes nothing.
use Rattle.std.specs.Prelude.{◌≡◌, ℕ, ◌+◌, ◌*◌, ◌<◌, ◌≤◌, Bool, true, false, cond, List, Some, None, Option}
use Rattle.kinds.specs.Kinds.{KeyKind}
use Rattle.model.specs.Maps.{look, same_found}
use Rattle.model.specs.Sharing.{Part}
use Rattle.plans.specs.Plans.{Tally}
use Rattle.branches.specs.declared.branch.Branch.{Branch}
use Rattle.branches.specs.declared.branch.Branch.TheVariants.{Nothing, Entry, Child}
use Rattle.branches.specs.States.{Tables, Notes, Sits}
use Rattle.branches.specs.Branches.{Is}
use Rattle.edits.specs.declared.estimate.Estimate.{Estimate}
use Rattle.edits.specs.Sets.{tally, Alone}

-- two estimates whose numbers may be added
pub record Addable (a b : Estimate) : Type 0 where
  pub sizes : a.size + b.size ≤ 4
  pub nodes : a.nodes + b.nodes ≤ 18 * 65536
  pub entries : a.entries + b.entries ≤ 18 * 65536

-- ---- a branch that is kept

-- none, one or more settings
abbrev pub branch_size : Branch → ℕ
branch_size Nothing = 0
branch_size (Entry e) = 1
branch_size (Child i) = 2

-- it is the source's, and takes nothing
abbrev pub kept_told : Branch → Tally
kept_told b = record { size = branch_size b; ours = true; theirs = true; crowded = false; nodes = 0; entries = 0 }

-- ---- a branch with no setting of another key

-- how many settings a value makes
abbrev pub value_size : Option (List ℕ) → ℕ
value_size (Some v) = 1
value_size None = 0

-- what is set alone, by whether it was there before
abbrev pub alone_told : Option (List ℕ) → Bool → Tally
alone_told x same = record { size = value_size x; ours = same; theirs = same; crowded = false; nodes = 0; entries = cond same 0 (value_size x) }

-- whether the branch b has x already, whatever part and key it is alone with
pub record SameAlone {X Y : Type 0} (K : KeyKind) (kb : X → List ℕ) (vb : Y → List ℕ) (T : Tables X Y) (b : Branch) (x : Option (List ℕ)) (r : Bool) : Type 0 where
  pub same : (N : Notes) (R E : List ℕ) → Sits K kb vb T N R E → (level : ℕ) (p : List ℕ) (a : Part) (k : List ℕ) → level < 8 → Is T N b level p a → Alone a.settings k → r ≡ same_found (look a.settings k) x

pub record EstimatedAlone {X Y : Type 0} (K : KeyKind) (kb : X → List ℕ) (vb : Y → List ℕ) (T : Tables X Y) (b : Branch) (x : Option (List ℕ)) (c : Estimate) : Type 0 where
  pub told : (N : Notes) (R E : List ℕ) → Sits K kb vb T N R E → (level : ℕ) (p : List ℕ) (a : Part) (k : List ℕ) → level < 8 → Is T N b level p a → Alone a.settings k
      → tally c ≡ alone_told x (same_found (look a.settings k) x)

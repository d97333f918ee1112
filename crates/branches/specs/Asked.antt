-- What is asked of a branch: the value of a key, and how many settings there are. Assumes nothing.
use Rattle.std.specs.Prelude.{◌≡◌, ℕ, ◌+◌, ◌≤◌, List, length, Some, None, Option}
use Rattle.kinds.specs.Kinds.{KeyKind}
use Rattle.model.specs.declared.limits.TheConstants.{MOST_CELLS}
use Rattle.model.specs.Maps.{look}
use Rattle.model.specs.Sharing.{Part}
use Rattle.branches.specs.declared.branch.Branch.{Branch}
use Rattle.branches.specs.States.{Tables, Notes, Sits}
use Rattle.branches.specs.Branches.{Is, SomePart}

-- a value that is found, as its bytes
abbrev pub bytes_found : {Y : Type 0} → (Y → List ℕ) → Option Y → Option (List ℕ)
bytes_found vb None = None
bytes_found vb (Some v) = Some (vb v)

-- r is what a branch has for the key k, whatever part it is
pub record LookedUp {X Y : Type 0} (K : KeyKind) (kb : X → List ℕ) (vb : Y → List ℕ) (T : Tables X Y) (b : Branch) (level : ℕ) (k : List ℕ) (r : Option Y) : Type 0 where
  pub found : (N : Notes) (R E : List ℕ) → Sits K kb vb T N R E → (p : List ℕ) (a : Part) → length p + level ≡ 8 → Is T N b level p a → bytes_found vb r ≡ look a.settings k

-- a branch is some part of no more settings than a table has entries
pub record FewPart {X Y : Type 0} (K : KeyKind) (kb : X → List ℕ) (vb : Y → List ℕ) (T : Tables X Y) (b : Branch) (level : ℕ) : Type 0 where
  pub some : SomePart K kb vb T b level
  pub few : length some.part.settings ≤ MOST_CELLS

-- r is how many settings a branch has, whatever part it is
pub record Counted {X Y : Type 0} (K : KeyKind) (kb : X → List ℕ) (vb : Y → List ℕ) (T : Tables X Y) (b : Branch) (level r : ℕ) : Type 0 where
  pub number : (N : Notes) (R E : List ℕ) → Sits K kb vb T N R E → (p : List ℕ) (a : Part) → length p + level ≡ 8 → Is T N b level p a → r ≡ length a.settings

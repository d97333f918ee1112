-- Whether two branches are the same part, and what that says of entries and of rows of them. Assumes nothing.
use Rattle.std.specs.Prelude.{◌≡◌, ℕ, ◌+◌, Bool, List, map, length, Decides}
use Rattle.kinds.specs.Kinds.{KeyKind}
use Rattle.model.specs.Maps.{same_map, Rises}
use Rattle.model.specs.Sharing.{Part}
use Rattle.tables.specs.declared.cells.EntryCell.{EntryCell}
use Rattle.branches.specs.declared.branch.Branch.{Branch}
use Rattle.branches.specs.States.{Tables, Notes, Sits}
use Rattle.branches.specs.Branches.{Is, SomePart}

-- two branches are some parts at one prefix
pub record TwoParts {X Y : Type 0} (K : KeyKind) (kb : X → List ℕ) (vb : Y → List ℕ) (T : Tables X Y) (one other : Branch) (level : ℕ) : Type 0 where
  pub first : SomePart K kb vb T one level
  pub second : Part
  pub is : Is T first.notes other level first.prefix second

-- r says whether two branches are the same part, whatever parts in rising key order they are
pub record Compared {X Y : Type 0} (K : KeyKind) (kb : X → List ℕ) (vb : Y → List ℕ) (T : Tables X Y) (one other : Branch) (level : ℕ) (r : Bool) : Type 0 where
  pub same :
      (N : Notes) (R E : List ℕ) → Sits K kb vb T N R E → (p : List ℕ) (x y : Part) → length p + level ≡ 8 → Is T N one level p x → Is T N other level p y
      → Rises K x.settings → Rises K y.settings → r ≡ same_map x.settings y.settings

-- r says whether two entries have the same setting, whatever tables the entry cells es belong to
pub record EntriesCompared {X Y : Type 0} (K : KeyKind) (kb : X → List ℕ) (vb : Y → List ℕ) (es : List (EntryCell X Y)) (e d : ℕ) (r : Bool) : Type 0 where
  pub same : (T : Tables X Y) (N : Notes) (R E : List ℕ) → Sits K kb vb T N R E → T.entries ≡ es → Decides r ((N.entry e).setting ≡ (N.entry d).setting)

-- the same of two rows of entries
pub record RowsCompared {X Y : Type 0} (K : KeyKind) (kb : X → List ℕ) (vb : Y → List ℕ) (es : List (EntryCell X Y)) (xs ys : List ℕ) (r : Bool) : Type 0 where
  pub same :
      (T : Tables X Y) (N : Notes) (R E : List ℕ) → Sits K kb vb T N R E → T.entries ≡ es
      → Decides r (map (λ e. (N.entry e).setting) xs ≡ map (λ e. (N.entry e).setting) ys)

-- What starting a store promises. Assumes nothing.
use Rattle.std.specs.Prelude.{◌≡◌, ℕ, ◌<◌, ◌≤◌, ◌⊎◌, List, length, Ok, Err, Result}
use Rattle.std.specs.Borrow.{MutBor}
use Rattle.kinds.specs.Kinds.{KeyKind, ValueKind}
use Rattle.kinds.specs.Refusals.{refused, shown}
use Rattle.model.specs.declared.limits.TheConstants.{MOST_CELLS}
use Rattle.model.specs.Accounts.{fresh}
use Rattle.tables.specs.declared.cells.NodeCell.{NodeCell}
use Rattle.tables.specs.declared.cells.EntryCell.{EntryCell}
use Rattle.store.specs.declared.starting.NotStarted.{NotStarted}
use Rattle.store.specs.Stores.{State, Represents}

-- a table is longer than 65,535 cells: refused with 2, and the tables come back as they were
pub record GivenBack {X Y : Type 0} (cs : List NodeCell) (es : List (EntryCell X Y)) (u : NotStarted X Y) : Type 0 where
  pub number : shown u.refusal ≡ refused 2
  pub too_long : (MOST_CELLS < length cs) ⊎ (MOST_CELLS < length es)
  pub nodes : u.nodes.now ≡ cs
  pub entries : u.entries.now ≡ es

-- and by the very references that they were lent by
abbrev pub SameSlices : {X Y : Type 0} → MutBor (List NodeCell) → MutBor (List (EntryCell X Y)) → NotStarted X Y → Type 0
SameSlices cs es u = (u.nodes.ghost_name ≡ cs.ghost_name) × (u.entries.ghost_name ≡ es.ghost_name)

-- a store that stands for a new account over so many cells
pub record Begun {X Y : Type 0} (K : KeyKind) (V : ValueKind) (kb : X → List ℕ) (vb : Y → List ℕ) (cs : List NodeCell) (es : List (EntryCell X Y)) (S : State X Y) : Type 0 where
  pub few_nodes : length cs ≤ MOST_CELLS
  pub few_entries : length es ≤ MOST_CELLS
  pub account : Represents K V kb vb S (fresh (length cs) (length es))

-- of tables that were cs and es
abbrev pub New : {X Y : Type 0} → KeyKind → ValueKind → (X → List ℕ) → (Y → List ℕ) → List NodeCell → List (EntryCell X Y) → Result (State X Y) (NotStarted X Y) → Type 0
New K V kb vb cs es (Ok s) = Begun K V kb vb cs es s
New K V kb vb cs es (Err u) = GivenBack cs es u

-- The state of a new store. Assumes nothing.
use Rattle.std.specs.Prelude.{List, length, replicate}
use Rattle.model.specs.declared.limits.TheConstants.{PLACES}
use Rattle.tables.specs.declared.cells.NodeCell.{NodeCell}
use Rattle.tables.specs.declared.cells.EntryCell.{EntryCell}
use Rattle.store.specs.declared.spot.Spot.TheVariants.{Empty}
use Rattle.store.specs.Stores.{State}

-- over tables whose cells are all free, chained from the first on, with 64 empty places
abbrev pub new_state : {X Y : Type 0} → List NodeCell → List (EntryCell X Y) → State X Y
new_state cs es = record {
  tables = record { nodes = cs; free = 0; spare = length cs; entries = es; entry_free = 0; entry_spare = length es };
  places = replicate PLACES Empty;
}

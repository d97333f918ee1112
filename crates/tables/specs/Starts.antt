-- What starting does with the two tables. Assumes nothing.
use Rattle.std.specs.Prelude.{◌≡◌, ◌<◌, ◌≤◌, ◌⊎◌, List, [], length, Ok, Err, Result}
use Rattle.kinds.specs.declared.refusal.Refusal.{Refusal}
use Rattle.kinds.specs.Refusals.{refused, shown}
use Rattle.model.specs.declared.limits.TheConstants.{MOST_CELLS}
use Rattle.tables.specs.declared.cells.NodeCell.{NodeCell}
use Rattle.tables.specs.declared.cells.EntryCell.{EntryCell}
use Rattle.tables.specs.Heaps.{Nodes, Entries, Entryless}

-- every cell is free, in chains that begin at the first
pub record Formatted {K V : Type 0} (cs ds : List NodeCell) (es fs : List (EntryCell K V)) : Type 0 where
  pub nodes_long : length ds ≡ length cs
  pub entries_long : length fs ≡ length es
  pub nodes : Nodes ds 0 (length ds) []
  pub entries : Entries ds fs 0 (length fs) []
  pub entryless : Entryless ds

-- of tables that were cs and es and are now ds and fs
abbrev pub Started : {A K V : Type 0} → List NodeCell → List NodeCell → List (EntryCell K V) → List (EntryCell K V) → Result A Refusal → Type 0
Started cs ds es fs (Ok a) = (length cs ≤ MOST_CELLS) × ((length es ≤ MOST_CELLS) × Formatted cs ds es fs)
Started cs ds es fs (Err e) = (shown e ≡ refused 2) × (((MOST_CELLS < length cs) ⊎ (MOST_CELLS < length es)) × ((ds ≡ cs) × (fs ≡ es)))

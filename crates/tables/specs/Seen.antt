-- What is said of cells, a head and a count, said of the code's tables. Assumes nothing.
use Rattle.std.specs.Prelude.{ℕ, List}
use Rattle.tables.specs.declared.cells.NodeCell.{NodeCell}
use Rattle.tables.specs.declared.cells.EntryCell.{EntryCell}
use Rattle.tables.specs.declared.table.Table.{Table}
use Rattle.tables.specs.declared.both.Tables.{Tables}
use Rattle.tables.specs.Heaps.{Nodes, Entries, NodeHeld, NodeMade, NodesReleased, EntryHeld, EntryMade, EntryReleased, Released}
use Rattle.tables.specs.Walks.{EntriesReleased, Cleared}

-- a node table whose owners are R
abbrev pub NodesOf : Table NodeCell → List ℕ → Type 0
NodesOf t R = Nodes t.cells.now t.free t.spare R

-- an entry table beside the nodes cs, whose owners are R
abbrev pub EntriesOf : {K V : Type 0} → List NodeCell → Table (EntryCell K V) → List ℕ → Type 0
EntriesOf cs t R = Entries cs t.cells.now t.free t.spare R

-- of a table that was t and is now u

abbrev pub NodeIsHeld : ℕ → Table NodeCell → Table NodeCell → Type 0
NodeIsHeld i t u = NodeHeld i t.cells.now t.free t.spare u.cells.now u.free u.spare

abbrev pub NodeIsMade : ℕ → NodeCell → Table NodeCell → Table NodeCell → Type 0
NodeIsMade r new t u = NodeMade r new t.cells.now t.free t.spare u.cells.now u.free u.spare

abbrev pub NodesAreReleased : List ℕ → Table NodeCell → Table NodeCell → Type 0
NodesAreReleased xs t u = NodesReleased xs t.cells.now t.free t.spare u.cells.now u.free u.spare

abbrev pub EntryIsHeld : {K V : Type 0} → ℕ → Table (EntryCell K V) → Table (EntryCell K V) → Type 0
EntryIsHeld e t u = EntryHeld e t.cells.now t.free t.spare u.cells.now u.free u.spare

abbrev pub EntryIsMade : {K V : Type 0} → ℕ → EntryCell K V → Table (EntryCell K V) → Table (EntryCell K V) → Type 0
EntryIsMade r new t u = EntryMade r new t.cells.now t.free t.spare u.cells.now u.free u.spare

abbrev pub EntryIsReleased : {K V : Type 0} → ℕ → Table (EntryCell K V) → Table (EntryCell K V) → Type 0
EntryIsReleased e t u = EntryReleased e t.cells.now t.free t.spare u.cells.now u.free u.spare

abbrev pub EntriesAreReleased : {K V : Type 0} → List ℕ → Table (EntryCell K V) → Table (EntryCell K V) → Type 0
EntriesAreReleased xs t u = EntriesReleased xs t.cells.now t.free t.spare u.cells.now u.free u.spare

-- of the two tables, of which the one was t and is now u, the other was e and is now f

abbrev pub AreCleared : {K V : Type 0} → List ℕ → Table NodeCell → Table (EntryCell K V) → Table NodeCell → Table (EntryCell K V) → Type 0
AreCleared xs t e u f = Cleared xs t.cells.now e.cells.now e.free e.spare u.cells.now f.cells.now f.free f.spare

abbrev pub AreReleased : {K V : Type 0} → ℕ → Table NodeCell → Table (EntryCell K V) → Table NodeCell → Table (EntryCell K V) → Type 0
AreReleased r t e u f = Released r t.cells.now t.free t.spare e.cells.now e.free e.spare u.cells.now u.free u.spare f.cells.now f.free f.spare

-- of the two together

abbrev pub IsReleased : {K V : Type 0} → ℕ → Tables K V → Tables K V → Type 0
IsReleased r t u = AreReleased r t.nodes t.entries u.nodes u.entries

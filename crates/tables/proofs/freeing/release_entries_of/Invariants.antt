use Rattle.std.proofs.Common.{take}
use Rattle.tables.specs.Cells.{singles}
use Rattle.tables.specs.Walks.{EntriesReleased}
use Rattle.tables.proofs.freeing.release_entries_of.Given as goal

abbrev pub invariant-loop-entry : goal.invariant-loop-entry
invariant-loop-entry g l =
    EntriesReleased (take l.entry-index (singles l.node)) l.initial.entries.cells.now l.initial.entries.free l.initial.entries.spare
    l.entries.cells.now l.entries.free l.entries.spare

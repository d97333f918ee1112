use Rattle.tables.specs.Cells.{cell}
use Rattle.branches.specs.States.{tables_of}
use Rattle.branches.proofs.Lookups.{Unfound}
use Rattle.branches.proofs.asking.find_in_node.Given as goal

abbrev pub invariant-loop-entry : goal.invariant-loop-entry
invariant-loop-entry g l = Unfound g.K.Key.kind g.K.Coded.bytes g.V.Coded.bytes (tables_of l.fn.tables) (cell l.fn.tables.nodes.cells.now l.fn.id.0) (g.K.Coded.bytes l.fn.key) l.entry-index

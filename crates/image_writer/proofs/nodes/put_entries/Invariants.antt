use Rattle.branches.specs.States.{tables_of}
use Rattle.image_writer.proofs.Rests.{EntriesSoFar}
use Rattle.image_writer.proofs.nodes.put_entries.Given as goal

abbrev pub invariant-loop-entry : goal.invariant-loop-entry
invariant-loop-entry g l =
    EntriesSoFar g.K.Key.kind g.V.Value.kind g.K.Coded.bytes g.V.Coded.bytes (tables_of l.fn.tables) l.fn.row l.fn.out l.fn.at l.entry-index l.out l.next

use Rattle.std.proofs.Common.{length}
use Rattle.branches.proofs.Alike.{AlikeSoFar}
use Rattle.branches.proofs.comparing.same_row.Given as goal

abbrev pub invariant-loop-mine : goal.invariant-loop-mine
invariant-loop-mine g l = AlikeSoFar g.K.Key.kind g.K.Coded.bytes g.V.Coded.bytes l.fn.entries.cells.now l.fn.one l.fn.other (length l.yielded)

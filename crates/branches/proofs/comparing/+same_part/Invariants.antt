use Rattle.branches.specs.States.{tables_of}
use Rattle.branches.proofs.Alike.{AlikeBefore}
use Rattle.branches.proofs.comparing.+same_part.Given as goal

abbrev pub decreases-same_part : goal.decreases-same_part
decreases-same_part g l = l.level

abbrev pub invariant-loop-number : goal.invariant-loop-number
invariant-loop-number g l = AlikeBefore g.K.Key.kind g.K.Coded.bytes g.V.Coded.bytes (tables_of l.fn.tables) l.fn.one l.fn.other l.fn.level l.number

use Rattle.branches.specs.States.{tables_of}
use Rattle.branches.proofs.Counting.{Midway}
use Rattle.branches.proofs.asking.+count.Given as goal

abbrev pub decreases-count : goal.decreases-count
decreases-count g l = l.level

abbrev pub invariant-loop-child : goal.invariant-loop-child
invariant-loop-child g l =
    Midway g.K.Key.kind g.K.Coded.bytes g.V.Coded.bytes (tables_of l.fn.tables) l.fn.branch l.fn.level l.child-items l.child-index l.total

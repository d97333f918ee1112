use Rattle.branches.specs.States.{tables_of}
use Rattle.merges.proofs.Estimates.{Summed}
use Rattle.merges.proofs.estimating.+estimate_merge.Given as goal

abbrev pub decreases-estimate_merge : goal.decreases-estimate_merge
decreases-estimate_merge g l = l.level

abbrev pub invariant-loop-number : goal.invariant-loop-number
invariant-loop-number g l = Summed g.K.Key.kind g.V.Value.kind g.K.Coded.bytes g.V.Coded.bytes (tables_of l.tables) l.ours l.base l.theirs l.level l.number l.sum

use Rattle.branches.specs.States.{tables_of}
use Rattle.edits.specs.Sets.{value_bytes}
use Rattle.edits.proofs.Estimates.{Summed}
use Rattle.edits.proofs.estimating.+estimate_set.Given as goal

abbrev pub decreases-estimate_set : goal.decreases-estimate_set
decreases-estimate_set g l = l.level

abbrev pub invariant-loop-number : goal.invariant-loop-number
invariant-loop-number g l =
    Summed g.K.Key.kind g.V.Value.kind g.K.Coded.bytes g.V.Coded.bytes (tables_of l.tables) l.at (g.K.Coded.bytes l.key) (value_bytes g.V.Coded.bytes l.value) l.level
    l.number l.sum

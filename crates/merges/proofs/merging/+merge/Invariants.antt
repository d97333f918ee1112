use Rattle.branches.specs.States.{tables_of}
use Rattle.merges.proofs.Turns.{Underway}
use Rattle.merges.proofs.merging.+merge.Given as goal

abbrev pub decreases-merge : goal.decreases-merge
decreases-merge g l = l.level

-- the digits so far are in hand
abbrev pub invariant-loop-number : goal.invariant-loop-number
invariant-loop-number g l =
    Underway g.K.Key.kind g.V.Value.kind g.K.Coded.bytes g.V.Coded.bytes (tables_of l.initial.tables) l.ours l.base l.theirs l.level l.number l.hand (tables_of l.tables)

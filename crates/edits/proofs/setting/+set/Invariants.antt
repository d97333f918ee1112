use Rattle.branches.specs.States.{tables_of}
use Rattle.edits.specs.Sets.{value_bytes}
use Rattle.edits.specs.Turns.{Underway}
use Rattle.edits.proofs.setting.+set.Given as goal

abbrev pub decreases-set : goal.decreases-set
decreases-set g l = l.level

abbrev pub invariant-loop-number : goal.invariant-loop-number
invariant-loop-number g l =
    Underway g.K.Key.kind g.V.Value.kind g.K.Coded.bytes g.V.Coded.bytes (tables_of l.initial.tables) l.at (g.K.Coded.bytes l.key) (value_bytes g.V.Coded.bytes l.value) l.level
    l.number l.hand (tables_of l.tables)

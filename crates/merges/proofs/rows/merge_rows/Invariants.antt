use Rattle.branches.specs.States.{tables_of}
use Rattle.merges.proofs.RowHands.{RowTo}
use Rattle.merges.proofs.rows.merge_rows.Given as goal

-- the first entries of the result are in hand
abbrev pub invariant-loop-choice : goal.invariant-loop-choice
invariant-loop-choice g l =
    RowTo g.K.Key.kind g.V.Value.kind g.K.Coded.bytes g.V.Coded.bytes (tables_of l.fn.tables) l.fn.ours l.fn.base l.fn.theirs l.choice-index l.hand (tables_of l.tables)

use Rattle.edits.proofs.TakenUp.{KeptTo}
use Rattle.edits.proofs.rows.keep_row.Given as goal

-- the entries so far are held and in hand
abbrev pub invariant-loop-entry : goal.invariant-loop-entry
invariant-loop-entry g l =
    KeptTo g.K.Key.kind g.K.Coded.bytes g.V.Coded.bytes l.initial.entries.cells.now l.initial.entries.free l.initial.entries.spare l.row l.initial.all l.entry-index
    l.entries.cells.now l.entries.free l.entries.spare l.all

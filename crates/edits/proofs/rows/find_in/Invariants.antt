use Rattle.edits.proofs.Places.{Passed}
use Rattle.edits.proofs.rows.find_in.Given as goal

-- the keys so far come before this one
abbrev pub invariant-loop-j : goal.invariant-loop-j
invariant-loop-j g l = Passed g.K.Key.kind g.K.Coded.bytes g.V.Coded.bytes l.entries.cells.now l.row (g.K.Coded.bytes l.key) l.j

use Rattle.std.proofs.Common.{◌≤◌, length}
use Rattle.sovindrate.proofs.report.Account.unite_sheet.Given as goal

abbrev pub invariant-loop-i : goal.invariant-loop-i
invariant-loop-i g l = l.many ≤ length l.lines

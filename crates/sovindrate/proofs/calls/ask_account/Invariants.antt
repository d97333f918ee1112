use Rattle.std.proofs.Common.{◌≡◌, ◌++◌}
use Rattle.sovindrate.proofs.Keeping.{calls_below}
use Rattle.sovindrate.proofs.calls.ask_account.Given as goal

-- the calls about the places below this one are added
abbrev pub invariant-loop-place : goal.invariant-loop-place
invariant-loop-place g l = l.calls.items ≡ l.fn.calls.items ++ calls_below l.room l.place

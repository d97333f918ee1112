use Rattle.std.proofs.Common.{arith}
use Rattle.sovindrate.proofs.Keeping.{below_more, all_asked}
use Rattle.sovindrate.proofs.calls.ask_account.Goals as goal

pub loop-place-preserved : goal.loop-place-preserved
loop-place-preserved g c =
    below_more c.args.room c.loop-place.place c.args.calls.now.items c.loop-place.calls.items c.loop-place.invariant c.push.new.self.items
    c.push-in-loop-place.new.self.items c.in_ok-push.ensures.items c.in_ok-push-2.ensures.items

pub returns-clause-asked : goal.returns-clause-asked
returns-clause-asked g c =
    all_asked c.args.room c.loop-place.place c.args.calls.now.items c.loop-place.calls.items c.loop-place.invariant c.push-2.new.self.items (omega arith)
    c.in_ok-push-3.ensures.items

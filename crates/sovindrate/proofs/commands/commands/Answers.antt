use Rattle.std.proofs.Common.{refl}
use Rattle.sovindrate.proofs.Listing.{all_listed, onward}
use Rattle.sovindrate.proofs.commands.commands.Goals as goal

pub loop-command-preserved : goal.loop-command-preserved
loop-command-preserved g c =
    rw c.in_ok-push.ensures.items
    (onward g.K.Coded.bytes g.V.Coded.bytes c.args.bytes.now c.loop-command.rest.now c.in-Some.after.now c.loop-command.all.items _ c.loop-command.invariant refl c.in-Some.ensures)

pub returns : goal.returns
returns g c = all_listed g.K.Coded.bytes g.V.Coded.bytes 0 c.args.bytes.now c.loop-command.all.items _ _ c.loop-command.invariant.listed c.in_default.ensures

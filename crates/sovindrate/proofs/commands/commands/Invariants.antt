use Rattle.std.proofs.Common.{length}
use Rattle.sovindrate.proofs.Listing.{Going}
use Rattle.sovindrate.proofs.commands.commands.Given as goal

abbrev pub invariant-loop-command : goal.invariant-loop-command
invariant-loop-command g l = Going g.K.Coded.bytes g.V.Coded.bytes l.bytes l.all.items l.rest

abbrev pub decreases-loop-command : goal.decreases-loop-command
decreases-loop-command g l = length l.rest

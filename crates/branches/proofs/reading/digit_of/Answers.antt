use Rattle.std.proofs.Common.{◌-◌}
use Rattle.branches.proofs.Found.{shifted_digit}
use Rattle.branches.proofs.reading.digit_of.Goals as goal

pub returns : goal.returns
returns c = shifted_digit c.args.hash (8 - c.args.level)

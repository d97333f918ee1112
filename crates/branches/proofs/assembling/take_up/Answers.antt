use Rattle.std.proofs.Common.{arith}
use Rattle.std.proofs.lemmas.Nat.{ones-le}
use Rattle.branches.proofs.assembling.take_up.Goals as goal

pub bounds-next-hand : goal.bounds-next-hand
bounds-next-hand c = omega (arith, ones-le c.args.digit.number c.args.hand.datamap c.requires.data_fits, c.args.digit.small)

pub bounds-next-hand-in-Child : goal.bounds-next-hand-in-Child
bounds-next-hand-in-Child c = omega (arith, ones-le c.args.digit.number c.args.hand.nodemap c.requires.node_fits, c.args.digit.small)

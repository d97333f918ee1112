use Rattle.byte_rows.proofs.Orders.{ranked}
use Rattle.keys.proofs.path.PathKey.order.Goals as goal

pub returns : goal.returns
returns c = ranked c.args.self.now.filled c.args.other.now.filled c.cmp.result c.cmp.ensures

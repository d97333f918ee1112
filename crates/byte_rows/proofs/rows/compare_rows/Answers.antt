use Rattle.byte_rows.proofs.Orders.{ranked}
use Rattle.byte_rows.proofs.rows.compare_rows.Goals as goal

pub returns : goal.returns
returns c = ranked c.args.a.now c.args.b.now c.cmp.result c.cmp.ensures

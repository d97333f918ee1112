use Rattle.std.proofs.Common.{arith}
use Rattle.tables.proofs.NodeCounts.{inside, holders_le}
use Rattle.tables.proofs.Making.{more_held}
use Rattle.tables.proofs.nodes.hold_node.Goals as goal

pub hold-requires-clause-few : goal.hold-requires-clause-few
hold-requires-clause-few c = omega (arith, holders_le _ _ _ c.args.id.0 _ c.requires.heap.1.0, c.requires.heap.1.0.short, c.requires.heap.1.1)

pub returns : goal.returns
returns c = rw (c.hold.ensures.cells, c.hold.ensures.free, c.hold.ensures.spare) (more_held _ _ _ _ c.requires.held)

use Rattle.branches.specs.States.{tables_of}
use Rattle.image_writer.proofs.Rests.{ChildrenSoFar}
use Rattle.image_writer.proofs.nodes.+put_node.Given as goal

abbrev pub decreases-put_node : goal.decreases-put_node
decreases-put_node g l = l.level

abbrev pub invariant-loop-child : goal.invariant-loop-child
invariant-loop-child g l =
    ChildrenSoFar g.K.Key.kind g.V.Value.kind g.K.Coded.bytes g.V.Coded.bytes (tables_of l.fn.tables) l.fn.level l.fn.id.0 l.child-items l.fn.out l.fn.at l.child-index l.out l.next

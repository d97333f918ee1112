use Rattle.branches.specs.States.{tables_of}
use Rattle.image_writer.proofs.Measures.{Measuring}
use Rattle.image_writer.proofs.lengths.+node_length.Given as goal

abbrev pub decreases-node_length : goal.decreases-node_length
decreases-node_length g l = l.level

abbrev pub invariant-loop-child : goal.invariant-loop-child
invariant-loop-child g l =
    Measuring g.K.Key.kind g.V.Value.kind g.K.Coded.bytes g.V.Coded.bytes (tables_of l.fn.tables) l.fn.level l.fn.id.0 l.child-items l.child-index l.length

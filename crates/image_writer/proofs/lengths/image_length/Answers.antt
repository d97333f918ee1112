use Rattle.std.proofs.Common.{arith}
use Rattle.branches.proofs.Counting.{few_as}
use Rattle.image_writer.proofs.Measures.{long_fits}
use Rattle.image_writer.proofs.Roots.{image_measured}
use Rattle.image_writer.proofs.lengths.image_length.Goals as goal

pub overflow_add-result : goal.overflow_add-result
overflow_add-result g c =
    omega (
      arith,
      long_fits _ g.V.Value.kind _ _ _
          g.met.K.Key.readable g.met.V.Value.readable
          _ _ _ (few_as _ _ _ _ _ _ _ c.in-Child.is c.requires) c.node_length.ensures,
    )

pub returns-in-Child : goal.returns-in-Child
returns-in-Child g c = image_measured _ _ _ _ _ _ c.in-Child.is g.V.Value.kind _ c.node_length.ensures

use Rattle.std.proofs.Common.{◌∙◌, arith}
use Rattle.image_writer.proofs.Measures.{singles_small, measuring_level, measuring_few, measuring_fits, measuring_more, measuring_all}
use Rattle.image_writer.proofs.lengths.+node_length.Goals as goal
use Rattle.image_writer.proofs.lengths.+node_length.Goals.{then-level-eq0, else-level-eq0}

pub overflow_mul-length : goal.overflow_mul-length
overflow_mul-length g t c =
    omega (arith, singles_small _ g.V.Value.kind _ _ _ _ _ _ c.WIDTH.result c.WIDTH-2.result c.requires c.singles.ensures (c.WIDTH.ensures ∙ g.met.K.Key.coded.1) (c.WIDTH-2.ensures ∙ g.met.V.Value.coded.1))

pub overflow_add-length : goal.overflow_add-length
overflow_add-length g t c =
    let entries = singles_small _ g.V.Value.kind _ _ _ _ _ _ c.WIDTH.result c.WIDTH-2.result c.requires c.singles.ensures (c.WIDTH.ensures ∙ g.met.K.Key.coded.1) (c.WIDTH-2.ensures ∙ g.met.V.Value.coded.1) in
    elim c.if-level-eq0.branch [ then-level-eq0 w ↦ omega (arith, entries) | else-level-eq0 w ↦ omega (arith, entries) ]

pub node_length-length-requires : goal.node_length-length-requires
node_length-length-requires g t c κs within = (
  omega (arith, measuring_level _ _ _ _ _ _ _ _ _ _ c.loop-child.invariant (omega arith) c.requires, c.decreases),
  (within.0, (within.1, measuring_few _ _ _ _ _ _ _ _ _ _ c.loop-child.invariant (omega arith) c.requires)),
)

pub overflow_add-length-in-loop-child : goal.overflow_add-length-in-loop-child
overflow_add-length-in-loop-child g t c =
    omega (
      arith,
      measuring_fits _ _ _ _ _ _ _ _ _ _ c.loop-child.invariant (omega arith) c.requires
          g.met.K.Key.readable g.met.V.Value.readable
          _ c.node_length-length.ensures,
    )

pub loop-child-preserved : goal.loop-child-preserved
loop-child-preserved g t c = measuring_more _ _ _ _ _ _ _ _ _ _ c.loop-child.invariant (omega arith) _ c.node_length-length.ensures

pub returns : goal.returns
returns g t c =
    measuring_all _ _ _ _ _ _ _ _ _ _ c.loop-child.invariant
    g.met.K.Key.readable g.met.V.Value.readable
    (omega arith)

use Rattle.std.proofs.Common.{refl, arith}
use Rattle.image_writer.proofs.Rests.{singles_fit, children_none, child_level, child_fits, children_more, children_all}
use Rattle.image_writer.proofs.nodes.+put_node.Goals as goal

pub put_entries-next-requires : goal.put_entries-next-requires
put_entries-next-requires g t c =
    singles_fit _ _ _ _ _
    g.met.K.Key.readable g.met.V.Value.readable
    _ _ _ _ c.requires _ _ _ _ c.singles.ensures refl c.put_head-entries_at.ensures

pub loop-child-init : goal.loop-child-init
loop-child-init g t c = children_none _ _ _ _ _ _ _ _ _ _ _ _ _ _ _ c.kids-child-items.ensures c.singles.ensures c.put_head-entries_at.ensures c.put_entries-next.ensures

pub put_node-next-requires : goal.put_node-next-requires
put_node-next-requires g t c κs within = (
  omega (arith, child_level _ _ _ _ _ _ _ _ _ _ _ _ _ c.loop-child.invariant (omega arith) c.requires.some, c.decreases),
  (
    within.0,
    (
      within.1,
      child_fits _ _ _ _ _ _ _ _ _ _ _ _ _ c.loop-child.invariant (omega arith)
          g.met.K.Key.readable g.met.V.Value.readable
          c.requires,
    ),
  ),
)

pub loop-child-preserved : goal.loop-child-preserved
loop-child-preserved g t c = children_more _ _ _ _ _ _ _ _ _ _ _ _ _ c.loop-child.invariant (omega arith) _ _ c.put_node-next.ensures

pub returns : goal.returns
returns g t c =
    children_all _ _ _ _ _ _ _ _ _ _ _ _ _ c.loop-child.invariant
    g.met.K.Key.readable g.met.V.Value.readable
    (omega arith)

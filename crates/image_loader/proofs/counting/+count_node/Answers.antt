use Rattle.std.proofs.Common.{◌∙◌, arith}
use Rattle.image_loader.proofs.Nodes.{head_fits, head_read}
use Rattle.image_loader.proofs.Tallies.{entries_inside, counting_none, counting_child}
use Rattle.image_loader.proofs.Tallies.{counting_more, counting_fits, counting_whole}
use Rattle.image_loader.proofs.counting.+count_node.Goals as goal

pub read_head-datamap-requires-clause-inside : goal.read_head-datamap-requires-clause-inside
read_head-datamap-requires-clause-inside g t c = head_fits c.requires

pub skip-requires : goal.skip-requires
skip-requires g t c =
    let s = c.read_head-datamap.new.reader in
    let h = c.read_head-datamap.ensures in
    let key = c.WIDTH.ensures ∙ g.met.K.Key.coded.1 in
    let value = c.WIDTH-2.ensures ∙ g.met.V.Value.coded.1 in
    entries_inside (λ q. head_read q _ _ s h.entries h.children h.image h.onward)
    (omega (arith, key, value)) c.requires

pub loop-child-init : goal.loop-child-init
loop-child-init g t c =
    let s = c.read_head-datamap.new.reader in
    let h = c.read_head-datamap.ensures in
    let key = c.WIDTH.ensures ∙ g.met.K.Key.coded.1 in
    let value = c.WIDTH-2.ensures ∙ g.met.V.Value.coded.1 in
    counting_none (λ q. head_read q _ _ s h.entries h.children h.image h.onward)
    (omega (arith, key, value)) _ c.skip.ensures.image c.skip.ensures.onward

pub count_node-below-requires : goal.count_node-below-requires
count_node-below-requires g t c κs within =
    let child = counting_child c.loop-child.invariant c.loop-child-test.true c.requires in
    (omega (arith, c.decreases, child.1), (within.0, (within.1, child.0)))

pub overflow_add-cells : goal.overflow_add-cells
overflow_add-cells g t c =
    let I = c.loop-child.invariant in
    omega (arith, (counting_fits I c.loop-child-test.true c.count_node-below.ensures c.requires).0)

pub overflow_add-cells-in-loop-child : goal.overflow_add-cells-in-loop-child
overflow_add-cells-in-loop-child g t c =
    let I = c.loop-child.invariant in
    omega (arith, (counting_fits I c.loop-child-test.true c.count_node-below.ensures c.requires).1)

pub loop-child-preserved : goal.loop-child-preserved
loop-child-preserved g t c =
    counting_more c.loop-child.invariant c.loop-child-test.true c.count_node-below.ensures

pub returns : goal.returns
returns g t c = counting_whole c.loop-child.invariant c.loop-child-test.false

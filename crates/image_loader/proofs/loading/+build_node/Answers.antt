use Rattle.std.proofs.Common.{rules, refl, arith}
use Rattle.image_loader.proofs.Nodes.{head_fits, head_read}
use Rattle.image_loader.proofs.Building.{building_none, building_make, building_entry}
use Rattle.image_loader.proofs.Building.{building_may, building_child, building_ready, building_done}
use Rattle.image_loader.proofs.loading.+build_node.Goals as goal

pub read_head-datamap-requires-clause-inside : goal.read_head-datamap-requires-clause-inside
read_head-datamap-requires-clause-inside g t c = head_fits c.requires.node

pub loop-rank-init : goal.loop-rank-init
loop-rank-init g t c =
    let s = c.read_head-datamap.new.reader in
    let h = c.read_head-datamap.ensures in
    building_none (λ q. head_read q _ _ s h.entries h.children h.image h.onward) _ c.empty.ensures

pub build_entry-requires : goal.build_entry-requires
build_entry-requires g t c =
    building_make c.loop-rank.tables c.loop-rank.invariant c.loop-rank-test.true c.requires

pub loop-rank-preserved : goal.loop-rank-preserved
loop-rank-preserved g t c =
    building_entry c.loop-rank.tables c.loop-rank.invariant c.loop-rank-test.true
    c.build_entry.ensures (search rules)

pub build_node-requires : goal.build_node-requires
build_node-requires g t c κs within =
    let I = c.loop-rank-2.invariant in
    let child = building_may I (omega arith) c.loop-rank-2-test.true c.requires in
    (omega (arith, c.decreases, child.1), (within.0, (within.1, child.0)))

pub loop-rank-2-preserved : goal.loop-rank-2-preserved
loop-rank-2-preserved g t c =
    building_child c.loop-rank-2.invariant (omega arith) c.loop-rank-2-test.true
    c.build_node.ensures (search rules)

pub make_node-requires-clause-some : goal.make_node-requires-clause-some
make_node-requires-clause-some g t c =
    (building_ready c.loop-rank-2.invariant (omega arith) c.loop-rank-2-test.false c.requires).0

pub make_node-requires-clause-heap : goal.make_node-requires-clause-heap
make_node-requires-clause-heap g t c =
    (building_ready c.loop-rank-2.invariant (omega arith) c.loop-rank-2-test.false c.requires).1.0

pub make_node-requires-clause-below : goal.make_node-requires-clause-below
make_node-requires-clause-below g t c =
    (building_ready c.loop-rank-2.invariant (omega arith) c.loop-rank-2-test.false c.requires).1.1

pub returns : goal.returns
returns g t c =
    building_done c.loop-rank-2.invariant (omega arith) c.loop-rank-2-test.false
    c.make_node.ensures (refl, refl, refl)

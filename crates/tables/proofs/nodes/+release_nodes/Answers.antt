use Rattle.std.proofs.Common.{arith}
use Rattle.tables.proofs.Chains.{spare_le}
use Rattle.tables.proofs.NodeCounts.{rooted, inside}
use Rattle.tables.proofs.Releasing.{fewer_released, released_none, kid_level, kid_nodes, kid_released, all_released}
use Rattle.tables.proofs.nodes.+release_nodes.Goals as goal

pub bounds-nodes-id : goal.bounds-nodes-id
bounds-nodes-id t c = inside _ _ (rooted _ _ _ _ _ c.requires.1)

pub let_go-requires-clause-inside : goal.let_go-requires-clause-inside
let_go-requires-clause-inside t c = inside _ _ (rooted _ _ _ _ _ c.requires.1)

pub let_go-requires-clause-few : goal.let_go-requires-clause-few
let_go-requires-clause-few t c = omega (arith, spare_le _ _ _ _ _ c.requires.1.chain, c.requires.1.short)

pub loop-child-init : goal.loop-child-init
loop-child-init t c =
    let f = c.let_go.ensures.freed c.if-let_go.true in
    rw (f.1.0, f.1.1.0, f.1.1.1) (released_none _ _ _)

pub release_nodes-requires : goal.release_nodes-requires
release_nodes-requires t c =
    let held = rooted _ _ _ _ _ c.requires.1 in
    let last = (c.let_go.ensures.freed c.if-let_go.true).0 in
    let now = c.loop-child.invariant in (
      omega (arith, kid_level _ _ _ _ held last _ c.kids-child-items.ensures _ _ _ _ now _ c.requires.1 (omega arith), c.decreases),
      (_, kid_nodes _ _ _ _ held last _ c.kids-child-items.ensures _ _ _ _ now _ c.requires.1 (omega arith)),
    )

pub loop-child-preserved : goal.loop-child-preserved
loop-child-preserved t c =
    kid_released _ _ _ _ (rooted _ _ _ _ _ c.requires.1) (c.let_go.ensures.freed c.if-let_go.true).0
    _ c.kids-child-items.ensures _ _ _ _ c.loop-child.invariant _ _ _ (omega arith) c.release_nodes.ensures

pub returns-after-loop-child : goal.returns-after-loop-child
returns-after-loop-child t c =
    all_released _ _ _ _ (rooted _ _ _ _ _ c.requires.1) (c.let_go.ensures.freed c.if-let_go.true).0
    _ c.kids-child-items.ensures _ _ _ _ c.loop-child.invariant (omega arith)

pub returns-else-let_go : goal.returns-else-let_go
returns-else-let_go t c =
    let f = c.let_go.ensures.shared c.if-let_go.false in
    rw (f.1.0, f.1.1.0, f.1.1.1) (fewer_released _ _ _ _ f.0)

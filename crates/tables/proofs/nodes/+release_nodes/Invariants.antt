use Rattle.std.proofs.Common.{◌+◌, take, set}
use Rattle.tables.specs.Cells.{cell}
use Rattle.tables.specs.Heaps.{NodesReleased}
use Rattle.tables.proofs.Releasing.{freed}
use Rattle.tables.proofs.nodes.+release_nodes.Given as goal

abbrev pub decreases-release_nodes : goal.decreases-release_nodes
decreases-release_nodes l = (cell l.nodes.now.cells.now l.id.0).level

abbrev pub invariant-loop-child : goal.invariant-loop-child
invariant-loop-child l =
    let was = l.fn.nodes in
    let number = l.fn.id.0 in
    NodesReleased (take l.child-index l.child-items) (set was.cells.now number (freed (cell was.cells.now number) was.free)) number (was.spare + 1)
    l.nodes.cells.now l.nodes.free l.nodes.spare

use Rattle.std.proofs.Common.{count_ones}
use Rattle.image_loader.proofs.Tallies.{Counting}
use Rattle.image_loader.proofs.counting.+count_node.Given as goal

abbrev pub decreases-count_node : goal.decreases-count_node
decreases-count_node g l = l.height

-- the entries and the children so far are counted
abbrev pub invariant-loop-child : goal.invariant-loop-child
invariant-loop-child g l =
    Counting g.K.Key.kind g.V.Value.kind l.fn.reader l.fn.height (count_ones l.nodemap) l._child
    l.cells l.reader

use Rattle.std.proofs.Common.{count_ones}
use Rattle.branches.specs.States.{tables_of}
use Rattle.image_loader.proofs.Building.{Building}
use Rattle.image_loader.proofs.loading.+build_node.Given as goal

abbrev pub decreases-build_node : goal.decreases-build_node
decreases-build_node g l = l.height

-- the entries so far are in their slots
abbrev pub invariant-loop-rank : goal.invariant-loop-rank
invariant-loop-rank g l =
    Building g.K.Key.kind g.V.Value.kind g.K.Coded.bytes g.V.Coded.bytes (tables_of l.fn.tables)
    l.fn.reader l.fn.height l.datamap l.nodemap l.rank 0 l.node l.reader (tables_of l.tables)

-- the entries are, and the children so far
abbrev pub invariant-loop-rank-2 : goal.invariant-loop-rank-2
invariant-loop-rank-2 g l =
    Building g.K.Key.kind g.V.Value.kind g.K.Coded.bytes g.V.Coded.bytes (tables_of l.fn.tables)
    l.fn.reader l.fn.height l.datamap l.nodemap (count_ones l.datamap) l.rank l.node l.reader
    (tables_of l.tables)

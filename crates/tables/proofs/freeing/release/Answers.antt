use Rattle.std.proofs.Common.{arith}
use Rattle.tables.proofs.Clearing.{more_spare, entries_stay, given_up}
use Rattle.tables.proofs.freeing.release.Goals as goal

pub overflow_sub-freed : goal.overflow_sub-freed
overflow_sub-freed g c = more_spare _ _ _ _ c.args.entries.now.cells.now 0 0 _ _ _ c.release_nodes.ensures _ c.requires.nodes.1

pub clear_freed-requires-clause-heap : goal.clear_freed-requires-clause-heap
clear_freed-requires-clause-heap g c = (_, ((c.release_nodes.ensures.nodes _ c.requires.nodes.1).0, omega arith))

pub clear_freed-requires-clause-entries : goal.clear_freed-requires-clause-entries
clear_freed-requires-clause-entries g c = (_, entries_stay _ _ _ _ _ _ _ _ _ _ c.release_nodes.ensures _ c.requires.entries.1)

pub returns : goal.returns
returns g c =
    rw (c.clear_freed.ensures.chain.0, c.clear_freed.ensures.chain.1)
    (given_up _ _ _ _ _ _ _ _ _ _ c.release_nodes.ensures _ _ _ _ c.clear_freed.ensures.cleared _ c.requires.nodes.1)

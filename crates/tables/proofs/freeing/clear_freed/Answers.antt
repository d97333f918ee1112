use Rattle.std.proofs.Common.{refl, sym, ◌∙◌, arith}
use Rattle.tables.proofs.Walking.{walk_none, after_none}
use Rattle.tables.proofs.Clearing.{none_cleared, step_inside, one_step, step_on}
use Rattle.tables.proofs.freeing.clear_freed.Goals as goal

pub loop-init : goal.loop-init
loop-init g c = (refl, (refl, (sym (after_none _ _), rw walk_none (none_cleared _ _ _ _))))

pub clear_cell-at-requires-clause-inside : goal.clear_cell-at-requires-clause-inside
clear_cell-at-requires-clause-inside g c =
    let now = c.loop.invariant.1.1 in
    omega (arith, now.0, step_inside _ _ _ _ c.requires.heap.1.0 c.loop.counter (omega (arith, c.requires.heap.1.1)), now.1.nodes_long)

pub clear_cell-at-requires-clause-heap : goal.clear_cell-at-requires-clause-heap
clear_cell-at-requires-clause-heap g c = (_, c.loop.invariant.1.1.1.entries _ c.requires.entries.1)

pub loop-preserved : goal.loop-preserved
loop-preserved g c =
    let now = c.loop.invariant.1.1 in (
      c.clear_cell-at.ensures.chain.0 ∙ c.loop.invariant.0,
      (
        c.clear_cell-at.ensures.chain.1 ∙ c.loop.invariant.1.0,
        (
          c.clear_cell-at.ensures.next ∙ step_on _ _ _ _ now.0 _ _ _ _ _ _ _ now.1,
          one_step _ _ _ _ now.0 _ _ _ _ _ _ _ now.1 _ _ _ _ c.clear_cell-at.ensures.cleared,
        ),
      ),
    )

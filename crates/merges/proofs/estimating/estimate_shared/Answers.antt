use Rattle.merges.proofs.Cells.{two_parts, two_swapped, told_same, told_theirs, told_ours}
use Rattle.merges.proofs.estimating.estimate_shared.Goals as goal

pub returns-then-same_cell : goal.returns-then-same_cell
returns-then-same_cell g c = told_same _ _ _ _ _ _ _ _ _ c.requires.low _ (c.same_cell.ensures.0 c.if-same_cell.true) c.of_kept.ensures

pub same_part-requires : goal.same_part-requires
same_part-requires g c = two_parts _ _ _ _ _ _ _ _ _ c.requires.met

pub returns-then-same_cell-2 : goal.returns-then-same_cell-2
returns-then-same_cell-2 g c =
    told_theirs _ _ _ _ _ _ _ _ _ c.requires.low _ (c.same_cell-2.ensures.0 c.if-same_cell-2.true) c.of_kept-then-same_cell-2.ensures _ c.same_part.ensures

pub same_part-requires-then-same_cell-3 : goal.same_part-requires-then-same_cell-3
same_part-requires-then-same_cell-3 g c = two_swapped _ _ _ _ _ _ _ _ _ c.requires.met

pub returns-then-same_cell-3 : goal.returns-then-same_cell-3
returns-then-same_cell-3 g c =
    told_ours _ _ _ _ _ _ _ _ _ c.requires.low _ (c.same_cell-3.ensures.0 c.if-same_cell-3.true) c.of_kept-then-same_cell-3.ensures _ c.same_part-then-same_cell-3.ensures

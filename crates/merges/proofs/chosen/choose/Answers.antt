use Rattle.merges.proofs.Walks.{walk_begins, walk_on}
use Rattle.merges.proofs.chosen.choose.Goals as goal

pub loop-head-init : goal.loop-head-init
loop-head-init g c = walk_begins g.K.Key.kind g.V.Value.kind g.K.Coded.bytes g.V.Coded.bytes _ _ _ _ c.requires.order c.requires.ours c.requires.theirs c.requires.few _ c.of_nothing-chosen.ensures

pub loop-head-preserved : goal.loop-head-preserved
loop-head-preserved g c =
    walk_on g.K.Key.kind g.V.Value.kind g.K.Coded.bytes g.V.Coded.bytes _ _ _ _ c.requires.order _ _ _ c.loop-head.invariant _ _ _ c.in-Some.ensures
    (g.met.K.Key.readable c.in-Some.head.key) _ _ _ c.split_row-common.ensures _ c.decide.ensures _ c.and-chosen.ensures _ _ c.past-mine.ensures c.past-other.ensures

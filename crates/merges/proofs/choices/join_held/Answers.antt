use Rattle.std.proofs.lemmas.Bool.{both_ways}
use Rattle.merges.proofs.Decisions.{join_ours, join_theirs, join_new}
use Rattle.merges.proofs.choices.join_held.Goals as goal

pub returns-then-same : goal.returns-then-same
returns-then-same g c =
    join_ours g.K.Key.kind g.K.Coded.bytes g.V.Coded.bytes _ g.V.Value.kind _ _ _ _ c.setting_of-mine.ensures _ _ c.setting_of-other.ensures _ c.join-joined.ensures c.requires.apart
    (c.same.ensures.0 c.if-same.true) _ c.as_ours.ensures

pub returns-then-same-2 : goal.returns-then-same-2
returns-then-same-2 g c =
    join_theirs g.K.Key.kind g.K.Coded.bytes g.V.Coded.bytes _ g.V.Value.kind _ _ _ _ c.setting_of-mine.ensures _ _ c.setting_of-other.ensures _ c.join-joined.ensures c.requires.apart
    (c.same-else-same.ensures.0 c.if-same-2.true) _ c.as_theirs.ensures

pub returns-else-same-2 : goal.returns-else-same-2
returns-else-same-2 g c =
    join_new g.K.Key.kind g.K.Coded.bytes g.V.Coded.bytes _ g.V.Value.kind _ _ _ _ c.setting_of-mine.ensures _ _ c.setting_of-other.ensures _ c.join-joined.ensures c.requires.apart
    (λ w. both_ways _ c.if-same.false (c.same.ensures.1 w)) (λ w. both_ways _ c.if-same-2.false (c.same-else-same.ensures.1 w))

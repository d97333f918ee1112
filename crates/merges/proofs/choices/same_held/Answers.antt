use Rattle.merges.proofs.Decisions.{same_both}
use Rattle.merges.proofs.choices.same_held.Goals as goal

pub returns-in-Some-Some : goal.returns-in-Some-Some
returns-in-Some-Some g c = same_both g.K.Key.kind g.K.Coded.bytes g.V.Coded.bytes _ _ _ _ _ c.in-Some-Some.is-0 c.in-Some-Some.is-1 _ _ c.setting_of-mine.ensures _ _ c.setting_of-theirs.ensures _ c.same.ensures

use Rattle.edits.proofs.RowEstimates.{same_both}
use Rattle.edits.proofs.rows.same_value.Goals as goal

pub returns-in-Some-Some : goal.returns-in-Some-Some
returns-in-Some-Some g c = same_both g.K.Key.kind g.K.Coded.bytes g.V.Coded.bytes _ _ _ _ c.in-Some-Some.is-0 _ c.in-Some-Some.is-1 _ _ c.setting_of-old.ensures _ c.same.ensures

use Rattle.edits.proofs.Places.{passed_more, placed_here, placed_before}
use Rattle.edits.proofs.rows.find_in.Goals as goal

pub returns-in-Equal-clause-place : goal.returns-in-Equal-clause-place
returns-in-Equal-clause-place g c = placed_here g.K.Coded.bytes g.V.Coded.bytes _ _ _ _ _ c.loop-j-test.true c.loop-j.invariant _ _ c.setting_of-other.ensures c.in-Equal.ensures

pub returns-in-Greater-clause-place : goal.returns-in-Greater-clause-place
returns-in-Greater-clause-place g c = placed_before g.K.Coded.bytes g.V.Coded.bytes _ _ _ _ _ c.loop-j-test.true c.loop-j.invariant _ _ c.setting_of-other.ensures c.in-Greater.ensures

pub loop-j-preserved : goal.loop-j-preserved
loop-j-preserved g c = passed_more g.K.Coded.bytes g.V.Coded.bytes _ _ _ _ _ c.loop-j-test.true c.loop-j.invariant _ _ c.setting_of-other.ensures c.in-Less.ensures

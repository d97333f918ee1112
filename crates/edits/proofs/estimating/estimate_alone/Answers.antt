use Rattle.edits.proofs.Singles.{estimated_alone}
use Rattle.edits.proofs.estimating.estimate_alone.Goals as goal

pub returns : goal.returns
returns g c = estimated_alone _ _ _ _ _ _ _ c.has_already-same.ensures _ c.is_some-some.ensures _ c.from.ensures _ c.of_row.ensures

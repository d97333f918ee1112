use Rattle.edits.proofs.Singles.{same_entry}
use Rattle.edits.proofs.estimating.has_already.Goals as goal

pub returns-in-Entry : goal.returns-in-Entry
returns-in-Entry g c = same_entry _ _ _ _ _ _ _ _ c.in-Entry.is c.same_value-in-Entry.ensures

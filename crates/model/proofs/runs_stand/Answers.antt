use Rattle.model.proofs.Promises.{laws}
use Rattle.model.proofs.runs_stand.Goals as goal

pub returns : goal.returns
returns g c = laws g.K.Key.kind g.V.Value.kind

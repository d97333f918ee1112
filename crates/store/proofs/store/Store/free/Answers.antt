use Rattle.store.proofs.Answering.{asked_inside, free_answered}
use Rattle.store.proofs.store.Store.free.Goals as goal

pub returns : goal.returns
returns g c = asked_inside c.self.view_is (free_answered _ _ _ _ _)

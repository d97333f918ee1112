use Rattle.store.proofs.Steps.{child_given_up}
use Rattle.store.proofs.roots.give_up.Goals as goal

pub returns-in-Child : goal.returns-in-Child
returns-in-Child g c = child_given_up c.args.root c.in-Child.id _ _ c.in-Child.is c.release.ensures

use Rattle.std.proofs.Common.{refl}
use Rattle.store.proofs.Answering.{live_inside}
use Rattle.store.proofs.Ended.{live_apart, cleared_started}
use Rattle.store.proofs.store.Store.clear.Goals as goal

pub give_up-requires-clause-nodes : goal.give_up-requires-clause-nodes
give_up-requires-clause-nodes g c = live_apart _ _ _ _ _ c.args.place _ c.self.invariant c.requires.inside (live_inside _ c.self.view_is c.requires.live)

pub invariant_of-self : goal.invariant_of-self
invariant_of-self g c = cleared_started _ _ _ _ _ c.args.place _ c.requires.inside _ c.give_up.ensures refl (live_inside _ c.self.view_is c.requires.live) c.self.invariant

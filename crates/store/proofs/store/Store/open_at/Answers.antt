use Rattle.std.proofs.Common.{refl}
use Rattle.model.specs.Calls.{Open}
use Rattle.store.proofs.Answering.{spot_inside, answered_inside, still_started}
use Rattle.store.proofs.Unwanted.{taken}
use Rattle.store.proofs.Drafted.{opened}
use Rattle.store.proofs.store.Store.open_at.Goals as goal

pub returns-in_err-empty_at-clause-answered : goal.returns-in_err-empty_at-clause-answered
returns-in_err-empty_at-clause-answered g c =
    taken g.K.Key.kind g.V.Value.kind _ _ _ (Open c.args.place) tt c.args.place _ _ _ c.from_residual.ensures.1 _ (λ a _. refl) c.in_err-empty_at.ensures

pub invariant_of-self : goal.invariant_of-self
invariant_of-self g c = let h = c.in_ok-empty_at.ensures in still_started c.self.invariant (opened _ _ _ _ _ _ h.0 (spot_inside _ c.self.view_is h.1))

pub returns-clause-answered : goal.returns-clause-answered
returns-clause-answered g c = let h = c.in_ok-empty_at.ensures in answered_inside c.self.view_is (opened _ _ _ _ _ _ h.0 (spot_inside _ c.self.view_is h.1))

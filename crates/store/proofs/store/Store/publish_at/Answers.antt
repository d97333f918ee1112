use Rattle.std.proofs.Common.{refl}
use Rattle.model.specs.Calls.{Publish}
use Rattle.store.proofs.Answering.{spot_inside, answered_inside, still_started}
use Rattle.store.proofs.Unwanted.{undrafted}
use Rattle.store.proofs.Ended.{made_public}
use Rattle.store.proofs.store.Store.publish_at.Goals as goal

pub returns-in_err-root : goal.returns-in_err-root
returns-in_err-root g c =
    undrafted g.K.Key.kind g.V.Value.kind _ _ _ (Publish c.args.place) tt c.args.place _ _ _ c.from_residual.ensures.1 _ (λ a _. refl) c.in_err-root.ensures

pub invariant_of-self : goal.invariant_of-self
invariant_of-self g c = let h = c.in_ok-root.ensures in still_started c.self.invariant (made_public _ _ _ _ _ _ _ h.0 (spot_inside _ c.self.view_is h.1))

pub returns : goal.returns
returns g c = let h = c.in_ok-root.ensures in answered_inside c.self.view_is (made_public _ _ _ _ _ _ _ h.0 (spot_inside _ c.self.view_is h.1))

use Rattle.std.proofs.Common.{refl}
use Rattle.model.specs.Calls.{Count}
use Rattle.store.proofs.Answering.{live_inside, asked_inside}
use Rattle.store.proofs.Unwanted.{unlive}
use Rattle.store.proofs.Asked.{asked_few, counts}
use Rattle.store.proofs.store.Store.count.Goals as goal

pub returns-in_err-live_at : goal.returns-in_err-live_at
returns-in_err-live_at g c =
    unlive g.K.Key.kind g.V.Value.kind _ _ _ (Count c.args.place) tt c.args.place _ _ _ c.from_residual.ensures.1 _ (λ a _. refl) c.in_err-live_at.ensures

pub count-requires : goal.count-requires
count-requires g c = asked_few _ _ _ _ _ _ _ (live_inside _ c.self.view_is c.in_ok-live_at.ensures.1) c.self.invariant

pub returns : goal.returns
returns g c = let h = c.in_ok-live_at.ensures in asked_inside c.self.view_is (counts _ _ _ _ _ _ h.0 _ (live_inside _ c.self.view_is h.1) _ c.count.ensures)

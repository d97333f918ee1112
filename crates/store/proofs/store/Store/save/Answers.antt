use Rattle.std.proofs.Common.{length, refl}
use Rattle.model.specs.Calls.{Save}
use Rattle.store.proofs.Answering.{live_inside, asked_inside}
use Rattle.store.proofs.Unwanted.{unlive}
use Rattle.store.proofs.Asked.{asked_few}
use Rattle.store.proofs.Saves.{save_keeps, saves}
use Rattle.store.proofs.store.Store.save.Goals as goal

pub returns-in_err-live_at-clause-answered : goal.returns-in_err-live_at-clause-answered
returns-in_err-live_at-clause-answered g c =
    unlive g.K.Key.kind g.V.Value.kind _ _ _ (Save c.args.place (length c.args.out.now)) tt c.args.place _ _ _ c.from_residual.ensures.1 _ (λ a _. refl) c.in_err-live_at.ensures

pub save-requires : goal.save-requires
save-requires g c = asked_few _ _ _ _ _ _ _ (live_inside _ c.self.view_is c.in_ok-live_at.ensures.1) c.self.invariant

pub returns-clause-answered : goal.returns-clause-answered
returns-clause-answered g c =
    let h = c.in_ok-live_at.ensures in asked_inside c.self.view_is (saves _ _ _ _ _ _ _ (live_inside _ c.self.view_is h.1) _ _ _ c.save.ensures h.0)

pub returns-clause-buffer : goal.returns-clause-buffer
returns-clause-buffer g c =
    save_keeps _ _ _ _ _ _ _ (live_inside _ c.self.view_is c.in_ok-live_at.ensures.1) _ _ _ c.save.ensures c.self.invariant

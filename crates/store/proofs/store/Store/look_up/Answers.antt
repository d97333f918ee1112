use Rattle.std.proofs.Common.{refl}
use Rattle.model.specs.Calls.{LookUp}
use Rattle.store.proofs.Answering.{live_inside, asked_inside}
use Rattle.store.proofs.Unwanted.{unlive}
use Rattle.store.proofs.Asked.{asked_part, looked}
use Rattle.store.proofs.store.Store.look_up.Goals as goal

pub returns-in_err-live_at : goal.returns-in_err-live_at
returns-in_err-live_at g c =
    unlive g.K.Key.kind g.V.Value.kind _ _ _ (LookUp c.args.place (g.K.Coded.bytes c.args.key.now)) (g.met.K.Key.readable c.args.key.now) c.args.place _ _ _
    c.from_residual.ensures.1 _ (λ a _. refl) c.in_err-live_at.ensures

pub look_up-requires : goal.look_up-requires
look_up-requires g c = asked_part _ _ _ _ _ _ _ (live_inside _ c.self.view_is c.in_ok-live_at.ensures.1) c.self.invariant

pub returns : goal.returns
returns g c =
    let h = c.in_ok-live_at.ensures in
    asked_inside c.self.view_is (looked _ _ _ _ _ _ _ (g.met.K.Key.readable c.args.key.now) h.0 _ (live_inside _ c.self.view_is h.1) _ c.look_up.ensures)

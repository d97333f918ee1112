use Rattle.std.proofs.Common.{refl}
use Rattle.model.specs.Calls.{Abandon}
use Rattle.store.proofs.Unwanted.{undrafted}
use Rattle.store.proofs.Ended.{abandoned}
use Rattle.store.proofs.store.Store.abandon_at.Goals as goal

pub returns-in_err-root : goal.returns-in_err-root
returns-in_err-root g c =
    undrafted g.K.Key.kind g.V.Value.kind _ _ _ (Abandon c.args.place) tt c.args.place _ _ _ c.from_residual.ensures.1 _ (λ a _. refl) c.in_err-root.ensures

pub returns : goal.returns
returns g c = let h = c.in_ok-root.ensures in abandoned _ _ _ _ _ _ _ h.0 _ c.clear.ensures.tables c.clear.ensures.places h.1

use Rattle.std.proofs.Common.{refl}
use Rattle.model.specs.Calls.{Retire}
use Rattle.store.proofs.Unwanted.{unpublished}
use Rattle.store.proofs.Ended.{retired}
use Rattle.store.proofs.store.Store.retire.Goals as goal

pub returns-in_err-version : goal.returns-in_err-version
returns-in_err-version g c =
    unpublished g.K.Key.kind g.V.Value.kind _ _ _ (Retire c.args.place) tt c.args.place _ _ _ c.from_residual.ensures.1 _ (λ a _. refl) c.in_err-version.ensures

pub returns : goal.returns
returns g c = let h = c.in_ok-version.ensures in retired _ _ _ _ _ _ _ h.0 _ c.clear.ensures.tables c.clear.ensures.places h.1

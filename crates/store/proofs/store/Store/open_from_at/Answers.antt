use Rattle.std.proofs.Common.{refl}
use Rattle.model.specs.Calls.{OpenFrom}
use Rattle.store.proofs.Answering.{spot_inside, answered_inside, still_started}
use Rattle.store.proofs.Judging.{is_place}
use Rattle.store.proofs.Unwanted.{unplaced, unpublished}
use Rattle.store.proofs.Drafted.{from_taken, source_held, few_roots, opened_from}
use Rattle.store.proofs.store.Store.open_from_at.Goals as goal

pub returns-in_err-spot_at-clause-answered : goal.returns-in_err-spot_at-clause-answered
returns-in_err-spot_at-clause-answered g c =
    unplaced g.K.Key.kind g.V.Value.kind _ _ _ (OpenFrom c.args.place c.args.from) tt c.args.place _ _ _ c.from_residual.ensures.1 _ (λ a _. refl) c.in_err-spot_at.ensures

pub returns-in_err-root-clause-answered : goal.returns-in_err-root-clause-answered
returns-in_err-root-clause-answered g c =
    unpublished g.K.Key.kind g.V.Value.kind _ _ _ (OpenFrom c.args.place c.args.from) tt c.args.from _ _ _ c.from_residual-in_err-root.ensures.1 _
    (λ a _. is_place g.K.Key.kind g.V.Value.kind a c.args.place _ c.in_ok-spot_at.ensures.0) c.in_err-root.ensures

pub returns-in_err-empty_at-clause-answered : goal.returns-in_err-empty_at-clause-answered
returns-in_err-empty_at-clause-answered g c =
    let k = c.in_ok-root.ensures in
    from_taken _ _ _ _ _ _ _ _ _ _ _ c.from_residual-in_err-empty_at.ensures.1 c.in_ok-spot_at.ensures.0 k.0 k.1 c.in_err-empty_at.ensures

pub hold_root-requires-clause-held : goal.hold_root-requires-clause-held
hold_root-requires-clause-held g c = source_held _ _ _ _ _ c.args.place _ c.self.invariant.1 c.args.from _ (spot_inside _ c.self.view_is c.in_ok-root.ensures.1)

pub hold_root-requires-clause-heap : goal.hold_root-requires-clause-heap
hold_root-requires-clause-heap g c = let r = c.self.invariant.1 in (_, (r.sits.nodes, few_roots _ _ _ _ _ c.args.place _ r))

pub invariant_of-self : goal.invariant_of-self
invariant_of-self g c =
    let h = c.in_ok-empty_at.ensures in
    let k = c.in_ok-root.ensures in
    still_started c.self.invariant (opened_from _ _ _ _ _ _ _ _ _ h.0 k.0 (spot_inside _ c.self.view_is h.1) (spot_inside _ c.self.view_is k.1) c.hold_root.ensures (refl, refl, refl))

pub returns-clause-answered : goal.returns-clause-answered
returns-clause-answered g c =
    let h = c.in_ok-empty_at.ensures in
    let k = c.in_ok-root.ensures in
    answered_inside c.self.view_is (opened_from _ _ _ _ _ _ _ _ _ h.0 k.0 (spot_inside _ c.self.view_is h.1) (spot_inside _ c.self.view_is k.1) c.hold_root.ensures (refl, refl, refl))

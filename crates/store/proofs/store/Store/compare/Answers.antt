use Rattle.store.proofs.Answering.{live_inside, asked_inside}
use Rattle.store.proofs.Compares.{first_unplaced, second_unplaced, first_unlive, second_unlive, two_parts, compares}
use Rattle.store.proofs.store.Store.compare.Goals as goal

pub returns-in_err-spot_at : goal.returns-in_err-spot_at
returns-in_err-spot_at g c = first_unplaced g.K.Key.kind g.V.Value.kind _ _ _ c.args.place c.args.other _ _ _ c.from_residual.ensures.1 c.in_err-spot_at.ensures

pub returns-in_err-spot_at-2 : goal.returns-in_err-spot_at-2
returns-in_err-spot_at-2 g c =
    second_unplaced g.K.Key.kind g.V.Value.kind _ _ _ c.args.place c.args.other _ _ _ c.from_residual-in_err-spot_at-2.ensures.1 c.in_ok-spot_at.ensures.0 c.in_err-spot_at-2.ensures

pub returns-in_err-one : goal.returns-in_err-one
returns-in_err-one g c =
    first_unlive g.K.Key.kind g.V.Value.kind _ _ _ c.args.place c.args.other _ _ _ c.from_residual-in_err-one.ensures.1 c.in_ok-spot_at.ensures.0 c.in_ok-spot_at-2.ensures.0 c.in_err-one.ensures

pub returns-in_err-two : goal.returns-in_err-two
returns-in_err-two g c =
    second_unlive g.K.Key.kind g.V.Value.kind _ _ _ c.args.place c.args.other _ _ _ c.from_residual-in_err-two.ensures.1 c.in_ok-spot_at.ensures.0 c.in_ok-spot_at-2.ensures.0
    _ c.in_ok-one.ensures.1 c.in_err-two.ensures

pub same_part-requires : goal.same_part-requires
same_part-requires g c =
    two_parts _ _ _ _ _ _ _ _ _ (live_inside _ c.self.view_is c.in_ok-one.ensures.1) (live_inside _ c.self.view_is c.in_ok-two.ensures.1) c.self.invariant

pub returns : goal.returns
returns g c =
    let one = c.in_ok-one.ensures in
    let two = c.in_ok-two.ensures in
    asked_inside c.self.view_is (compares _ _ _ _ _ _ _ _ _ (live_inside _ c.self.view_is one.1) (live_inside _ c.self.view_is two.1) one.0 two.0 _ c.same_part.ensures)

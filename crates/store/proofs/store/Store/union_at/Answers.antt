use Rattle.model.specs.Calls.{Union}
use Rattle.store.proofs.Joined.{union_unplaced, union_unpublished, union_undrafted, union_some, union_is}
use Rattle.store.proofs.store.Store.union_at.Goals as goal

pub returns-in_err-spot_at : goal.returns-in_err-spot_at
returns-in_err-spot_at g c = union_unplaced g.K.Key.kind g.V.Value.kind _ _ _ c.args.place c.args.other _ _ _ c.from_residual.ensures.1 c.in_err-spot_at.ensures

pub returns-in_err-theirs : goal.returns-in_err-theirs
returns-in_err-theirs g c =
    union_unpublished g.K.Key.kind g.V.Value.kind _ _ _ c.args.place c.args.other _ _ _ c.from_residual-in_err-theirs.ensures.1 c.in_ok-spot_at.ensures.0 c.in_err-theirs.ensures

pub returns-in_err-ours : goal.returns-in_err-ours
returns-in_err-ours g c =
    let k = c.in_ok-theirs.ensures in
    union_undrafted g.K.Key.kind g.V.Value.kind _ _ _ c.args.place c.args.other _ _ _ c.from_residual-in_err-ours.ensures.1 c.in_ok-spot_at.ensures.0 k.0 _ k.1 c.in_err-ours.ensures

pub merge_roots-requires : goal.merge_roots-requires
merge_roots-requires g c =
    let k = c.in_ok-theirs.ensures in
    let h = c.in_ok-ours.ensures in
    record { inside = h.0; some = union_some g.K.Key.kind g.V.Value.kind _ _ _ _ _ _ _ h.0 k.0 h.1 k.1 }

pub returns : goal.returns
returns g c =
    let k = c.in_ok-theirs.ensures in
    let h = c.in_ok-ours.ensures in
    c.merge_roots.ensures.answered (Union c.args.place c.args.other) (union_is g.K.Key.kind g.V.Value.kind _ _ _ _ _ _ _ h.0 k.0 h.1 k.1)

use Rattle.model.specs.Calls.{Merge}
use Rattle.store.proofs.Joined.{merge_unplaced, base_unplaced, theirs_unplaced, base_unpublished, theirs_unpublished, merge_undrafted, merge_some, merge_is}
use Rattle.store.proofs.store.Store.merge_at.Goals as goal

pub returns-in_err-spot_at : goal.returns-in_err-spot_at
returns-in_err-spot_at g c = merge_unplaced g.K.Key.kind g.V.Value.kind _ _ _ c.args.place c.args.base c.args.theirs _ _ _ c.from_residual.ensures.1 c.in_err-spot_at.ensures

pub returns-in_err-spot_at-2 : goal.returns-in_err-spot_at-2
returns-in_err-spot_at-2 g c =
    base_unplaced g.K.Key.kind g.V.Value.kind _ _ _ c.args.place c.args.base c.args.theirs _ _ _ c.from_residual-in_err-spot_at-2.ensures.1 c.in_ok-spot_at.ensures.0 c.in_err-spot_at-2.ensures

pub returns-in_err-spot_at-3 : goal.returns-in_err-spot_at-3
returns-in_err-spot_at-3 g c =
    theirs_unplaced g.K.Key.kind g.V.Value.kind _ _ _ c.args.place c.args.base c.args.theirs _ _ _ c.from_residual-in_err-spot_at-3.ensures.1
    c.in_ok-spot_at.ensures.0 c.in_ok-spot_at-2.ensures.0 c.in_err-spot_at-3.ensures

pub returns-in_err-common : goal.returns-in_err-common
returns-in_err-common g c =
    base_unpublished g.K.Key.kind g.V.Value.kind _ _ _ c.args.place c.args.base c.args.theirs _ _ _ c.from_residual-in_err-common.ensures.1
    c.in_ok-spot_at.ensures.0 c.in_ok-spot_at-2.ensures.0 c.in_ok-spot_at-3.ensures.0 c.in_err-common.ensures

pub returns-in_err-other : goal.returns-in_err-other
returns-in_err-other g c =
    theirs_unpublished g.K.Key.kind g.V.Value.kind _ _ _ c.args.place c.args.base c.args.theirs _ _ _ c.from_residual-in_err-other.ensures.1
    c.in_ok-spot_at.ensures.0 c.in_ok-spot_at-2.ensures.0 c.in_ok-spot_at-3.ensures.0 _ c.in_ok-common.ensures.1 c.in_err-other.ensures

pub returns-in_err-ours : goal.returns-in_err-ours
returns-in_err-ours g c =
    merge_undrafted g.K.Key.kind g.V.Value.kind _ _ _ c.args.place c.args.base c.args.theirs _ _ _ c.from_residual-in_err-ours.ensures.1
    c.in_ok-spot_at.ensures.0 c.in_ok-spot_at-2.ensures.0 c.in_ok-spot_at-3.ensures.0 _ c.in_ok-common.ensures.1 _ c.in_ok-other.ensures.1 c.in_err-ours.ensures

pub merge_roots-requires : goal.merge_roots-requires
merge_roots-requires g c =
    let b = c.in_ok-common.ensures in
    let k = c.in_ok-other.ensures in
    let h = c.in_ok-ours.ensures in
    record { inside = h.0; some = merge_some g.K.Key.kind g.V.Value.kind _ _ _ _ _ _ _ _ _ h.0 b.0 k.0 h.1 b.1 k.1 }

pub returns : goal.returns
returns g c =
    let b = c.in_ok-common.ensures in
    let k = c.in_ok-other.ensures in
    let h = c.in_ok-ours.ensures in
    c.merge_roots.ensures.answered (Merge c.args.place c.args.base c.args.theirs) (merge_is g.K.Key.kind g.V.Value.kind _ _ _ _ _ _ _ _ _ h.0 b.0 k.0 h.1 b.1 k.1)

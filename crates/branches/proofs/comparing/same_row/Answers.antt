use Rattle.std.proofs.Common.{◌≡◌, List, ap, ◌∙◌, Iter, arith}
use Rattle.std.specs.declared.iter.Zip.{Zip}
use Rattle.std.specs.Iterator.Adapters.{zip_first, zip_second}
use Rattle.std.specs.Slice.Iter.{iter_rest}
use Rattle.std.proofs.lemmas.List.{length_push}
use Rattle.std.proofs.lemmas.Slice.Zip.{zip_turn, zip_end}
use Rattle.branches.proofs.Alike.{alike_more, rows_differ, rows_same}
use Rattle.branches.proofs.comparing.same_row.Goals as goal

-- the rows that a loop over both began with
began : {A : Type 0} (s z : Zip (Iter A) (Iter A)) (i : Iter A) (xs ys : List A) → s ≡ z → zip_first z ≡ i → iter_rest i ≡ xs → iter_rest (zip_second z) ≡ ys
    → (iter_rest (zip_first s) ≡ xs) × (iter_rest (zip_second s) ≡ ys)
began s z i xs ys e f g h = (ap (λ w. iter_rest (zip_first w)) e ∙ ap iter_rest f ∙ g, ap (λ w. iter_rest (zip_second w)) e ∙ h)

pub returns-then-not-same_entry : goal.returns-then-not-same_entry
returns-then-not-same_entry g c =
    let all = began _ _ _ _ _ c.into_iter-mine-iterator.ensures.into_iter_gives c.zip-mine-items.ensures.first c.iter.ensures.rest c.zip-mine-items.ensures.second.0 in
    let at = zip_turn _ _ _ c.into_iter-mine-iterator.result _ c.next.new.self _ all.0 all.1 c.loop-mine.yielded_by _ c.in-Some.is c.next.ensures.steps in
    rows_differ _ _ _ _ _ _ _ _ _ (at.2 0) (at.3 0) _ c.same_entry.ensures c.if-not-same_entry.true at.0 at.1

pub loop-mine-preserved : goal.loop-mine-preserved
loop-mine-preserved g c =
    let all = began _ _ _ _ _ c.into_iter-mine-iterator.ensures.into_iter_gives c.zip-mine-items.ensures.first c.iter.ensures.rest c.zip-mine-items.ensures.second.0 in
    let at = zip_turn _ _ _ c.into_iter-mine-iterator.result _ c.next.new.self _ all.0 all.1 c.loop-mine.yielded_by _ c.in-Some.is c.next.ensures.steps in
    alike_more _ _ _ _ _ _ _ _ _ (at.2 0) (at.3 0) _ c.same_entry.ensures c.if-not-same_entry.false c.loop-mine.invariant _ (length_push c.loop-mine.yielded _)

pub returns : goal.returns
returns g c =
    let all = began _ _ _ _ _ c.into_iter-mine-iterator.ensures.into_iter_gives c.zip-mine-items.ensures.first c.iter.ensures.rest c.zip-mine-items.ensures.second.0 in
    let at = zip_end _ _ _ c.into_iter-mine-iterator.result _ c.next.new.self _ all.0 all.1 c.loop-mine.yielded_by c.in-None.is c.next.ensures.steps in
    rows_same _ _ _ _ _ _ _ c.loop-mine.invariant c.if-one-other.false (omega (arith, at, c.if-one-other.false))

use Rattle.std.proofs.Common.{◌<◌, refl, sym, ◌∙◌, arith}
use Rattle.std.proofs.lemmas.Bool.{false≢true}
use Rattle.merges.proofs.Turns.{whole_enough, not_enough, done_ours, done_theirs, under_begun, some_ours, some_base, some_theirs, under_bits, under_may, under_more, under_ready, under_done}
use Rattle.merges.proofs.merging.+merge.Goals as goal
use Rattle.merges.proofs.merging.+merge.Goals.{else-plan-2-via-then-plan-2+else-plan-from, else-plan-2-via-else-plan-2}

pub returns-then-plan : goal.returns-then-plan
returns-then-plan g t c = done_ours _ _ _ _ _ _ _ _ _ _ c.estimate_merge-plan.ensures c.if-plan.true _ c.keep.ensures

pub returns-then-plan-from : goal.returns-then-plan-from
returns-then-plan-from g t c = done_theirs _ _ _ _ _ _ _ _ _ _ c.estimate_merge-plan.ensures c.if-plan.false c.if-plan-2.true (whole_enough _ _ _ c.from.ensures c.if-plan-from.true) _ c.keep-then-plan-from.ensures

pub loop-number-init : goal.loop-number-init
loop-number-init g t c = under_begun _ _ _ _ _ _ _ _ _ _ c.empty_handed-hand.ensures

pub at_digit-mine-requires : goal.at_digit-mine-requires
at_digit-mine-requires g t c =
    let tall : 0 < c.args.level = omega arith in
    record {
      level = (omega arith, omega (arith, c.requires.met.deep));
      part = some_ours _ _ _ _ _ _ _ _ _ tall _ (omega arith) _ _ c.loop-number.invariant c.requires;
    }

pub at_digit-common-requires : goal.at_digit-common-requires
at_digit-common-requires g t c =
    let tall : 0 < c.args.level = omega arith in
    record {
      level = (omega arith, omega (arith, c.requires.met.deep));
      part = some_base _ _ _ _ _ _ _ _ _ tall _ (omega arith) _ _ c.loop-number.invariant c.requires;
    }

pub at_digit-other-requires : goal.at_digit-other-requires
at_digit-other-requires g t c =
    let tall : 0 < c.args.level = omega arith in
    record {
      level = (omega arith, omega (arith, c.requires.met.deep));
      part = some_theirs _ _ _ _ _ _ _ _ _ tall _ (omega arith) _ _ c.loop-number.invariant c.requires;
    }

pub merge-new-requires : goal.merge-new-requires
merge-new-requires g t c κs within =
    let tall : 0 < c.args.level = omega arith in (
      omega arith,
      (
        within.0,
        (
          within.1,
          under_may _ _ _ _ _ _ _ _ _ tall _ (omega arith) _ _ c.loop-number.invariant _ _ _ c.at_digit-mine.ensures c.at_digit-common.ensures c.at_digit-other.ensures c.requires,
        ),
      ),
    )

pub take_up-hand-requires : goal.take_up-hand-requires
take_up-hand-requires g t c =
    let tall : 0 < c.args.level = omega arith in
    let v = under_bits _ _ _ _ _ _ _ _ _ tall _ (omega arith) _ _ c.loop-number.invariant c.requires in
    record { data_fits = v.0; node_fits = v.1 }

pub loop-number-preserved : goal.loop-number-preserved
loop-number-preserved g t c =
    let tall : 0 < c.args.level = omega arith in
    under_more _ _ _ _ _ _ _ _ _ tall _ (omega arith) _ _ c.loop-number.invariant _ _ _ c.at_digit-mine.ensures c.at_digit-common.ensures c.at_digit-other.ensures
    _ _ c.merge-new.ensures _ c.take_up-hand.ensures

pub assemble-requires : goal.assemble-requires
assemble-requires g t c =
    let tall : 0 < c.args.level = omega arith in
    under_ready _ _ _ _ _ _ _ _ _ tall _ (omega arith) _ _ c.loop-number.invariant _ c.estimate_merge-plan.ensures c.if-plan.false
    (elim c.else-plan-2.branch [
      | else-plan-2-via-then-plan-2+else-plan-from w ↦ λ t. not_enough _ _ _ w.from.ensures w.if-plan-from.false
      | else-plan-2-via-else-plan-2 w ↦ λ t. absurd (false≢true (sym w.if-plan-2.false ∙ t))
    ]) c.requires

pub returns : goal.returns
returns g t c =
    let tall : 0 < c.args.level = omega arith in
    under_done _ _ _ _ _ _ _ _ _ tall _ (omega arith) _ _ c.loop-number.invariant _ c.estimate_merge-plan.ensures c.if-plan.false
    (elim c.else-plan-2.branch [
      | else-plan-2-via-then-plan-2+else-plan-from w ↦ λ t. not_enough _ _ _ w.from.ensures w.if-plan-from.false
      | else-plan-2-via-else-plan-2 w ↦ λ t. absurd (false≢true (sym w.if-plan-2.false ∙ t))
    ]) _ _ (refl, refl, refl) c.assemble.ensures

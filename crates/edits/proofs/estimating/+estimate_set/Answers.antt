use Rattle.std.proofs.Common.{◌<◌, arith}
use Rattle.edits.proofs.Turns.{same_digit, other_digit}
use Rattle.edits.proofs.Singles.{told_alone}
use Rattle.edits.proofs.Estimates.{child_seen, digit_at, digit_set, digit_kept, addable, summed_on, close_few, estimated_whole}
use Rattle.edits.proofs.estimating.+estimate_set.Goals as goal
use Rattle.edits.proofs.estimating.+estimate_set.Goals.{then-eq, else-eq}

pub returns-then-is_alone : goal.returns-then-is_alone
returns-then-is_alone g t c = told_alone _ _ _ _ _ _ _ _ _ c.if-level-lt8.true _ c.is_alone.ensures c.if-is_alone.true _ c.estimate_alone.ensures

pub estimate_set-new-requires : goal.estimate_set-new-requires
estimate_set-new-requires g t c κs within =
    let tall : 0 < c.args.level = omega arith in (
      omega arith,
      (
        within.0,
        (
          within.1,
          child_seen _ _ _ _ _ _ _ _ _ c.requires tall _ (omega arith) _ c.at_digit-old.ensures
              (digit_at _ _ _ _ _ _ _ _ _ c.requires _ _ _ c.hash.ensures c.digit_of-digit.ensures (same_digit _ _ _ c.eq.ensures c.if-eq.true)),
        ),
      ),
    )

pub and-sum-requires : goal.and-sum-requires
and-sum-requires g t c =
    let tall : 0 < c.args.level = omega arith in
    elim c.if-eq.branch [
      | then-eq w ↦
          addable _ _ _ _ _ _ _ _ _ tall _ _ c.loop-number.invariant _
          (digit_set _ _ _ _ _ _ _ _ _ tall _ (omega arith) _ c.at_digit-old.ensures _ _ c.hash.ensures c.digit_of-digit.ensures (same_digit _ _ _ c.eq.ensures w.if-eq.true) _ _ w.new-is w.estimate_set-new.ensures) (omega arith) c.requires
      | else-eq w ↦
          addable _ _ _ _ _ _ _ _ _ tall _ _ c.loop-number.invariant _
          (digit_kept _ _ _ _ _ _ _ _ _ tall _ (omega arith) _ c.at_digit-old.ensures _ _ c.hash.ensures c.digit_of-digit.ensures (other_digit _ _ _ c.eq.ensures w.if-eq.false) _ _ w.new-is w.of_kept-new.ensures) (omega arith) c.requires
    ]

pub loop-number-preserved : goal.loop-number-preserved
loop-number-preserved g t c =
    let tall : 0 < c.args.level = omega arith in
    elim c.if-eq.branch [
      | then-eq w ↦
          summed_on _ _ _ _ _ _ _ _ _ tall _ _ c.loop-number.invariant _
          (digit_set _ _ _ _ _ _ _ _ _ tall _ (omega arith) _ c.at_digit-old.ensures _ _ c.hash.ensures c.digit_of-digit.ensures (same_digit _ _ _ c.eq.ensures w.if-eq.true) _ _ w.new-is w.estimate_set-new.ensures) _ c.and-sum.ensures
      | else-eq w ↦
          summed_on _ _ _ _ _ _ _ _ _ tall _ _ c.loop-number.invariant _
          (digit_kept _ _ _ _ _ _ _ _ _ tall _ (omega arith) _ c.at_digit-old.ensures _ _ c.hash.ensures c.digit_of-digit.ensures (other_digit _ _ _ c.eq.ensures w.if-eq.false) _ _ w.new-is w.of_kept-new.ensures) _ c.and-sum.ensures
    ]

pub close-requires : goal.close-requires
close-requires g t c =
    let tall : 0 < c.args.level = omega arith in
    close_few _ _ _ _ _ _ _ _ _ tall _ _ c.loop-number.invariant (omega arith) c.requires

pub returns : goal.returns
returns g t c =
    let tall : 0 < c.args.level = omega arith in
    estimated_whole _ _ _ _ _ _ _ _ _ tall _ _ c.loop-number.invariant (omega arith) _ c.close.ensures

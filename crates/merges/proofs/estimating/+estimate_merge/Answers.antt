use Rattle.std.proofs.Common.{◌<◌, arith}
use Rattle.merges.proofs.Estimates.{child_met, digit_told, addable, summed_on, close_few, estimated_whole}
use Rattle.merges.proofs.estimating.+estimate_merge.Goals as goal

pub estimate_merge-requires : goal.estimate_merge-requires
estimate_merge-requires g t c κs within =
    let tall : 0 < c.args.level = omega arith in (
      omega arith,
      (
        within.0,
        (
          within.1,
          child_met _ _ _ _ _ _ _ _ _ c.requires tall _ (omega arith) _ _ _ c.at_digit-mine.ensures c.at_digit-common.ensures c.at_digit-other.ensures,
        ),
      ),
    )

pub and-sum-requires : goal.and-sum-requires
and-sum-requires g t c =
    let tall : 0 < c.args.level = omega arith in
    addable _ _ _ _ _ _ _ _ _ tall _ _ c.loop-number.invariant _
    (digit_told _ _ _ _ _ _ _ _ _ tall _ (omega arith) _ _ _ c.at_digit-mine.ensures c.at_digit-common.ensures c.at_digit-other.ensures _ c.estimate_merge.ensures) (omega arith) c.requires

pub loop-number-preserved : goal.loop-number-preserved
loop-number-preserved g t c =
    let tall : 0 < c.args.level = omega arith in
    summed_on _ _ _ _ _ _ _ _ _ tall _ _ c.loop-number.invariant _
    (digit_told _ _ _ _ _ _ _ _ _ tall _ (omega arith) _ _ _ c.at_digit-mine.ensures c.at_digit-common.ensures c.at_digit-other.ensures _ c.estimate_merge.ensures) _ c.and-sum.ensures

pub close-requires : goal.close-requires
close-requires g t c =
    let tall : 0 < c.args.level = omega arith in
    close_few _ _ _ _ _ _ _ _ _ tall _ _ c.loop-number.invariant (omega arith) c.requires

pub returns-2 : goal.returns-2
returns-2 g t c =
    let tall : 0 < c.args.level = omega arith in
    estimated_whole _ _ _ _ _ _ _ _ _ tall _ _ c.loop-number.invariant (omega arith) _ c.close.ensures

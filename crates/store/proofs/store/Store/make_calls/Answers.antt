use Rattle.std.proofs.Common.{rules, ◌<◌, length, refl, arith}
use Rattle.store.proofs.Runs.{none_made, made_all, made_out, made_full, made_on}
use Rattle.store.proofs.store.Store.make_calls.Goals as goal
use Rattle.store.proofs.store.Store.make_calls.Goals.{then-i-answers-via-then-i-answers, then-i-answers-via-else-i-answers+then-capacity-out}

pub loop-i-init : goal.loop-i-init
loop-i-init g c = none_made g.K.Key.kind g.V.Value.kind _ _ _ _ _ _

pub returns-then-i-answers : goal.returns-then-i-answers
returns-then-i-answers g c =
    elim c.then-i-answers.branch [
      | then-i-answers-via-then-i-answers w ↦
          made_out g.K.Key.kind g.V.Value.kind _ _ _ _ _ _ _ _ _ _ _ c.loop-i.invariant _ c.loop-i-test.true c.index-calls-i.is (omega (arith, w.if-i-answers.true, c.loop-i.auto.answers))
      | then-i-answers-via-else-i-answers+then-capacity-out w ↦
          made_full g.K.Key.kind g.V.Value.kind _ _ _ _ _ _ _ _ _ _ _ c.loop-i.invariant _ c.loop-i-test.true c.index-calls-i.is
          (omega (arith, w.if-i-answers.false, c.loop-i.auto.answers, c.loop-i.invariant.within)) (omega (arith, w.if-capacity-out.true, w.capacity.ensures, c.loop-i.auto.out))
    ]

pub bounds-answers-i : goal.bounds-answers-i
bounds-answers-i g c = omega (arith, c.if-i-answers.false, c.loop-i.auto.answers, c.loop-i.invariant.within)

pub offset_bounds-answers-i : goal.offset_bounds-answers-i
offset_bounds-answers-i g c = let inside : c.loop-i.i < length c.args.answers.now = omega (arith, c.if-i-answers.false, c.loop-i.auto.answers, c.loop-i.invariant.within) in search rules

pub loop-i-preserved : goal.loop-i-preserved
loop-i-preserved g c =
    made_on g.K.Key.kind g.V.Value.kind _ _ _ _ _ _ _ _ _ _ _ c.loop-i.invariant _ c.loop-i-test.true c.index-calls-i.is
    (omega (arith, c.if-i-answers.false, c.loop-i.auto.answers, c.loop-i.invariant.within)) (omega (arith, c.if-capacity-out.false, c.capacity.ensures, c.loop-i.auto.out))
    _ _ _ c.step-answer.ensures.answered c.step-answer.ensures.buffer _ refl _ c.written-at.ensures

pub returns : goal.returns
returns g c = made_all g.K.Key.kind g.V.Value.kind _ _ _ _ _ _ _ _ _ _ _ c.loop-i.invariant (omega (arith, c.loop-i-test.false))

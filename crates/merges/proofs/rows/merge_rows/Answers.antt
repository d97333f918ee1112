use Rattle.std.proofs.Common.{refl, arith}
use Rattle.merges.proofs.RowMerges.{ours_done, theirs_done, row_begins, row_free, row_taking, row_on, row_ready, row_done}
use Rattle.merges.proofs.rows.merge_rows.Goals.{else-chosen-2-via-then-chosen-2+else-choices-gt1, else-chosen-2-via-else-chosen-2}
use Rattle.merges.proofs.rows.merge_rows.Goals as goal

pub returns-then-chosen : goal.returns-then-chosen
returns-then-chosen g c = ours_done _ _ _ _ _ _ _ _ _ c.choose_rows-chosen.ensures c.if-chosen.true _ c.keep.ensures

pub returns-then-choices-gt1 : goal.returns-then-choices-gt1
returns-then-choices-gt1 g c =
    theirs_done _ _ _ _ _ _ _ _ _ c.choose_rows-chosen.ensures _ c.choices-choices.ensures c.if-chosen.false c.if-chosen-2.true c.if-choices-gt1.true _ c.keep-then-choices-gt1.ensures

pub loop-choice-init : goal.loop-choice-init
loop-choice-init g c = row_begins _ _ _ _ _ _ _ _ _ c.choose_rows-chosen.ensures _ c.choices-choices.ensures _ c.empty_handed-hand.ensures

pub take_entry-id-requires : goal.take_entry-id-requires
take_entry-id-requires g c =
    row_taking _ _ _ _ _ _ _ _ _ c.choose_rows-chosen.ensures _ c.choices-choices.ensures _ _ _ c.loop-choice.invariant c.loop-choice-test.true _ c.if-chosen.false
    (λ h. elim c.else-chosen-2.branch [
      | else-chosen-2-via-then-chosen-2+else-choices-gt1 w ↦ absurd (omega (arith, h, w.if-choices-gt1.false))
      | else-chosen-2-via-else-chosen-2 w ↦ w.if-chosen-2.false
    ]) c.requires

pub take_next-hand-requires-clause-row : goal.take_next-hand-requires-clause-row
take_next-hand-requires-clause-row g c = (row_free _ _ _ _ _ _ _ _ _ c.choose_rows-chosen.ensures _ c.choices-choices.ensures _ _ _ c.loop-choice.invariant c.loop-choice-test.true c.requires).0

pub take_next-hand-requires-clause-room : goal.take_next-hand-requires-clause-room
take_next-hand-requires-clause-room g c = (row_free _ _ _ _ _ _ _ _ _ c.choose_rows-chosen.ensures _ c.choices-choices.ensures _ _ _ c.loop-choice.invariant c.loop-choice-test.true c.requires).1

pub loop-choice-preserved : goal.loop-choice-preserved
loop-choice-preserved g c =
    row_on _ _ _ _ _ _ _ _ _ c.choose_rows-chosen.ensures _ c.choices-choices.ensures _ _ _ c.loop-choice.invariant c.loop-choice-test.true _ _ _ (refl, refl, refl) c.take_entry-id.ensures
    _ c.take_next-hand.ensures

pub assemble-requires : goal.assemble-requires
assemble-requires g c =
    row_ready _ _ _ _ _ _ _ _ _ c.choose_rows-chosen.ensures _ c.choices-choices.ensures _ _ _ c.loop-choice.invariant (omega arith) c.if-chosen.false
    (λ h. elim c.else-chosen-2.branch [
      | else-chosen-2-via-then-chosen-2+else-choices-gt1 w ↦ absurd (omega (arith, h, w.if-choices-gt1.false))
      | else-chosen-2-via-else-chosen-2 w ↦ w.if-chosen-2.false
    ]) c.requires

pub returns : goal.returns
returns g c =
    row_done _ _ _ _ _ _ _ _ _ c.choose_rows-chosen.ensures _ c.choices-choices.ensures _ _ _ c.loop-choice.invariant (omega arith) c.if-chosen.false
    (λ h. elim c.else-chosen-2.branch [
      | else-chosen-2-via-then-chosen-2+else-choices-gt1 w ↦ absurd (omega (arith, h, w.if-choices-gt1.false))
      | else-chosen-2-via-else-chosen-2 w ↦ w.if-chosen-2.false
    ]) _ _ _ _ c.assemble.ensures

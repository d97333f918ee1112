use Rattle.std.proofs.Common.{refl, sym, arith}
use Rattle.std.proofs.lemmas.Result.{err_from_is_err_and}
use Rattle.image_reader.proofs.EntryReadings.{entries_start, entries_end, entry_passed, entry_is_due, entry_faults, entry_reaches}
use Rattle.image_reader.proofs.reader.Reader.entries.Goals as goal
use Rattle.image_reader.proofs.reader.Reader.entries.Goals.{then-has_digit+in_ok-entry, else-has_digit}

pub loop-digit-init : goal.loop-digit-init
loop-digit-init g c = entries_start _ _ _ _ _ _ (omega arith) refl

pub entry-requires : goal.entry-requires
entry-requires g c =
    entry_is_due _ _ _ _ _ _ _ _ c.loop-digit.invariant c.loop-digit-test.true
    (sym c.if-has_digit.ensures)

pub overflow_sub-entries : goal.overflow_sub-entries
overflow_sub-entries g c =
    entry_is_due _ _ _ _ _ _ _ _ c.loop-digit.invariant c.loop-digit-test.true
    (sym c.if-has_digit.ensures)

pub returns-in_err-entry : goal.returns-in_err-entry
returns-in_err-entry g c =
    let p = err_from_is_err_and c.from_residual.result c.from_residual.ensures.1 in
    rw (p.1, p.2)
    (entry_faults _ _ _ _ _ _ _ _ c.loop-digit.invariant c.loop-digit-test.true
    (sym c.if-has_digit.ensures) _ c.child.ensures.digits _ c.in_err-entry.ensures)

pub loop-digit-preserved : goal.loop-digit-preserved
loop-digit-preserved g c =
    elim c.if-has_digit.branch [
      | then-has_digit+in_ok-entry w ↦
          simp (w.self-is, w.entries-is)
          (entry_reaches _ _ _ _ _ _ _ _ c.loop-digit.invariant c.loop-digit-test.true
          (sym w.if-has_digit.ensures) _ w.child.ensures.digits _ _ w.in_ok-entry.ensures)
      | else-has_digit w ↦
          simp (w.self-is, w.entries-is)
          (entry_passed _ _ _ _ _ _ _ _ c.loop-digit.invariant c.loop-digit-test.true
          (sym w.if-has_digit.ensures))
    ]

pub returns : goal.returns
returns g c = entries_end _ _ _ _ _ _ _ _ c.loop-digit.invariant (omega arith)

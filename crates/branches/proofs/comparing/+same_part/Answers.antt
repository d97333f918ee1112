use Rattle.std.proofs.Common.{arith}
use Rattle.branches.proofs.Alike.{two_as, two_low, compared_as, compared_entries, compared_one, held_one, held_other, compared_rows, alike_all, two_below, alike_next, parts_differ}
use Rattle.branches.proofs.comparing.+same_part.Goals as goal

pub returns-then-mine-theirs : goal.returns-then-mine-theirs
returns-then-mine-theirs g t c = compared_as _ _ _ _ _ _ _ _ _ _ c.in-Child-Child.is-0 c.in-Child-Child.is-1 (compared_one _ _ _ _ _ _ _ c.if-mine-theirs.true)

pub same_row-requires-clause-one : goal.same_row-requires-clause-one
same_row-requires-clause-one g t c = held_one _ _ _ _ _ _ (two_as _ _ _ _ _ _ _ _ _ c.in-Child-Child.is-0 c.in-Child-Child.is-1 (two_low _ _ _ _ _ _ _ c.if-level-eq0.true c.requires)) _ c.singles.ensures

pub same_row-requires-clause-other : goal.same_row-requires-clause-other
same_row-requires-clause-other g t c = held_other _ _ _ _ _ _ (two_as _ _ _ _ _ _ _ _ _ c.in-Child-Child.is-0 c.in-Child-Child.is-1 (two_low _ _ _ _ _ _ _ c.if-level-eq0.true c.requires)) _ c.singles-then-level-eq0.ensures

pub returns-then-level-eq0 : goal.returns-then-level-eq0
returns-then-level-eq0 g t c =
    compared_as _ _ _ _ _ _ _ _ _ _ c.in-Child-Child.is-0 c.in-Child-Child.is-1
    (compared_rows _ _ _ _ _ _ _ c.if-level-eq0.true _ _ c.singles.ensures c.singles-then-level-eq0.ensures _ c.same_row.ensures)

pub same_part-requires : goal.same_part-requires
same_part-requires g t c κs within =
    (omega arith, (within.0, (within.1, two_below _ _ _ _ _ _ _ (omega arith) _ _ _ c.at_digit-next.ensures c.at_digit-other_next.ensures c.requires)))

pub returns-then-not-same_part : goal.returns-then-not-same_part
returns-then-not-same_part g t c =
    parts_differ _ _ _ _ _ _ _ (omega arith) _ _ _ c.at_digit-next.ensures c.at_digit-other_next.ensures _ c.same_part.ensures c.if-not-same_part.true

pub loop-number-preserved : goal.loop-number-preserved
loop-number-preserved g t c =
    alike_next _ _ _ _ _ _ _ (omega arith) _ _ _ c.at_digit-next.ensures c.at_digit-other_next.ensures _ c.same_part.ensures c.if-not-same_part.false c.loop-number.invariant

pub returns-in-Entry-Entry : goal.returns-in-Entry-Entry
returns-in-Entry-Entry g t c = compared_as _ _ _ _ _ _ _ _ _ _ c.in-Entry-Entry.is-0 c.in-Entry-Entry.is-1 (compared_entries _ _ _ _ _ _ _ _ c.same_entry.ensures)

pub returns-after-loop-number : goal.returns-after-loop-number
returns-after-loop-number g t c = alike_all _ _ _ _ _ _ _ _ c.loop-number-test.false c.loop-number.invariant

use Rattle.std.proofs.Common.{arith}
use Rattle.std.proofs.lemmas.Bool.{both_ways}
use Rattle.branches.proofs.Lookups.{looked_as, part_as, looked_entry, looked_other, looked_below, part_below}
use Rattle.branches.proofs.asking.+look_up.Goals as goal

pub look_up-requires : goal.look_up-requires
look_up-requires g t c κs within =
    (omega arith, (within.0, (within.1, part_below _ _ _ _ _ _ _ _ c.at_digit-next.ensures (omega arith) (part_as _ _ _ _ _ _ _ c.in-Child.is c.requires))))

pub returns-then-same : goal.returns-then-same
returns-then-same g t c =
    looked_as _ _ _ _ _ _ _ _ _ c.in-Entry.is
    (looked_entry _ _ _ _ _ _ _ _ _ c.setting_of-other.ensures (c.same.ensures.0 c.if-same.true))

pub returns-else-same : goal.returns-else-same
returns-else-same g t c =
    looked_as _ _ _ _ _ _ _ _ _ c.in-Entry.is
    (looked_other _ _ _ _ _ _ _ _ _ c.setting_of-other.ensures (λ e. both_ways _ c.if-same.false (c.same.ensures.1 e)))

pub returns-else-level-eq0 : goal.returns-else-level-eq0
returns-else-level-eq0 g t c =
    looked_as _ _ _ _ _ _ _ _ _ c.in-Child.is
    (looked_below _ _ _ _ _ _ _ _ c.at_digit-next.ensures (omega arith) _ _ c.hash.ensures c.digit_of-digit.ensures _ c.look_up.ensures)

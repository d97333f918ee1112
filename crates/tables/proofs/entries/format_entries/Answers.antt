use Rattle.std.proofs.Common.{refl, arith}
use Rattle.tables.proofs.EntryCounts.{formatted}
use Rattle.tables.proofs.entries.format_entries.Goals as goal

pub returns-clause-entries : goal.returns-clause-entries
returns-clause-entries g c = λ cs none.
    formatted _ (omega (arith, c.format.ensures.long)) (λ k p. rw (c.format.ensures.chained k p, c.empty.ensures) (record { held = refl; holders = refl; next = refl })) cs none

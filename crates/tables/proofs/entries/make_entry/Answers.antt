use Rattle.std.proofs.Common.{refl}
use Rattle.tables.proofs.Chains.{head_free}
use Rattle.tables.proofs.EntryCounts.{entry_made}
use Rattle.tables.proofs.entries.make_entry.Goals as goal

pub take-requires-clause-inside : goal.take-requires-clause-inside
take-requires-clause-inside g c = (head_free _ _ _ _ _ c.requires.heap.1.1.chain c.requires.some).0

pub returns : goal.returns
returns g c =
    rw (c.take.ensures.number, c.take.ensures.cells, c.take.ensures.free, c.take.ensures.spare)
    (entry_made _ _ _ _ _ _ c.requires.heap.1.1 c.requires.some refl refl)

use Rattle.std.proofs.Common.{arith}
use Rattle.tables.proofs.EntryCounts.{inside_entries, holders_fit, held_step}
use Rattle.tables.proofs.entries.hold_entry.Goals as goal

pub hold-requires-clause-few : goal.hold-requires-clause-few
hold-requires-clause-few g c =
    let h = c.requires.heap.1.1 in
    omega (arith, holders_fit _ _ _ _ c.args.id.0 _ h.0 h.1.0 h.1.1.0 h.1.1.1)

pub returns : goal.returns
returns g c =
    rw (c.hold.ensures.free, c.hold.ensures.spare) (held_step _ _ _ _ _ c.requires.held c.hold.ensures.cells)

use Rattle.std.proofs.Common.{length, ap, arith}
use Rattle.tables.proofs.Clearing.{entry_due, entry_given_up, all_given_up}
use Rattle.tables.proofs.freeing.release_entries_of.Goals as goal

pub release_entry-requires : goal.release_entry-requires
release_entry-requires g c =
    rw c.singles-entry-items.ensures
    (_, (_, entry_due _ _ _ _ _ _ _ _ c.loop-entry.invariant _ _ (omega (arith, ap length c.singles-entry-items.ensures)) c.requires.1.1))

pub loop-entry-preserved : goal.loop-entry-preserved
loop-entry-preserved g c =
    entry_given_up _ _ _ _ _ _ _ _ c.loop-entry.invariant _ _ _ (omega (arith, ap length c.singles-entry-items.ensures))
    (rw c.singles-entry-items.ensures at c.release_entry.ensures)

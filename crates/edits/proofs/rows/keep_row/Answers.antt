use Rattle.std.proofs.Common.{refl}
use Rattle.edits.proofs.TakenUp.{keep_held, keep_heap, keep_step}
use Rattle.edits.proofs.rows.keep_row.Goals as goal

pub hold_entry-requires : goal.hold_entry-requires
hold_entry-requires g c = record {
  held = keep_held _ _ _ _ _ _ _ _ c.requires _ _ _ _ _ c.loop-entry.invariant c.loop-entry-test.true;
  heap = keep_heap _ _ _ _ _ _ _ _ c.requires _ _ _ _ _ c.loop-entry.invariant c.loop-entry-test.true;
}

pub loop-entry-preserved : goal.loop-entry-preserved
loop-entry-preserved g c = keep_step _ _ _ _ _ _ _ _ c.requires _ _ _ _ _ c.loop-entry.invariant c.loop-entry-test.true _ _ _ _ _ refl c.hold_entry.ensures c.take_next-all.ensures

use Rattle.std.proofs.Common.{refl}
use Rattle.branches.proofs.Kept.{kept_entry, kept_child}
use Rattle.branches.proofs.keeping.keep.Goals as goal

pub returns-in-Entry : goal.returns-in-Entry
returns-in-Entry g c = kept_entry _ _ _ _ _ _ c.in-Entry.id c.in-Entry.is (refl, refl, refl) c.hold_entry.ensures

pub returns-in-Child : goal.returns-in-Child
returns-in-Child g c = kept_child _ _ _ _ _ _ c.in-Child.id c.in-Child.is (refl, refl, refl) c.hold_node.ensures

use Rattle.std.proofs.Common.{arith}
use Rattle.image_writer.proofs.Rests.{entry_some, entry_room, entries_more, entries_all}
use Rattle.image_writer.proofs.nodes.put_entries.Goals as goal

pub setting_of-key-requires : goal.setting_of-key-requires
setting_of-key-requires g c = entry_some _ _ _ _ _ _ _ _ _ _ _ c.loop-entry.invariant (omega arith) _ c.requires

pub put_setting-next-requires : goal.put_setting-next-requires
put_setting-next-requires g c =
    entry_room _ _ _ _ _ _ _ _ _ _ _ c.loop-entry.invariant (omega arith)
    g.met.K.Key.readable g.met.V.Value.readable
    c.requires

pub loop-entry-preserved : goal.loop-entry-preserved
loop-entry-preserved g c =
    entries_more _ _ _ _ _ _ _ _ _ _ _ c.loop-entry.invariant (omega arith) _ _ c.setting_of-key.ensures _ _ c.put_setting-next.ensures

pub returns : goal.returns
returns g c = entries_all _ _ _ _ _ _ _ _ _ _ _ c.loop-entry.invariant (omega arith)

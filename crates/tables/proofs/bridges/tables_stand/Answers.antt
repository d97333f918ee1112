use Rattle.tables.proofs.Frames.{released_means, released_stands, frame_more, stands_more, frame_entry_more}
use Rattle.tables.proofs.Noting.{node_made_means, entry_made_means, noted_same, noted_other, made_stands}
use Rattle.tables.proofs.Reach.{nodes_reached, reached_nodes, entries_reached, reached_entries, nodes_free, entries_free}
use Rattle.tables.proofs.Views.{held_entries, held_entryless, made_entries, made_entryless}
use Rattle.tables.proofs.Ranks.{child_bit, child_slot, entry_bit, entry_slot, no_children, as_many, by_key}
use Rattle.tables.proofs.bridges.tables_stand.Goals as goal

pub returns : goal.returns
returns g c =
    let K = g.K.Key.kind in
    let kb = g.K.Coded.bytes in
    let vb = g.V.Coded.bytes in
    record {
      released = λ cs f s es ef eu ds h t fs eg et note entry-note r R E gone H G L M. (
        released_means K kb vb r cs f s es ef eu ds h t fs eg et note entry-note gone M,
        released_stands K kb vb r cs f s es ef eu ds h t fs eg et note entry-note gone R E H G L,
      );
      held = λ cs ds f s h t es note entry-note j held p M. (frame_more K kb vb cs ds es note entry-note j p held.is M, stands_more cs ds note j p held.is);
      entry_held = λ cs es fs f s h t note entry-note j held p M. frame_entry_more K kb vb cs es fs note entry-note j p held.is M;
      made = λ cs f s ds h t es note entry-note r new R a m H M fits fresh. (
        node_made_means K kb vb cs es note entry-note M r new f s ds h t R a m H fits fresh,
        (noted_same note r a, made_stands cs ds note _ r new m.was_free m.is (noted_other note r a)),
      );
      entry_made = λ cs f s es fs h t note entry-note r new E a m G M fits fresh. (
        entry_made_means K kb vb cs es note entry-note M r new f s fs h t E a m G fits fresh,
        noted_same entry-note r a,
      );
      entries_left = λ cs ds f s h t es ef eu j E held p G L. (held_entries cs ds j p held.is es ef eu E G, held_entryless cs ds j p held.is L);
      entries_taken = λ cs ds f s h t es ef eu r new E m p G L. (made_entries cs ds r new m.inside m.was_free m.is L es ef eu E G, made_entryless cs ds r new m.inside m.was_free m.is L p);
      owned = λ cs f s es note entry-note roots H M. (nodes_reached K kb vb cs es note entry-note f s roots H M, reached_nodes K kb vb cs es note entry-note f s roots H M);
      entry_owned = λ cs f s es ef eu note entry-note roots in_hand H G L M. (
        entries_reached K kb vb cs es note entry-note f s roots H M ef eu in_hand G L,
        reached_entries K kb vb cs es note entry-note f s roots H M ef eu in_hand G L,
      );
      free = λ cs f s es ef eu note entry-note roots in_hand H G L M. (
        nodes_free K kb vb cs es note entry-note f s roots H M,
        entries_free K kb vb cs es note entry-note f s roots H M ef eu in_hand G L,
      );
      digits = λ note entry-note n a d fits shallow small. (
        child_bit K note entry-note n a fits shallow d small,
        (child_slot K note entry-note n a fits shallow d small, (entry_bit K note entry-note n a fits shallow d small, entry_slot K note entry-note n a fits shallow d small)),
      );
      ranks = λ note entry-note n a fits deep. (
        no_children K note entry-note n a fits deep,
        (as_many K note entry-note n a fits deep, by_key K note entry-note n a fits deep),
      );
    }

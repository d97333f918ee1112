use Rattle.model.proofs.Maps.Order.{sound_equal}
use Rattle.model.proofs.Maps.Edits.{sound_put, look_put, sound_remove, look_remove, sound_union, look_union, sound_merge, look_merge}
use Rattle.model.proofs.Maps.Joins as joins
use Rattle.model.proofs.maps_stand.Goals as goal

pub returns : goal.returns
returns g c =
    let K = g.K.Key.kind in
    let V = g.V.Value.kind in
    record {
      look_ups = sound_equal K V;
      puts = λ m k v s p q. (sound_put K V m k s p v q, look_put K V m k s p v q);
      removes = λ m k s p. (sound_remove K V m k s p, look_remove K V m k s p);
      unions = λ a b p q. (sound_union K V a b p q, look_union K V a b p q);
      merges = λ o b t p q. (sound_merge K V o b t p q, look_merge K V o b t p q);
      union_assoc = joins.union_assoc K V;
      union_comm = joins.union_comm K V;
      union_self = joins.union_self K V;
      union_merge = joins.union_is_merge K V;
      merge_swap = joins.merge_swap K V;
    }

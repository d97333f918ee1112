-- The worked cases, computed. Assumes nothing.
use Rattle.std.proofs.Common.{refl}
use Rattle.model.specs.Tries.{sixteen}
use Rattle.model.specs.Cases.{WorkedCases}

pub worked : WorkedCases
unfolding sixteen
worked = record {
  limits = (refl, (refl, refl));
  path_a_hashes = refl;
  one_id_image = refl;
  empty_image = refl;
  two_ids_root = (refl, refl);
  two_ids_child = (refl, refl);
  two_ids_length = refl;
  two_bobbins_nodes = refl;
  two_bobbins_image = refl;
  sixteen_of_one_hash = refl;
  crowded_first = refl;
  room_for_two = refl;
  no_room_for_two = refl;
  idle_put = refl;
  marks_are_calls = (refl, refl);
  first_source_is_kept = refl;
  refusals_by_number = refl;
  larger_offset_wins = refl;
  larger_stamp_wins = refl;
  both_changed = refl;
  three_are_named = (refl, (refl, refl));
  in_one_order = refl;
  in_another_order = refl;
  bracketed = refl;
  with_repetitions = refl;
  one_image = (refl, (refl, refl));
  some_image = refl;
  names_kept = refl;
  named_anew = refl;
  refusals_are_counted = refl;
  removed_by_ours = refl;
  removed_by_theirs = refl;
  one_removed = refl;
}

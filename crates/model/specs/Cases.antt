-- The worked cases, over the kinds at hand. Assumes nothing.
use Rattle.std.specs.Prelude.{◌≡◌, ℕ, true, List, [], ◌∷◌, ◌++◌, map, length, replicate, is_some, Some, None, Option, ℤ, pos, negsuc}
use Rattle.byte_rows.specs.Rows.{in_bytes}
use Rattle.byte_rows.specs.Joins.{stamped}
use Rattle.byte_rows.specs.Texts.{filled}
use Rattle.kinds.specs.Refusals as refusals
use Rattle.keys.specs.Keys.{path_kind, id_kind, bobbin_kind}
use Rattle.values.specs.Values.{limit_kind, register_kind}
use Rattle.model.specs.declared.limits.TheConstants.{PLACES, MOST_CELLS, MOST_OF_A_HASH}
use Rattle.model.specs.Maps.{Setting, Map, merge}
use Rattle.model.specs.Tries.{concat, parts, one, many, at_digit}
use Rattle.model.specs.Images.{bits, image}
use Rattle.model.specs.Sharing.{Marked, shared}
use Rattle.model.specs.Accounts.{Account, fresh, held_nodes, held_entries}
use Rattle.model.specs.Calls.{Call, Open, OpenFrom, Put, Union, Publish, Abandon, Retire, Load, LookUp, Save, Free, Answer, done, took, saved, spare, refused, run, answers}
use Rattle.model.specs.Runs.{live}

-- ids with registers and limits, bobbins with limits
abbrev pub id_register : ℕ → ℕ → ℤ → Setting
id_register i s o = record { key = in_bytes 4 i; value = stamped s o }

abbrev pub id_limit : ℕ → ℕ → Setting
id_limit i n = record { key = in_bytes 4 i; value = in_bytes 4 n }

abbrev pub bobbin_limit : ℕ → ℕ → Setting
bobbin_limit b n = record { key = in_bytes 1 b; value = in_bytes 4 n }

-- ids 0 and 16, whose hashes share their first digit
abbrev pub two_ids : Map
two_ids = id_register 0 1 (pos 1) ∷ id_register 16 2 (pos 2) ∷ []

abbrev pub put_id : ℕ → ℕ → Call
put_id i n = Put 0 (in_bytes 4 i) (in_bytes 4 n)

abbrev pub put_bobbin : ℕ → Call
put_bobbin b = Put 0 (in_bytes 1 b) (in_bytes 4 0)

-- a node whose one child goes on by digit 0
abbrev pub only_child : List ℕ
only_child = 0x4E ∷ 0x00 ∷ 0x00 ∷ 0x00 ∷ 0x01 ∷ []

-- seventeen bobbins of one hash, each put into one draft
abbrev pub put_seventeen : List Call
put_seventeen = Open 0 ∷ map put_bobbin (0 ∷ 4 ∷ 8 ∷ 12 ∷ 16 ∷ 20 ∷ 24 ∷ 28 ∷ 32 ∷ 36 ∷ 40 ∷ 44 ∷ 48 ∷ 52 ∷ 56 ∷ 60 ∷ 64 ∷ [])

-- the last is refused with 10
abbrev pub sixteen_fit : List Answer
sixteen_fit = done ∷ took 1 1 ∷ (replicate 15 (took 9 1) ++ (refused (refusals.refused 10) ∷ []))

-- ---- three published versions, and what is gathered from them

abbrev pub put_at : ℕ → ℕ → ℕ → Call
put_at p i n = Put p (in_bytes 4 i) (in_bytes 4 n)

-- a draft of ids 0, 16 and another at a place
abbrev pub put_three : ℕ → ℕ → List Call
put_three p i = Open p ∷ put_at p 0 5 ∷ put_at p 16 5 ∷ put_at p i 5 ∷ []

abbrev pub marked : List ℕ → ℕ → Marked
marked w n = record { what = w; mark = n }

abbrev pub no : ℕ → Answer
no n = refused (refusals.refused n)

abbrev pub no_at : ℕ → ℕ → Answer
no_at n o = refused (refusals.refused_at n o)

-- calls 1 to 9: a version with one id at each of the places 0, 1 and 2
abbrev pub publish_three : List Call
publish_three = Open 0 ∷ put_at 0 1 5 ∷ Publish 0 ∷ Open 1 ∷ put_at 1 2 6 ∷ Publish 1 ∷ Open 2 ∷ put_at 2 3 7 ∷ Publish 2 ∷ []

-- united in one order at place 3, in another at place 4; bracketed otherwise at place 6, by way of 5; and with repetitions at place 7
abbrev pub unite_three : List Call
unite_three =
    (Open 3 ∷ Union 3 0 ∷ Union 3 1 ∷ Union 3 2 ∷ Publish 3 ∷ [])
    ++ (Open 4 ∷ Union 4 2 ∷ Union 4 0 ∷ Union 4 1 ∷ Publish 4 ∷ [])
    ++ (Open 5 ∷ Union 5 1 ∷ Union 5 2 ∷ Publish 5 ∷ Open 6 ∷ Union 6 0 ∷ Union 6 5 ∷ Publish 6 ∷ [])
    ++ (OpenFrom 7 5 ∷ Union 7 0 ∷ Union 7 5 ∷ Union 7 0 ∷ Publish 7 ∷ [])

-- opened from what place 3 has and published unchanged, at place 8; united with a put in between, at place 9
abbrev pub publish_more : List Call
publish_more = OpenFrom 8 3 ∷ Publish 8 ∷ Open 9 ∷ Union 9 0 ∷ Union 9 1 ∷ put_at 9 3 7 ∷ Union 9 2 ∷ Publish 9 ∷ []

abbrev pub gathered_account : Account
gathered_account = run id_kind limit_kind (fresh 40 20) (publish_three ++ unite_three ++ publish_more)

-- what the version at a place is gathered from, and its image; none where nothing is live
abbrev pub names_at : Account → ℕ → Option (List ℕ)
names_at a i = elim (live a i) [ Some v ↦ v.names | None ↦ None ]

abbrev pub image_at : Account → ℕ → Option (List ℕ)
image_at a i = elim (live a i) [ Some v ↦ Some (image id_kind limit_kind v.settings) | None ↦ None ]

pub record WorkedCases : Type 0 where
  -- 64 places, tables of at most 65,535 cells, at most 16 keys of one hash
  pub limits : (PLACES ≡ 64) × ((MOST_CELLS ≡ 65535) × (MOST_OF_A_HASH ≡ 16))
  pub path_a_hashes : path_kind.hash (filled 24 (0x61 ∷ [])) ≡ 0xE40C292C
  pub one_id_image :
      image id_kind register_kind (id_register 1 7 (negsuc 2) ∷ [])
      ≡ 0x56 ∷ 0x04 ∷ 0x02 ∷ 0x03 ∷ 0x4E ∷ 0x02 ∷ 0x00 ∷ 0x00 ∷ 0x00 ∷ 0x45 ∷ 0x00 ∷ 0x00 ∷ 0x00 ∷ 0x01 ∷ 0x00 ∷ 0x00 ∷ 0x00 ∷ 0x07 ∷ 0xFF ∷ 0xFD ∷ 0x5A ∷ 0x00 ∷ 0x00 ∷ 0x00 ∷ 0x01 ∷ []
  pub empty_image : image id_kind register_kind [] ≡ 0x56 ∷ 0x04 ∷ 0x02 ∷ 0x03 ∷ 0x5A ∷ 0x00 ∷ 0x00 ∷ 0x00 ∷ 0x00 ∷ []
  -- the root of ids 0 and 16 has the maps 0000 and 0001, its child 0201 and 0000
  pub two_ids_root : (bits one (parts id_kind 0 two_ids) ≡ 0x0000) × (bits many (parts id_kind 0 two_ids) ≡ 0x0001)
  pub two_ids_child :
      (bits one (parts id_kind 1 (at_digit id_kind 0 two_ids 0)) ≡ 0x0201) × (bits many (parts id_kind 1 (at_digit id_kind 0 two_ids 0)) ≡ 0x0000)
  pub two_ids_length : length (image id_kind register_kind two_ids) ≡ 41
  pub two_bobbins_nodes : (shared bobbin_kind 1 [] (bobbin_limit 0 0 ∷ bobbin_limit 4 0 ∷ [])).new_nodes ≡ 9
  -- nine nodes, the last a collision node
  pub two_bobbins_image :
      image bobbin_kind limit_kind (bobbin_limit 0 5 ∷ bobbin_limit 4 6 ∷ [])
      ≡ (0x56 ∷ 0x04 ∷ 0x03 ∷ 0x01 ∷ []) ++ concat (replicate 8 only_child)
      ++ (0x43 ∷ 0x02 ∷ 0x45 ∷ 0x00 ∷ 0x00 ∷ 0x00 ∷ 0x00 ∷ 0x05 ∷ 0x45 ∷ 0x04 ∷ 0x00 ∷ 0x00 ∷ 0x00 ∷ 0x06 ∷ 0x5A ∷ 0x00 ∷ 0x00 ∷ 0x00 ∷ 0x02 ∷ [])
  -- bobbins 0, 4, 8 up to 60 fit together, and 64 is then refused with 10, where an entry is free
  pub sixteen_of_one_hash : answers bobbin_kind limit_kind (fresh 18 17) put_seventeen ≡ sixteen_fit
  -- and where none is free either
  pub crowded_first : answers bobbin_kind limit_kind (fresh 18 16) put_seventeen ≡ sixteen_fit
  pub room_for_two : answers id_kind limit_kind (fresh 3 2) (Open 0 ∷ put_id 0 5 ∷ put_id 16 5 ∷ Free ∷ []) ≡ done ∷ took 1 1 ∷ took 2 1 ∷ spare 1 0 ∷ []
  pub no_room_for_two : answers id_kind limit_kind (fresh 2 2) (Open 0 ∷ put_id 0 5 ∷ put_id 16 5 ∷ []) ≡ done ∷ took 1 1 ∷ refused (refusals.refused 11) ∷ []
  -- a value that is there already is put again at no cost
  pub idle_put : answers id_kind limit_kind (fresh 1 1) (Open 0 ∷ put_id 1 5 ∷ put_id 1 5 ∷ []) ≡ done ∷ took 1 1 ∷ took 0 0 ∷ []
  -- the root and its child are the third call's, with the entry of 16; the entry of 0 is still the second's
  pub marks_are_calls :
      (held_nodes (run id_kind limit_kind (fresh 3 2) (Open 0 ∷ put_id 0 5 ∷ put_id 16 5 ∷ [])).places ≡ marked [] 3 ∷ marked (0 ∷ []) 3 ∷ [])
      × (held_entries (run id_kind limit_kind (fresh 3 2) (Open 0 ∷ put_id 0 5 ∷ put_id 16 5 ∷ [])).places ≡ marked (in_bytes 4 0) 2 ∷ marked (in_bytes 4 16) 3 ∷ [])
  -- ids 0 and 16 with one other id each: what both have is the draft's in a union, so it is free again once the other is retired
  pub first_source_is_kept :
      answers id_kind limit_kind (fresh 10 10) (put_three 0 1 ++ (Publish 0 ∷ put_three 1 2) ++ (Publish 1 ∷ OpenFrom 2 0 ∷ Union 2 1 ∷ Retire 1 ∷ Free ∷ []))
      ≡ (done ∷ took 1 1 ∷ took 2 1 ∷ took 1 1 ∷ done ∷ done ∷ took 1 1 ∷ took 2 1 ∷ took 1 1 ∷ done ∷ done ∷ took 1 0 ∷ done ∷ spare 7 6 ∷ [])
  -- each number, in its order: no such place before all; not published before taken and before no draft; of images the first faulty command
  pub refusals_by_number :
      answers id_kind limit_kind (fresh 2 2) (
      Open 64 ∷ Union 64 1 ∷ LookUp 0 (in_bytes 4 1) ∷ Open 0 ∷ OpenFrom 0 1 ∷ OpenFrom 1 0 ∷ Open 0 ∷ Union 1 2 ∷ put_at 1 1 5 ∷ Retire 0 ∷
      Load 0 [] ∷ Load 1 (0x56 ∷ 5 ∷ 2 ∷ 1 ∷ []) ∷ Load 1 [] ∷ Load 1 (0x56 ∷ 4 ∷ []) ∷ Load 1 (0x4E ∷ []) ∷ Save 0 8 ∷ Save 0 9 ∷ Publish 0 ∷ Abandon 0 ∷ [])
      ≡ (no 3 ∷ no 3 ∷ no 4 ∷ done ∷ no 4 ∷ no 4 ∷ no 5 ∷ no 4 ∷ no 6 ∷ no 4 ∷
      no 5 ∷ no_at 7 0 ∷ no_at 8 0 ∷ no_at 8 0 ∷ no_at 9 0 ∷ no 12 ∷ saved (0x56 ∷ 4 ∷ 2 ∷ 1 ∷ 0x5A ∷ 0 ∷ 0 ∷ 0 ∷ 0 ∷ []) ∷ done ∷ no 6 ∷ [])
  pub larger_offset_wins : register_kind.join (stamped 7 (negsuc 2)) (stamped 7 (pos 2)) ≡ stamped 7 (pos 2)
  pub larger_stamp_wins : register_kind.join (stamped 7 (pos 2)) (stamped 8 (negsuc 8)) ≡ stamped 8 (negsuc 8)
  -- over a base of 10, ours 12 and theirs 15 give 15; ours absent and theirs 10 give absent
  pub both_changed : merge id_kind limit_kind (id_limit 1 12 ∷ []) (id_limit 1 10 ∷ []) (id_limit 1 15 ∷ []) ≡ id_limit 1 15 ∷ []
  pub three_are_named : (names_at gathered_account 0 ≡ Some (3 ∷ [])) × ((names_at gathered_account 1 ≡ Some (6 ∷ [])) × (names_at gathered_account 2 ≡ Some (9 ∷ [])))
  -- in either order and bracketing, and with repetitions, a union is gathered from the same three
  pub in_one_order : names_at gathered_account 3 ≡ Some (3 ∷ 6 ∷ 9 ∷ [])
  pub in_another_order : names_at gathered_account 4 ≡ Some (9 ∷ 3 ∷ 6 ∷ [])
  pub bracketed : names_at gathered_account 6 ≡ Some (3 ∷ 6 ∷ 9 ∷ [])
  pub with_repetitions : names_at gathered_account 7 ≡ Some (6 ∷ 9 ∷ 3 ∷ 6 ∷ 9 ∷ 3 ∷ [])
  -- and has one image
  pub one_image :
      (image_at gathered_account 4 ≡ image_at gathered_account 3)
      × ((image_at gathered_account 6 ≡ image_at gathered_account 3) × (image_at gathered_account 7 ≡ image_at gathered_account 3))
  pub some_image : is_some (image_at gathered_account 3) ≡ true
  -- what is opened and published unchanged keeps its names, and what had a put is named by its own publishing
  pub names_kept : names_at gathered_account 8 ≡ Some (3 ∷ 6 ∷ 9 ∷ [])
  pub named_anew : names_at gathered_account 9 ≡ Some (40 ∷ [])
  -- refused calls use up their numbers: the version is named by the fifth call
  pub refusals_are_counted : names_at (run id_kind limit_kind (fresh 2 2) (Open 0 ∷ Open 64 ∷ put_id 1 5 ∷ Open 0 ∷ Publish 0 ∷ [])) 0 ≡ Some (5 ∷ [])
  -- over a base of 10, removed on one side and 12 on the other give 12
  pub removed_by_ours : merge id_kind limit_kind [] (id_limit 1 10 ∷ []) (id_limit 1 12 ∷ []) ≡ id_limit 1 12 ∷ []
  pub removed_by_theirs : merge id_kind limit_kind (id_limit 1 12 ∷ []) (id_limit 1 10 ∷ []) [] ≡ id_limit 1 12 ∷ []
  pub one_removed : merge id_kind limit_kind [] (id_limit 1 10 ∷ []) (id_limit 1 10 ∷ []) ≡ []

-- A merge's result as a branch: kept whole, or nothing, one entry or a collision node. Assumes nothing.
use Rattle.std.proofs.Common.{◌≡◌, ℕ, ◌<◌, ◌≤◌, true, false, List, [], ◌∷◌, ◌++◌, map, length, get_or, take, Some, None, sym, refl, ap, ◌∙◌, subst, arith}
use lib.Count.{ones}
use Rattle.std.proofs.Math.Seq.{take-length}
use Rattle.std.proofs.lemmas.Bool.{cond-true, cond-false}
use Rattle.std.proofs.lemmas.List.{length-map, nil_from_length, append-nil}
use Rattle.kinds.specs.Kinds.{KeyKind, ValueKind}
use Rattle.model.specs.Maps.{Setting, Map, same_map, merge}
use Rattle.model.specs.Sharing.{Part, Shared, no_share, first_same, entry_from, kept_or, sum}
use Rattle.model.proofs.Marks.Keys.{same_map_true}
use Rattle.tables.specs.declared.cells.NodeCell.{NodeCell}
use Rattle.tables.specs.declared.cells.EntryId.{EntryId}
use Rattle.tables.specs.Chains.{occ}
use Rattle.tables.specs.Heaps.{Nodes}
use Rattle.tables.proofs.Occurrences.{occ_nil, occ_head}
use Rattle.plans.specs.Plans.{portion}
use Rattle.plans.proofs.Sharing.{share_first, portion_one, portion_many}
use Rattle.plans.proofs.Costs.{Costless}
use Rattle.branches.specs.declared.branch.Branch.{Branch}
use Rattle.branches.specs.declared.branch.Branch.TheVariants.{Nothing, Entry, Child}
use Rattle.branches.specs.States.{Tables, Sits, Under, Led}
use Rattle.branches.specs.Branches.{part_of, Built, Kept}
use Rattle.branches.specs.Hands.{Hand}
use Rattle.branches.specs.Handfuls.{node_cell, Assembling, Assembled}
use Rattle.branches.proofs.Growing.{grown_to}
use Rattle.branches.proofs.Picks.{entry_nodes}
use Rattle.branches.proofs.Hands.{hand_held}
use Rattle.branches.proofs.Kept.{portion_kept}
use Rattle.branches.proofs.Rows.{row_node}
use Rattle.branches.proofs.Rowfuls.{rowful_count, no_children, its_entries, several_ids}
use Rattle.edits.specs.Rowing.{entries_of}
use Rattle.edits.proofs.Places.{no_setting}
use Rattle.edits.proofs.RowEnds.{above, leaf_nodes, leaf_entries}
use Rattle.merges.specs.declared.chosen.Chosen.{Chosen}
use Rattle.merges.specs.Merges.{MayMerge}
use Rattle.merges.specs.Rowing.{choices, Chose}
use Rattle.merges.proofs.RowEstimates.{chosen_ours, chosen_theirs, chosen_long}
use Rattle.merges.proofs.RowHands.{No, Earlier, Rowed, all_at, deepest}

one_in : (l ids : List ℕ) → take 1 l ≡ ids → length ids ≡ 1 → ids ≡ get_or l 0 0 ∷ []
one_in [] ids e h = absurd (omega (arith, ap length e))
one_in (x ∷ l) ids e h = sym e

-- what a row's new entries are, where it is no source's
row_entries : (K : KeyKind) (n : ℕ) (p : List ℕ) (ss : List Part) (m : Map) → (1 < length m → first_same ss m ≡ None) → (portion K n 0 p ss m).new_entries ≡ (sum (entry_from n ss) m).new_entries
row_entries K n p ss [] none = refl
row_entries K n p ss (s ∷ []) none = ap (λ (q : Shared). q.new_entries) (portion_one K n 0 p ss s (omega arith)) ∙ omega arith
row_entries K n p ss (s ∷ (t ∷ m)) none = leaf_entries K n p ss (s ∷ (t ∷ m)) (none (omega arith))

module _ {X Y : Type 0} (K : KeyKind) (V : ValueKind) (kb : X → List ℕ) (vb : Y → List ℕ) (T : Tables X Y) (ours base theirs : Branch) (q : MayMerge K V kb vb T ours base theirs 0) (c : Chosen)
    (R : Chose K kb vb T.entries V (entries_of T.nodes ours) (entries_of T.nodes base) (entries_of T.nodes theirs) c) where
  abbrev n : ℕ
  n = q.call

  abbrev p : List ℕ
  p = q.met.prefix

  abbrev ss : List Part
  ss = q.met.mine ∷ (q.met.other ∷ [])

  abbrev m : Map
  m = merge K V q.met.mine.settings q.met.common.settings q.met.other.settings

  -- ---- a source's part

  pub kept_ours : c.ours ≡ true → (U : Tables X Y) → Kept K kb vb T ours U → Built K kb vb n 0 p m (portion K n 0 p ss m) T q.met.notes q.met.roots q.met.in_hand ours U
  kept_ours is U H =
      let e : q.met.mine.settings ≡ m = same_map_true q.met.mine.settings m (sym (chosen_ours K V kb vb T ours base theirs q.met c R) ∙ is) in
      let k = portion_kept K kb vb n 0 p (q.met.other ∷ []) T q.met.notes q.met.roots q.met.in_hand ours q.met.mine q.met.sits q.met.ours_is in
      let g : (part_of m (portion K n 0 p ss m) ≡ q.met.mine) × Costless (portion K n 0 p ss m) =
      subst (λ (x : Map). (part_of x (portion K n 0 p ss x) ≡ q.met.mine) × Costless (portion K n 0 p ss x)) e k in
      H.built n 0 p q.met.notes q.met.roots q.met.in_hand q.met.mine m (portion K n 0 p ss m) q.met.sits q.met.ours_is g.0 g.1.0 g.1.1

  several_in : 1 < length (choices c) → 1 < length m
  several_in h = omega (arith, chosen_long K V kb vb T ours base theirs q.met c R)

  pub kept_theirs : c.ours ≡ false → c.theirs ≡ true → 1 < length (choices c) → (U : Tables X Y) → Kept K kb vb T theirs U
      → Built K kb vb n 0 p m (portion K n 0 p ss m) T q.met.notes q.met.roots q.met.in_hand theirs U
  kept_theirs other is several U H =
      let x : same_map q.met.mine.settings m ≡ false = sym (chosen_ours K V kb vb T ours base theirs q.met c R) ∙ other in
      let y : same_map q.met.other.settings m ≡ true = sym (chosen_theirs K V kb vb T ours base theirs q.met c R) ∙ is in
      let e : q.met.other.settings ≡ m = same_map_true q.met.other.settings m y in
      let f : first_same ss m ≡ Some q.met.other =
      cond-false (same_map q.met.mine.settings m) (Some q.met.mine) (first_same (q.met.other ∷ []) m) x ∙ cond-true (same_map q.met.other.settings m) (Some q.met.other) None y in
      let s : portion K n 0 p ss m ≡ kept_or (Some q.met.other) no_share = portion_many K n 0 p ss m (several_in several) ∙ share_first K n p ss m 0 q.met.other f in
      H.built n 0 p q.met.notes q.met.roots q.met.in_hand q.met.other m (portion K n 0 p ss m) q.met.sits q.met.theirs_is
      (ap (part_of m) s ∙ (λ t. record { settings = sym e t; nodes = q.met.other.nodes; entries = q.met.other.entries }))
      (ap (λ (r : Shared). r.new_nodes) s) (ap (λ (r : Shared). r.new_entries) s)

  -- ---- no source's

  module _ (apart : c.ours ≡ false) (other_apart : 1 < length (choices c) → c.theirs ≡ false) where
    pub none : 1 < length m → first_same ss m ≡ None
    none several =
        cond-false (same_map q.met.mine.settings m) (Some q.met.mine) (first_same (q.met.other ∷ []) m) (sym (chosen_ours K V kb vb T ours base theirs q.met c R) ∙ apart)
        ∙ cond-false (same_map q.met.other.settings m) (Some q.met.other) None
        (sym (chosen_theirs K V kb vb T ours base theirs q.met c R) ∙ other_apart (omega (arith, chosen_long K V kb vb T ours base theirs q.met c R)))

    pub row_room_for : (sum (entry_from n ss) m).new_entries ≤ T.entry_spare
    row_room_for = omega (arith, q.entry_room, row_entries K n p ss m none)

    module _ (hand : NodeCell) (U : Tables X Y) (I : Rowed K V kb vb T ours base theirs q (length (choices c)) hand U) where
      all : Rowed K V kb vb T ours base theirs q (length m) hand U
      all = subst (λ (i : ℕ). Rowed K V kb vb T ours base theirs q i hand U) (chosen_long K V kb vb T ours base theirs q.met c R) I

      abbrev Q : List ℕ → Type 0
      Q = Earlier m (length m)

      whole : Hand K kb vb n 0 p ss m T q.met.notes q.met.roots q.met.in_hand No (Earlier m (length m)) m [] all.ids [] U
      whole = subst (λ (l : Map). Hand K kb vb n 0 p ss m T q.met.notes q.met.roots q.met.in_hand No (Earlier m (length m)) l [] all.ids [] U) (take-length m) all.in_hand

      ids_long : length all.ids ≡ length m
      ids_long = sym (length-map all.ids (λ e. (whole.notes.entry e).setting)) ∙ ap length whole.settings_are

      led_in : (k : List ℕ) → Earlier m (length m) k → Led K p k
      led_in k u = subst (Led K p) (sym u.1.1) (all_at (λ t. Led K p t.key) m u.0 no_setting q.led u.1.0)

      pub row_assembles : Assembling hand 0 U.nodes U.free U.spare
      row_assembles =
          let e = no_children hand all.ids all.rowful in
          record {
            room = λ z. let l : 1 < length m = omega (arith, several_ids hand all.ids all.rowful z, ids_long) in omega (arith, leaf_nodes K n p ss m (none l) l, q.room, whole.cost);
            heap = (q.met.roots, subst (λ (l : List ℕ). Nodes U.nodes U.free U.spare (l ++ q.met.roots)) (sym e) whole.sits.nodes);
            below = λ j o. absurd (omega (arith, ap (occ j) e, occ_nil j));
          }

      built_nothing : (ones hand.datamap) ≡ 0 → Built K kb vb n 0 p m (portion K n 0 p ss m) T q.met.notes q.met.roots q.met.in_hand Nothing U
      built_nothing z =
          let M = whole.notes in
          let none_in : all.ids ≡ [] = nil_from_length all.ids (omega (arith, rowful_count hand all.ids all.rowful)) in
          let e : m ≡ [] = sym whole.settings_are ∙ ap (map (λ i. (M.entry i).setting)) none_in in
          record {
            notes = M;
            sits = subst (λ (l : List ℕ). Sits K kb vb U M q.met.roots (l ++ q.met.in_hand)) none_in whole.sits;
            grown = grown_to n No (Under p) Q (Led K p) T U q.met.notes M (λ q x. absurd x) led_in whole.grown;
            is = ap (λ (l : Map). part_of l (portion K n 0 p ss l)) e;
            cost = omega (arith, whole.cost, ap (λ (l : Map). (portion K n 0 p ss l).new_nodes) e);
            entry_cost = omega (arith, whole.entry_cost, row_entries K n p ss m none);
          }

      built_entry : (e : EntryId) → (ones hand.datamap) ≡ 1 → e.0 ≡ get_or hand.entries 0 0 → Built K kb vb n 0 p m (portion K n 0 p ss m) T q.met.notes q.met.roots q.met.in_hand (Entry e) U
      built_entry e z w =
          let M = whole.notes in
          let s : Setting = (M.entry e.0).setting in
          let alone : all.ids ≡ e.0 ∷ [] =
          one_in hand.entries all.ids (ap (λ (i : ℕ). take i hand.entries) (sym z) ∙ all.rowful.bundled.entries_are) (omega (arith, rowful_count hand all.ids all.rowful))
          ∙ ap (λ (i : ℕ). i ∷ []) (sym w) in
          let is : m ≡ s ∷ [] = sym whole.settings_are ∙ ap (map (λ i. (M.entry i).setting)) alone in
          let shares : portion K n 0 p ss m ≡ entry_from n ss s = ap (portion K n 0 p ss) is ∙ portion_one K n 0 p ss s (omega arith) in
          let labels : (entry_from n ss s).entries ≡ (M.entry e.0).label ∷ [] =
          sym (append-nil (entry_from n ss s).entries) ∙ ap (λ (l : Map). (sum (entry_from n ss) l).entries) (sym is) ∙ sym whole.labels_are ∙ ap (map (λ i. (M.entry i).label)) alone in
          record {
            notes = M;
            sits = subst (λ (l : List ℕ). Sits K kb vb U M q.met.roots (l ++ q.met.in_hand)) alone whole.sits;
            grown = grown_to n No (Under p) Q (Led K p) T U q.met.notes M (λ q x. absurd x) led_in whole.grown;
            is = (
              omega arith,
              record {
                held = hand_held K kb vb n 0 p ss m T q.met.notes q.met.roots q.met.in_hand No Q m [] all.ids [] U whole e.0 (subst (λ (l : List ℕ). 0 < occ e.0 l) (sym alone) (occ_head e.0 []));
                settings = is;
                nodes = ap (λ (r : Shared). r.nodes) shares ∙ (entry_nodes n ss s).0;
                entries = ap (λ (r : Shared). r.entries) shares ∙ labels;
              },
            );
            cost = omega (arith, whole.cost, ap (λ (r : Shared). r.new_nodes) shares, (entry_nodes n ss s).1);
            entry_cost = omega (arith, whole.entry_cost, row_entries K n p ss m none);
          }

      pub row_built : (r : Branch) (ds : List NodeCell) (f s : ℕ) → Assembled hand 0 r U.nodes U.free U.spare ds f s
          → Built K kb vb n 0 p m (portion K n 0 p ss m) T q.met.notes q.met.roots q.met.in_hand r (above U ds f s)
      row_built Nothing ds f s done =
          subst (λ (l : List NodeCell). Built K kb vb n 0 p m (portion K n 0 p ss m) T q.met.notes q.met.roots q.met.in_hand Nothing (above U l f s)) (sym done.1.1.0)
          (subst (λ (i : ℕ). Built K kb vb n 0 p m (portion K n 0 p ss m) T q.met.notes q.met.roots q.met.in_hand Nothing (above U U.nodes i s)) (sym done.1.1.1.0)
          (subst (λ (i : ℕ). Built K kb vb n 0 p m (portion K n 0 p ss m) T q.met.notes q.met.roots q.met.in_hand Nothing (above U U.nodes U.free i)) (sym done.1.1.1.1) (built_nothing done.1.0)))
      row_built (Entry e) ds f s done =
          let rest = done.1.1.1.1 in
          subst (λ (l : List NodeCell). Built K kb vb n 0 p m (portion K n 0 p ss m) T q.met.notes q.met.roots q.met.in_hand (Entry e) (above U l f s)) (sym rest.0)
          (subst (λ (i : ℕ). Built K kb vb n 0 p m (portion K n 0 p ss m) T q.met.notes q.met.roots q.met.in_hand (Entry e) (above U U.nodes i s)) (sym rest.1.0)
          (subst (λ (i : ℕ). Built K kb vb n 0 p m (portion K n 0 p ss m) T q.met.notes q.met.roots q.met.in_hand (Entry e) (above U U.nodes U.free i)) (sym rest.1.1)
          (built_entry e done.1.1.0 done.1.1.1.0)))
      row_built (Child i) ds f s done =
          let several : 1 < length m = omega (arith, several_ids hand all.ids all.rowful done.0, ids_long) in
          subst (λ (r : Shared). Built K kb vb n 0 p m r T q.met.notes q.met.roots q.met.in_hand (Child i) (above U ds f s)) (sym (portion_many K n 0 p ss m several))
          (row_node K kb vb n 0 p ss m T q.met.notes q.met.roots q.met.in_hand No Q all.ids U whole (λ q x. absurd x) (λ q x. absurd x) led_in q.clear (deepest K V kb vb T ours base theirs q c R) (none several) several
          i (node_cell hand 0) (above U ds f s) (refl, refl, refl) done.1 (no_children hand all.ids all.rowful) (its_entries hand all.ids all.rowful) refl (omega arith))

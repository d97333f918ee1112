-- A row's result in hand as a branch: nothing, one entry or a collision node. Assumes nothing.
use Rattle.std.proofs.Common.{◌≡◌, ℕ, ◌<◌, ◌≤◌, List, [], ◌∷◌, ◌++◌, map, length, get_or, take, None, sym, refl, ap, ◌∙◌, subst, arith}
use lib.Count.{ones}
use Rattle.std.proofs.lemmas.List.{length-map, nil_from_length, append-nil}
use Rattle.kinds.specs.Kinds.{KeyKind}
use Rattle.model.specs.Maps.{Setting, Map}
use Rattle.model.specs.Sharing.{Part, Shared, first_same, entry_from, sum}
use Rattle.tables.specs.declared.cells.NodeCell.{NodeCell}
use Rattle.tables.specs.declared.cells.EntryId.{EntryId}
use Rattle.tables.specs.Chains.{occ}
use Rattle.tables.specs.Heaps.{Nodes}
use Rattle.tables.proofs.Occurrences.{occ_nil, occ_head}
use Rattle.plans.specs.Plans.{portion}
use Rattle.plans.proofs.Sharing.{share_new_leaf, portion_one, portion_many}
use Rattle.branches.specs.declared.branch.Branch.{Branch}
use Rattle.branches.specs.declared.branch.Branch.TheVariants.{Nothing, Entry, Child}
use Rattle.branches.specs.States.{Tables, Notes, Sits, Clear, Under, Led}
use Rattle.branches.specs.Branches.{part_of, Built}
use Rattle.branches.specs.Handfuls.{node_cell, Assembling, Assembled}
use Rattle.branches.proofs.Growing.{grown_to}
use Rattle.branches.proofs.Picks.{entry_nodes, entries_nodes}
use Rattle.branches.proofs.Hands.{hand_held}
use Rattle.branches.proofs.Rows.{row_node}
use Rattle.branches.proofs.Rowfuls.{rowful_count, no_children, its_entries, several_ids}
use Rattle.edits.proofs.RowHands.{No, Got}

-- tables with the nodes of others
abbrev pub above : {X Y : Type 0} → Tables X Y → List NodeCell → ℕ → ℕ → Tables X Y
above T cs f s = record { nodes = cs; free = f; spare = s; entries = T.entries; entry_free = T.entry_free; entry_spare = T.entry_spare }

one_in : (l ids : List ℕ) → take 1 l ≡ ids → length ids ≡ 1 → ids ≡ get_or l 0 0 ∷ []
one_in [] ids e h = absurd (omega (arith, ap length e))
one_in (x ∷ l) ids e h = sym e

-- what a new row takes
module _ (K : KeyKind) (n : ℕ) (p : List ℕ) (ss : List Part) (m : Map) (none : first_same ss m ≡ None) where
  pub leaf_nodes : 1 < length m → (portion K n 0 p ss m).new_nodes ≡ 1
  leaf_nodes several =
      ap (λ (s : Shared). s.new_nodes) (portion_many K n 0 p ss m several ∙ share_new_leaf K n p ss m none) ∙ omega (arith, (entries_nodes n ss m).1)

  leaf_entries_many : 1 < length m → (portion K n 0 p ss m).new_entries ≡ (sum (entry_from n ss) m).new_entries
  leaf_entries_many several =
      ap (λ (s : Shared). s.new_entries) (portion_many K n 0 p ss m several ∙ share_new_leaf K n p ss m none) ∙ omega arith

pub leaf_entries : (K : KeyKind) (n : ℕ) (p : List ℕ) (ss : List Part) (m : Map) → first_same ss m ≡ None → (portion K n 0 p ss m).new_entries ≡ (sum (entry_from n ss) m).new_entries
leaf_entries K n p ss [] none = refl
leaf_entries K n p ss (s ∷ []) none = ap (λ (q : Shared). q.new_entries) (portion_one K n 0 p ss s (omega arith)) ∙ omega arith
leaf_entries K n p ss (s ∷ (t ∷ m)) none = leaf_entries_many K n p ss (s ∷ (t ∷ m)) none (omega arith)

module _ {X Y : Type 0} (K : KeyKind) (kb : X → List ℕ) (vb : Y → List ℕ) (n : ℕ) (p : List ℕ) (a : Part) (m : Map) (T : Tables X Y) (N : Notes) (R E : List ℕ)
    (k : List ℕ) (led : Led K p k) (none : first_same (a ∷ []) m ≡ None) (hand : NodeCell) (U : Tables X Y) (G : Got K kb vb n p a m T N R E (λ y. y ≡ k) m hand U) where
  ids_long : length G.ids ≡ length m
  ids_long = sym (length-map G.ids (λ e. (G.in_hand.notes.entry e).setting)) ∙ ap length G.in_hand.settings_are

  pub got_assembles : (portion K n 0 p (a ∷ []) m).new_nodes ≤ T.spare → Assembling hand 0 U.nodes U.free U.spare
  got_assembles room =
      let e = no_children hand G.ids G.rowful in
      record {
        room = λ z. let l : 1 < length m = omega (arith, several_ids hand G.ids G.rowful z, ids_long) in omega (arith, leaf_nodes K n p (a ∷ []) m none l, room, G.in_hand.cost);
        heap = (R, subst (λ (l : List ℕ). Nodes U.nodes U.free U.spare (l ++ R)) (sym e) G.in_hand.sits.nodes);
        below = λ j q. absurd (omega (arith, ap (occ j) e, occ_nil j));
      }

  -- ---- nothing

  built_nothing : (ones hand.datamap) ≡ 0 → Built K kb vb n 0 p m (portion K n 0 p (a ∷ []) m) T N R E Nothing U
  built_nothing z =
      let M = G.in_hand.notes in
      let none_in : G.ids ≡ [] = nil_from_length G.ids (omega (arith, rowful_count hand G.ids G.rowful)) in
      let e : m ≡ [] = sym G.in_hand.settings_are ∙ ap (map (λ i. (M.entry i).setting)) none_in in
      record {
        notes = M;
        sits = subst (λ (l : List ℕ). Sits K kb vb U M R (l ++ E)) none_in G.in_hand.sits;
        grown = grown_to n No (Under p) (λ y. y ≡ k) (Led K p) T U N M (λ q x. absurd x) (λ y x. subst (Led K p) (sym x) led) G.in_hand.grown;
        is = ap (λ (l : Map). part_of l (portion K n 0 p (a ∷ []) l)) e;
        cost = omega (arith, G.in_hand.cost, ap (λ (l : Map). (portion K n 0 p (a ∷ []) l).new_nodes) e);
        entry_cost = omega (arith, G.in_hand.entry_cost, leaf_entries K n p (a ∷ []) m none);
      }

  -- ---- one entry

  built_entry : (e : EntryId) → (ones hand.datamap) ≡ 1 → e.0 ≡ get_or hand.entries 0 0 → Built K kb vb n 0 p m (portion K n 0 p (a ∷ []) m) T N R E (Entry e) U
  built_entry e z w =
      let M = G.in_hand.notes in
      let s : Setting = (M.entry e.0).setting in
      let alone : G.ids ≡ e.0 ∷ [] =
      one_in hand.entries G.ids (ap (λ (i : ℕ). take i hand.entries) (sym z) ∙ G.rowful.bundled.entries_are) (omega (arith, rowful_count hand G.ids G.rowful))
      ∙ ap (λ (i : ℕ). i ∷ []) (sym w) in
      let is : m ≡ s ∷ [] = sym G.in_hand.settings_are ∙ ap (map (λ i. (M.entry i).setting)) alone in
      let shares : portion K n 0 p (a ∷ []) m ≡ entry_from n (a ∷ []) s = ap (portion K n 0 p (a ∷ [])) is ∙ portion_one K n 0 p (a ∷ []) s (omega arith) in
      let labels : (entry_from n (a ∷ []) s).entries ≡ (M.entry e.0).label ∷ [] =
      sym (append-nil (entry_from n (a ∷ []) s).entries) ∙ ap (λ (l : Map). (sum (entry_from n (a ∷ [])) l).entries) (sym is) ∙ sym G.in_hand.labels_are
      ∙ ap (map (λ i. (M.entry i).label)) alone in
      record {
        notes = M;
        sits = subst (λ (l : List ℕ). Sits K kb vb U M R (l ++ E)) alone G.in_hand.sits;
        grown = grown_to n No (Under p) (λ y. y ≡ k) (Led K p) T U N M (λ q x. absurd x) (λ y x. subst (Led K p) (sym x) led) G.in_hand.grown;
        is = (
          omega arith,
          record {
            held = hand_held K kb vb n 0 p (a ∷ []) m T N R E No (λ y. y ≡ k) m [] G.ids [] U G.in_hand e.0 (subst (λ (l : List ℕ). 0 < occ e.0 l) (sym alone) (occ_head e.0 []));
            settings = is;
            nodes = ap (λ (q : Shared). q.nodes) shares ∙ (entry_nodes n (a ∷ []) s).0;
            entries = ap (λ (q : Shared). q.entries) shares ∙ labels;
          },
        );
        cost = omega (arith, G.in_hand.cost, ap (λ (q : Shared). q.new_nodes) shares, (entry_nodes n (a ∷ []) s).1);
        entry_cost = omega (arith, G.in_hand.entry_cost, leaf_entries K n p (a ∷ []) m none);
      }

  -- ---- all

  module _ (clear : Clear n (Under p) (Led K p) T N) (deep : length p ≡ 8) where
    pub got_built : (r : Branch) (ds : List NodeCell) (f s : ℕ) → Assembled hand 0 r U.nodes U.free U.spare ds f s
        → Built K kb vb n 0 p m (portion K n 0 p (a ∷ []) m) T N R E r (above U ds f s)
    got_built Nothing ds f s done =
        subst (λ (l : List NodeCell). Built K kb vb n 0 p m (portion K n 0 p (a ∷ []) m) T N R E Nothing (above U l f s)) (sym done.1.1.0)
        (subst (λ (i : ℕ). Built K kb vb n 0 p m (portion K n 0 p (a ∷ []) m) T N R E Nothing (above U U.nodes i s)) (sym done.1.1.1.0)
        (subst (λ (i : ℕ). Built K kb vb n 0 p m (portion K n 0 p (a ∷ []) m) T N R E Nothing (above U U.nodes U.free i)) (sym done.1.1.1.1) (built_nothing done.1.0)))
    got_built (Entry e) ds f s done =
        let rest = done.1.1.1.1 in
        subst (λ (l : List NodeCell). Built K kb vb n 0 p m (portion K n 0 p (a ∷ []) m) T N R E (Entry e) (above U l f s)) (sym rest.0)
        (subst (λ (i : ℕ). Built K kb vb n 0 p m (portion K n 0 p (a ∷ []) m) T N R E (Entry e) (above U U.nodes i s)) (sym rest.1.0)
        (subst (λ (i : ℕ). Built K kb vb n 0 p m (portion K n 0 p (a ∷ []) m) T N R E (Entry e) (above U U.nodes U.free i)) (sym rest.1.1)
        (built_entry e done.1.1.0 done.1.1.1.0)))
    got_built (Child i) ds f s done =
        let several : 1 < length m = omega (arith, several_ids hand G.ids G.rowful done.0, ids_long) in
        subst (λ (q : Shared). Built K kb vb n 0 p m q T N R E (Child i) (above U ds f s)) (sym (portion_many K n 0 p (a ∷ []) m several))
        (row_node K kb vb n 0 p (a ∷ []) m T N R E No (λ y. y ≡ k) G.ids U G.in_hand (λ q x. absurd x) (λ q x. absurd x) (λ y x. subst (Led K p) (sym x) led) clear deep none several
        i (node_cell hand 0) (above U ds f s) (refl, refl, refl) done.1 (no_children hand G.ids G.rowful) (its_entries hand G.ids G.rowful) refl (omega arith))

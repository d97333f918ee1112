-- The labels over the roots are those of the held cells, so they count the free ones. Assumes nothing.
use Rattle.std.proofs.Common.{◌≡◌, ℕ, zero, suc, ◌+◌, ◌<◌, ◌≤◌, true, ◌⊎◌, List, [], ◌∷◌, ◌++◌, map, length, get_or, sum_by, sym, refl, ap, ◌∙◌, subst, inl, inr, arith}
use mathlib.Core.List.{Memᴰ}
use Rattle.std.specs.List.{flat_map}
use Rattle.std.proofs.lemmas.List.Sums.{sum_by-cons}
use Rattle.std.proofs.lemmas.Bool.{cases_lt}
use Rattle.kinds.specs.Kinds.{KeyKind}
use Rattle.model.specs.Sharing.{Marked}
use Rattle.model.specs.Accounts.{in_row, distinct}
use Rattle.model.proofs.Counts.{in_row_member, member_in_row}
use Rattle.tables.specs.declared.cells.NodeCell.{NodeCell}
use Rattle.tables.specs.declared.cells.EntryCell.{EntryCell}
use Rattle.tables.specs.Chains.{occ}
use Rattle.tables.specs.Cells.{blank, cell, entry_cell, kids, singles}
use Rattle.tables.specs.Heaps.{inner, inner_entries, Nodes, Entries, Entryless}
use Rattle.tables.specs.Notes.{Note, EntryNote, seat, branches, Means}
use Rattle.tables.proofs.Occurrences.{occ_nil}
use Rattle.tables.proofs.Rows.{joined_map, from_joined, to_joined, from_labels, to_labels}
use Rattle.tables.proofs.NodeCounts.{inside}
use Rattle.tables.proofs.EntryCounts.{inside_entries}
use Rattle.tables.proofs.Noting.{kid_held, single_held}
use Rattle.tables.proofs.Tallies.{spare_count}

-- ---- a sum that is not zero has something in it

pub some_of : {C : Type 0} (f : C → ℕ) (d : C) (xs : List C) → 0 < sum_by f xs → (j : ℕ) × (0 < f (get_or xs j d))
some_of f d [] p = absurd (omega arith)
some_of f d (x ∷ xs) p =
    elim (cases_lt 0 (f x)) [
      | inl q ↦ (0, q)
      | inr q ↦ let r = some_of f d xs (omega (arith, sum_by-cons f x xs)) in (suc r.0, r.1)
    ]

pub parent : (cs : List NodeCell) (i : ℕ) → 0 < inner i cs → (j : ℕ) × (0 < occ i (kids (cell cs j)))
unfolding inner
parent cs i = some_of (λ (c : NodeCell). occ i (kids c)) blank cs

pub entry_parent : (cs : List NodeCell) (e : ℕ) → 0 < inner_entries e cs → (j : ℕ) × (0 < occ e (singles (cell cs j)))
unfolding inner_entries
entry_parent cs e = some_of (λ (c : NodeCell). occ e (singles c)) blank cs

-- what has a child, or an entry, is held
pub held_parent : (cs : List NodeCell) (f s : ℕ) (R : List ℕ) → Nodes cs f s R → (i k : ℕ) → 0 < occ k (kids (cell cs i)) → 0 < (cell cs i).holders
held_parent cs f s R H i k p =
    elim (cases_lt 0 (cell cs i).holders) [ inl q ↦ q | inr q ↦ omega (arith, ap (occ k) (H.childless i (omega arith)), occ_nil k) ]

pub held_owner : (cs : List NodeCell) → Entryless cs → (i e : ℕ) → 0 < occ e (singles (cell cs i)) → 0 < (cell cs i).holders
held_owner cs L i e p =
    elim (cases_lt 0 (cell cs i).holders) [ inl q ↦ q | inr q ↦ omega (arith, ap (occ e) (L i (omega arith)), occ_nil e) ]

module _ {X Y : Type 0} (K : KeyKind) (kb : X → List ℕ) (vb : Y → List ℕ) (cs : List NodeCell) (es : List (EntryCell X Y)) (note : ℕ → Note) (entry_note : ℕ → EntryNote)
    (f s : ℕ) (roots : List ℕ) (H : Nodes cs f s roots) (M : Means K kb vb cs es note entry_note) where
  abbrev Held : ℕ → Type 0
  Held i = 0 < (cell cs i).holders

  root_held : (r : ℕ) → 0 < occ r roots → Held r
  root_held r p = omega (arith, H.counted r)

  -- what a note says goes by the children's notes
  over_kids : (F : Note → List Marked) (i : ℕ) → Held i → flat_map (λ g. F (note ((note i).child g))) (branches K (seat (note i))) ≡ flat_map (λ k. F (note k)) (kids (cell cs i))
  over_kids F i h = sym (joined_map (λ k. F (note k)) (note i).child (branches K (seat (note i)))) ∙ ap (flat_map (λ k. F (note k))) (sym (M.fits i h).children)

  pub nodes_over : (i : ℕ) → Held i → (note i).nodes ≡ (note i).label ∷ flat_map (λ k. (note k).nodes) (kids (cell cs i))
  nodes_over i h = (M.fits i h).nodes_are ∙ ap (λ (r : List Marked). (note i).label ∷ r) (over_kids (λ a. a.nodes) i h)

  pub entries_over : (i : ℕ) → Held i → (note i).entries ≡ map (λ e. (entry_note e).label) (singles (cell cs i)) ++ flat_map (λ k. (note k).entries) (kids (cell cs i))
  entries_over i h = (M.fits i h).entries_are ∙ ap (λ (r : List Marked). map (λ e. (entry_note e).label) (singles (cell cs i)) ++ r) (over_kids (λ a. a.entries) i h)

  -- up: what each parent has of its children, some root has of each held cell
  up :
      (P : ℕ → Type 0) → ((j i : ℕ) → Held j → 0 < occ i (kids (cell cs j)) → P i → P j)
      → (n i : ℕ) → length (note i).label.what ≤ n → Held i → P i → (r : ℕ) × ((0 < occ r roots) × P r)
  up P step zero i le h p =
      elim (cases_lt 0 (occ i roots)) [
        | inl q ↦ (i, (q, p))
        | inr q ↦
            let t = parent cs i (omega (arith, H.counted i)) in
            let hj : Held t.0 = held_parent cs f s roots H t.0 i t.1 in
            absurd (omega (arith, H.falls t.0 i t.1, (M.fits i h).level_is, (M.fits t.0 hj).level_is))
      ]
  up P step (suc n) i le h p =
      elim (cases_lt 0 (occ i roots)) [
        | inl q ↦ (i, (q, p))
        | inr q ↦
            let t = parent cs i (omega (arith, H.counted i)) in
            let hj : Held t.0 = held_parent cs f s roots H t.0 i t.1 in
            up P step n t.0 (omega (arith, H.falls t.0 i t.1, (M.fits i h).level_is, (M.fits t.0 hj).level_is)) hj (step t.0 i hj t.1 p)
      ]

  -- down: what a held cell's row has of itself or of a child's row, some held cell has of itself
  down :
      {x : Marked} (F : ℕ → List Marked) (P : ℕ → Type 0)
      → ((i : ℕ) → Held i → Memᴰ x (F i) → P i ⊎ Memᴰ x (flat_map F (kids (cell cs i))))
      → (n i : ℕ) → (cell cs i).level ≤ n → Held i → Memᴰ x (F i) → (j : ℕ) × (Held j × P j)
  down {x} F P split zero i le h m =
      elim (split i h m) [
        | inl p ↦ (i, (h, p))
        | inr q ↦ let r = from_joined x F (kids (cell cs i)) q in absurd (omega (arith, H.falls i r.0 r.1.0))
      ]
  down {x} F P split (suc n) i le h m =
      elim (split i h m) [
        | inl p ↦ (i, (h, p))
        | inr q ↦ let r = from_joined x F (kids (cell cs i)) q in
            down F P split n r.0 (omega (arith, H.falls i r.0 r.1.0)) (kid_held cs f s roots H i r.0 r.1.0) r.1.1
      ]

  -- ---- nodes

  nodes_up : (x : Marked) (j i : ℕ) → Held j → 0 < occ i (kids (cell cs j)) → Memᴰ x (note i).nodes → Memᴰ x (note j).nodes
  nodes_up x j i h o m = subst (Memᴰ x) (sym (nodes_over j h)) (mathlib.Core.List.Memᴰ.tail (to_joined x (λ k. (note k).nodes) (kids (cell cs j)) i o m))

  node_member : (i : ℕ) → Held i → Memᴰ (note i).label (flat_map (λ r. (note r).nodes) roots)
  node_member i h =
      let here : Memᴰ (note i).label (note i).nodes = subst (Memᴰ (note i).label) (sym (nodes_over i h)) (mathlib.Core.List.Memᴰ.head refl) in
      let r = up (λ k. Memᴰ (note i).label (note k).nodes) (nodes_up (note i).label) (length (note i).label.what) i (omega arith) h here in
      to_joined (note i).label (λ r. (note r).nodes) roots r.0 r.1.0 r.1.1

  member_node : (x : Marked) → Memᴰ x (flat_map (λ r. (note r).nodes) roots) → (i : ℕ) × (Held i × ((note i).label ≡ x))
  member_node x m =
      let r = from_joined x (λ r. (note r).nodes) roots m in
      down (λ k. (note k).nodes) (λ k. (note k).label ≡ x) (λ i h q. sides i (mathlib.Core.List.Memᴰ.cases_cons (subst (Memᴰ x) (nodes_over i h) q)))
      (cell cs r.0).level r.0 (omega arith) (root_held r.0 r.1.0) r.1.1
    where
      sides : (i : ℕ) → (x ≡ (note i).label) ⊎ Memᴰ x (flat_map (λ k. (note k).nodes) (kids (cell cs i))) → ((note i).label ≡ x) ⊎ Memᴰ x (flat_map (λ k. (note k).nodes) (kids (cell cs i)))
      sides i (inl e) = inl (sym e)
      sides i (inr q) = inr q

  -- each held node is in the row over the roots, and what is in the row is held
  pub nodes_reached : (i : ℕ) → 0 < (cell cs i).holders → in_row (note i).label (flat_map (λ r. (note r).nodes) roots) ≡ true
  nodes_reached i h = member_in_row (note i).label (node_member i h)

  pub reached_nodes : (x : Marked) → in_row x (flat_map (λ r. (note r).nodes) roots) ≡ true → (i : ℕ) × ((0 < (cell cs i).holders) × ((note i).label ≡ x))
  reached_nodes x e = member_node x (in_row_member x (flat_map (λ r. (note r).nodes) roots) e)

  pub nodes_free : s + distinct (flat_map (λ r. (note r).nodes) roots) ≡ length cs
  nodes_free =
      spare_count (λ i. (cell cs i).holders) (λ i. (note i).label) M.once (λ i. (cell cs i).next) (length cs) f s H.chain (flat_map (λ r. (note r).nodes) roots)
      (λ x m. let r = member_node x m in (r.0, (inside cs r.0 r.1.0, r.1))) node_member

  -- ---- entries

  module _ (ef et : ℕ) (eroots : List ℕ) (G : Entries cs es ef et eroots) (L : Entryless cs) where
    abbrev entries_row : List Marked
    entries_row = flat_map (λ r. (note r).entries) roots ++ map (λ e. (entry_note e).label) eroots

    entries_up : (x : Marked) (j i : ℕ) → Held j → 0 < occ i (kids (cell cs j)) → Memᴰ x (note i).entries → Memᴰ x (note j).entries
    entries_up x j i h o m =
        subst (Memᴰ x) (sym (entries_over j h))
        (mathlib.Core.List.Memᴰ.append_right (map (λ e. (entry_note e).label) (singles (cell cs j))) (to_joined x (λ k. (note k).entries) (kids (cell cs j)) i o m))

    entry_member : (e : ℕ) → 0 < (entry_cell es e).holders → Memᴰ (entry_note e).label entries_row
    entry_member e h =
        elim (cases_lt 0 (occ e eroots)) [
          | inl q ↦ mathlib.Core.List.Memᴰ.append_right (flat_map (λ r. (note r).entries) roots) (to_labels (λ e. (entry_note e).label) eroots e q)
          | inr q ↦
              let t = entry_parent cs e (omega (arith, G.counted e)) in
              let i : ℕ = t.0 in
              let x : Marked = (entry_note e).label in
              let hi : Held i = held_owner cs L i e t.1 in
              let here : Memᴰ x (note i).entries =
              subst (Memᴰ x) (sym (entries_over i hi)) (mathlib.Core.List.Memᴰ.append_left (flat_map (λ k. (note k).entries) (kids (cell cs i))) (to_labels (λ e. (entry_note e).label) (singles (cell cs i)) e t.1)) in
              let r = up (λ k. Memᴰ x (note k).entries) (entries_up x) (length (note i).label.what) i (omega arith) hi here in
              mathlib.Core.List.Memᴰ.append_left (map (λ e. (entry_note e).label) eroots) (to_joined x (λ r. (note r).entries) roots r.0 r.1.0 r.1.1)
        ]

    member_entry : (x : Marked) → Memᴰ x entries_row → (e : ℕ) × ((0 < (entry_cell es e).holders) × ((entry_note e).label ≡ x))
    member_entry x m =
        elim (mathlib.Core.List.Memᴰ.append_cases (flat_map (λ r. (note r).entries) roots) m) [
          | inl q ↦
              let r = from_joined x (λ r. (note r).entries) roots q in
              let d = down (λ k. (note k).entries) (λ k. Memᴰ x (map (λ e. (entry_note e).label) (singles (cell cs k))))
              (λ i h p. mathlib.Core.List.Memᴰ.append_cases (map (λ e. (entry_note e).label) (singles (cell cs i))) (subst (Memᴰ x) (entries_over i h) p))
              (cell cs r.0).level r.0 (omega arith) (root_held r.0 r.1.0) r.1.1 in
              let t = from_labels x (λ e. (entry_note e).label) (singles (cell cs d.0)) d.1.1 in
              (t.0, (single_held cs es ef et eroots G d.0 t.0 t.1.0, t.1.1))
          | inr q ↦
              let t = from_labels x (λ e. (entry_note e).label) eroots q in
              (t.0, (omega (arith, G.counted t.0, t.1.0), t.1.1))
        ]

    -- each held entry is in the row over the roots, and what is in the row is held
    pub entries_reached : (e : ℕ) → 0 < (entry_cell es e).holders → in_row (entry_note e).label (flat_map (λ r. (note r).entries) roots ++ map (λ e. (entry_note e).label) eroots) ≡ true
    entries_reached e h = member_in_row (entry_note e).label (entry_member e h)

    pub reached_entries :
        (x : Marked) → in_row x (flat_map (λ r. (note r).entries) roots ++ map (λ e. (entry_note e).label) eroots) ≡ true
        → (e : ℕ) × ((0 < (entry_cell es e).holders) × ((entry_note e).label ≡ x))
    reached_entries x i = member_entry x (in_row_member x entries_row i)

    pub entries_free : et + distinct (flat_map (λ r. (note r).entries) roots ++ map (λ e. (entry_note e).label) eroots) ≡ length es
    entries_free =
        spare_count (λ e. (entry_cell es e).holders) (λ e. (entry_note e).label) M.entry_once (λ e. (entry_cell es e).next) (length es) ef et G.chain entries_row
        (λ x m. let r = member_entry x m in (r.0, (inside_entries es r.0 r.1.0, r.1))) entry_member

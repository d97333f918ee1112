-- The cells that are free in the tables are those that are free in the account. Assumes nothing.
use Rattle.std.proofs.Common.{◌≡◌, ℕ, ◌+◌, ◌-◌, List, [], ◌∷◌, ◌++◌, map, sym, refl, ap, ◌∙◌, ap₂, append-nil, arith}
use Rattle.std.specs.List.{flat_map}
use Rattle.kinds.specs.Kinds.{KeyKind, ValueKind}
use Rattle.model.specs.Tries.{concat}
use Rattle.model.specs.Sharing.{Marked, Part}
use Rattle.model.specs.Accounts.{Place, empty, draft, published, Account, whole, versions, distinct, held_nodes, held_entries, free_nodes, free_entries}
use Rattle.tables.specs.Notes.{Note}
use Rattle.tables.proofs.Reach.{nodes_free, entries_free}
use Rattle.branches.specs.declared.branch.Branch.{Branch}
use Rattle.branches.specs.declared.branch.Branch.TheVariants.{Nothing, Entry, Child}
use Rattle.branches.specs.States.{Tables, Notes}
use Rattle.branches.specs.Branches.{Is, node_of}
use Rattle.store.specs.declared.spot.Spot.{Spot}
use Rattle.store.specs.declared.spot.Spot.TheVariants.{Empty, Draft, Published}
use Rattle.store.specs.Stores.{State, owners, Show, Represents}

-- what the roots have by their notes is what the versions have
module _ {X Y : Type 0} (T : Tables X Y) (N : Notes) (of_note : Note → List Marked) (of_part : Part → List Marked)
    (none : of_part (record { settings = []; nodes = []; entries = [] }) ≡ [])
    (root : (i : ℕ) (a : Part) → ((N.node i).nodes ≡ a.nodes) × ((N.node i).entries ≡ a.entries) → of_note (N.node i) ≡ of_part a) where
  branch_row : (b : Branch) (a : Part) (rest : List ℕ) (r : List Marked) → Is T N b 8 [] a → flat_map (λ i. of_note (N.node i)) rest ≡ r → flat_map (λ i. of_note (N.node i)) (node_of b ++ rest) ≡ of_part a ++ r
  branch_row Nothing a rest r h e = e ∙ ap (λ (x : List Marked). x ++ r) (sym (ap of_part h ∙ none))
  branch_row (Entry e) a rest r h _ = absurd (omega (arith, h.0))
  branch_row (Child i) a rest r h e = ap₂ ◌++◌ (root i.0 a (h.0.nodes, h.0.entries)) e

  abbrev rows : List Place → List Marked
  rows ps = concat (map (λ v. of_part (whole v)) (versions ps))

  pub show_rows : (ss : List Spot) (ps : List Place) → Show T N ss ps → flat_map (λ i. of_note (N.node i)) (owners ss) ≡ rows ps
  show_rows [] [] h = refl
  show_rows [] (p ∷ ps) h = absurd h
  show_rows (s ∷ ss) [] h = absurd h
  show_rows (Empty ∷ ss) (empty ∷ ps) h = show_rows ss ps h.1
  show_rows (Empty ∷ ss) (draft v ∷ ps) h = absurd h.0
  show_rows (Empty ∷ ss) (published v ∷ ps) h = absurd h.0
  show_rows (Draft b ∷ ss) (empty ∷ ps) h = absurd h.0
  show_rows (Draft b ∷ ss) (draft v ∷ ps) h = branch_row b (whole v) (owners ss) (rows ps) h.0 (show_rows ss ps h.1)
  show_rows (Draft b ∷ ss) (published v ∷ ps) h = absurd h.0
  show_rows (Published b ∷ ss) (empty ∷ ps) h = absurd h.0
  show_rows (Published b ∷ ss) (draft v ∷ ps) h = absurd h.0
  show_rows (Published b ∷ ss) (published v ∷ ps) h = branch_row b (whole v) (owners ss) (rows ps) h.0 (show_rows ss ps h.1)

module _ {X Y : Type 0} (K : KeyKind) (V : ValueKind) (kb : X → List ℕ) (vb : Y → List ℕ) (S : State X Y) (a : Account) (rep : Represents K V kb vb S a) where
  abbrev T : Tables X Y
  T = S.tables

  pub node_rows : flat_map (λ i. (rep.notes.node i).nodes) (owners S.places) ≡ held_nodes a.places
  node_rows = show_rows T rep.notes (λ n. n.nodes) (λ b. b.nodes) refl (λ i b h. h.0) S.places a.places rep.shows

  pub entry_rows : flat_map (λ i. (rep.notes.node i).entries) (owners S.places) ≡ held_entries a.places
  entry_rows = show_rows T rep.notes (λ n. n.entries) (λ b. b.entries) refl (λ i b h. h.1) S.places a.places rep.shows

  pub nodes_left : T.spare + distinct (held_nodes a.places) ≡ a.node_cells
  nodes_left =
      ap (λ (l : List Marked). T.spare + distinct l) (sym node_rows)
      ∙ nodes_free K kb vb T.nodes T.entries rep.notes.node rep.notes.entry T.free T.spare (owners S.places) rep.sits.nodes rep.sits.means
      ∙ rep.long

  pub entries_left : T.entry_spare + distinct (held_entries a.places) ≡ a.entry_cells
  entries_left =
      ap (λ (l : List Marked). T.entry_spare + distinct l) (sym (append-nil (flat_map (λ i. (rep.notes.node i).entries) (owners S.places)) ∙ entry_rows))
      ∙ entries_free K kb vb T.nodes T.entries rep.notes.node rep.notes.entry T.free T.spare (owners S.places) rep.sits.nodes rep.sits.means
      T.entry_free T.entry_spare [] rep.sits.entries rep.sits.entryless
      ∙ rep.entry_long

  less : (s d n : ℕ) → s + d ≡ n → s ≡ n - d
  less s d n e = omega arith

  pub free_is : (T.spare ≡ free_nodes a) × (T.entry_spare ≡ free_entries a)
  free_is = (less T.spare (distinct (held_nodes a.places)) a.node_cells nodes_left, less T.entry_spare (distinct (held_entries a.places)) a.entry_cells entries_left)

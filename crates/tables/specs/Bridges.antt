-- What the tables' contracts say of versions: the theorems that everything above stands on. Assumes nothing.
use Rattle.std.specs.Prelude.{◌≡◌, ℕ, ◌+◌, ◌<◌, true, List, [], ◌∷◌, ◌++◌, map, length, ◌≢◌, count_ones, slice_index, slice_index_or}
use Rattle.std.specs.List.{flat_map}
use Rattle.kinds.specs.Kinds.{KeyKind}
use Rattle.model.specs.Maps.{Setting}
use Rattle.model.specs.Tries.{at_digit, one, many}
use Rattle.model.specs.Sharing.{Marked, Part}
use Rattle.model.specs.Accounts.{in_row, distinct}
use Rattle.tables.specs.declared.cells.NodeCell.{NodeCell}
use Rattle.tables.specs.declared.cells.EntryCell.{EntryCell}
use Rattle.tables.specs.Chains.{occ}
use Rattle.tables.specs.Cells.{cell, entry_cell, kids, singles}
use Rattle.tables.specs.Heaps.{Nodes, Entries, Entryless, NodeHeld, NodeMade, EntryHeld, EntryMade, Released}
use Rattle.tables.specs.Notes.{Note, EntryNote, Fits, EntryFits, Means, Stands, noted}
use Rattle.tables.specs.Slots.{bit, rank_of}

-- the marked nodes of the owners' versions, and the marked entries, with those in hand
abbrev pub owned_nodes : (ℕ → Note) → List ℕ → List Marked
owned_nodes note roots = flat_map (λ r. (note r).nodes) roots

abbrev pub owned_entries : (ℕ → Note) → (ℕ → EntryNote) → List ℕ → List ℕ → List Marked
owned_entries note entry_note roots in_hand = flat_map (λ r. (note r).entries) roots ++ map (λ e. (entry_note e).label) in_hand

-- ---- a version that is owned stays

-- while another is given up
abbrev pub VersionsOutliveOthers : {X Y : Type 0} → KeyKind → (X → List ℕ) → (Y → List ℕ) → Type 0
VersionsOutliveOthers {X} {Y} K kb vb =
    (cs : List NodeCell) (f s : ℕ) (es : List (EntryCell X Y)) (ef eu : ℕ) (ds : List NodeCell) (g t : ℕ) (fs : List (EntryCell X Y)) (eg et : ℕ)
    (note : ℕ → Note) (entry_note : ℕ → EntryNote) (r : ℕ) (R E : List ℕ)
    → Released r cs f s es ef eu ds g t fs eg et → Nodes cs f s (r ∷ R) → Entries cs es ef eu E → Entryless cs → Means K kb vb cs es note entry_note
    → Means K kb vb ds fs note entry_note × ((i : ℕ) (p : List ℕ) (a : Part) → 0 < occ i R → Stands cs note i p a → Stands ds note i p a)

-- while a node, or an entry, is held once more
abbrev pub VersionsOutliveHolds : {X Y : Type 0} → KeyKind → (X → List ℕ) → (Y → List ℕ) → Type 0
VersionsOutliveHolds {X} {Y} K kb vb =
    (cs ds : List NodeCell) (f s g t : ℕ) (es : List (EntryCell X Y)) (note : ℕ → Note) (entry_note : ℕ → EntryNote) (j : ℕ)
    → NodeHeld j cs f s ds g t → 0 < (cell cs j).holders → Means K kb vb cs es note entry_note
    → Means K kb vb ds es note entry_note × ((i : ℕ) (p : List ℕ) (a : Part) → Stands cs note i p a → Stands ds note i p a)

abbrev pub VersionsOutliveEntryHolds : {X Y : Type 0} → KeyKind → (X → List ℕ) → (Y → List ℕ) → Type 0
VersionsOutliveEntryHolds {X} {Y} K kb vb =
    (cs : List NodeCell) (es fs : List (EntryCell X Y)) (f s g t : ℕ) (note : ℕ → Note) (entry_note : ℕ → EntryNote) (j : ℕ)
    → EntryHeld j es f s fs g t → 0 < (entry_cell es j).holders → Means K kb vb cs es note entry_note
    → Means K kb vb cs fs note entry_note

-- while a node is made: with a label that no held node has, it means its note, and its label is one more
abbrev pub NewNodesMeanTheirNotes : {X Y : Type 0} → KeyKind → (X → List ℕ) → (Y → List ℕ) → Type 0
NewNodesMeanTheirNotes {X} {Y} K kb vb =
    (cs : List NodeCell) (f s : ℕ) (ds : List NodeCell) (g t : ℕ) (es : List (EntryCell X Y)) (note : ℕ → Note) (entry_note : ℕ → EntryNote)
    (r : ℕ) (new : NodeCell) (R : List ℕ) (a : Note)
    → NodeMade r new cs f s ds g t → Nodes cs f s (kids new ++ R) → Means K kb vb cs es note entry_note
    → Fits K note entry_note new a → ((i : ℕ) → 0 < (cell cs i).holders → (note i).label ≢ a.label)
    → Means K kb vb ds es (noted note r a) entry_note × ((noted note r a r ≡ a) × ((i : ℕ) (p : List ℕ) (b : Part) → Stands cs note i p b → Stands ds (noted note r a) i p b))

-- while an entry is made
abbrev pub NewEntriesMeanTheirNotes : {X Y : Type 0} → KeyKind → (X → List ℕ) → (Y → List ℕ) → Type 0
NewEntriesMeanTheirNotes {X} {Y} K kb vb =
    (cs : List NodeCell) (f s : ℕ) (es fs : List (EntryCell X Y)) (g t : ℕ) (note : ℕ → Note) (entry_note : ℕ → EntryNote)
    (r : ℕ) (new : EntryCell X Y) (E : List ℕ) (a : EntryNote)
    → EntryMade r new es f s fs g t → Entries cs es f s E → Means K kb vb cs es note entry_note
    → EntryFits kb vb new a → ((e : ℕ) → 0 < (entry_cell es e).holders → (entry_note e).label ≢ a.label)
    → Means K kb vb cs fs note (noted entry_note r a) × (noted entry_note r a r ≡ a)

-- ---- the entry table beside the nodes

-- a node that is held once more refers to what it referred to
abbrev pub HoldsLeaveEntries : Type 0 → Type 0 → Type 0
HoldsLeaveEntries X Y =
    (cs ds : List NodeCell) (f s g t : ℕ) (es : List (EntryCell X Y)) (ef eu : ℕ) (j : ℕ) (E : List ℕ)
    → NodeHeld j cs f s ds g t → 0 < (cell cs j).holders → Entries cs es ef eu E → Entryless cs
    → Entries ds es ef eu E × Entryless ds

-- a new node takes over one holder of each of its entries
abbrev pub NewNodesTakeOverEntries : Type 0 → Type 0 → Type 0
NewNodesTakeOverEntries X Y =
    (cs ds : List NodeCell) (f s g t : ℕ) (es : List (EntryCell X Y)) (ef eu : ℕ) (r : ℕ) (new : NodeCell) (E : List ℕ)
    → NodeMade r new cs f s ds g t → 0 < new.holders → Entries cs es ef eu (singles new ++ E) → Entryless cs
    → Entries ds es ef eu E × Entryless ds

-- ---- what is held is what the owners reach

-- a label is that of a held node exactly where it stands in an owner's version
abbrev pub HeldNodesAreOwned : {X Y : Type 0} → KeyKind → (X → List ℕ) → (Y → List ℕ) → Type 0
HeldNodesAreOwned {X} {Y} K kb vb =
    (cs : List NodeCell) (f s : ℕ) (es : List (EntryCell X Y)) (note : ℕ → Note) (entry_note : ℕ → EntryNote) (roots : List ℕ)
    → Nodes cs f s roots → Means K kb vb cs es note entry_note
    → ((i : ℕ) → 0 < (cell cs i).holders → in_row (note i).label (owned_nodes note roots) ≡ true)
    × ((x : Marked) → in_row x (owned_nodes note roots) ≡ true → (i : ℕ) × ((0 < (cell cs i).holders) × ((note i).label ≡ x)))

abbrev pub HeldEntriesAreOwned : {X Y : Type 0} → KeyKind → (X → List ℕ) → (Y → List ℕ) → Type 0
HeldEntriesAreOwned {X} {Y} K kb vb =
    (cs : List NodeCell) (f s : ℕ) (es : List (EntryCell X Y)) (ef eu : ℕ) (note : ℕ → Note) (entry_note : ℕ → EntryNote) (roots in_hand : List ℕ)
    → Nodes cs f s roots → Entries cs es ef eu in_hand → Entryless cs → Means K kb vb cs es note entry_note
    → ((e : ℕ) → 0 < (entry_cell es e).holders → in_row (entry_note e).label (owned_entries note entry_note roots in_hand) ≡ true)
    × ((x : Marked) → in_row x (owned_entries note entry_note roots in_hand) ≡ true → (e : ℕ) × ((0 < (entry_cell es e).holders) × ((entry_note e).label ≡ x)))

-- so the free cells are those that the owners' versions leave
abbrev pub FreeCellsAreTheRest : {X Y : Type 0} → KeyKind → (X → List ℕ) → (Y → List ℕ) → Type 0
FreeCellsAreTheRest {X} {Y} K kb vb =
    (cs : List NodeCell) (f s : ℕ) (es : List (EntryCell X Y)) (ef eu : ℕ) (note : ℕ → Note) (entry_note : ℕ → EntryNote) (roots in_hand : List ℕ)
    → Nodes cs f s roots → Entries cs es ef eu in_hand → Entryless cs → Means K kb vb cs es note entry_note
    → (s + distinct (owned_nodes note roots) ≡ length cs) × (eu + distinct (owned_entries note entry_note roots in_hand) ≡ length es)

-- ---- a node above the deepest level is read by digits

abbrev pub DigitsSayWhatIsBelow : KeyKind → Type 0
DigitsSayWhatIsBelow K =
    (note : ℕ → Note) (entry_note : ℕ → EntryNote) (c : NodeCell) (a : Note) (g : ℕ) → Fits K note entry_note c a → length a.label.what < 8 → g < 16
    → (bit c.nodemap g ≡ many (at_digit K (length a.label.what) a.settings g))
    × ((many (at_digit K (length a.label.what) a.settings g) ≡ true → slice_index c.children (rank_of c.nodemap g) ≡ a.child g)
    × ((bit c.datamap g ≡ one (at_digit K (length a.label.what) a.settings g))
    × (one (at_digit K (length a.label.what) a.settings g) ≡ true → at_digit K (length a.label.what) a.settings g ≡ (entry_note (slice_index c.entries (rank_of c.datamap g))).setting ∷ [])))

-- ---- a collision node is read by ranks, which follow the keys

abbrev pub RanksFollowTheKeys : KeyKind → Type 0
RanksFollowTheKeys K =
    (note : ℕ → Note) (entry_note : ℕ → EntryNote) (c : NodeCell) (a : Note) → Fits K note entry_note c a → length a.label.what ≡ 8
    → (kids c ≡ [])
    × ((count_ones c.datamap ≡ length a.settings)
    × ((k : ℕ) (s : Setting) → k < length a.settings → (entry_note (slice_index c.entries k)).setting ≡ slice_index_or a.settings k s))

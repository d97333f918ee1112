-- What the held cells mean: a note for each, that fits the cell and the notes of what it refers to. Assumes nothing.
use Rattle.std.specs.Prelude.{◌≡◌, ℕ, ◌+◌, ◌<◌, cond, List, [], ◌∷◌, ◌++◌, map, length, Some, ◌==◌, nat_lt}
use Rattle.std.specs.List.{flat_map}
use Rattle.kinds.specs.Kinds.{KeyKind}
use Rattle.model.specs.Maps.{Setting, Map}
use Rattle.model.specs.Tries.{at_digit, parts, one, many, branching}
use Rattle.model.specs.Images.{bits, picked}
use Rattle.model.specs.Sharing.{Marked, Part}
use Rattle.tables.specs.declared.cells.NodeCell.{NodeCell}
use Rattle.tables.specs.declared.cells.EntryCell.{EntryCell}
use Rattle.tables.specs.Chains.{occ}
use Rattle.tables.specs.Cells.{cell, entry_cell, kids, singles}

-- where a node stands, and its part of the map
pub record Seat : Type 0 where
  pub prefix : List ℕ
  pub settings : Map

-- of a node: its prefix and mark, its part of the map, the marked nodes and entries at and below it, and its child at each digit
pub record Note : Type 0 where
  pub label : Marked
  pub settings : Map
  pub nodes : List Marked
  pub entries : List Marked
  pub child : ℕ → ℕ

-- of an entry: its key and mark, and its setting
pub record EntryNote : Type 0 where
  pub label : Marked
  pub setting : Setting

abbrev pub seat : Note → Seat
seat a = record { prefix = a.label.what; settings = a.settings }

-- the digits at which a seat has a child: none at the deepest level
abbrev pub branches : KeyKind → Seat → List ℕ
branches K s = cond (nat_lt (length s.prefix) 8) (branching K (length s.prefix) s.settings) []

-- the settings that stand in the node itself: those alone at their digit, by rising digit; at the deepest level all, by rising key
abbrev pub own : KeyKind → Seat → Map
own K s = cond (nat_lt (length s.prefix) 8) (picked one (λ q. q) (parts K (length s.prefix) s.settings)) s.settings

-- the seat right below, at a digit
abbrev pub seat_at : KeyKind → Seat → ℕ → Seat
seat_at K s g = record { prefix = s.prefix ++ (g ∷ []); settings = at_digit K (length s.prefix) s.settings g }

-- a node's cell, its note, and the notes of its children and entries fit
pub record Fits (K : KeyKind) (note : ℕ → Note) (entry_note : ℕ → EntryNote) (c : NodeCell) (a : Note) : Type 0 where
  pub children : kids c ≡ map a.child (branches K (seat a))
  pub seats : (g : ℕ) → 0 < occ g (branches K (seat a)) → seat (note (a.child g)) ≡ seat_at K (seat a) g
  pub owns : map (λ e. (entry_note e).setting) (singles c) ≡ own K (seat a)
  pub nodes_are : a.nodes ≡ a.label ∷ flat_map (λ g. (note (a.child g)).nodes) (branches K (seat a))
  pub entries_are : a.entries ≡ map (λ e. (entry_note e).label) (singles c) ++ flat_map (λ g. (note (a.child g)).entries) (branches K (seat a))
  pub level_is : c.level + length a.label.what ≡ 8
  pub data_bits : length a.label.what < 8 → c.datamap ≡ bits one (parts K (length a.label.what) a.settings)
  pub node_bits : length a.label.what < 8 → c.nodemap ≡ bits many (parts K (length a.label.what) a.settings)

-- an entry's cell has the key and the value of its note
pub record EntryFits {X Y : Type 0} (kb : X → List ℕ) (vb : Y → List ℕ) (c : EntryCell X Y) (a : EntryNote) : Type 0 where
  pub key : X
  pub value : Y
  pub holds : c.held ≡ Some (key, value)
  pub setting_is : a.setting ≡ record { key = kb key; value = vb value }
  pub label_is : a.label.what ≡ kb key

-- all that is held has a note that fits, and no two nodes, and no two entries, have one label
pub record Means {X Y : Type 0} (K : KeyKind) (kb : X → List ℕ) (vb : Y → List ℕ) (cs : List NodeCell) (es : List (EntryCell X Y)) (note : ℕ → Note) (entry_note : ℕ → EntryNote) : Type 0 where
  pub fits : (i : ℕ) → 0 < (cell cs i).holders → Fits K note entry_note (cell cs i) (note i)
  pub once : (i j : ℕ) → 0 < (cell cs i).holders → 0 < (cell cs j).holders → (note i).label ≡ (note j).label → i ≡ j
  pub entry_fits : (e : ℕ) → 0 < (entry_cell es e).holders → EntryFits kb vb (entry_cell es e) (entry_note e)
  pub entry_once : (e d : ℕ) → 0 < (entry_cell es e).holders → 0 < (entry_cell es d).holders → (entry_note e).label ≡ (entry_note d).label → e ≡ d

-- the cell i is the node of a part at a prefix
pub record Stands (cs : List NodeCell) (note : ℕ → Note) (i : ℕ) (p : List ℕ) (a : Part) : Type 0 where
  pub held : 0 < (cell cs i).holders
  pub prefix : (note i).label.what ≡ p
  pub settings : (note i).settings ≡ a.settings
  pub nodes : (note i).nodes ≡ a.nodes
  pub entries : (note i).entries ≡ a.entries

-- the notes with one more, of the cell j
abbrev pub noted : {A : Type 0} → (ℕ → A) → ℕ → A → ℕ → A
noted note j a i = cond (i == j) a (note i)

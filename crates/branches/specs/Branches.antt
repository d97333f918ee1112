-- Branches, and what building one leaves. Assumes nothing.
use Rattle.std.specs.Prelude.{◌≡◌, ℕ, ◌+◌, ◌-◌, ◌<◌, ◌≤◌, true, List, [], ◌∷◌, ◌++◌, length, Some}
use Rattle.kinds.specs.Kinds.{KeyKind}
use Rattle.model.specs.declared.limits.TheConstants.{MOST_CELLS}
use Rattle.model.specs.Maps.{Map}
use Rattle.model.specs.Sharing.{Part, Shared, below}
use Rattle.tables.specs.declared.cells.EntryCell.{EntryCell}
use Rattle.tables.specs.Cells.{entry_cell}
use Rattle.tables.specs.Notes.{Stands}
use Rattle.plans.specs.Plans.{bushy}
use Rattle.branches.specs.declared.branch.Branch.{Branch}
use Rattle.branches.specs.declared.branch.Branch.TheVariants.{Nothing, Entry, Child}
use Rattle.branches.specs.States.{Tables, Notes, Sits, Grown, Under, Led}

abbrev pub no_part : Part
no_part = record { settings = []; nodes = []; entries = [] }

-- a result with what it shares
abbrev pub part_of : Map → Shared → Part
part_of m s = record { settings = m; nodes = s.nodes; entries = s.entries }

-- the entry e is a part of one setting
pub record Single {X Y : Type 0} (T : Tables X Y) (N : Notes) (e : ℕ) (a : Part) : Type 0 where
  pub held : 0 < (entry_cell T.entries e).holders
  pub settings : a.settings ≡ (N.entry e).setting ∷ []
  pub nodes : a.nodes ≡ []
  pub entries : a.entries ≡ (N.entry e).label ∷ []

-- a branch is a part at a prefix, with so many levels below it
abbrev pub Is : {X Y : Type 0} → Tables X Y → Notes → Branch → ℕ → List ℕ → Part → Type 0
Is T N Nothing level p a = a ≡ no_part
Is T N (Entry e) level p a = (level < 8) × Single T N e.0 a
Is T N (Child i) level p a = Stands T.nodes N.node i.0 p a × (bushy level a.settings ≡ true)

-- a branch is some part of the tables, with so many levels below it
pub record SomePart {X Y : Type 0} (K : KeyKind) (kb : X → List ℕ) (vb : Y → List ℕ) (T : Tables X Y) (b : Branch) (level : ℕ) : Type 0 where
  pub notes : Notes
  pub roots : List ℕ
  pub in_hand : List ℕ
  pub sits : Sits K kb vb T notes roots in_hand
  pub prefix : List ℕ
  pub part : Part
  pub deep : length prefix + level ≡ 8
  pub is : Is T notes b level prefix part

-- an entry is held in some tables with the entry cells es
pub record SomeEntry {X Y : Type 0} (K : KeyKind) (kb : X → List ℕ) (vb : Y → List ℕ) (es : List (EntryCell X Y)) (e : ℕ) : Type 0 where
  pub tables : Tables X Y
  pub notes : Notes
  pub roots : List ℕ
  pub in_hand : List ℕ
  pub sits : Sits K kb vb tables notes roots in_hand
  pub entries_are : tables.entries ≡ es
  pub held : 0 < (entry_cell es e).holders

-- a key and a value are those of an entry, whatever tables the entry cells es belong to
pub record SettingRead {X Y : Type 0} (K : KeyKind) (kb : X → List ℕ) (vb : Y → List ℕ) (es : List (EntryCell X Y)) (e : ℕ) (key : X) (value : Y) : Type 0 where
  pub held : (entry_cell es e).held ≡ Some (key, value)
  pub setting : (T : Tables X Y) (N : Notes) (R E : List ℕ) → Sits K kb vb T N R E → T.entries ≡ es → (N.entry e).setting ≡ record { key = kb key; value = vb value }
  pub label : (T : Tables X Y) (N : Notes) (R E : List ℕ) → Sits K kb vb T N R E → T.entries ≡ es → (N.entry e).label.what ≡ kb key

-- the node, or the entry, that a branch refers to
abbrev pub node_of : Branch → List ℕ
node_of Nothing = []
node_of (Entry e) = []
node_of (Child i) = i.0 ∷ []

abbrev pub entry_of : Branch → List ℕ
entry_of Nothing = []
entry_of (Entry e) = e.0 ∷ []
entry_of (Child i) = []

-- from tables T the call n built, at a prefix, the branch b of a result m that shares s, and left the tables U: b is in hand, and so many cells were taken
pub record Built {X Y : Type 0} (K : KeyKind) (kb : X → List ℕ) (vb : Y → List ℕ) (n level : ℕ) (p : List ℕ) (m : Map) (s : Shared)
    (T : Tables X Y) (N : Notes) (R E : List ℕ) (b : Branch) (U : Tables X Y) : Type 0 where
  pub notes : Notes
  pub sits : Sits K kb vb U notes (node_of b ++ R) (entry_of b ++ E)
  pub grown : Grown n (Under p) (Led K p) T N U notes
  pub is : Is U notes b level p (part_of m s)
  pub cost : U.spare + s.new_nodes ≡ T.spare
  pub entry_cost : U.entry_spare + s.new_entries ≡ T.entry_spare

-- a branch goes on by a digit as another, whatever part it is
pub record GoesOn {X Y : Type 0} (K : KeyKind) (kb : X → List ℕ) (vb : Y → List ℕ) (T : Tables X Y) (b : Branch) (level g : ℕ) (c : Branch) : Type 0 where
  pub on : (N : Notes) (R E : List ℕ) → Sits K kb vb T N R E → (p : List ℕ) (a : Part) → length p + level ≡ 8 → 0 < level → Is T N b level p a → Is T N c (level - 1) (p ++ (g ∷ [])) (below K p g a)

-- a branch is some part in tables with room for one more reference to it
pub record Stays {X Y : Type 0} (K : KeyKind) (kb : X → List ℕ) (vb : Y → List ℕ) (T : Tables X Y) (b : Branch) : Type 0 where
  pub notes : Notes
  pub roots : List ℕ
  pub in_hand : List ℕ
  pub level : ℕ
  pub prefix : List ℕ
  pub part : Part
  pub sits : Sits K kb vb T notes roots in_hand
  pub is : Is T notes b level prefix part
  pub few : length roots ≤ MOST_CELLS
  pub few_entries : length in_hand ≤ MOST_CELLS

-- a branch is held once more: as a result that is its part, it is built at no cost
pub record Kept {X Y : Type 0} (K : KeyKind) (kb : X → List ℕ) (vb : Y → List ℕ) (T : Tables X Y) (b : Branch) (U : Tables X Y) : Type 0 where
  pub built :
      (n level : ℕ) (p : List ℕ) (N : Notes) (R E : List ℕ) (a : Part) (m : Map) (s : Shared) → Sits K kb vb T N R E → Is T N b level p a
      → part_of m s ≡ a → s.new_nodes ≡ 0 → s.new_entries ≡ 0 → Built K kb vb n level p m s T N R E b U

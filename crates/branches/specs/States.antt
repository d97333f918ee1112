-- The two tables as one state, and what a call in its middle knows of them. Assumes nothing.
use Rattle.std.specs.Prelude.{◌≡◌, ℕ, ◌<◌, true, ◌⊎◌, List, length}
use Rattle.kinds.specs.Kinds.{KeyKind}
use Rattle.model.specs.Tries.{leads}
use Rattle.model.specs.Sharing.{begins}
use Rattle.tables.specs.declared.cells.NodeCell.{NodeCell}
use Rattle.tables.specs.declared.cells.EntryCell.{EntryCell}
use Rattle.tables.specs.declared.both.Tables.{Tables as Lent}
use Rattle.tables.specs.Cells.{cell, entry_cell}
use Rattle.tables.specs.Heaps.{Nodes, Entries, Entryless}
use Rattle.tables.specs.Notes.{Note, EntryNote, Means}

-- both tables: cells, head and length of the chain of free cells
pub record Tables (X Y : Type 0) : Type 0 where
  pub nodes : List NodeCell
  pub free : ℕ
  pub spare : ℕ
  pub entries : List (EntryCell X Y)
  pub entry_free : ℕ
  pub entry_spare : ℕ

-- what the code's two tables hold
abbrev pub tables_of : {X Y : Type 0} → Lent X Y → Tables X Y
tables_of t = record {
  nodes = t.nodes.cells.now;
  free = t.nodes.free;
  spare = t.nodes.spare;
  entries = t.entries.cells.now;
  entry_free = t.entries.free;
  entry_spare = t.entries.spare;
}

-- a note for each held cell
pub record Notes : Type 0 where
  pub node : ℕ → Note
  pub entry : ℕ → EntryNote

-- the cells mean what their notes say, and are held from outside by the roots and the entries in hand alone
pub record Sits {X Y : Type 0} (K : KeyKind) (kb : X → List ℕ) (vb : Y → List ℕ) (T : Tables X Y) (N : Notes) (roots in_hand : List ℕ) : Type 0 where
  pub nodes : Nodes T.nodes T.free T.spare roots
  pub entries : Entries T.nodes T.entries T.entry_free T.entry_spare in_hand
  pub entryless : Entryless T.nodes
  pub means : Means K kb vb T.nodes T.entries N.node N.entry

-- what was held is held, with its note; what is new has the mark n, and a prefix of which P holds, or a key of which Q holds
pub record Grown {X Y : Type 0} (n : ℕ) (P Q : List ℕ → Type 0) (T : Tables X Y) (N : Notes) (U : Tables X Y) (M : Notes) : Type 0 where
  pub long : length U.nodes ≡ length T.nodes
  pub held : (i : ℕ) → 0 < (cell T.nodes i).holders → 0 < (cell U.nodes i).holders
  pub kept : (i : ℕ) → 0 < (cell T.nodes i).holders → M.node i ≡ N.node i
  pub new : (i : ℕ) → 0 < (cell U.nodes i).holders → (0 < (cell T.nodes i).holders) ⊎ (((M.node i).label.mark ≡ n) × P (M.node i).label.what)
  pub entry_long : length U.entries ≡ length T.entries
  pub entry_held : (e : ℕ) → 0 < (entry_cell T.entries e).holders → 0 < (entry_cell U.entries e).holders
  pub entry_kept : (e : ℕ) → 0 < (entry_cell T.entries e).holders → M.entry e ≡ N.entry e
  pub entry_new : (e : ℕ) → 0 < (entry_cell U.entries e).holders → (0 < (entry_cell T.entries e).holders) ⊎ (((M.entry e).label.mark ≡ n) × Q (M.entry e).label.what)

-- no held node has the mark n and a prefix of which P holds, and no held entry the mark n and a key of which Q holds
pub record Clear {X Y : Type 0} (n : ℕ) (P Q : List ℕ → Type 0) (T : Tables X Y) (N : Notes) : Type 0 where
  pub node : (i : ℕ) → 0 < (cell T.nodes i).holders → (N.node i).label.mark ≡ n → P (N.node i).label.what → ⊥
  pub entry : (e : ℕ) → 0 < (entry_cell T.entries e).holders → (N.entry e).label.mark ≡ n → Q (N.entry e).label.what → ⊥

-- prefixes at and below p; keys whose hashes begin with p
abbrev pub Under : List ℕ → List ℕ → Type 0
Under p q = begins p q ≡ true

abbrev pub Led : KeyKind → List ℕ → List ℕ → Type 0
Led K p k = leads K 0 p k ≡ true

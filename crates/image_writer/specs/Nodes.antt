-- What is asked and written of a branch: a row of bytes that its settings make, whatever part it is. Assumes nothing.
use Rattle.std.specs.Prelude.{◌≡◌, ℕ, zero, suc, ◌+◌, ◌*◌, ◌<◌, ◌≤◌, List, [], ◌∷◌, ◌++◌, length, count_ones}
use Rattle.std.specs.List.{flat_map}
use Rattle.byte_rows.specs.Rows.{in_bytes}
use Rattle.kinds.specs.Kinds.{KeyKind, ValueKind}
use Rattle.model.specs.declared.commands.TheConstants.{NODE, COLLISION}
use Rattle.model.specs.Maps.{Map}
use Rattle.model.specs.Images.{entry}
use Rattle.model.specs.Sharing.{Part}
use Rattle.tables.specs.declared.cells.NodeCell.{NodeCell}
use Rattle.tables.specs.Chains.{occ}
use Rattle.tables.specs.Cells.{entry_cell}
use Rattle.branches.specs.declared.branch.Branch.{Branch}
use Rattle.branches.specs.States.{Tables, Notes, Sits}
use Rattle.branches.specs.Branches.{Is, SomePart}
use Rattle.image_writer.specs.Puts.{Puts}

-- ---- a row of bytes that the settings of a branch make

-- r is its length, whatever part the branch is
pub record Measured {X Y : Type 0} (K : KeyKind) (kb : X → List ℕ) (vb : Y → List ℕ) (T : Tables X Y) (b : Branch) (level : ℕ) (bytes : Map → List ℕ) (r : ℕ) : Type 0 where
  pub long : (N : Notes) (R E : List ℕ) → Sits K kb vb T N R E → (p : List ℕ) (a : Part) → length p + level ≡ 8 → Is T N b level p a → r ≡ length (bytes a.settings)

-- a buffer of so many bytes has room for it, from an offset on
pub record HasRoom {X Y : Type 0} (K : KeyKind) (kb : X → List ℕ) (vb : Y → List ℕ) (T : Tables X Y) (b : Branch) (level : ℕ) (bytes : Map → List ℕ) (at size : ℕ) : Type 0 where
  pub some : SomePart K kb vb T b level
  pub room : at + length (bytes some.part.settings) ≤ size

-- it was written from one offset to another, whatever part the branch is
pub record Written {X Y : Type 0} (K : KeyKind) (kb : X → List ℕ) (vb : Y → List ℕ) (T : Tables X Y) (b : Branch) (level : ℕ) (bytes : Map → List ℕ) (old : List ℕ) (at : ℕ) (new : List ℕ) (to : ℕ) : Type 0 where
  pub puts : (N : Notes) (R E : List ℕ) → Sits K kb vb T N R E → (p : List ℕ) (a : Part) → length p + level ≡ 8 → Is T N b level p a → Puts old new at (bytes a.settings) to

-- ---- a node's cell

-- what a node with so many levels below it begins with: its command, and its two maps or the number of its entries
abbrev pub head : ℕ → NodeCell → List ℕ
head zero c = COLLISION ∷ (count_ones c.datamap ∷ [])
head (suc h) c = NODE ∷ (in_bytes 2 c.datamap ++ in_bytes 2 c.nodemap)

-- the entries of a row are held, and a buffer of so many bytes has room for them, from an offset on
pub record EntriesHaveRoom {X Y : Type 0} (K : KeyKind) (V : ValueKind) (kb : X → List ℕ) (vb : Y → List ℕ) (T : Tables X Y) (row : List ℕ) (at size : ℕ) : Type 0 where
  pub notes : Notes
  pub roots : List ℕ
  pub in_hand : List ℕ
  pub sits : Sits K kb vb T notes roots in_hand
  pub held : (e : ℕ) → 0 < occ e row → 0 < (entry_cell T.entries e).holders
  pub room : at + length row * (1 + (K.width + V.width)) ≤ size

-- the entries of a row were written from one offset to another, whatever their settings are
pub record EntriesWritten {X Y : Type 0} (K : KeyKind) (kb : X → List ℕ) (vb : Y → List ℕ) (T : Tables X Y) (row old : List ℕ) (at : ℕ) (new : List ℕ) (to : ℕ) : Type 0 where
  pub puts : (N : Notes) (R E : List ℕ) → Sits K kb vb T N R E → Puts old new at (flat_map (λ e. entry (N.entry e).setting) row) to

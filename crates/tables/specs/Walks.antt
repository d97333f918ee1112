-- A walk along a chain, and the cells on it without their entries. Assumes nothing.
use Rattle.std.specs.Prelude.{◌≡◌, ℕ, zero, suc, ◌<◌, List, [], ◌∷◌, ◌++◌, length}
use Rattle.tables.specs.declared.cells.NodeCell.{NodeCell}
use Rattle.tables.specs.declared.cells.EntryCell.{EntryCell}
use Rattle.tables.specs.Chains.{occ}
use Rattle.tables.specs.Cells.{cell, entry_cell}
use Rattle.tables.specs.Heaps.{Entries, EntryLeft}

-- the first k cells of a chain
unfoldable pub walk : (ℕ → ℕ) → ℕ → ℕ → List ℕ
walk next h zero = []
walk next h (suc k) = h ∷ walk next (next h) k

-- the cell after the first k
unfoldable pub after : (ℕ → ℕ) → ℕ → ℕ → ℕ
after next h zero = h
after next h (suc k) = after next (next h) k

-- a node cell without its entries
abbrev pub cleared : NodeCell → NodeCell
cleared c = record { datamap = 0; nodemap = c.nodemap; entries = c.entries; children = c.children; holders = c.holders; next = c.next; level = c.level }

-- the references xs to entries are given up
pub record EntriesReleased {K V : Type 0} (xs : List ℕ) (es : List (EntryCell K V)) (f s : ℕ) (fs : List (EntryCell K V)) (g t : ℕ) : Type 0 where
  pub long : length fs ≡ length es
  pub left : (e : ℕ) → EntryLeft (entry_cell es e) (entry_cell fs e)
  pub entries : (cs : List NodeCell) (R : List ℕ) → Entries cs es f s (xs ++ R) → Entries cs fs g t R

-- the cells of xs are cleared, and the references to their entries given up
pub record Cleared {K V : Type 0} (xs : List ℕ) (cs : List NodeCell) (es : List (EntryCell K V)) (f s : ℕ) (ds : List NodeCell) (fs : List (EntryCell K V)) (g t : ℕ) : Type 0 where
  pub nodes_long : length ds ≡ length cs
  pub entries_long : length fs ≡ length es
  pub here : (i : ℕ) → 0 < occ i xs → cell ds i ≡ cleared (cell cs i)
  pub other : (i : ℕ) → occ i xs ≡ 0 → cell ds i ≡ cell cs i
  pub left : (e : ℕ) → EntryLeft (entry_cell es e) (entry_cell fs e)
  pub entries : (E : List ℕ) → Entries cs es f s E → Entries ds fs g t E

-- The cells of the two tables by number. Assumes nothing.
use Rattle.std.specs.Prelude.{ℕ, List, [], map, None, count_ones, slice_index, slice_index_or}
use Rattle.std.specs.List.{range_with_len}
use Rattle.tables.specs.declared.cells.NodeCell.{NodeCell}
use Rattle.tables.specs.declared.cells.EntryCell.{EntryCell}

-- what stands past a table's end: a cell that nobody holds
abbrev pub blank : NodeCell
blank = record { datamap = 0; nodemap = 0; entries = []; children = []; holders = 0; next = 0; level = 0 }

abbrev pub cell : List NodeCell → ℕ → NodeCell
cell cs i = slice_index_or cs i blank

abbrev pub blank_entry : {K V : Type 0} → EntryCell K V
blank_entry = record { held = None; holders = 0; next = 0 }

abbrev pub entry_cell : {K V : Type 0} → List (EntryCell K V) → ℕ → EntryCell K V
entry_cell es e = slice_index_or es e blank_entry

-- what stands in the slots by rank: as many as the map has bits
unfoldable pub listed : ℕ → List ℕ → List ℕ
listed m slots = map (λ k. slice_index slots k) (range_with_len 0 (count_ones m))

-- the numbers of a node's children, and of its entries
abbrev pub kids : NodeCell → List ℕ
kids c = listed c.nodemap c.children

abbrev pub singles : NodeCell → List ℕ
singles c = listed c.datamap c.entries

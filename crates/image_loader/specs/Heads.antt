-- What stands in the command of a node. Assumes nothing.
use Rattle.std.specs.Prelude.{ℕ, zero, suc, ◌+◌, ◌-◌, ◌^◌, ◌≤◌, List, take, drop}
use Rattle.std.specs.Prelude.{slice_index, slice_range}
use Rattle.byte_rows.specs.Rows.{number}
use Rattle.model.specs.declared.limits.TheConstants.{MOST_OF_A_HASH}
use Rattle.image_reader.specs.Cursors.{Cursor}
use Rattle.image_loader.specs.declared.heads.TheConstants.{COUNT_WIDTH, MAPS_WIDTH}

-- the operands of the next command, so many bytes
abbrev pub operands : Cursor → ℕ → List ℕ
operands r width = slice_range r.image (r.at + 1) (r.at + (1 + width))

-- how many bytes of operands a node has, by its height
abbrev pub head_width : ℕ → ℕ
head_width zero = COUNT_WIDTH
head_width (suc h) = MAPS_WIDTH

-- a collision node has at most 16 entries
abbrev pub FewIn : ℕ → List ℕ → Type 0
FewIn zero row = slice_index row 0 ≤ MOST_OF_A_HASH
FewIn (suc h) row = Unit {0}

-- the data map by the operands, and the node map; a collision node has a low bit for each entry
abbrev pub data_in : ℕ → List ℕ → ℕ
data_in zero row = 2 ^ slice_index row 0 - 1
data_in (suc h) row = number (take 2 row)

abbrev pub nodes_in : ℕ → List ℕ → ℕ
nodes_in zero row = 0
nodes_in (suc h) row = number (drop 2 row)

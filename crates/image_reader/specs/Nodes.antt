-- What follows the command of a node. Assumes nothing.
use Rattle.std.specs.Prelude.{ℕ, zero, suc, List, take, drop}
use Rattle.byte_rows.specs.Rows.{number}
use Rattle.kinds.specs.Kinds.{KeyKind, ValueKind}
use Rattle.model.specs.Reading.{Read, read_parts, read_crowd, read_node}

-- what `read_node` reads after the command of a node, which has the operands w and stands at `at`
abbrev pub below : KeyKind → ValueKind → ℕ → List ℕ → ℕ → List ℕ → ℕ → List ℕ → Read
below K V zero p at w = read_crowd K V p at (number w)
below K V (suc h) p at w =
    read_parts K V (read_node K V h) h p at (number (take 2 w)) (number (drop 2 w))

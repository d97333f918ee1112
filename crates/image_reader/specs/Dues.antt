-- Which command is due, and how many bytes of operands it has. Assumes nothing.
use Rattle.std.specs.Prelude.{ℕ, zero, suc, ◌+◌, ◌<◌, cond, Some, None, Option, ◌==◌}
use Rattle.kinds.specs.Kinds.{KeyKind, ValueKind}
use Rattle.model.specs.declared.commands.TheConstants.{HEADER, NODE, ENTRY, COLLISION, END}
use Rattle.image_reader.specs.declared.due.Due.{Due}
use Rattle.image_reader.specs.declared.due.Due.TheVariants.{Header, RootOrEnd, InNode, InCollision, End}

-- the command of a node, by its height
abbrev pub node_command : ℕ → ℕ
node_command zero = COLLISION
node_command (suc h) = NODE

-- and how many bytes of operands it has
abbrev pub node_width : ℕ → ℕ
node_width zero = 1
node_width (suc h) = 4

-- the command c with w bytes of operands, and no other
abbrev pub only : ℕ → ℕ → ℕ → Option ℕ
only c w b = cond (b == c) (Some w) None

-- how many bytes of operands the command b has, if it is due
abbrev pub width_of : KeyKind → ValueKind → Due → ℕ → Option ℕ
width_of K V Header b = only HEADER 3 b
width_of K V RootOrEnd b = cond (b == NODE) (Some 4) (only END 4 b)
width_of K V (InNode h (suc e) c) b = only ENTRY (K.width + V.width) b
width_of K V (InNode (suc h) zero (suc c)) b = only (node_command h) (node_width h) b
width_of K V (InNode (suc h) zero zero) b = None
width_of K V (InNode zero zero c) b = None
width_of K V (InCollision (suc e)) b = only ENTRY (K.width + V.width) b
width_of K V (InCollision zero) b = None
width_of K V End b = only END 4 b

-- an entry is what is due
abbrev pub EntryIsDue : Due → Type 0
EntryIsDue Header = ⊥
EntryIsDue RootOrEnd = ⊥
EntryIsDue (InNode h e c) = 0 < e
EntryIsDue (InCollision e) = 0 < e
EntryIsDue End = ⊥

-- The commands that an image has, by their bytes. Assumes nothing.
use Rattle.std.specs.Prelude.{◌≡◌, ℕ, ◌+◌, List, [], ◌∷◌, ◌++◌, length}
use Rattle.byte_rows.specs.Rows.{in_bytes}
use Rattle.model.specs.declared.commands.TheConstants.{HEADER, NODE, ENTRY, COLLISION, END}
use Rattle.sovindrate.specs.declared.commands.Command.{Command}
use Rattle.sovindrate.specs.declared.commands.Placed.{Placed}
use Rattle.sovindrate.specs.declared.commands.Command.TheVariants.{Header, Node, Entry, Crowd, End}

-- a command and its operands
abbrev pub command_bytes : {X Y : Type 0} → (X → List ℕ) → (Y → List ℕ) → Command X Y → List ℕ
command_bytes kb vb (Header edition key value) = HEADER ∷ (edition ∷ (key ∷ (value ∷ [])))
command_bytes kb vb (Node «data» nodes) = NODE ∷ (in_bytes 2 «data» ++ in_bytes 2 nodes)
command_bytes kb vb (Entry x y) = ENTRY ∷ (kb x ++ vb y)
command_bytes kb vb (Crowd entries) = COLLISION ∷ (entries ∷ [])
command_bytes kb vb (End entries) = END ∷ in_bytes 4 entries

-- bytes begin with no command
abbrev pub BeginWithNone : {X Y : Type 0} → (X → List ℕ) → (Y → List ℕ) → List ℕ → Type 0
BeginWithNone {X} {Y} kb vb bs = (c : Command X Y) (rest : List ℕ) → bs ≡ command_bytes kb vb c ++ rest → ⊥

-- from an offset on stand these commands, one after another, each with its offset, and none after them
abbrev pub Listed : {X Y : Type 0} → (X → List ℕ) → (Y → List ℕ) → ℕ → List ℕ → List (Placed X Y) → Type 0
Listed kb vb at bs [] = BeginWithNone kb vb bs
Listed kb vb at bs (p ∷ ps) =
    (p.at ≡ at) × ((rest : List ℕ) × ((bs ≡ command_bytes kb vb p.command ++ rest) × Listed kb vb (at + length (command_bytes kb vb p.command)) rest ps))

-- The bytes of a map: header, the nodes of its trie from the root on, end. Assumes nothing.
use Rattle.std.specs.Prelude.{ℕ, zero, suc, ◌+◌, ◌-◌, ◌*◌, Bool, cond, List, [], ◌∷◌, ◌++◌, map, length}
use Rattle.byte_rows.specs.Rows.{in_bytes}
use Rattle.kinds.specs.Kinds.{KeyKind, ValueKind}
use Rattle.model.specs.declared.commands.TheConstants.{HEADER, NODE, ENTRY, COLLISION, END, EDITION}
use Rattle.model.specs.Maps.{Setting, Map}
use Rattle.model.specs.Tries.{concat, parts, one, many}

abbrev pub entry : Setting → List ℕ
entry s = ENTRY ∷ (s.key ++ s.value)

-- a bit map with one bit for each part that passes, the first part's lowest
abbrev pub bits : (Map → Bool) → List Map → ℕ
bits p [] = 0
bits p (m ∷ ms) = cond (p m) 1 0 + 2 * bits p ms

-- what the parts that pass give, one after another
abbrev pub picked : {A : Type 0} → (Map → Bool) → (Map → List A) → List Map → List A
picked p f [] = []
picked p f (m ∷ ms) = cond (p m) (f m) [] ++ picked p f ms

-- the node of a part with h levels below it: data map, node map, entries, children; a collision node has none below
abbrev pub node : KeyKind → ℕ → Map → List ℕ
node K zero m = COLLISION ∷ (length m ∷ concat (map entry m))
node K (suc h) m =
    let ps : List Map = parts K (7 - h) m in
    NODE ∷ (in_bytes 2 (bits one ps) ++ (in_bytes 2 (bits many ps) ++ (picked one (λ p. concat (map entry p)) ps ++ picked many (node K h) ps)))

abbrev pub root : KeyKind → Map → List ℕ
root K [] = []
root K (s ∷ m) = node K 8 (s ∷ m)

-- the operands of a header: the edition and the kinds
abbrev pub header : KeyKind → ValueKind → List ℕ
header K V = EDITION ∷ (K.code ∷ (V.code ∷ []))

-- the header, the root if there is one, and the end with the number of settings
abbrev pub image : KeyKind → ValueKind → Map → List ℕ
image K V m = HEADER ∷ (header K V ++ (root K m ++ (END ∷ in_bytes 4 (length m))))

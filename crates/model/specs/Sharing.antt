-- Which nodes and entries of a call's result are a source's, and which are new. Assumes nothing.
use Rattle.std.specs.Prelude.{ℕ, zero, suc, ◌+◌, Bool, true, false, cond, ◌&&◌, List, [], ◌∷◌, ◌++◌, map, length, Some, None, Option, ◌==◌, nat_eq}
use Rattle.byte_rows.specs.Rows.{same}
use Rattle.kinds.specs.Kinds.{KeyKind}
use Rattle.model.specs.Maps.{Setting, Map, look, same_found, same_map}
use Rattle.model.specs.Tries.{filter, digit, at_digit, one, parts, branching}
use Rattle.model.specs.Images.{picked}

-- something with the number of the call that made it: a node by its prefix, an entry by its key
pub record Marked : Type 0 where
  pub what : List ℕ
  pub mark : ℕ

-- the part of a map at a prefix, with its marked nodes and entries
pub record Part : Type 0 where
  pub settings : Map
  pub nodes : List Marked
  pub entries : List Marked

-- whether the prefix q begins with p
abbrev pub begins : List ℕ → List ℕ → Bool
begins [] q = true
begins (g ∷ p) [] = false
begins (g ∷ p) (h ∷ q) = g == h && begins p q

-- of a part at the prefix p, what goes on by the digit g
abbrev pub below : KeyKind → List ℕ → ℕ → Part → Part
below K p g a = record {
  settings = at_digit K (length p) a.settings g;
  nodes = filter (λ x. begins (p ++ (g ∷ [])) x.what) a.nodes;
  entries = filter (λ x. nat_eq (digit (K.hash x.what) (length p)) g) a.entries;
}

-- the marked nodes and entries of a result, and how many of them are new
pub record Shared : Type 0 where
  pub nodes : List Marked
  pub entries : List Marked
  pub new_nodes : ℕ
  pub new_entries : ℕ

abbrev pub no_share : Shared
no_share = record { nodes = []; entries = []; new_nodes = 0; new_entries = 0 }

-- two results together
infixr 20 ◌⊕◌
abbrev pub ◌⊕◌ : Shared → Shared → Shared
a ⊕ b = record { nodes = a.nodes ++ b.nodes; entries = a.entries ++ b.entries; new_nodes = a.new_nodes + b.new_nodes; new_entries = a.new_entries + b.new_entries }

-- one result after another
abbrev pub sum : {A : Type 0} → (A → Shared) → List A → Shared
sum f [] = no_share
sum f (x ∷ xs) = f x ⊕ sum f xs

-- a node that the call n makes at a prefix
abbrev pub new_node : ℕ → List ℕ → Shared
new_node n p = record { nodes = record { what = p; mark = n } ∷ []; entries = []; new_nodes = 1; new_entries = 0 }

-- the first source whose part is the result's
abbrev pub first_same : List Part → Map → Option Part
first_same [] m = None
first_same (a ∷ rest) m = cond (same_map a.settings m) (Some a) (first_same rest m)

-- the mark that a key has in a row
abbrev pub mark_of : List Marked → List ℕ → ℕ
mark_of [] k = 0
mark_of (x ∷ xs) k = cond (same x.what k) x.mark (mark_of xs k)

-- an entry of a new node: that of the first source with its key and value, or else new
abbrev pub entry_from : ℕ → List Part → Setting → Shared
entry_from n [] s = record { nodes = []; entries = record { what = s.key; mark = n } ∷ []; new_nodes = 0; new_entries = 1 }
entry_from n (a ∷ rest) s =
    cond (same_found (look a.settings s.key) (Some s.value))
    (record { nodes = []; entries = record { what = s.key; mark = mark_of a.entries s.key } ∷ []; new_nodes = 0; new_entries = 0 })
    (entry_from n rest s)

-- what a source has whole, or else something else
abbrev pub kept_or : Option Part → Shared → Shared
kept_or (Some a) s = record { nodes = a.nodes; entries = a.entries; new_nodes = 0; new_entries = 0 }
kept_or None s = s

-- from the root down: the nodes and entries of a result's part at a prefix with h levels below it, in the call n
abbrev pub share : KeyKind → ℕ → ℕ → List ℕ → List Part → Map → Shared
share K n zero p sources m = kept_or (first_same sources m) (new_node n p ⊕ sum (entry_from n sources) m)
share K n (suc h) p sources m =
    kept_or (first_same sources m)
    (new_node n p ⊕ (sum (entry_from n sources) (picked one (λ q. q) (parts K (length p) m)) ⊕
    sum (λ g. share K n h (p ++ (g ∷ [])) (map (below K p g) sources) (at_digit K (length p) m g)) (branching K (length p) m)))

-- the empty map has no node
abbrev pub shared : KeyKind → ℕ → List Part → Map → Shared
shared K n sources [] = no_share
shared K n sources (s ∷ m) = share K n 8 [] sources (s ∷ m)

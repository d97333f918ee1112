-- The trie of a map: which prefixes have a node, by the sizes of the map's parts. Assumes nothing.
use Rattle.std.specs.Prelude.{ℕ, ◌+◌, ◌/◌, ◌%◌, ◌^◌, ◌<◌, ◌≤◌, Bool, true, false, cond, ◌&&◌, ◌||◌, List, [], ◌∷◌, ◌++◌, map, length, ◌==◌, nat_eq, nat_le, nat_lt}
use Rattle.std.specs.List.{AllByRecursion}
use Rattle.kinds.specs.Kinds.{KeyKind, ValueKind}
use Rattle.model.specs.declared.limits.TheConstants.{MOST_OF_A_HASH}
use Rattle.model.specs.Maps.{Map, Rises, Readable}

abbrev pub filter : {A : Type 0} → (A → Bool) → List A → List A
filter p [] = []
filter p (x ∷ xs) = cond (p x) (x ∷ filter p xs) (filter p xs)

abbrev pub concat : {A : Type 0} → List (List A) → List A
concat [] = []
concat (x ∷ xs) = x ++ concat xs

-- ---- digits and parts

-- the digit of a hash at a depth: four bits, the lowest first
abbrev pub digit : ℕ → ℕ → ℕ
digit h d = (h / 16 ^ d) % 16

unfoldable pub sixteen : List ℕ
sixteen = 0 ∷ 1 ∷ 2 ∷ 3 ∷ 4 ∷ 5 ∷ 6 ∷ 7 ∷ 8 ∷ 9 ∷ 10 ∷ 11 ∷ 12 ∷ 13 ∷ 14 ∷ 15 ∷ []

-- a prefix is a row of digits, the root's first; a key's hash begins with those of p from the depth d on
abbrev pub leads : KeyKind → ℕ → List ℕ → List ℕ → Bool
leads K d [] k = true
leads K d (g ∷ p) k = digit (K.hash k) d == g && leads K (d + 1) p k

-- the part of a map at a prefix
abbrev pub part : KeyKind → Map → List ℕ → Map
part K m p = filter (λ s. leads K 0 p s.key) m

-- of a part at the depth d, what goes on by the digit g
abbrev pub at_digit : KeyKind → ℕ → Map → ℕ → Map
at_digit K d m g = filter (λ s. nat_eq (digit (K.hash s.key) d) g) m

-- the sixteen parts that a part at the depth d falls into
abbrev pub parts : KeyKind → ℕ → Map → List Map
parts K d m = map (at_digit K d m) sixteen

-- ---- nodes

-- a part of one setting is an entry of its node
abbrev pub one : Map → Bool
one m = length m == 1

-- a part of two or more is a child
abbrev pub many : Map → Bool
many m = nat_lt 1 (length m)

-- the digits at which a part has a child
abbrev pub branching : KeyKind → ℕ → Map → List ℕ
branching K d m = filter (λ g. many (at_digit K d m g)) sixteen

-- a map has a node at the empty prefix unless it is empty, and at each longer one, of up to 8 digits, with two or more settings
abbrev pub has_node : KeyKind → Map → List ℕ → Bool
has_node K m [] = nat_lt 0 (length m)
has_node K m (g ∷ p) = nat_le (length (g ∷ p)) 8 && many (part K m (g ∷ p))

-- the settings whose keys have a hash
abbrev pub of_hash : KeyKind → Map → ℕ → Map
of_hash K m x = filter (λ s. nat_eq (K.hash s.key) x) m

-- more than 16 keys of m have the hash of one of some settings
abbrev pub crowded_at : KeyKind → Map → Map → Bool
crowded_at K m [] = false
crowded_at K m (s ∷ rest) = nat_lt MOST_OF_A_HASH (length (of_hash K m (K.hash s.key))) || crowded_at K m rest

-- more than 16 keys have one hash
abbrev pub crowded : KeyKind → Map → Bool
crowded K m = crowded_at K m m

-- ---- lawful maps

-- at most 16 settings of one hash
abbrev pub Uncrowded : KeyKind → Map → Type 0
Uncrowded K m = (x : ℕ) → length (of_hash K m x) ≤ MOST_OF_A_HASH

pub record Lawful (K : KeyKind) (V : ValueKind) (m : Map) : Type 0 where
  pub rises : Rises K m
  pub reads : AllByRecursion (Readable K V) m
  pub uncrowded : Uncrowded K m
  -- the number of settings fits the four bytes of the end
  pub counted : length m < 2 ^ 32

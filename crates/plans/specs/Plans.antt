-- What an edit of one or two sources makes of a part, digit by digit, in marks and in numbers. Assumes nothing.
use Rattle.std.specs.Prelude.{◌≡◌, ℕ, zero, suc, ◌+◌, Bool, true, false, cond, ◌&&◌, ◌||◌, List, [], ◌∷◌, length, Some, None, Option, nat_lt}
use Rattle.kinds.specs.Kinds.{KeyKind}
use Rattle.model.specs.declared.limits.TheConstants.{MOST_OF_A_HASH}
use Rattle.model.specs.Maps.{Map, put, remove, same_map}
use Rattle.model.specs.Tries.{at_digit, sixteen}
use Rattle.model.specs.Sharing.{Part, Shared, no_share, entry_from, share}

-- ---- one key is set

-- a map with a value at a key, or with nothing there
abbrev pub edited : KeyKind → Map → List ℕ → Option (List ℕ) → Map
edited K m k (Some v) = put K m k v
edited K m k None = remove K m k

-- ---- rows of digits

-- a test passes at every number of a row, at some number of it; the sum of numbers over a row
abbrev pub every : (ℕ → Bool) → List ℕ → Bool
every q [] = true
every q (x ∷ xs) = q x && every q xs

abbrev pub some : (ℕ → Bool) → List ℕ → Bool
some q [] = false
some q (x ∷ xs) = q x || some q xs

abbrev pub total : (ℕ → ℕ) → List ℕ → ℕ
total f [] = 0
total f (x ∷ xs) = f x + total f xs

-- ---- a result's part as a branch

-- whether a part, with h levels below it, is a node: at the root from one setting on, elsewhere from two
abbrev pub bushy : ℕ → Map → Bool
bushy h m = nat_lt (cond (nat_lt h 8) 1 0) (length m)

-- some collision node of a part, h levels below it, has more than 16 entries
abbrev pub crowd : KeyKind → ℕ → ℕ → Map → Bool
crowd K zero d m = nat_lt MOST_OF_A_HASH (length m)
crowd K (suc h) d m = some (λ g. crowd K h (suc d) (at_digit K d m g)) sixteen

-- what a result's part shares as a branch of the node above: nothing, one entry, or a node
abbrev pub portion : KeyKind → ℕ → ℕ → List ℕ → List Part → Map → Shared
portion K n h p sources [] = no_share
portion K n h p sources (s ∷ []) = cond (nat_lt h 8) (entry_from n sources s) (share K n h p sources (s ∷ []))
portion K n h p sources (s ∷ (t ∷ m)) = share K n h p sources (s ∷ (t ∷ m))

-- ---- in numbers, as a reading pass keeps them

-- of a branch: none, one or more settings; whether it is ours' part and whether it is theirs'; whether too many keys of one hash meet in it; the nodes and entries taken
pub record Tally : Type 0 where
  pub size : ℕ
  pub ours : Bool
  pub theirs : Bool
  pub crowded : Bool
  pub nodes : ℕ
  pub entries : ℕ

-- none, one or more
abbrev pub capped : ℕ → ℕ
capped z = cond (nat_lt 1 z) 2 z

-- the tally is that of the result m, as the account has it
pub record Told (K : KeyKind) (n h : ℕ) (p : List ℕ) (o t : Part) (m : Map) (c : Tally) : Type 0 where
  pub size : c.size ≡ capped (length m)
  pub ours : c.ours ≡ same_map o.settings m
  pub theirs : c.theirs ≡ same_map t.settings m
  pub crowded : c.crowded ≡ crowd K h (length p) m
  pub nodes : c.nodes ≡ (portion K n h p (o ∷ (t ∷ [])) m).new_nodes
  pub entries : c.entries ≡ (portion K n h p (o ∷ (t ∷ [])) m).new_entries

-- nothing yet
abbrev pub nothing_told : Tally
nothing_told = record { size = 0; ours = true; theirs = true; crowded = false; nodes = 0; entries = 0 }

-- one digit more
abbrev pub add : Tally → Tally → Tally
add a b = record {
  size = capped (a.size + b.size);
  ours = a.ours && b.ours;
  theirs = a.theirs && b.theirs;
  crowded = a.crowded || b.crowded;
  nodes = a.nodes + b.nodes;
  entries = a.entries + b.entries;
}

-- over the digits of a row
abbrev pub summed : (ℕ → Tally) → List ℕ → Tally
summed c l = record {
  size = capped (total (λ g. (c g).size) l);
  ours = every (λ g. (c g).ours) l;
  theirs = every (λ g. (c g).theirs) l;
  crowded = some (λ g. (c g).crowded) l;
  nodes = total (λ g. (c g).nodes) l;
  entries = total (λ g. (c g).entries) l;
}

-- at a part with h levels below it: one node more where it is a node, and neither source has the part
abbrev pub closed : ℕ → Tally → Tally
closed h c = record {
  size = c.size;
  ours = c.ours;
  theirs = c.theirs;
  crowded = c.crowded;
  nodes = c.nodes + cond (nat_lt (cond (nat_lt h 8) 1 0) c.size) (cond c.ours 0 (cond c.theirs 0 1)) 0;
  entries = c.entries;
}

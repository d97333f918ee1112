-- The entries and children of a node to be made, in hand. Assumes nothing.
use Rattle.std.specs.Prelude.{◌≡◌, ℕ, ◌+◌, ◌<◌, true, List, [], ◌∷◌, ◌++◌, map, length, sum_by}
use Rattle.std.specs.List.{range_with_len}
use Rattle.kinds.specs.Kinds.{KeyKind}
use Rattle.model.specs.Maps.{Map}
use Rattle.model.specs.Tries.{filter, leads, at_digit, one, many}
use Rattle.model.specs.Images.{picked}
use Rattle.model.specs.Sharing.{Part, Shared, begins, below, entry_from, sum, share}
use Rattle.tables.specs.Chains.{occ}
use Rattle.tables.specs.Notes.{Stands}
use Rattle.branches.specs.States.{Tables, Notes, Sits, Grown}
use Rattle.branches.specs.Branches.{part_of}

-- what a result shares below a prefix at a digit, with h levels below that
abbrev pub share_at : KeyKind → ℕ → ℕ → List ℕ → List Part → Map → ℕ → Shared
share_at K n h p sources m g = share K n h (p ++ (g ∷ [])) (map (below K p g) sources) (at_digit K (length p) m g)

-- of a result m at a prefix, the settings own stand as the entries xs, and the digits gs have the children ks; h levels are below a child
pub record Hand {X Y : Type 0} (K : KeyKind) (kb : X → List ℕ) (vb : Y → List ℕ) (n h : ℕ) (p : List ℕ) (sources : List Part) (m : Map)
    (T : Tables X Y) (N : Notes) (R E : List ℕ) (P Q : List ℕ → Type 0) (own : Map) (gs xs ks : List ℕ) (U : Tables X Y) : Type 0 where
  pub notes : Notes
  pub kid : ℕ → ℕ
  pub sits : Sits K kb vb U notes (ks ++ R) (xs ++ E)
  pub grown : Grown n P Q T N U notes
  pub settings_are : map (λ e. (notes.entry e).setting) xs ≡ own
  pub labels_are : map (λ e. (notes.entry e).label) xs ≡ (sum (entry_from n sources) own).entries
  pub kids_are : ks ≡ map kid gs
  pub stand : (g : ℕ) → 0 < occ g gs → Stands U.nodes notes.node (kid g) (p ++ (g ∷ [])) (part_of (at_digit K (length p) m g) (share_at K n h p sources m g))
  pub cost : U.spare + sum_by (λ g. (share_at K n h p sources m g).new_nodes) gs ≡ T.spare
  pub entry_cost : U.entry_spare + ((sum (entry_from n sources) own).new_entries + sum_by (λ g. (share_at K n h p sources m g).new_entries) gs) ≡ T.entry_spare

-- ---- digit by digit

-- prefixes at and below p at a digit before g; keys whose hashes begin so
abbrev pub Before : List ℕ → ℕ → List ℕ → Type 0
Before p g q = (k : ℕ) × ((k < g) × (begins (p ++ (k ∷ [])) q ≡ true))

abbrev pub BeforeKey : KeyKind → List ℕ → ℕ → List ℕ → Type 0
BeforeKey K p g k = (x : ℕ) × ((x < g) × (leads K 0 (p ++ (x ∷ [])) k ≡ true))

-- all of a result m at the digits before g is in hand: the entries xs, and the children ks
abbrev pub Gathered :
    {X Y : Type 0} → KeyKind → (X → List ℕ) → (Y → List ℕ) → ℕ → ℕ → List ℕ → List Part → Map
    → Tables X Y → Notes → List ℕ → List ℕ → ℕ → List ℕ → List ℕ → Tables X Y → Type 0
Gathered K kb vb n h p sources m T N R E g xs ks U =
    Hand K kb vb n h p sources m T N R E (Before p g) (BeforeKey K p g)
    (picked one (λ q. q) (map (at_digit K (length p) m) (range_with_len 0 g))) (filter (λ x. many (at_digit K (length p) m x)) (range_with_len 0 g)) xs ks U

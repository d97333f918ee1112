-- Rows of entries at the deepest level: read, searched and taken up. Assumes nothing.
use Rattle.std.specs.Prelude.{count_ones, ◌≡◌, ℕ, ◌+◌, ◌<◌, ◌≤◌, Bool, true, false, cond, List, [], ◌∷◌, ◌++◌, map, length, take, drop, is_some, Some, None, Option, Result, MatchResult, IfSome, nat_lt, slice_index, slice_index_or, All}
use Rattle.std.specs.List.{AllByRecursion}
use Rattle.kinds.specs.Kinds.{KeyKind}
use Rattle.model.specs.declared.limits.TheConstants.{MOST_CELLS, MOST_OF_A_HASH}
use Rattle.model.specs.Maps.{Setting, Map, Rises}
use Rattle.tables.specs.declared.cells.NodeCell.{NodeCell}
use Rattle.tables.specs.declared.cells.EntryCell.{EntryCell}
use Rattle.tables.specs.declared.cells.EntryId.{EntryId}
use Rattle.tables.specs.declared.table.Table.{Table}
use Rattle.tables.specs.Cells.{cell, entry_cell, singles}
use Rattle.tables.specs.Heaps.{Entries, EntryMade}
use Rattle.branches.specs.declared.branch.Branch.{Branch}
use Rattle.branches.specs.declared.branch.Branch.TheVariants.{Nothing, Entry, Child}
use Rattle.branches.specs.States.{Tables, Notes, Sits, Grown}
use Rattle.branches.specs.Handfuls.{Rowful, entries_in}
use Rattle.plans.specs.Plans.{capped}
use Rattle.edits.specs.declared.estimate.Estimate.{Estimate}

-- ---- the row of a branch

-- a branch refers to a node that is held, if to any
abbrev pub NodeIn : List NodeCell → Branch → Type 0
NodeIn cs Nothing = Unit {0}
NodeIn cs (Entry e) = Unit {0}
NodeIn cs (Child i) = 0 < (cell cs i.0).holders

-- none, the one entry, or those of a node
abbrev pub entries_of : List NodeCell → Branch → List ℕ
entries_of cs Nothing = []
entries_of cs (Entry e) = e.0 ∷ []
entries_of cs (Child i) = singles (cell cs i.0)

-- ---- the settings of a row

-- the setting of an entry, by its cell
abbrev pub setting_held : {X Y : Type 0} → (X → List ℕ) → (Y → List ℕ) → Option (X × Y) → Setting
setting_held kb vb (Some s) = record { key = kb s.0; value = vb s.1 }
setting_held kb vb None = record { key = []; value = [] }

abbrev pub setting_at : {X Y : Type 0} → (X → List ℕ) → (Y → List ℕ) → List (EntryCell X Y) → ℕ → Setting
setting_at kb vb es e = setting_held kb vb (entry_cell es e).held

abbrev pub row_settings : {X Y : Type 0} → (X → List ℕ) → (Y → List ℕ) → List (EntryCell X Y) → List ℕ → Map
row_settings kb vb es xs = map (setting_at kb vb es) xs

-- so many settings of a map come before a key, and the next one has it or comes after it
pub record Placed (K : KeyKind) (m : Map) (k : List ℕ) (at : ℕ) (found : Bool) : Type 0 where
  pub inside : at + cond found 1 0 ≤ length m
  pub behind : AllByRecursion (λ s. K.before s.key k ≡ true) (take at m)
  pub here : found ≡ true → (slice_index_or m at (record { key = []; value = [] })).key ≡ k
  pub ahead : AllByRecursion (λ s. K.before k s.key ≡ true) (drop (at + cond found 1 0) m)

-- where a key is in a row that rises, or how many settings come before it
abbrev pub Found : {X Y : Type 0} → KeyKind → (X → List ℕ) → (Y → List ℕ) → List (EntryCell X Y) → List ℕ → List ℕ → Result ℕ ℕ → Type 0
Found K kb vb es xs k r = Rises K (row_settings kb vb es xs) → MatchResult r (λ at. Placed K (row_settings kb vb es xs) k at true) (λ at. Placed K (row_settings kb vb es xs) k at false)

-- a row that rises, around a key: the entries before it, the one that has it, and those after it
pub record Split {X Y : Type 0} (K : KeyKind) (kb : X → List ℕ) (vb : Y → List ℕ) (es : List (EntryCell X Y)) (xs k before : List ℕ) (own : Option EntryId) (after : List ℕ) : Type 0 where
  pub at : ℕ
  pub before_are : before ≡ take at xs
  pub own_is : IfSome own (λ id. id.0 ≡ slice_index xs at)
  pub after_are : after ≡ drop (at + cond (is_some own) 1 0) xs
  pub placed : Rises K (row_settings kb vb es xs) → Placed K (row_settings kb vb es xs) k at (is_some own)

-- ---- entries taken up

-- tables with the entries of others
abbrev pub beside : {X Y : Type 0} → Tables X Y → List (EntryCell X Y) → ℕ → ℕ → Tables X Y
beside T es f s = record { nodes = T.nodes; free = T.free; spare = T.spare; entries = es; entry_free = f; entry_spare = s }

-- the entries xs can be held once more, and there is room for them in hand
pub record Keeping {X Y : Type 0} (K : KeyKind) (kb : X → List ℕ) (vb : Y → List ℕ) (es : List (EntryCell X Y)) (f s : ℕ) (xs : List ℕ) (hand : NodeCell) : Type 0 where
  pub tables : Tables X Y
  pub notes : Notes
  pub roots : List ℕ
  pub in_hand : List ℕ
  pub sits : Sits K kb vb (beside tables es f s) notes roots in_hand
  pub held : All (λ e. 0 < (entry_cell es e).holders) xs
  pub few_in_hand : length in_hand + length xs ≤ MOST_CELLS
  pub rowful : Rowful hand (entries_in hand)
  pub room : (count_ones hand.datamap) + length xs ≤ 16

-- the entries xs have one holder more each, from outside
pub record EntriesKept {X Y : Type 0} (K : KeyKind) (kb : X → List ℕ) (vb : Y → List ℕ) (es : List (EntryCell X Y)) (f s : ℕ) (xs : List ℕ) (fs : List (EntryCell X Y)) (g t : ℕ) : Type 0 where
  pub spare : t ≡ s
  pub sits : (T : Tables X Y) (N : Notes) (R E : List ℕ) → Sits K kb vb (beside T es f s) N R E → Sits K kb vb (beside T fs g t) N R (xs ++ E)
  pub grown : (T : Tables X Y) (N : Notes) (n : ℕ) → Grown n (λ q. ⊥) (λ k. ⊥) (beside T es f s) N (beside T fs g t) N

-- where there is a value, there is a free cell for its entry and room for it in hand
pub record Adding {X Y : Type 0} (es : List (EntryCell X Y)) (f s : ℕ) (value : Option Y) (hand : NodeCell) : Type 0 where
  pub heap : (cs : List NodeCell) × ((R : List ℕ) × Entries cs es f s R)
  pub spare : is_some value ≡ true → 0 < s
  pub rowful : Rowful hand (entries_in hand)
  pub room : is_some value ≡ true → (count_ones hand.datamap) < 16

-- where there is a value, a new entry of it is in hand, and else all is as it was
abbrev pub Added : {X Y : Type 0} → X → Option Y → NodeCell → List (EntryCell X Y) → ℕ → ℕ → NodeCell → List (EntryCell X Y) → ℕ → ℕ → Type 0
Added key (Some v) hand es f s next fs g t =
    (e : ℕ) × (EntryMade e (record { held = Some (key, v); holders = 1; next = 0 }) es f s fs g t × Rowful next (entries_in hand ++ (e ∷ [])))
Added key None hand es f s next fs g t = (next ≡ hand) × ((fs ≡ es) × ((g ≡ f) × (t ≡ s)))

-- the same of the code's entry table, as it was and as it is now
abbrev pub MayKeep : {X Y : Type 0} → KeyKind → (X → List ℕ) → (Y → List ℕ) → Table (EntryCell X Y) → List ℕ → NodeCell → Type 0
MayKeep K kb vb t xs hand = Keeping K kb vb t.cells.now t.free t.spare xs hand

abbrev pub AreKept : {X Y : Type 0} → KeyKind → (X → List ℕ) → (Y → List ℕ) → List ℕ → Table (EntryCell X Y) → Table (EntryCell X Y) → Type 0
AreKept K kb vb xs t u = EntriesKept K kb vb t.cells.now t.free t.spare xs u.cells.now u.free u.spare

abbrev pub MayAdd : {X Y : Type 0} → Table (EntryCell X Y) → Option Y → NodeCell → Type 0
MayAdd t value hand = Adding t.cells.now t.free t.spare value hand

abbrev pub IsAdded : {X Y : Type 0} → X → Option Y → NodeCell → NodeCell → Table (EntryCell X Y) → Table (EntryCell X Y) → Type 0
IsAdded key value hand next t u = Added key value hand t.cells.now t.free t.spare next u.cells.now u.free u.spare

-- ---- estimates

-- the value of an entry, if there is one
abbrev pub value_held : {X Y : Type 0} → (X → List ℕ) → (Y → List ℕ) → List (EntryCell X Y) → Option EntryId → Option (List ℕ)
value_held kb vb es (Some id) = Some (setting_at kb vb es id.0).value
value_held kb vb es None = None

-- of a row of so many settings, of which one may be new, where the row is the source's or not
pub record RowEstimate (count : ℕ) (some same : Bool) (c : Estimate) : Type 0 where
  pub size : c.size ≡ capped count
  pub ours : c.ours ≡ same
  pub theirs : c.theirs ≡ same
  pub crowded : c.crowded ≡ nat_lt MOST_OF_A_HASH count
  pub nodes : c.nodes ≡ cond (nat_lt 1 count) (cond same 0 1) 0
  pub entries : c.entries ≡ cond some (cond same 0 1) 0

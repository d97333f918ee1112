-- What stands at a place of the store, the root that it holds on to, and giving that up. Assumes nothing.
use Rattle.std.specs.Prelude.{◌≡◌, ℕ, ◌<◌, ◌≤◌, ◌⊎◌, List, [], ◌++◌, length, Ok, Err, Result, slice_index_or}
use Rattle.kinds.specs.declared.refusal.Refusal.{Refusal}
use Rattle.kinds.specs.Refusals.{shown, refused}
use Rattle.model.specs.declared.limits.TheConstants.{PLACES}
use Rattle.tables.specs.declared.cells.NodeCell.{NodeCell}
use Rattle.tables.specs.declared.table.Table.{Table}
use Rattle.tables.specs.Cells.{cell, entry_cell}
use Rattle.tables.specs.Heaps.{Nodes, Entries, Entryless, NodeLeft, EntryLeft, NodeHeld}
use Rattle.branches.specs.declared.branch.Branch.{Branch}
use Rattle.branches.specs.declared.branch.Branch.TheVariants.{Nothing, Entry, Child}
use Rattle.branches.specs.States.{Tables}
use Rattle.branches.specs.Branches.{node_of}
use Rattle.store.specs.declared.spot.Spot.{Spot}
use Rattle.store.specs.declared.spot.Spot.TheVariants.{Empty, Draft, Published}

-- a place by its number: what stands there, or a refusal
abbrev pub Judged : List Spot → ℕ → Result Spot Refusal → Type 0
Judged ss i (Ok s) = (i < PLACES) × (slice_index_or ss i Empty ≡ s)
Judged ss i (Err x) = (PLACES ≤ i) × (shown x ≡ refused 3)

-- what may be wanted at a place: nothing, or the root of a draft, of a published version, or of either
abbrev pub IsEmpty : Spot → Unit {0} → Type 0
IsEmpty s u = s ≡ Empty

abbrev pub IsDraft : Spot → Branch → Type 0
IsDraft s b = s ≡ Draft b

abbrev pub IsPublished : Spot → Branch → Type 0
IsPublished s b = s ≡ Published b

abbrev pub IsLive : Spot → Branch → Type 0
IsLive s b = (s ≡ Draft b) ⊎ (s ≡ Published b)

-- a place by its number: what is wanted there; or a refusal, with 3 where no place has the number, and with n where something else stands
abbrev pub Wanted : {A : Type 0} → (Spot → A → Type 0) → ℕ → List Spot → ℕ → Result A Refusal → Type 0
Wanted P n ss i (Ok x) = (i < PLACES) × P (slice_index_or ss i Empty) x
Wanted {A = A} P n ss i (Err e) = ((PLACES ≤ i) × (shown e ≡ refused 3)) ⊎ ((i < PLACES) × (((x : A) → P (slice_index_or ss i Empty) x → ⊥) × (shown e ≡ refused n)))

-- the root of the version at a place
abbrev pub root_of : Spot → List ℕ
root_of Empty = []
root_of (Draft b) = node_of b
root_of (Published b) = node_of b

-- the root b is held
abbrev pub HeldRoot : List NodeCell → Branch → Type 0
HeldRoot cs Nothing = Unit {0}
HeldRoot cs (Entry e) = Unit {0}
HeldRoot cs (Child i) = 0 < (cell cs i.0).holders

-- the root b has one holder more, from outside
abbrev pub RootHeld : Branch → List NodeCell → ℕ → ℕ → List NodeCell → ℕ → ℕ → Type 0
RootHeld Nothing cs f s ds g t = (ds ≡ cs) × (g ≡ f) × (t ≡ s)
RootHeld (Entry e) cs f s ds g t = (ds ≡ cs) × (g ≡ f) × (t ≡ s)
RootHeld (Child i) cs f s ds g t = NodeHeld i.0 cs f s ds g t

-- the same of the code's node table, as it was and as it is now
abbrev pub RootIsHeld : Branch → Table NodeCell → Table NodeCell → Type 0
RootIsHeld b t u = RootHeld b t.cells.now t.free t.spare u.cells.now u.free u.spare

-- the references xs to nodes are given up, with every node and entry that nobody holds any more; what is still held stays as it was
pub record GivenUp {X Y : Type 0} (xs : List ℕ) (T U : Tables X Y) : Type 0 where
  pub long : length U.nodes ≡ length T.nodes
  pub entry_long : length U.entries ≡ length T.entries
  pub left : (i : ℕ) → NodeLeft (cell T.nodes i) (cell U.nodes i)
  pub entry_left : (e : ℕ) → EntryLeft (entry_cell T.entries e) (entry_cell U.entries e)
  pub tables : (R E : List ℕ) → Nodes T.nodes T.free T.spare (xs ++ R) → Entries T.nodes T.entries T.entry_free T.entry_spare E → Entryless T.nodes
      → Nodes U.nodes U.free U.spare R × (Entries U.nodes U.entries U.entry_free U.entry_spare E × Entryless U.nodes)

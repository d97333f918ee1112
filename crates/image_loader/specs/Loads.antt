-- What building from an image may take for granted, and what it leaves. Assumes nothing.
use Rattle.std.specs.Prelude.{◌≡◌, ℕ, ◌<◌, ◌≤◌, List, [], Some}
use Rattle.std.specs.List.{AllByRecursion}
use Rattle.kinds.specs.Kinds.{KeyKind, ValueKind}
use Rattle.tables.specs.declared.cells.NodeCell.{NodeCell}
use Rattle.tables.specs.declared.cells.EntryCell.{EntryCell}
use Rattle.tables.specs.declared.cells.NodeId.{NodeId}
use Rattle.tables.specs.declared.table.Table.{Table}
use Rattle.tables.specs.Seen.{EntriesOf, EntryIsMade}
use Rattle.plans.specs.Plans.{portion}
use Rattle.branches.specs.declared.branch.Branch.{Branch}
use Rattle.branches.specs.declared.branch.Branch.TheVariants.{Child}
use Rattle.branches.specs.States.{Tables, Notes, Sits, Clear, Under, Led}
use Rattle.branches.specs.Branches.{Built}
use Rattle.image_reader.specs.Cursors.{Cursor}
use Rattle.image_loader.specs.Ahead.{Ahead, EntryAhead, NodeAhead}
use Rattle.image_loader.specs.Counts.{IsImage}

-- ---- an entry

-- an entry is ahead, and there is a free cell for it
pub record MayMake {X Y : Type 0} (K : KeyKind) (V : ValueKind) (r : Cursor)
    (t : Table (EntryCell X Y)) : Type 0 where
  pub entry : EntryAhead K V r
  pub some : 0 < t.spare
  pub heap : (cs : List NodeCell) × ((owners : List ℕ) × EntriesOf cs t owners)

-- the entry e is made of the setting whose entry is ahead of r, whichever that is; s has passed it
pub record EntryRead {X Y : Type 0} (K : KeyKind) (V : ValueKind)
    (kb : X → List ℕ) (vb : Y → List ℕ) (r : Cursor) (t : Table (EntryCell X Y))
    (e : ℕ) (s : Cursor) (u : Table (EntryCell X Y)) : Type 0 where
  pub key : X
  pub value : Y
  pub made : EntryIsMade e (record { held = Some (key, value); holders = 1; next = 0 }) t u
  pub setting : (q : EntryAhead K V r) → record { key = kb key; value = vb value } ≡ q.setting
  pub onward : (q : EntryAhead K V r) → Ahead s q.rest

-- ---- a node

-- a node is ahead, its part fits, and nothing below its prefix has the call's label
pub record MayBuild {X Y : Type 0} (K : KeyKind) (V : ValueKind)
    (kb : X → List ℕ) (vb : Y → List ℕ) (T : Tables X Y) (r : Cursor) (height : ℕ) : Type 0 where
  pub node : NodeAhead K V r height
  pub call : ℕ
  pub notes : Notes
  pub roots : List ℕ
  pub in_hand : List ℕ
  pub sits : Sits K kb vb T notes roots in_hand
  pub clear : Clear call (Under node.prefix) (Led K node.prefix) T notes
  pub led : AllByRecursion (λ s. Led K node.prefix s.key) node.part
  pub nodes_fit : (portion K call height node.prefix [] node.part).new_nodes ≤ T.spare
  pub entries_fit : (portion K call height node.prefix [] node.part).new_entries ≤ T.entry_spare

-- in each such case the node i is that of the part, all new, and s has passed it
pub record NodeBuilt {X Y : Type 0} (K : KeyKind) (V : ValueKind)
    (kb : X → List ℕ) (vb : Y → List ℕ) (T : Tables X Y) (r : Cursor) (height : ℕ)
    (i : NodeId) (s : Cursor) (U : Tables X Y) : Type 0 where
  pub built : (q : MayBuild K V kb vb T r height) →
      Built K kb vb q.call height q.node.prefix q.node.part
      (portion K q.call height q.node.prefix [] q.node.part) T q.notes q.roots q.in_hand (Child i) U
  pub onward : (q : MayBuild K V kb vb T r height) → Ahead s q.node.rest

-- ---- a whole image

-- the version of an image fits, and nothing has the call's label yet
pub record MayLoad {X Y : Type 0} (K : KeyKind) (V : ValueKind)
    (kb : X → List ℕ) (vb : Y → List ℕ) (T : Tables X Y) (bs : List ℕ) : Type 0 where
  pub call : ℕ
  pub image : IsImage K V bs
  pub notes : Notes
  pub roots : List ℕ
  pub in_hand : List ℕ
  pub sits : Sits K kb vb T notes roots in_hand
  pub clear : Clear call (Under []) (Led K []) T notes
  pub nodes_fit : (portion K call 8 [] [] image.settings).new_nodes ≤ T.spare
  pub entries_fit : (portion K call 8 [] [] image.settings).new_entries ≤ T.entry_spare

-- in each such case r is the root of the image's map, all new
pub record Loaded {X Y : Type 0} (K : KeyKind) (V : ValueKind)
    (kb : X → List ℕ) (vb : Y → List ℕ) (T : Tables X Y) (bs : List ℕ)
    (r : Branch) (U : Tables X Y) : Type 0 where
  pub built : (q : MayLoad K V kb vb T bs) →
      Built K kb vb q.call 8 [] q.image.settings (portion K q.call 8 [] [] q.image.settings)
      T q.notes q.roots q.in_hand r U

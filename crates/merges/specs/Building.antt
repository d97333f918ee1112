-- The entry of a choice, held or made. Assumes nothing.
use Rattle.std.specs.Prelude.{◌≡◌, ℕ, ◌<◌, ◌≤◌, List, length, Some, count_ones}
use Rattle.kinds.specs.Kinds.{KeyKind, ValueKind}
use Rattle.model.specs.declared.limits.TheConstants.{MOST_CELLS}
use Rattle.model.specs.Maps.{Setting}
use Rattle.tables.specs.declared.cells.NodeCell.{NodeCell}
use Rattle.tables.specs.declared.cells.EntryCell.{EntryCell}
use Rattle.tables.specs.declared.table.Table.{Table}
use Rattle.tables.specs.Cells.{cell, entry_cell}
use Rattle.tables.specs.Heaps.{Entries, EntryHeld, EntryMade}
use Rattle.branches.specs.Branches.{SomeEntry}
use Rattle.merges.specs.declared.choices.Choice.{Choice}
use Rattle.merges.specs.declared.choices.Choice.TheVariants.{Ours, Theirs, Joined}
use Rattle.merges.specs.Choices.{chosen}

module _ {X Y : Type 0} (K : KeyKind) (V : ValueKind) (kb : X → List ℕ) (vb : Y → List ℕ) (es : List (EntryCell X Y)) (f s : ℕ) where
  -- an entry can be held once more
  pub record Holding (e : ℕ) : Type 0 where
    pub held : 0 < (entry_cell es e).holders
    pub heap : (cs : List NodeCell) × ((R : List ℕ) × (Entries cs es f s R × ((length R ≤ MOST_CELLS) × ((length cs ≤ MOST_CELLS) × ((i : ℕ) → count_ones (cell cs i).datamap ≤ 16)))))

  -- two entries can be read, and there is a free cell for a third
  pub record Joining (e d : ℕ) : Type 0 where
    pub first : SomeEntry K kb vb es e
    pub second : SomeEntry K kb vb es d
    pub some : 0 < s
    pub heap : (cs : List NodeCell) × ((R : List ℕ) × Entries cs es f s R)

  abbrev pub Taking : Choice → Type 0
  Taking (Ours e) = Holding e.0
  Taking (Theirs e) = Holding e.0
  Taking (Joined e d) = Joining e.0 d.0

  -- r is a new entry of a setting
  pub record NewEntry (setting : Setting) (r : ℕ) (fs : List (EntryCell X Y)) (g t : ℕ) : Type 0 where
    pub key : X
    pub value : Y
    pub made : EntryMade r (record { held = Some (key, value); holders = 1; next = 0 }) es f s fs g t
    pub setting_is : record { key = kb key; value = vb value } ≡ setting

  -- r is the entry of a choice, with one holder more from outside
  abbrev pub Taken : Choice → ℕ → List (EntryCell X Y) → ℕ → ℕ → Type 0
  Taken (Ours e) r fs g t = (r ≡ e.0) × EntryHeld e.0 es f s fs g t
  Taken (Theirs e) r fs g t = (r ≡ e.0) × EntryHeld e.0 es f s fs g t
  Taken (Joined e d) r fs g t = NewEntry (chosen V kb vb es (Joined e d)) r fs g t

-- the same of the code's entry table, as it was and as it is now
abbrev pub MayTake : {X Y : Type 0} → KeyKind → ValueKind → (X → List ℕ) → (Y → List ℕ) → Table (EntryCell X Y) → Choice → Type 0
MayTake K V kb vb t c = Taking K V kb vb t.cells.now t.free t.spare c

abbrev pub IsTaken : {X Y : Type 0} → KeyKind → ValueKind → (X → List ℕ) → (Y → List ℕ) → Choice → ℕ → Table (EntryCell X Y) → Table (EntryCell X Y) → Type 0
IsTaken K V kb vb c r t u = Taken K V kb vb t.cells.now t.free t.spare c r u.cells.now u.free u.spare

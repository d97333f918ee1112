-- How many nodes and entries an image takes. Assumes nothing.
use Rattle.std.specs.Prelude.{◌≡◌, ℕ, List, []}
use Rattle.kinds.specs.Kinds.{KeyKind, ValueKind}
use Rattle.model.specs.Maps.{Map}
use Rattle.model.specs.Tries.{Lawful}
use Rattle.model.specs.Images.{image}
use Rattle.model.specs.Sharing.{shared}
use Rattle.plans.specs.Plans.{portion}
use Rattle.image_reader.specs.Cursors.{Cursor}
use Rattle.image_loader.specs.declared.counting.Cells.{Cells}
use Rattle.image_loader.specs.Ahead.{Ahead, NodeAhead}

-- whichever node is ahead of r, s has passed it, and so many cells are new in any call with it
pub record NodeCounted (K : KeyKind) (V : ValueKind) (r : Cursor) (height : ℕ) (s : Cursor)
    (c : Cells) : Type 0 where
  pub nodes : (q : NodeAhead K V r height) (n : ℕ) →
      c.nodes ≡ (portion K n height q.prefix [] q.part).new_nodes
  pub entries : (q : NodeAhead K V r height) (n : ℕ) →
      c.entries ≡ (portion K n height q.prefix [] q.part).new_entries
  pub onward : (q : NodeAhead K V r height) → Ahead s q.rest

-- ---- a whole image

pub record IsImage (K : KeyKind) (V : ValueKind) (bs : List ℕ) : Type 0 where
  pub settings : Map
  pub lawful : Lawful K V settings
  pub is : bs ≡ image K V settings

-- so many nodes and entries are new where any call loads the image
pub record CellsCounted (K : KeyKind) (V : ValueKind) (bs : List ℕ)
    (nodes entries : ℕ) : Type 0 where
  pub nodes_are : (q : IsImage K V bs) (n : ℕ) → nodes ≡ (shared K n [] q.settings).new_nodes
  pub entries_are : (q : IsImage K V bs) (n : ℕ) → entries ≡ (shared K n [] q.settings).new_entries

-- What is ahead of a reader in an image that was judged. Assumes nothing.
use Rattle.std.specs.Prelude.{◌≡◌, ℕ, ◌+◌, ◌^◌, ◌<◌, ◌≤◌, true, false, List, ◌++◌, length, drop}
use Rattle.kinds.specs.Kinds.{KeyKind, ValueKind}
use Rattle.model.specs.Maps.{Setting, Map, Readable, Sound}
use Rattle.model.specs.Images.{entry, node}
use Rattle.plans.specs.Plans.{bushy, crowd}
use Rattle.image_reader.specs.Cursors.{Cursor}

-- these bytes are all that is ahead of a reader
pub record Ahead (r : Cursor) (bytes : List ℕ) : Type 0 where
  pub within : r.at ≤ length r.image
  pub is : drop r.at r.image ≡ bytes

-- an entry is ahead, and the rest after it
pub record EntryAhead (K : KeyKind) (V : ValueKind) (r : Cursor) : Type 0 where
  pub setting : Setting
  pub rest : List ℕ
  pub reads : Readable K V setting
  pub ahead : Ahead r (entry setting ++ rest)

-- the node of a part at a prefix is ahead, and the rest after it
pub record NodeAhead (K : KeyKind) (V : ValueKind) (r : Cursor) (height : ℕ) : Type 0 where
  pub prefix : List ℕ
  pub part : Map
  pub rest : List ℕ
  pub deep : length prefix + height ≡ 8
  pub sound : Sound K V part
  pub several : bushy height part ≡ true
  pub calm : crowd K height (length prefix) part ≡ false
  pub few : length part < 2 ^ 32
  pub ahead : Ahead r (node K height part ++ rest)

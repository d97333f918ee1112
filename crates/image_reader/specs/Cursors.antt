-- A reader as its contracts see it. Assumes nothing.
use Rattle.std.specs.Prelude.{ℕ, List, drop}

-- an image, and the offset of the next command
pub record Cursor : Type 0 where
  pub image : List ℕ
  pub at : ℕ

-- what is not read yet
abbrev pub unread : Cursor → List ℕ
unread r = drop r.at r.image

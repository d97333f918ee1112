-- How far a reading of the model has come, or its fault. Assumes nothing.
use Rattle.std.specs.Prelude.{◌≡◌, ℕ, ◌+◌, ◌^◌, ◌<◌, ◌≤◌, List, [], length, Ok, Err, Result}
use Rattle.kinds.specs.declared.refusal.Refusal.{Refusal}
use Rattle.kinds.specs.Refusals.{shown, refused_at}
use Rattle.model.specs.Maps.{Setting}
use Rattle.model.specs.Reading.{Read, got, fault, prepend}
use Rattle.image_reader.specs.Cursors.{Cursor, unread}

-- what a reading of the model comes to from a cursor on
abbrev pub read_from : (ℕ → List ℕ → Read) → Cursor → Read
read_from f r = f r.at (unread r)

-- the reading f from r has come to s with n settings, and goes on as next
pub record ReadingReaches (f next : ℕ → List ℕ → Read) (r s : Cursor) (n : ℕ) : Type 0 where
  pub settings : List Setting
  pub so_far : read_from f r ≡ prepend settings (read_from next s)
  pub counted : length settings ≡ n
  pub image : s.image ≡ r.image
  pub onward : r.at + n ≤ s.at
  -- offsets stay numbers of 64 bits
  pub fits : r.at < 2 ^ 64 → s.at < 2 ^ 64

-- the reading f from r is a fault, and the refusal x says which
pub record ReadingFaults (f : ℕ → List ℕ → Read) (r : Cursor) (x : Refusal) : Type 0 where
  pub number : ℕ
  pub offset : ℕ
  pub is : read_from f r ≡ fault number offset
  pub shows : shown x ≡ refused_at number offset

-- the reading f from r ends at s with as many settings as are counted, or is a fault
abbrev pub ReadingOutcome : (ℕ → List ℕ → Read) → Cursor → Cursor → Result ℕ Refusal → Type 0
ReadingOutcome f r s (Ok n) = ReadingReaches f (got []) r s n
ReadingOutcome f r s (Err x) = ReadingFaults f r x

-- the reading f from r comes to s with no setting and goes on as next, or is a fault
abbrev pub StepOutcome : (ℕ → List ℕ → Read) → (ℕ → List ℕ → Read) → Cursor → Cursor →
    Result Unit Refusal → Type 0
StepOutcome f next r s (Ok u) = ReadingReaches f next r s 0
StepOutcome f next r s (Err x) = ReadingFaults f r x

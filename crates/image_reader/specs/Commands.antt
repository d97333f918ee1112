-- The next command of an image, and what is wrong with it. Assumes nothing.
use Rattle.std.specs.Prelude.{◌≡◌, ℕ, ◌+◌, ◌^◌, ◌<◌, cond, List, [], ◌∷◌, ◌++◌, length, Some, None, Ok, Err, Option, Result, nat_lt}
use Rattle.kinds.specs.Kinds.{KeyKind, ValueKind}
use Rattle.kinds.specs.declared.refusal.Refusal.{Refusal}
use Rattle.kinds.specs.Refusals.{shown, refused_at}
use Rattle.image_reader.specs.declared.due.Due.{Due}
use Rattle.image_reader.specs.declared.reader.Command.{Command}
use Rattle.image_reader.specs.Cursors.{Cursor, unread}
use Rattle.image_reader.specs.Dues.{width_of}

-- a command that is due stands whole from r to s: its byte, and its operands
pub record CommandStands (K : KeyKind) (V : ValueKind) (due : Due) (r : Cursor) (c : Command)
    (s : Cursor) : Type 0 where
  pub at : c.at ≡ r.at
  pub bytes : unread r ≡ c.byte ∷ (c.operands.now ++ unread s)
  pub wide : width_of K V due c.byte ≡ Some (length c.operands.now)
  pub onward : s.at ≡ r.at + (1 + length c.operands.now)
  pub image : s.image ≡ r.image
  -- an offset is a number of 64 bits
  pub fits : s.at < 2 ^ 64

-- what is wrong with a command whose operands have this width, if it is due: 9, or 8 if it is cut
abbrev pub operands_fault : Option ℕ → List ℕ → Option ℕ
operands_fault None bs = Some 9
operands_fault (Some w) bs = cond (nat_lt (length bs) w) (Some 8) None

-- what is wrong with the command that some bytes begin with, if anything
abbrev pub command_fault : KeyKind → ValueKind → Due → List ℕ → Option ℕ
command_fault K V due [] = Some 8
command_fault K V due (b ∷ bs) = operands_fault (width_of K V due b) bs

-- no command that is due stands whole at r, and the refusal x says so
pub record CommandFaults (K : KeyKind) (V : ValueKind) (due : Due) (r : Cursor)
    (x : Refusal) : Type 0 where
  pub number : ℕ
  pub is : command_fault K V due (unread r) ≡ Some number
  pub shows : shown x ≡ refused_at number r.at

-- a command that is due stands at r, or a refusal says why none does
abbrev pub CommandOutcome : KeyKind → ValueKind → Due → Cursor → Cursor → Result Command Refusal →
    Type 0
CommandOutcome K V due r s (Ok c) = CommandStands K V due r c s
CommandOutcome K V due r s (Err x) = CommandFaults K V due r x

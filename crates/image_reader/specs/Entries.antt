-- Entries, and where their keys may stand. Assumes nothing.
use Rattle.std.specs.Prelude.{◌≡◌, ℕ, ◌^◌, ◌<◌, Bool, true, ◌&&◌, List, [], ◌∷◌, ◌++◌, Some, None, Ok, Err, Option, Result}
use Rattle.kinds.specs.Kinds.{KeyKind, ValueKind}
use Rattle.kinds.specs.declared.refusal.Refusal.{Refusal}
use Rattle.model.specs.Tries.{leads}
use Rattle.model.specs.Reading.{Read, got, read_entry}
use Rattle.image_reader.specs.Cursors.{Cursor, unread}
use Rattle.image_reader.specs.Readings.{read_from, ReadingFaults}

-- whether a key comes after the last one, if there is one
abbrev pub follows : {X : Type 0} → KeyKind → (X → List ℕ) → Option X → List ℕ → Bool
follows K kb None k = true
follows K kb (Some x) k = K.before (kb x) k

-- an entry whose key's hash begins with a prefix, and whose key comes after the last one
abbrev pub entry_after : {X : Type 0} → KeyKind → ValueKind → (X → List ℕ) → List ℕ → Option X →
    ℕ → List ℕ → Read
entry_after K V kb p last = read_entry K V (λ k. leads K 0 p k && follows K kb last k)

-- the entry at a digit of the node at a prefix
abbrev pub entry_at : KeyKind → ValueKind → List ℕ → ℕ → ℕ → List ℕ → Read
entry_at K V p g = read_entry K V (leads K 0 (p ++ (g ∷ [])))

-- the reading f from r gives one setting, with the key k, and ends at s
pub record EntryReached (f : ℕ → List ℕ → Read) (r s : Cursor) (k : List ℕ) : Type 0 where
  pub value : List ℕ
  pub is : read_from f r ≡ got (record { key = k; value = value } ∷ []) s.at (unread s)
  pub image : s.image ≡ r.image
  pub onward : r.at < s.at
  pub fits : s.at < 2 ^ 64

-- the reading f from r gives an entry and ends at s, or is a fault
abbrev pub EntryOutcome : {X : Type 0} → (X → List ℕ) → (ℕ → List ℕ → Read) → Cursor → Cursor →
    Result X Refusal → Type 0
EntryOutcome kb f r s (Ok k) = EntryReached f r s (kb k)
EntryOutcome kb f r s (Err x) = ReadingFaults f r x

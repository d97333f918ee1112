-- What becomes of one key in a merge, by its entries in ours, in the base and in theirs. Assumes nothing.
use Rattle.std.specs.Prelude.{◌≡◌, ℕ, Bool, true, false, List, Some, None, Option}
use Rattle.kinds.specs.Kinds.{ValueKind}
use Rattle.model.specs.Maps.{Setting, same_found, decided}
use Rattle.tables.specs.declared.cells.EntryCell.{EntryCell}
use Rattle.tables.specs.declared.cells.EntryId.{EntryId}
use Rattle.edits.specs.Rowing.{setting_at, value_held}
use Rattle.merges.specs.declared.choices.Choice.{Choice}
use Rattle.merges.specs.declared.choices.Choice.TheVariants.{Ours, Theirs, Joined}
use Rattle.merges.specs.declared.choices.Decision.{Decision}

-- whether an entry is a new one
abbrev pub is_new : Choice → Bool
is_new (Ours e) = false
is_new (Theirs e) = false
is_new (Joined e d) = true

-- ours' entry, or theirs', if there is one
abbrev pub of_ours : Option EntryId → Option Choice
of_ours (Some e) = Some (Ours e)
of_ours None = None

abbrev pub of_theirs : Option EntryId → Option Choice
of_theirs (Some e) = Some (Theirs e)
of_theirs None = None

-- a choice is of the entries of its key, theirs only where ours has not the value, and new only where neither has it
abbrev pub Sourced : Option EntryId → Option EntryId → Bool → Bool → Option Choice → Type 0
Sourced ours theirs o t (Some (Ours e)) = ours ≡ Some e
Sourced ours theirs o t (Some (Theirs e)) = (theirs ≡ Some e) × (o ≡ false)
Sourced ours theirs o t (Some (Joined e d)) = (ours ≡ Some e) × ((theirs ≡ Some d) × ((o ≡ false) × (t ≡ false)))
Sourced ours theirs o t None = Unit {0}

module _ {X Y : Type 0} (V : ValueKind) (kb : X → List ℕ) (vb : Y → List ℕ) (es : List (EntryCell X Y)) where
  -- the setting of a choice
  abbrev pub chosen : Choice → Setting
  chosen (Ours e) = setting_at kb vb es e.0
  chosen (Theirs e) = setting_at kb vb es e.0
  chosen (Joined e d) = record { key = (setting_at kb vb es e.0).key; value = V.join (setting_at kb vb es e.0).value (setting_at kb vb es d.0).value }

  abbrev pub chosen_value : Option Choice → Option (List ℕ)
  chosen_value (Some c) = Some (chosen c).value
  chosen_value None = None

  -- a key becomes x, and r says whether that is what ours has, and what theirs has
  pub record Becomes (ours theirs : Option EntryId) (x : Option (List ℕ)) (r : Decision) : Type 0 where
    pub value : chosen_value r.choice ≡ x
    pub ours_has : r.ours ≡ same_found (value_held kb vb es ours) x
    pub theirs_has : r.theirs ≡ same_found (value_held kb vb es theirs) x
    pub source : Sourced ours theirs r.ours r.theirs r.choice

  abbrev pub Decided : Option EntryId → Option EntryId → Option EntryId → Decision → Type 0
  Decided ours base theirs r = Becomes ours theirs (decided V (value_held kb vb es ours) (value_held kb vb es base) (value_held kb vb es theirs)) r

  abbrev pub DecidedByJoin : EntryId → EntryId → Decision → Type 0
  DecidedByJoin ours theirs r = Becomes (Some ours) (Some theirs) (Some (V.join (setting_at kb vb es ours.0).value (setting_at kb vb es theirs.0).value)) r

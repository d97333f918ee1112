-- What a refusal shows: its number, and the offset of the faulty command where it names one. Assumes nothing.
use Rattle.std.specs.Prelude.{ℕ, Some, None, Option}
use Rattle.kinds.specs.declared.refusal.Refusal.{Refusal}
use Rattle.kinds.specs.declared.refusal.Refusal.TheVariants.{NotAPath, TableTooLong, NoSuchPlace, NotReadable, PlaceTaken, NotADraft, Foreign, Cut, Broken, Crowded, NoRoom, BufferTooShort}

pub record Refused : Type 0 where
  pub number : ℕ
  pub at : Option ℕ

abbrev pub refused : ℕ → Refused
refused n = record { number = n; at = None }

abbrev pub refused_at : ℕ → ℕ → Refused
refused_at n o = record { number = n; at = Some o }

abbrev pub shown : Refusal → Refused
shown NotAPath = refused 1
shown TableTooLong = refused 2
shown NoSuchPlace = refused 3
shown NotReadable = refused 4
shown PlaceTaken = refused 5
shown NotADraft = refused 6
shown (Foreign o) = refused_at 7 o
shown (Cut o) = refused_at 8 o
shown (Broken o) = refused_at 9 o
shown Crowded = refused 10
shown NoRoom = refused 11
shown BufferTooShort = refused 12

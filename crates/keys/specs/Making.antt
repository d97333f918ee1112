-- What making a path answers. Assumes nothing.
use Rattle.std.specs.Prelude.{◌≡◌, ℕ, true, false, List, Ok, Err, Result}
use Rattle.byte_rows.specs.Texts.{text_of, filled}
use Rattle.kinds.specs.declared.refusal.Refusal.{Refusal}
use Rattle.kinds.specs.Refusals.{shown, refused}

-- a path of the text with its filling, or refusal 1 exactly where the text is none of 1 to 24 printable bytes
abbrev pub Makes : {P : Type 0} → (P → List ℕ) → List ℕ → Result P Refusal → Type 0
Makes bytes t (Ok p) = (text_of 24 t ≡ true) × (bytes p ≡ filled 24 t)
Makes bytes t (Err e) = (text_of 24 t ≡ false) × (shown e ≡ refused 1)

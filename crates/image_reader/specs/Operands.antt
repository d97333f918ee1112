-- What stands in the operands of an entry. Assumes nothing.
use Rattle.std.specs.Prelude.{◌≡◌, ℕ, false, ◌&&◌, true, List, take, drop, Some, None, Option}
use Rattle.kinds.specs.Kinds.{KeyKind, ValueKind}

-- the bytes of a key and then those of a value, both readable
pub record KeyThenValue {X Y : Type 0} (K : KeyKind) (V : ValueKind) (kb : X → List ℕ)
    (vb : Y → List ℕ) (row : List ℕ) (x : X) (y : Y) : Type 0 where
  pub key_reads : K.readable (take K.width row) ≡ true
  pub value_reads : V.readable (drop K.width row) ≡ true
  pub key : kb x ≡ take K.width row
  pub value : vb y ≡ drop K.width row

-- the key and the value in a row, or none where they are not both readable
abbrev pub SettingIn : {X Y : Type 0} → KeyKind → ValueKind → (X → List ℕ) → (Y → List ℕ) → List ℕ →
    Option (X × Y) → Type 0
SettingIn K V kb vb row None =
    (K.readable (take K.width row) && V.readable (drop K.width row)) ≡ false
SettingIn K V kb vb row (Some s) = KeyThenValue K V kb vb row s.0 s.1

-- The entries of an image: how long they are, and what is read of one. Assumes nothing.
use Rattle.std.proofs.Common.{◌≡◌, ℕ, ◌+◌, ◌*◌, ◌≤◌, List, [], ◌∷◌, ◌++◌, length, take, drop, IsSome, Some, None, Option, sym, refl, ap, ◌∙◌, subst, ap₂, arith, length-append}
use Rattle.std.specs.List.{AllByRecursion}
use Rattle.std.proofs.Math.Seq.{drop-append_seam, take-append_seam}
use Rattle.std.proofs.lemmas.Bool.{and_from, both_ways}
use Rattle.kinds.specs.Kinds.{KeyKind, ValueKind}
use Rattle.model.specs.declared.commands.TheConstants.{ENTRY}
use Rattle.model.specs.Maps.{Setting, Map, Readable}
use Rattle.model.specs.Images.{entry}
use Rattle.model.proofs.Images.Lists.{flat}
use Rattle.image_reader.specs.Cursors.{Cursor}
use Rattle.image_reader.specs.Operands.{SettingIn}
use Rattle.image_loader.specs.Heads.{operands}
use Rattle.image_loader.specs.Ahead.{Ahead, EntryAhead}
use Rattle.image_loader.proofs.Readers.{command_fits, command_operands, command_past}

module _ (K : KeyKind) (V : ValueKind) where
  -- how many bytes an entry has
  abbrev pub entry_size : ℕ
  entry_size = 1 + (K.width + V.width)

  row_long : (s : Setting) → Readable K V s → length (s.key ++ s.value) ≡ K.width + V.width
  row_long s r =
      length-append s.key s.value
      ∙ ap₂ (λ (a b : ℕ). a + b) (K.reads_width s.key r.0) (V.reads_width s.value r.1)

  pub entries_long : (m : Map) → AllByRecursion (Readable K V) m
      → length (flat entry m) ≡ length m * entry_size
  entries_long [] r = omega arith
  entries_long (s ∷ m) r =
      omega (arith, length-append (entry s) (flat entry m), row_long s r.0, entries_long m r.1)

-- ---- an entry that is ahead

module _ {K : KeyKind} {V : ValueKind} {r : Cursor} (q : EntryAhead K V r)
    {width : ℕ} (wide : width ≡ K.width + V.width) where
  abbrev s : Setting
  s = q.setting

  long : width ≡ length (s.key ++ s.value)
  long = wide ∙ sym (row_long K V s q.reads)

  pub entry_fits : r.at + (1 + width) ≤ length r.image
  entry_fits = command_fits r ENTRY (s.key ++ s.value) q.rest width long q.ahead

  pub entry_past : (t : Cursor) → t.image ≡ r.image → t.at ≡ r.at + (1 + width)
      → Ahead t q.rest
  entry_past = command_past r ENTRY (s.key ++ s.value) q.rest width long q.ahead

  -- what is read of its operands
  module _ {row : List ℕ} (is : row ≡ operands r width) where
    row_is : row ≡ s.key ++ s.value
    row_is = is ∙ command_operands r ENTRY (s.key ++ s.value) q.rest width long q.ahead

    pub row_wide : length row ≡ K.width + V.width
    row_wide = ap length row_is ∙ row_long K V s q.reads

    key_is : take K.width row ≡ s.key
    key_is =
        ap₂ (λ (n : ℕ) (l : List ℕ). take n l) (sym (K.reads_width s.key q.reads.0)) row_is
        ∙ take-append_seam s.key s.value

    value_is : drop K.width row ≡ s.value
    value_is =
        ap₂ (λ (n : ℕ) (l : List ℕ). drop n l) (sym (K.reads_width s.key q.reads.0)) row_is
        ∙ drop-append_seam s.key s.value

    module _ {X Y : Type 0} (kb : X → List ℕ) (vb : Y → List ℕ) where
      pub read_some : (o : Option (X × Y)) → SettingIn K V kb vb row o → IsSome o
      read_some (Some x) S = refl
      read_some None e =
          let key = ap K.readable key_is ∙ q.reads.0 in
          let value = ap V.readable value_is ∙ q.reads.1 in
          absurd (both_ways _ e (and_from _ _ key value))

      pub read_is : (o : Option (X × Y)) (x : X × Y) → SettingIn K V kb vb row o → o ≡ Some x
          → record { key = kb x.0; value = vb x.1 } ≡ s
      read_is o x S e =
          let S' = subst (SettingIn K V kb vb row) e S in
          ap₂ (λ (a b : List ℕ). record { key = a; value = b }) (S'.key ∙ key_is)
          (S'.value ∙ value_is)

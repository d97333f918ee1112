-- One key is set or cleared: what a look-up finds, and what goes on by each digit. Assumes nothing.
use Rattle.std.proofs.Common.{◌≡◌, ℕ, true, cond, List, Some, None, Option}
use Rattle.byte_rows.specs.Rows.{same}
use Rattle.kinds.specs.Kinds.{KeyKind, ValueKind}
use Rattle.model.specs.Maps.{Map, look, Sound}
use Rattle.model.specs.Tries.{digit, at_digit}
use Rattle.model.proofs.Maps.Order.{Reads}
use Rattle.model.proofs.Maps.Edits.{sound_put, look_put, sound_remove, look_remove}
use Rattle.plans.specs.Plans.{edited}
use Rattle.plans.proofs.Digits.{at_put_here, at_put_other, at_remove_here, at_remove_other}

module _ (K : KeyKind) (V : ValueKind) (m : Map) (k : List ℕ) (good : Sound K V m) (key : K.readable k ≡ true) where
  pub sound_edited : (x : Option (List ℕ)) → Reads V x → Sound K V (edited K m k x)
  sound_edited (Some v) value = sound_put K V m k good key v value
  sound_edited None value = sound_remove K V m k good key

  pub look_edited : (x : Option (List ℕ)) → Reads V x → (j : List ℕ) → look (edited K m k x) j ≡ cond (same j k) x (look m j)
  look_edited (Some v) value j = look_put K V m k good key v value j
  look_edited None value j = look_remove K V m k good key j

  module _ (d g : ℕ) where
    pub at_edited_here : (x : Option (List ℕ)) → Reads V x → digit (K.hash k) d ≡ g → at_digit K d (edited K m k x) g ≡ edited K (at_digit K d m g) k x
    at_edited_here (Some v) value e = at_put_here K V d g m k good key v value e
    at_edited_here None value e = at_remove_here K V d g m k good key e

    pub at_edited_other : (x : Option (List ℕ)) → Reads V x → (digit (K.hash k) d ≡ g → ⊥) → at_digit K d (edited K m k x) g ≡ at_digit K d m g
    at_edited_other (Some v) value e = at_put_other K V d g m k good key v value e
    at_edited_other None value e = at_remove_other K V d g m k good key e

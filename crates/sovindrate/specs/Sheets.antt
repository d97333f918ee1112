-- What a sheet of settings means, and what one more setting makes of it. Assumes nothing.
use Rattle.std.specs.Prelude.{◌≡◌, ℕ, ◌<◌, ◌≤◌, cond, List, [], ◌∷◌, map, length, slice_index_or, slice_set, Ok, Err, Result}
use Rattle.kinds.specs.Kinds.{KeyKind, ValueKind}
use Rattle.std.specs.List.{insert}
use Rattle.sovindrate.specs.declared.sheet.Setting.{Setting}

-- a key's bytes and a value's
pub record Pair : Type 0 where
  pub key : List ℕ
  pub value : List ℕ

abbrev pub pair : List ℕ → List ℕ → Pair
pair k v = record { key = k; value = v }

-- what settings mean, in their order
abbrev pub meaning : {K V : Type 0} → (K → List ℕ) → (V → List ℕ) → List (Setting K V) → List Pair
meaning kb vb settings = map (λ s. pair (kb s.key) (vb s.value)) settings

-- one setting more, in key order; at a key that is there the two values are joined
abbrev pub united : KeyKind → ValueKind → List ℕ → List ℕ → List Pair → List Pair
united K V k v [] = pair k v ∷ []
united K V k v (s ∷ row) =
    cond (K.before s.key k) (s ∷ united K V k v row) (cond (K.before k s.key) (pair k v ∷ (s ∷ row)) (pair k (V.join s.value v) ∷ row))

-- where a key stands: at a setting with its key, which is then joined, or before the first setting that comes after it
abbrev pub Stands : KeyKind → ValueKind → List ℕ → List Pair → Result ℕ ℕ → Type 0
Stands K V k row (Ok i) = (i < length row) × ((v : List ℕ) → united K V k v row ≡ slice_set row i (pair k (V.join (slice_index_or row i (pair [] [])).value v)))
Stands K V k row (Err i) = (i ≤ length row) × ((v : List ℕ) → united K V k v row ≡ insert row i (pair k v))

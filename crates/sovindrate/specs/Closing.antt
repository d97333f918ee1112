-- The calls that ask for the account at the end of a script. Assumes nothing.
use Rattle.std.specs.Prelude.{ℕ, List, [], ◌∷◌, ◌++◌}
use Rattle.std.specs.List.{flat_map, range_with_len}
use Rattle.model.specs.declared.limits.TheConstants.{PLACES}
use Rattle.store.specs.Answers.{LentCall}
use Rattle.store.specs.declared.calls.Call.TheVariants.{Count, Save, Free}

-- how many settings a place has, and its image, into a buffer of so many bytes
abbrev pub place_calls : {X Y : Type 0} → ℕ → ℕ → List (LentCall X Y)
place_calls room p = Count p ∷ (Save p room ∷ [])

-- of each of the 64 places, and then what is free
unfoldable pub account_calls : {X Y : Type 0} → ℕ → List (LentCall X Y)
account_calls room = flat_map (place_calls room) (range_with_len 0 PLACES) ++ (Free ∷ [])

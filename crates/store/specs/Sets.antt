-- Put and remove as one call: a key is set to a value, or to nothing. Assumes nothing.
use Rattle.std.specs.Prelude.{ℕ, List, Some, None, Option}
use Rattle.model.specs.Calls.{Call, Put, Remove}

abbrev pub set_call : ℕ → List ℕ → Option (List ℕ) → Call
set_call i k (Some v) = Put i k v
set_call i k None = Remove i k

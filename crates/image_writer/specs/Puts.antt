-- What a write into the rest of a buffer leaves. Assumes nothing.
use Rattle.std.specs.Prelude.{◌≡◌, ℕ, ◌+◌, ◌≤◌, List, ◌++◌, length, take, drop}

-- xs was written into a buffer from the offset at to the offset to, and nothing else changed
pub record Puts (old new : List ℕ) (at : ℕ) (xs : List ℕ) (to : ℕ) : Type 0 where
  pub is : new ≡ take at old ++ (xs ++ drop to old)
  pub onward : to ≡ at + length xs
  pub within : to ≤ length old

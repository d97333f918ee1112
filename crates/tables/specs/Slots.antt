-- What stands at a digit of a compressed node. Assumes nothing.
use Rattle.std.specs.Prelude.{◌≡◌, ℕ, ◌-◌, ◌/◌, ◌%◌, ◌^◌, ◌<◌, ◌≤◌, Bool, true, false, List, Some, None, Option, ◌==◌, bit_and, count_ones, slice_index}

-- whether the bit of the digit g is set
abbrev pub bit : ℕ → ℕ → Bool
bit m g = (m / 2 ^ g) % 2 == 1

-- the rank of the digit g: the number of lower bits that are set
abbrev pub rank_of : ℕ → ℕ → ℕ
rank_of m g = count_ones (bit_and m (2 ^ g - 1))

-- what is found at a digit: what stands in the slot of its rank, exactly where its bit is set
abbrev pub AtDigit : {A : Type 0} → (A → ℕ) → ℕ → List ℕ → ℕ → Option A → Type 0
AtDigit number m slots g None = bit m g ≡ false
AtDigit number m slots g (Some x) = (bit m g ≡ true) × (number x ≡ slice_index slots (rank_of m g))

-- what is found at a rank: what stands in its slot, exactly where it is below the number of bits
abbrev pub AtRank : {A : Type 0} → (A → ℕ) → ℕ → List ℕ → ℕ → Option A → Type 0
AtRank number m slots k None = count_ones m ≤ k
AtRank number m slots k (Some x) = (k < count_ones m) × (number x ≡ slice_index slots k)

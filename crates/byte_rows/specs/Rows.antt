-- Rows of bytes, and the numbers that stand in them. Assumes nothing.
use Rattle.std.specs.Prelude.{◌≡◌, ℕ, zero, suc, ◌+◌, ◌*◌, ◌/◌, ◌%◌, ◌^◌, Bool, true, false, cond, ◌&&◌, ◌||◌, List, [], ◌∷◌, ◌++◌, length, drop, Some, None, Option, ◌==◌, nat_le, nat_lt}

-- whether two rows are the same, byte for byte
abbrev pub same : List ℕ → List ℕ → Bool
same [] [] = true
same [] (b ∷ bs) = false
same (a ∷ as') [] = false
same (a ∷ as') (b ∷ bs) = a == b && same as' bs

-- whether a row comes first: at the first byte that differs it has the lower one
abbrev pub earlier : List ℕ → List ℕ → Bool
earlier [] [] = false
earlier [] (b ∷ bs) = true
earlier (a ∷ as') [] = false
earlier (a ∷ as') (b ∷ bs) = nat_lt a b || (a == b && earlier as' bs)

-- every number of the row is a byte
abbrev pub byte_row : List ℕ → Bool
byte_row [] = true
byte_row (b ∷ bs) = nat_lt b 256 && byte_row bs

-- a row of exactly w bytes
abbrev pub row_of : ℕ → List ℕ → Bool
row_of w bs = length bs == w && byte_row bs

-- a number in w bytes, highest first
abbrev pub in_bytes : ℕ → ℕ → List ℕ
in_bytes zero n = []
in_bytes (suc w) n = (n / 256 ^ w) % 256 ∷ in_bytes w n

-- the number that stands in a row, highest byte first
abbrev pub number : List ℕ → ℕ
number [] = 0
number (b ∷ bs) = b * 256 ^ length bs + number bs

-- whether a row stands for the lower number
abbrev pub lower : List ℕ → List ℕ → Bool
lower a b = nat_lt (number a) (number b)

-- a lent row after bytes were written from its first place on: they and what lay past them, or the row as it was where they do not fit
abbrev pub written : List ℕ → List ℕ → List ℕ
written bs out = cond (nat_le (length bs) (length out)) (bs ++ drop (length bs) out) out

-- what a read of the row b answers: something exactly where the row is readable, and then what has these bytes
abbrev pub Reads : {X : Type 0} → (List ℕ → Bool) → (X → List ℕ) → List ℕ → Option X → Type 0
Reads readable bytes b None = readable b ≡ false
Reads readable bytes b (Some x) = (readable b ≡ true) × (bytes x ≡ b)

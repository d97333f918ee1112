-- Printable texts, filled up to a width, and their hash. Assumes nothing.
use Rattle.std.specs.Prelude.{ℕ, ◌-◌, ◌*◌, ◌%◌, ◌^◌, Bool, true, cond, ◌&&◌, List, [], ◌∷◌, ◌++◌, length, replicate, fold, ◌==◌, bit_xor, nat_le}
use Rattle.byte_rows.specs.Rows.{same}

-- a byte from 21 to 7E
abbrev pub printable : ℕ → Bool
printable b = nat_le 0x21 b && nat_le b 0x7E

abbrev pub is_all_printable : List ℕ → Bool
is_all_printable [] = true
is_all_printable (b ∷ bs) = printable b && is_all_printable bs

-- a text of 1 to w printable bytes
abbrev pub text_of : ℕ → List ℕ → Bool
text_of w t = nat_le 1 (length t) && (nat_le (length t) w && is_all_printable t)

-- a text filled with 00 up to w bytes
abbrev pub filled : ℕ → List ℕ → List ℕ
filled w t = t ++ replicate (w - length t) 0

-- what stands before the first 00
abbrev pub unfilled : List ℕ → List ℕ
unfilled [] = []
unfilled (b ∷ bs) = cond (b == 0) [] (b ∷ unfilled bs)

-- a row of w bytes that is a text and its filling
abbrev pub text_row : ℕ → List ℕ → Bool
text_row w bs = text_of w (unfilled bs) && same bs (filled w (unfilled bs))

-- FNV-1a in 32 bits: each byte in turn is XORed in, then all is multiplied
abbrev pub fnv_step : ℕ → ℕ → ℕ
fnv_step h b = bit_xor h b * 0x01000193 % 2 ^ 32

abbrev pub fnv : List ℕ → ℕ
fnv bs = fold fnv_step 0x811C9DC5 bs

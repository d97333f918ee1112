-- Joins of two rows: the larger number, the flags of either, the later of two stamped offsets. Assumes nothing.
use Rattle.std.specs.Prelude.{ℕ, Bool, cond, ◌&&◌, ◌||◌, List, ◌++◌, take, drop, ℤ, ◌==◌, bit_or, int_lt, nat_lt}
use Rattle.std.specs.Int.{w16}
use Rattle.std.proofs.Common.{to_z, of_z}
use Rattle.byte_rows.specs.Rows.{in_bytes, number}

-- the row with the larger number
abbrev pub larger : List ℕ → List ℕ → List ℕ
larger a b = cond (nat_lt (number a) (number b)) b a

-- w bytes with every flag that either row has
abbrev pub either_flags : ℕ → List ℕ → List ℕ → List ℕ
either_flags w a b = in_bytes w (bit_or (number a) (number b))

-- a stamp of 32 bits and then an offset of 16, in two's complement
abbrev pub stamped : ℕ → ℤ → List ℕ
stamped s o = in_bytes 4 s ++ in_bytes 2 (of_z w16 o)

-- of six bytes the first four are a stamp
abbrev pub stamp : List ℕ → ℕ
stamp a = number (take 4 a)

-- and the last two an offset
abbrev pub offset : List ℕ → ℤ
offset a = to_z w16 (number (drop 4 a))

-- whether a row gives way to another: a smaller stamp, or the same stamp and a smaller offset
abbrev pub gives_way : List ℕ → List ℕ → Bool
gives_way a b = nat_lt (stamp a) (stamp b) || (stamp a == stamp b && int_lt (offset a) (offset b))

abbrev pub later : List ℕ → List ℕ → List ℕ
later a b = cond (gives_way a b) b a

-- How flag sets are shown. Assumes nothing.
use Rattle.std.specs.Prelude.{ℕ, ◌-◌, ◌^◌, true, false, List, []}
use Rattle.std.specs.Fmt.{digits, padded_integral, format_spec}

-- a number in hexadecimal digits with the letters A to F, filled with 0 up to eight
abbrev pub hex_8 : ℕ → List ℕ
hex_8 n = padded_integral (format_spec 32 0 4 8 (2 ^ 64 - 1)) false [] (digits 16 true n)

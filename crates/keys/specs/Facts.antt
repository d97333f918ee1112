-- A worked case of a hash. Assumes nothing.
use Rattle.std.specs.Prelude.{◌≡◌, ℕ, List, [], ◌∷◌}
use Rattle.byte_rows.specs.Texts.{filled}
use Rattle.keys.specs.Keys.{path_kind}

-- the path "a"
abbrev pub path_a : List ℕ
path_a = filled 24 (0x61 ∷ [])

abbrev pub PathAHashesToE40C292C : Type 0
PathAHashesToE40C292C = path_kind.hash path_a ≡ 0xE40C292C

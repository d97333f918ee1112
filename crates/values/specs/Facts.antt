-- A worked case of join. Assumes nothing.
use Rattle.std.specs.Prelude.{◌≡◌, pos, negsuc}
use Rattle.byte_rows.specs.Joins.{stamped}
use Rattle.values.specs.Values.{register_kind}

-- (7, -3) with (7, 2) is (7, 2), and that with (8, -9) is (8, -9)
abbrev pub LaterRegisterWins : Type 0
LaterRegisterWins =
    (register_kind.join (stamped 7 (negsuc 2)) (stamped 7 (pos 2)) ≡ stamped 7 (pos 2))
    × (register_kind.join (stamped 7 (pos 2)) (stamped 8 (negsuc 8)) ≡ stamped 8 (negsuc 8))

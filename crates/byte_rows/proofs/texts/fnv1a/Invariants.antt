use Rattle.std.proofs.Common.{◌≡◌, drop, fold}
use Rattle.byte_rows.specs.Texts.{fnv_step, fnv}
use Rattle.byte_rows.proofs.texts.fnv1a.Given as goal

-- the hash so far, over the bytes that are left, is that of all
abbrev pub invariant-loop-byte : goal.invariant-loop-byte
invariant-loop-byte l = fold fnv_step l.hash (drop l.byte-index l.bytes) ≡ fnv l.bytes

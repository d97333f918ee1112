use Rattle.std.proofs.Common.{◌≡◌, ℕ, List, ◌++◌, take, drop}
use Rattle.sovindrate.specs.Sheets.{meaning, united}
use Rattle.sovindrate.proofs.unite.find.Given as goal

-- the keys so far come before this one
abbrev pub invariant-loop-i : goal.invariant-loop-i
invariant-loop-i g l =
    let m = meaning g.K.Coded.bytes g.V.Coded.bytes l.settings in
    (v : List ℕ) → let add = united g.K.Key.kind g.V.Value.kind (g.K.Coded.bytes l.key) v in add m ≡ take l.i m ++ add (drop l.i m)

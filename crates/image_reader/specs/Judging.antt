-- The verdict on a whole image. Assumes nothing.
use Rattle.std.specs.Prelude.{◌≡◌, ℕ, List, Ok, Err, Result}
use Rattle.kinds.specs.Kinds.{KeyKind, ValueKind}
use Rattle.kinds.specs.declared.refusal.Refusal.{Refusal}
use Rattle.kinds.specs.Refusals.{shown, refused_at}
use Rattle.model.specs.Maps.{Map}
use Rattle.model.specs.Reading.{Read, ended, read_root, read_whole, judge, accepted, refused}

-- a whole image, from its beginning on
abbrev pub whole : KeyKind → ValueKind → ℕ → List ℕ → Read
whole K V at bs = read_whole K V bs

-- what follows the header: the root, if there is one, and the end
abbrev pub rooted : KeyKind → ValueKind → ℕ → List ℕ → Read
rooted K V at bs = ended (read_root K V at bs)

-- an image is accepted where it is judged the image of some map, and else refused as it is judged
abbrev pub JudgedAs : KeyKind → ValueKind → List ℕ → Result Unit Refusal → Type 0
JudgedAs K V bs (Ok u) = (m : Map) × (judge K V bs ≡ accepted m)
JudgedAs K V bs (Err x) =
    (n : ℕ) × ((o : ℕ) × ((judge K V bs ≡ refused n o) × (shown x ≡ refused_at n o)))

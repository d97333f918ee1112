-- The digits that a prefix in code stands for. Assumes nothing.
use Rattle.std.specs.Prelude.{ℕ, zero, suc, ◌-◌, List, [], ◌∷◌, ◌++◌}
use Rattle.model.specs.Tries.{digit}
use Rattle.image_reader.specs.declared.prefix.TheConstants.{ROOT_HEIGHT}
use Rattle.image_reader.specs.declared.prefix.Prefix.{Prefix}

-- the first d digits of a number, the lowest first
abbrev pub first_digits : ℕ → ℕ → List ℕ
first_digits x zero = []
first_digits x (suc d) = first_digits x d ++ (digit x d ∷ [])

-- the digits of a prefix, the root's first
unfoldable pub prefix_digits : Prefix → List ℕ
prefix_digits p = first_digits p.number (ROOT_HEIGHT - p.height)

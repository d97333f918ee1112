-- Branches that are one cell. Assumes nothing.
use Rattle.std.specs.Prelude.{◌≡◌}
use Rattle.branches.specs.declared.branch.Branch.{Branch}

-- of three branches no two are one cell, or both nothing
abbrev pub Apart : Branch → Branch → Branch → Type 0
Apart ours base theirs = (ours ≡ theirs → ⊥) × ((ours ≡ base → ⊥) × (theirs ≡ base → ⊥))

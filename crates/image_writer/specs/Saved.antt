-- What saving a version leaves in the buffer. Assumes nothing.
use Rattle.std.specs.Prelude.{◌≡◌, ℕ, ◌<◌, ◌≤◌, List, [], ◌++◌, length, drop, Result, Ok, Err}
use Rattle.kinds.specs.Kinds.{KeyKind, ValueKind}
use Rattle.kinds.specs.declared.refusal.Refusal.{Refusal}
use Rattle.kinds.specs.Refusals.{refused, shown}
use Rattle.model.specs.Images.{image}
use Rattle.model.specs.Sharing.{Part}
use Rattle.branches.specs.declared.branch.Branch.{Branch}
use Rattle.branches.specs.States.{Tables, Notes, Sits}
use Rattle.branches.specs.Branches.{Is}

-- a buffer that was old and is now new, after what was to be written was xs
abbrev pub SavedAs : List ℕ → List ℕ → List ℕ → Result ℕ Refusal → Type 0
SavedAs xs old new (Ok n) = (n ≡ length xs) × ((length xs ≤ length old) × (new ≡ xs ++ drop (length xs) old))
SavedAs xs old new (Err x) = (shown x ≡ refused 12) × ((length old < length xs) × (new ≡ old))

-- what was to be written is the image of a version, whatever map it is of
pub record Saved {X Y : Type 0} (K : KeyKind) (V : ValueKind) (kb : X → List ℕ) (vb : Y → List ℕ) (T : Tables X Y) (root : Branch) (old new : List ℕ) (r : Result ℕ Refusal) : Type 0 where
  pub image_is : (N : Notes) (R E : List ℕ) → Sits K kb vb T N R E → (a : Part) → Is T N root 8 [] a → SavedAs (image K V a.settings) old new r

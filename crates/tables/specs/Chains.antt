-- Cells by number: how often one stands in a row, and the chain of the free ones. Assumes nothing.
use Rattle.std.specs.Prelude.{◌≡◌, ℕ, ◌+◌, ◌<◌, ◌≤◌, cond, List, [], ◌∷◌, length, ◌==◌}

-- how often i stands in a row
unfoldable pub occ : ℕ → List ℕ → ℕ
occ i [] = 0
occ i (x ∷ xs) = cond (i == x) 1 0 + occ i xs

-- the chain that begins at h has the cells of the row, in its order, where next tells the cell after each
unfoldable pub Linked : (ℕ → ℕ) → ℕ → List ℕ → Type 0
Linked next h [] = Unit {0}
Linked next h (x ∷ xs) = (h ≡ x) × Linked next (next x) xs

-- the free cells of a table of n cells, those that nobody holds, are chained from the head on, each once
pub record Chain (next holders : ℕ → ℕ) (n head spare : ℕ) : Type 0 where
  pub list : List ℕ
  pub linked : Linked next head list
  pub many : length list ≡ spare
  pub once : (i : ℕ) → occ i list ≤ 1
  pub free : (i : ℕ) → 0 < occ i list → (i < n) × (holders i ≡ 0)
  pub every : (i : ℕ) → i < n → holders i ≡ 0 → 0 < occ i list

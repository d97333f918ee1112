-- The edit of one key, digit by digit. Assumes nothing.
use Rattle.std.specs.Prelude.{◌≡◌, ℕ, ◌+◌, ◌-◌, ◌<◌, List, [], ◌∷◌, ◌++◌, map, length, Option}
use Rattle.std.specs.List.{range_with_len}
use Rattle.kinds.specs.Kinds.{KeyKind, ValueKind}
use Rattle.model.specs.Maps.{Map}
use Rattle.model.specs.Tries.{at_digit, one, many}
use Rattle.model.specs.Sharing.{Part, Shared, below}
use Rattle.plans.specs.Plans.{edited, portion, total}
use Rattle.branches.specs.declared.branch.Branch.{Branch}
use Rattle.tables.specs.declared.cells.NodeCell.{NodeCell}
use Rattle.branches.specs.States.{Tables}
use Rattle.branches.specs.Hands.{Gathered}
use Rattle.branches.specs.Handfuls.{Bundled}
use Rattle.edits.specs.Sets.{Ready}

-- what a result of one source shares at a digit, with h levels below that
abbrev pub portion_at : KeyKind → ℕ → ℕ → List ℕ → Part → Map → ℕ → Shared
portion_at K n h p a m g = portion K n h (p ++ (g ∷ [])) (below K p g a ∷ []) (at_digit K (length p) m g)

module _ {X Y : Type 0} (K : KeyKind) (V : ValueKind) (kb : X → List ℕ) (vb : Y → List ℕ) (T : Tables X Y) (b : Branch) (k : List ℕ) (x : Option (List ℕ)) (level : ℕ) where
  -- the result of the edit
  abbrev pub result : Ready K V kb vb T b k x level → Map
  result q = edited K q.source.settings k x

  -- all of the result at the digits before g is in hand
  pub record Progress (q : Ready K V kb vb T b k x level) (g : ℕ) (hand : NodeCell) (U : Tables X Y) : Type 0 where
    pub xs : List ℕ
    pub ks : List ℕ
    pub gathered : Gathered K kb vb q.call (level - 1) q.prefix (q.source ∷ []) (result q) T q.notes q.roots q.in_hand g xs ks U
    pub bundled : Bundled hand (map (λ y. one (at_digit K (length q.prefix) (result q) y)) (range_with_len 0 g)) (map (λ y. many (at_digit K (length q.prefix) (result q) y)) (range_with_len 0 g)) xs ks
    pub spent : U.spare + total (λ y. (portion_at K q.call (level - 1) q.prefix q.source (result q) y).new_nodes) (range_with_len 0 g) ≡ T.spare
    pub entry_spent : U.entry_spare + total (λ y. (portion_at K q.call (level - 1) q.prefix q.source (result q) y).new_entries) (range_with_len 0 g) ≡ T.entry_spare

  pub record Underway (g : ℕ) (hand : NodeCell) (U : Tables X Y) : Type 0 where
    pub so_far : (q : Ready K V kb vb T b k x level) → 0 < level → Progress q g hand U

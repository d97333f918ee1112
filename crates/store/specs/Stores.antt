-- What a store means: the account that it represents; and what a call promises. Assumes nothing.
use Rattle.std.specs.Prelude.{◌≡◌, ℕ, ◌<◌, ◌≤◌, List, [], ◌∷◌, ◌++◌, length}
use Rattle.kinds.specs.Kinds.{KeyKind, ValueKind}
use Rattle.kinds.specs.Refusals.{Refused}
use Rattle.model.specs.declared.limits.TheConstants.{PLACES}
use Rattle.model.specs.Accounts.{Account, Place, empty, draft, published, whole}
use Rattle.model.specs.Calls.{Call, Answer, refused, outcome, after}
use Rattle.model.specs.Runs.{Made, Reached}
use Rattle.tables.specs.Cells.{cell, entry_cell}
use Rattle.branches.specs.States.{Tables, Notes, Sits}
use Rattle.branches.specs.Branches.{Is, node_of}
use Rattle.store.specs.declared.spot.Spot.{Spot}
use Rattle.store.specs.declared.spot.Spot.TheVariants.{Empty, Draft, Published}

-- the two tables and the places
pub record State (X Y : Type 0) : Type 0 where
  pub tables : Tables X Y
  pub places : List Spot

-- the roots of the versions at the places
abbrev pub owners : List Spot → List ℕ
owners [] = []
owners (Empty ∷ ps) = owners ps
owners (Draft b ∷ ps) = node_of b ++ owners ps
owners (Published b ∷ ps) = node_of b ++ owners ps

-- a place of the store stands for one of the account
abbrev pub Shows : {X Y : Type 0} → Tables X Y → Notes → Spot → Place → Type 0
Shows T N Empty empty = Unit {0}
Shows T N Empty (draft v) = ⊥
Shows T N Empty (published v) = ⊥
Shows T N (Draft b) empty = ⊥
Shows T N (Draft b) (draft v) = Is T N b 8 [] (whole v)
Shows T N (Draft b) (published v) = ⊥
Shows T N (Published b) empty = ⊥
Shows T N (Published b) (draft v) = ⊥
Shows T N (Published b) (published v) = Is T N b 8 [] (whole v)

abbrev pub Show : {X Y : Type 0} → Tables X Y → Notes → List Spot → List Place → Type 0
Show T N [] [] = Unit {0}
Show T N [] (q ∷ qs) = ⊥
Show T N (p ∷ ps) [] = ⊥
Show T N (p ∷ ps) (q ∷ qs) = Shows T N p q × Show T N ps qs

-- the store stands for an account that some list of calls leads to
pub record Represents {X Y : Type 0} (K : KeyKind) (V : ValueKind) (kb : X → List ℕ) (vb : Y → List ℕ) (S : State X Y) (a : Account) : Type 0 where
  pub reached : Reached K V a
  pub notes : Notes
  pub sits : Sits K kb vb S.tables notes (owners S.places) []
  -- every mark is the number of a call that was made
  pub early : (i : ℕ) → 0 < (cell S.tables.nodes i).holders → (notes.node i).label.mark ≤ a.calls
  pub entry_early : (e : ℕ) → 0 < (entry_cell S.tables.entries e).holders → (notes.entry e).label.mark ≤ a.calls
  pub long : length S.tables.nodes ≡ a.node_cells
  pub entry_long : length S.tables.entries ≡ a.entry_cells
  pub all_places : length S.places ≡ PLACES
  pub shows : Show S.tables notes S.places a.places

-- the store was started, and changed by calls alone
abbrev pub Started : {X Y : Type 0} → KeyKind → ValueKind → (X → List ℕ) → (Y → List ℕ) → State X Y → Type 0
Started K V kb vb S = (a : Account) × Represents K V kb vb S a

-- a call of keys and values of the kinds answered as the account answers, whichever account the store stood for, and left the store standing for the account after it; a refusal left all as it was
pub record Answered {X Y : Type 0} (K : KeyKind) (V : ValueKind) (kb : X → List ℕ) (vb : Y → List ℕ) (S S' : State X Y) (c : Call) (r : Answer) : Type 0 where
  pub made : Made K V c
  pub account : (a : Account) → Represents K V kb vb S a → (r ≡ (outcome K V a c).answer) × Represents K V kb vb S' (after K V a c)
  pub unchanged : (x : Refused) → r ≡ refused x → S' ≡ S

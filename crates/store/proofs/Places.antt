-- The places of a store beside those of an account, one by one. Assumes nothing.
use Rattle.std.proofs.Common.{◌≡◌, ℕ, zero, suc, ◌+◌, ◌<◌, ◌≤◌, List, [], ◌∷◌, length, get_or, set, ap, ◌∙◌, arith, length-append}
use Rattle.model.specs.Sharing.{Part}
use Rattle.model.specs.Accounts.{Place, empty, draft, published, nth, whole}
use Rattle.tables.specs.Cells.{cell}
use Rattle.tables.specs.Chains.{occ}
use Rattle.tables.proofs.Occurrences.{occ_nil, occ_head, occ_append}
use Rattle.branches.specs.declared.branch.Branch.{Branch}
use Rattle.branches.specs.declared.branch.Branch.TheVariants.{Nothing, Entry, Child}
use Rattle.branches.specs.States.{Tables, Notes}
use Rattle.branches.specs.Branches.{Is, node_of}
use Rattle.store.specs.declared.spot.Spot.{Spot}
use Rattle.store.specs.declared.spot.Spot.TheVariants.{Empty, Draft, Published}
use Rattle.store.specs.Stores.{owners, Shows, Show}
use Rattle.store.specs.Spots.{root_of}

-- ---- the roots over all places

pub owners_cons : (k : ℕ) (s : Spot) (ss : List Spot) → occ k (owners (s ∷ ss)) ≡ occ k (root_of s) + occ k (owners ss)
owners_cons k Empty ss = omega (arith, occ_nil k)
owners_cons k (Draft b) ss = occ_append k (node_of b) (owners ss)
owners_cons k (Published b) ss = occ_append k (node_of b) (owners ss)

-- one place is given another version
pub owners_set : (k : ℕ) (ss : List Spot) (i : ℕ) (s : Spot) → i < length ss → occ k (owners (set ss i s)) + occ k (root_of (get_or ss i Empty)) ≡ occ k (owners ss) + occ k (root_of s)
owners_set k [] i s h = absurd (omega arith)
owners_set k (t ∷ ss) zero s h = omega (arith, owners_cons k t ss, owners_cons k s ss)
owners_set k (t ∷ ss) (suc i) s h = omega (arith, owners_cons k t ss, owners_cons k t (set ss i s), owners_set k ss i s (omega arith))

-- the root at a place is one of them
pub owners_at : (k : ℕ) (ss : List Spot) (i : ℕ) → occ k (root_of (get_or ss i Empty)) ≤ occ k (owners ss)
owners_at k [] i = omega (arith, occ_nil k)
owners_at k (t ∷ ss) zero = omega (arith, owners_cons k t ss)
owners_at k (t ∷ ss) (suc i) = omega (arith, owners_cons k t ss, owners_at k ss i)

-- there are no more roots than places
branch_few : (b : Branch) → length (node_of b) ≤ 1
branch_few Nothing = omega arith
branch_few (Entry e) = omega arith
branch_few (Child i) = omega arith

pub owners_few : (ss : List Spot) → length (owners ss) ≤ length ss
owners_few [] = omega arith
owners_few (Empty ∷ ss) = omega (arith, owners_few ss)
owners_few (Draft b ∷ ss) = omega (arith, owners_few ss, length-append (node_of b) (owners ss), branch_few b)
owners_few (Published b ∷ ss) = omega (arith, owners_few ss, length-append (node_of b) (owners ss), branch_few b)

-- ---- a place of the store stands for one of the account

module _ {X Y : Type 0} (T U : Tables X Y) (N M : Notes) where
  -- as long as its root is held, and has its note
  root_kept : (b : Branch) (a : Part) → ((i : ℕ) → 0 < occ i (node_of b) → (0 < (cell U.nodes i).holders) × (M.node i ≡ N.node i)) → Is T N b 8 [] a → Is U M b 8 [] a
  root_kept Nothing a k h = h
  root_kept (Entry e) a k h = absurd (omega (arith, h.0))
  root_kept (Child r) a k h =
      let t = k r.0 (occ_head r.0 []) in (
        record {
          held = t.0;
          prefix = ap (λ b. b.label.what) t.1 ∙ h.0.prefix;
          settings = ap (λ b. b.settings) t.1 ∙ h.0.settings;
          nodes = ap (λ b. b.nodes) t.1 ∙ h.0.nodes;
          entries = ap (λ b. b.entries) t.1 ∙ h.0.entries;
        },
        h.1,
      )

  pub shows_kept : (s : Spot) (p : Place) → ((i : ℕ) → 0 < occ i (root_of s) → (0 < (cell U.nodes i).holders) × (M.node i ≡ N.node i)) → Shows T N s p → Shows U M s p
  shows_kept Empty empty k h = h
  shows_kept Empty (draft v) k h = h
  shows_kept Empty (published v) k h = h
  shows_kept (Draft b) empty k h = h
  shows_kept (Draft b) (draft v) k h = root_kept b (whole v) k h
  shows_kept (Draft b) (published v) k h = h
  shows_kept (Published b) empty k h = h
  shows_kept (Published b) (draft v) k h = h
  shows_kept (Published b) (published v) k h = root_kept b (whole v) k h

  pub show_kept : (ss : List Spot) (ps : List Place) → ((i : ℕ) → 0 < occ i (owners ss) → (0 < (cell U.nodes i).holders) × (M.node i ≡ N.node i)) → Show T N ss ps → Show U M ss ps
  show_kept [] [] k h = tt
  show_kept [] (p ∷ ps) k h = h
  show_kept (s ∷ ss) [] k h = h
  show_kept (s ∷ ss) (p ∷ ps) k h =
      (shows_kept s p (λ i q. k i (omega (arith, owners_cons i s ss))) h.0, show_kept ss ps (λ i q. k i (omega (arith, owners_cons i s ss))) h.1)

module _ {X Y : Type 0} (T : Tables X Y) (N : Notes) where
  pub show_set : (ss : List Spot) (ps : List Place) (i : ℕ) (s : Spot) (p : Place) → Shows T N s p → Show T N ss ps → Show T N (set ss i s) (set ps i p)
  show_set [] [] i s p h k = tt
  show_set [] (y ∷ ps) i s p h k = absurd k
  show_set (x ∷ ss) [] i s p h k = absurd k
  show_set (x ∷ ss) (y ∷ ps) zero s p h k = (h, k.1)
  show_set (x ∷ ss) (y ∷ ps) (suc i) s p h k = (k.0, show_set ss ps i s p h k.1)

  pub shows_at : (ss : List Spot) (ps : List Place) (i : ℕ) → Show T N ss ps → Shows T N (get_or ss i Empty) (nth ps i)
  shows_at [] [] i h = tt
  shows_at [] (p ∷ ps) i h = absurd h
  shows_at (s ∷ ss) [] i h = absurd h
  shows_at (s ∷ ss) (p ∷ ps) zero h = h.0
  shows_at (s ∷ ss) (p ∷ ps) (suc i) h = shows_at ss ps i h.1

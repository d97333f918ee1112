-- From an account to the one after a call: one place is given a new version, or all stays as it was. Assumes nothing.
use Rattle.std.proofs.Common.{◌≡◌, ℕ, ◌+◌, ◌<◌, ◌≤◌, List, [], ◌∷◌, ◌++◌, get_or, set, sym, refl, ap, ◌∙◌, subst, inl, inr, arith, length-set}
use Rattle.kinds.specs.Kinds.{KeyKind, ValueKind}
use Rattle.model.specs.Accounts.{Place, Account}
use Rattle.model.specs.Calls.{Call, outcome, after}
use Rattle.model.specs.Runs.{Made}
use Rattle.model.proofs.Runs.Invariants.{reached_after}
use Rattle.tables.specs.declared.cells.NodeId.{NodeId}
use Rattle.tables.specs.Cells.{cell, entry_cell}
use Rattle.tables.specs.Chains.{occ}
use Rattle.tables.specs.Heaps.{Released}
use Rattle.tables.specs.Notes.{Note, EntryNote}
use Rattle.tables.proofs.Occurrences.{occ_append}
use Rattle.tables.proofs.Frames.{frame}
use Rattle.branches.specs.declared.branch.Branch.{Branch}
use Rattle.branches.specs.declared.branch.Branch.TheVariants.{Child}
use Rattle.branches.specs.States.{Tables, Notes, Sits, Grown, Clear}
use Rattle.branches.specs.Branches.{node_of}
use Rattle.branches.proofs.Growing.{sits_same}
use Rattle.store.specs.declared.spot.Spot.{Spot}
use Rattle.store.specs.declared.spot.Spot.TheVariants.{Empty}
use Rattle.store.specs.Stores.{State, owners, Shows, Show, Represents}
use Rattle.store.specs.Spots.{root_of, GivenUp}
use Rattle.store.proofs.Places.{owners_set, show_kept, show_set}

-- ---- giving up

module _ {X Y : Type 0} where
  pub nothing_given_up : (T : Tables X Y) → GivenUp [] T T
  nothing_given_up T = record {
    long = refl;
    entry_long = refl;
    left = λ i. record { fewer = omega arith; level = λ p. refl; datamap = λ p. refl; nodemap = λ p. refl; entries = λ p. refl; children = λ p. refl };
    entry_left = λ e. record { fewer = omega arith; held = λ p. refl };
    tables = λ R E H G L. (H, (G, L));
  }

  pub node_given_up :
      (r : ℕ) (T U : Tables X Y)
      → Released r T.nodes T.free T.spare T.entries T.entry_free T.entry_spare U.nodes U.free U.spare U.entries U.entry_free U.entry_spare
      → GivenUp (r ∷ []) T U
  node_given_up r T U gone =
      record { long = gone.nodes_long; entry_long = gone.entries_long; left = gone.nodes_left; entry_left = gone.entries_left; tables = gone.tables }

  pub child_given_up :
      (b : Branch) (i : NodeId) (T U : Tables X Y) → b ≡ Child i
      → Released i.0 T.nodes T.free T.spare T.entries T.entry_free T.entry_spare U.nodes U.free U.spare U.entries U.entry_free U.entry_spare
      → GivenUp (node_of b) T U
  child_given_up b i T U e gone = subst (λ (x : Branch). GivenUp (node_of x) T U) (sym e) (node_given_up i.0 T U gone)

  pub given_up_sits :
      (K : KeyKind) (kb : X → List ℕ) (vb : Y → List ℕ) (xs : List ℕ) (T U : Tables X Y) (N : Notes) (R E : List ℕ)
      → GivenUp xs T U → Sits K kb vb T N (xs ++ R) E → Sits K kb vb U N R E
  given_up_sits K kb vb xs T U N R E gone H =
      let t = gone.tables R E H.nodes H.entries H.entryless in
      record {
        nodes = t.0;
        entries = t.1.0;
        entryless = t.1.1;
        means = frame K kb vb T.nodes U.nodes T.entries U.entries N.node N.entry gone.left gone.entry_left H.means;
      }

-- ---- the calls

-- a mark that was early stays early, and a new one is this call's
mark_early : (m m' n : ℕ) → m ≤ n → m' ≡ m → m' ≤ n + 1
mark_early m m' n h e = omega arith

mark_now : (m n : ℕ) → m ≡ n + 1 → m ≤ n + 1
mark_now m n e = omega arith

held_of : (h o n : ℕ) → h ≡ o + n → 0 < o → 0 < h
held_of h o n e p = omega arith

as_often : (x y p q r s : ℕ) → x ≡ p + q → y ≡ r + s → s + r ≡ q + p → x ≡ y
as_often x y p q r s e f g = omega arith

-- no held cell has the mark of the call that comes
pub clear_now :
    {X Y : Type 0} (K : KeyKind) (V : ValueKind) (kb : X → List ℕ) (vb : Y → List ℕ) (S : State X Y) (a : Account) (rep : Represents K V kb vb S a)
    (P Q : List ℕ → Type 0) → Clear (a.calls + 1) P Q S.tables rep.notes
clear_now K V kb vb S a rep P Q = record {
  node = λ i h e p. later _ a.calls (rep.early i h) e;
  entry = λ e h m p. later _ a.calls (rep.entry_early e h) m;
}
  where
    later : (m n : ℕ) → m ≤ n → m ≡ n + 1 → ⊥
    later m n h e = omega arith

module _ {X Y : Type 0} (K : KeyKind) (V : ValueKind) (kb : X → List ℕ) (vb : Y → List ℕ) (S : State X Y) (a : Account) (rep : Represents K V kb vb S a) (c : Call) (made : Made K V c) where
  -- a call that leaves the places as they were
  pub refused_step : (outcome K V a c).places ≡ a.places → Represents K V kb vb S (after K V a c)
  refused_step same = record {
    reached = reached_after K V a c made rep.reached;
    notes = rep.notes;
    sits = rep.sits;
    early = λ i h. mark_early _ _ a.calls (rep.early i h) refl;
    entry_early = λ e h. mark_early _ _ a.calls (rep.entry_early e h) refl;
    long = rep.long;
    entry_long = rep.entry_long;
    all_places = rep.all_places;
    shows = subst (Show S.tables rep.notes S.places) (sym same) rep.shows;
  }

  -- from its tables the call makes U, with what it needs for the new spot at the place i; then it gives up what the place had
  module _ (i : ℕ) (inside : i < 64) (spot : Spot) (place : Place) (leaves : (outcome K V a c).places ≡ set a.places i place)
      (U : Tables X Y) (M : Notes) (sits : Sits K kb vb U M (root_of spot ++ owners S.places) [])
      (P Q : List ℕ → Type 0) (grown : Grown (a.calls + 1) P Q S.tables rep.notes U M) (shows : Shows U M spot place)
      (W : Tables X Y) (gone : GivenUp (root_of (get_or S.places i Empty)) U W) where
    after_sits : Sits K kb vb W M (owners (set S.places i spot)) []
    after_sits =
        given_up_sits K kb vb (root_of (get_or S.places i Empty)) U W M (owners (set S.places i spot)) [] gone
        (sits_same K kb vb U M (root_of spot ++ owners S.places) (root_of (get_or S.places i Empty) ++ owners (set S.places i spot)) [] []
        (λ k. as_often _ _ _ _ _ _ (occ_append k (root_of spot) (owners S.places)) (occ_append k (root_of (get_or S.places i Empty)) (owners (set S.places i spot))) (owners_set k S.places i spot (omega (arith, rep.all_places))))
        (λ e. refl) sits)

    pub replaced : Represents K V kb vb (record { tables = W; places = set S.places i spot }) (after K V a c)
    replaced = record {
      reached = reached_after K V a c made rep.reached;
      notes = M;
      sits = after_sits;
      early = λ j h. elim (grown.new j (held_before j h)) [
        | inl o ↦ mark_early _ _ a.calls (rep.early j o) (ap (λ (b : Note). b.label.mark) (grown.kept j o))
        | inr o ↦ mark_now _ a.calls o.0
      ];
      entry_early = λ e h. elim (grown.entry_new e (entry_held_before e h)) [
        | inl o ↦ mark_early _ _ a.calls (rep.entry_early e o) (ap (λ (b : EntryNote). b.label.mark) (grown.entry_kept e o))
        | inr o ↦ mark_now _ a.calls o.0
      ];
      long = gone.long ∙ grown.long ∙ rep.long;
      entry_long = gone.entry_long ∙ grown.entry_long ∙ rep.entry_long;
      all_places = length-set S.places i spot ∙ rep.all_places;
      shows =
          subst (Show W M (set S.places i spot)) (sym leaves)
          (show_kept U W M M (set S.places i spot) (set a.places i place) (λ j q. (held_of _ _ _ (after_sits.nodes.counted j) q, refl))
          (show_set U M S.places a.places i spot place shows
          (show_kept S.tables U rep.notes M S.places a.places old_kept rep.shows)));
    }
      where
        held_before : (j : ℕ) → 0 < (cell W.nodes j).holders → 0 < (cell U.nodes j).holders
        held_before j h = omega (arith, (gone.left j).fewer)

        entry_held_before : (e : ℕ) → 0 < (entry_cell W.entries e).holders → 0 < (entry_cell U.entries e).holders
        entry_held_before e h = omega (arith, (gone.entry_left e).fewer)

        old_kept : (j : ℕ) → 0 < occ j (owners S.places) → (0 < (cell U.nodes j).holders) × (M.node j ≡ rep.notes.node j)
        old_kept j q = let z : 0 < (cell S.tables.nodes j).holders = held_of _ _ _ (rep.sits.nodes.counted j) q in (grown.held j z, grown.kept j z)

  -- only a place's kind changes: it keeps its root, and the tables stay as they were
  module _ (i : ℕ) (inside : i < 64) (spot : Spot) (place : Place) (leaves : (outcome K V a c).places ≡ set a.places i place)
      (root : root_of (get_or S.places i Empty) ≡ root_of spot) (shows : Shows S.tables rep.notes spot place) where
    pub turned : Represents K V kb vb (record { tables = S.tables; places = set S.places i spot }) (after K V a c)
    turned = record {
      reached = reached_after K V a c made rep.reached;
      notes = rep.notes;
      sits =
          sits_same K kb vb S.tables rep.notes (owners S.places) (owners (set S.places i spot)) [] []
          (λ k. same_often _ _ _ _ (owners_set k S.places i spot (omega (arith, rep.all_places))) (ap (occ k) root)) (λ e. refl) rep.sits;
      early = λ j h. mark_early _ _ a.calls (rep.early j h) refl;
      entry_early = λ e h. mark_early _ _ a.calls (rep.entry_early e h) refl;
      long = rep.long;
      entry_long = rep.entry_long;
      all_places = length-set S.places i spot ∙ rep.all_places;
      shows = subst (Show S.tables rep.notes (set S.places i spot)) (sym leaves) (show_set S.tables rep.notes S.places a.places i spot place shows rep.shows);
    }
      where
        same_often : (x y p q : ℕ) → x + p ≡ y + q → p ≡ q → y ≡ x
        same_often x y p q e f = omega arith

-- A new store stands for the new account. Assumes nothing.
use Rattle.std.proofs.Common.{◌≡◌, ℕ, zero, suc, ◌<◌, ◌≤◌, List, [], ◌∷◌, length, replicate, sym, refl, subst, arith}
use mathlib.Core.List.Memᴰ
use mathlib.Core.List.{Memᴰ}
use Rattle.kinds.specs.Kinds.{KeyKind, ValueKind}
use Rattle.model.specs.Sharing.{Marked}
use Rattle.model.specs.Accounts.{empty, fresh}
use Rattle.model.specs.Runs.{Reached}
use Rattle.tables.specs.declared.cells.NodeCell.{NodeCell}
use Rattle.tables.specs.declared.cells.EntryCell.{EntryCell}
use Rattle.tables.specs.Chains.{Chain}
use Rattle.tables.specs.Cells.{cell, entry_cell}
use Rattle.tables.specs.Starts.{Formatted}
use Rattle.tables.proofs.Tallies.{chain_tally, labels, labels_length, to_table}
use Rattle.tables.proofs.NodeCounts.{inside}
use Rattle.tables.proofs.EntryCounts.{inside_entries}
use Rattle.branches.specs.States.{Tables, Notes}
use Rattle.store.specs.declared.spot.Spot.TheVariants.{Empty}
use Rattle.store.specs.Stores.{State, Show, Represents}
use Rattle.store.specs.Fresh.{new_state}

-- notes of nothing: no cell is held
no_label : Marked
no_label = record { what = []; mark = 0 }

no_notes : Notes
no_notes = record {
  node = λ i. record { label = no_label; settings = []; nodes = []; entries = []; child = λ g. 0 };
  entry = λ e. record { label = no_label; setting = record { key = []; value = [] } };
}

none_in : {A : Type 0} (l : List A) (x : A) → length l ≡ 0 → Memᴰ x l → ⊥
none_in [] x e m = Memᴰ.not-nil m
none_in (y ∷ ys) x e m = omega arith

-- where as many cells are free as there are, none is held
all_free : (next holders : ℕ → ℕ) (n head : ℕ) → Chain next holders n head n → (i : ℕ) → i < n → 0 < holders i → ⊥
all_free next holders n head C i p h =
    none_in (labels holders (λ j. no_label) n) no_label
    (omega (arith, labels_length holders (λ j. no_label) n, chain_tally next holders n head n C))
    (to_table holders (λ j. no_label) n i p h)

-- empty places stand for empty places
show_empty : {X Y : Type 0} (T : Tables X Y) (N : Notes) (n : ℕ) → Show T N (replicate n Empty) (replicate n empty)
show_empty T N zero = tt
show_empty T N (suc n) = (tt, show_empty T N n)

-- the new account is reached by no call
pub fresh_reached : (K : KeyKind) (V : ValueKind) (n e : ℕ) → n ≤ 65535 → e ≤ 65535 → Reached K V (fresh n e)
fresh_reached K V n e p q = record {
  nodes = n;
  entries = e;
  few_nodes = p;
  few_entries = q;
  calls = [];
  all_made = λ c m. absurd (Memᴰ.not-nil m);
  comes = refl;
}

module _ {X Y : Type 0} (K : KeyKind) (V : ValueKind) (kb : X → List ℕ) (vb : Y → List ℕ) where
  -- over tables whose cells are all free, a store stands for the new account
  pub fresh_represents :
      (cs ds : List NodeCell) (es fs : List (EntryCell X Y)) → Formatted cs ds es fs
      → Represents K V kb vb (new_state ds fs) (fresh (length cs) (length es))
  fresh_represents cs ds es fs F =
      let free : (i : ℕ) → 0 < (cell ds i).holders → ⊥ =
      λ i h. all_free (λ j. (cell ds j).next) (λ j. (cell ds j).holders) (length ds) 0 F.nodes.chain i (inside ds i h) h in
      let entry_free : (e : ℕ) → 0 < (entry_cell fs e).holders → ⊥ =
      λ e h. all_free (λ d. (entry_cell fs d).next) (λ d. (entry_cell fs d).holders) (length fs) 0 F.entries.chain e (inside_entries fs e h) h in
      record {
        reached = fresh_reached K V (length cs) (length es) (omega (arith, F.nodes.short, F.nodes_long)) (omega (arith, F.entries.short, F.entries_long));
        notes = no_notes;
        sits = record {
          nodes = F.nodes;
          entries = F.entries;
          entryless = F.entryless;
          means = record {
            fits = λ i h. absurd (free i h);
            once = λ i j h k e. absurd (free i h);
            entry_fits = λ e h. absurd (entry_free e h);
            entry_once = λ e d h k l. absurd (entry_free e h);
          };
        };
        early = λ i h. absurd (free i h);
        entry_early = λ e h. absurd (entry_free e h);
        long = F.nodes_long;
        entry_long = F.entries_long;
        all_places = refl;
        shows = show_empty (new_state ds fs).tables no_notes 64;
      }

  -- and so does a store that has the state of a new one
  pub starts_fresh :
      (cs ds : List NodeCell) (es fs : List (EntryCell X Y)) (S : State X Y) → Formatted cs ds es fs → S ≡ new_state ds fs
      → Represents K V kb vb S (fresh (length cs) (length es))
  starts_fresh cs ds es fs S F e = subst (λ (T : State X Y). Represents K V kb vb T (fresh (length cs) (length es))) (sym e) (fresh_represents cs ds es fs F)

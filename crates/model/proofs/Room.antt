-- What is held fits the tables, call after call, and free is what is left. Assumes nothing.
use Rattle.std.proofs.Common.{◌≡◌, ℕ, ◌+◌, ◌-◌, ◌≤◌, true, ◌||◌, ◌⊎◌, List, ◌++◌, length, set, Some, sym, refl, ◌∙◌, inl, inr, arith}
use mathlib.Core.List.{Memᴰ}
use Rattle.std.proofs.lemmas.Bool.{or_left, or_right}
use Rattle.kinds.specs.Kinds.{KeyKind, ValueKind}
use Rattle.model.specs.Sharing.{Marked}
use Rattle.model.specs.Accounts.{Version, Place, Account, in_row, distinct, held_nodes, held_entries, free_nodes, free_entries}
use Rattle.model.specs.Runs.{live, ListsOnce, HoldsNode, HoldsEntry, FreeBeside}
use Rattle.model.proofs.Counts.{in_append, in_row_member, member_in_row, distinct_within, counted_once, once, in_once, once_differ}
use Rattle.model.proofs.Holding.{held, of_place, held_set, live_held, held_live}

module _ (f : Version → List Marked) (ps : List Place) (i : ℕ) (p : Place) (cells : ℕ) (fits : distinct (held f ps) ≤ cells) where
  -- a written place adds at most what it does not share
  adds : distinct (held f (set ps i p)) ≤ distinct (of_place f p ++ held f ps)
  adds = distinct_within _ _ (λ x m. in_append x (of_place f p) (held f ps) ∙ either x (held_set f x ps i p m))
    where
      either : (x : Marked) → (in_row x (of_place f p) ≡ true) ⊎ (in_row x (held f ps) ≡ true) → (in_row x (of_place f p) || in_row x (held f ps)) ≡ true
      either x (inl e) = or_left _ _ e
      either x (inr e) = or_right _ _ e

  -- it fits where there was room for what it took
  pub taken_fits : (new : ℕ) → distinct (of_place f p ++ held f ps) ≤ distinct (held f ps) + new → new ≤ cells - distinct (held f ps) → distinct (held f (set ps i p)) ≤ cells
  taken_fits new h room = omega (arith, adds, h, room, fits)

  -- it fits where it holds nothing that was not held
  pub shared_fits : ((x : Marked) → in_row x (of_place f p) ≡ true → in_row x (held f ps) ≡ true) → distinct (held f (set ps i p)) ≤ cells
  shared_fits h = omega (arith, fits, distinct_within (held f (set ps i p)) (held f ps) (λ x m. either x (held_set f x ps i p m)))
    where
      either : (x : Marked) → (in_row x (of_place f p) ≡ true) ⊎ (in_row x (held f ps) ≡ true) → in_row x (held f ps) ≡ true
      either x (inl e) = h x e
      either x (inr e) = e

-- a row that has once each thing that live versions hold is as long as what is held
listed : (f : Version → List Marked) (a : Account) (row : List Marked) → ListsOnce (λ x. (i : ℕ) × ((v : Version) × ((live a i ≡ Some v) × Memᴰ x (f v)))) row →
    length row ≡ distinct (held f a.places)
listed f a row l =
    counted_once row (held f a.places) l.once (λ x m. let h = l.each x m in live_held f a x h.0 h.1.0 h.1.1.0 h.1.1.1) (λ x m. l.all x (held_live f a x m))

-- and there is such a row
pub can_list : (f : Version → List Marked) (a : Account) → (row : List Marked) × ListsOnce (λ x. (i : ℕ) × ((v : Version) × ((live a i ≡ Some v) × Memᴰ x (f v)))) row
can_list f a = (
  once (held f a.places),
  record {
    once = once_differ (held f a.places);
    each = λ x m. held_live f a x (in_row_member x (held f a.places) (sym (in_once x (held f a.places)) ∙ member_in_row x m));
    all = λ x h. in_row_member x (once (held f a.places)) (in_once x (held f a.places) ∙ member_in_row x (live_held f a x h.0 h.1.0 h.1.1.0 h.1.1.1));
  },
)

module _ (K : KeyKind) (V : ValueKind) (a : Account) (nodes entries : List Marked) (ln : ListsOnce (HoldsNode a) nodes) (le : ListsOnce (HoldsEntry a) entries)
    (nodes_fit : distinct (held_nodes a.places) ≤ a.node_cells) (entries_fit : distinct (held_entries a.places) ≤ a.entry_cells) where
  node_count : length nodes ≡ distinct (held_nodes a.places)
  node_count = listed (λ v. v.nodes) a nodes ln

  entry_count : length entries ≡ distinct (held_entries a.places)
  entry_count = listed (λ v. v.entries) a entries le

  pub held_fits : (length nodes ≤ a.node_cells) × (length entries ≤ a.entry_cells)
  held_fits = (omega (arith, node_count, nodes_fit), omega (arith, entry_count, entries_fit))

  pub free_is_left : FreeBeside K V a nodes entries
  free_is_left = record {
    free_nodes = free_nodes a;
    free_entries = free_entries a;
    answer_is = refl;
    nodes_are = omega (arith, node_count, nodes_fit);
    entries_are = omega (arith, entry_count, entries_fit);
  }

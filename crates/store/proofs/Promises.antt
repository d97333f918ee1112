-- A whole run: what holds after it of the calls made, of the tables, and of every list of calls. Assumes nothing.
use Rattle.std.proofs.Common.{◌≡◌, ℕ, zero, suc, ◌+◌, ◌<◌, ◌≤◌, true, List, [], ◌∷◌, ◌++◌, map, length, take, Ok, Err, Result, sym, refl, ◌∙◌, ap, subst, arith, append-nil}
use Rattle.std.specs.List.{flat_map}
use Rattle.std.specs.Result.{IsErrAnd, IfErr}
use mathlib.Core.List.Memᴰ
use mathlib.Core.List.{Memᴰ}
use Rattle.kinds.specs.Kinds.{KeyKind, ValueKind}
use Rattle.model.specs.Sharing.{Marked}
use Rattle.model.specs.Accounts.{Version, Account, in_row, fresh, held_nodes, held_entries}
use Rattle.model.specs.Calls.{run}
use Rattle.model.specs.Calls as model_calls
use Rattle.model.specs.Runs.{Made, AllMade, HoldsNode, HoldsEntry}
use Rattle.model.specs.Laws.{LawsOfRuns}
use Rattle.model.proofs.Counts.{in_row_member, member_in_row}
use Rattle.model.proofs.Holding.{held_live, live_held}
use Rattle.model.proofs.Promises as model
use Rattle.model.proofs.Runs.Invariants.{reached_run}
use Rattle.tables.specs.declared.cells.NodeCell.{NodeCell}
use Rattle.tables.specs.declared.cells.EntryCell.{EntryCell}
use Rattle.tables.specs.Cells.{cell, entry_cell}
use Rattle.tables.proofs.Reach.{nodes_reached, reached_nodes, entries_reached, reached_entries}
use Rattle.store.specs.declared.calls.Answer.{Answer}
use Rattle.store.specs.declared.running.Finished.{Finished}
use Rattle.store.specs.declared.starting.NotStarted.{NotStarted}
use Rattle.store.specs.Stores.{State, owners, Represents}
use Rattle.store.specs.Answers.{LentCall}
use Rattle.store.specs.Buffers.{answers_shown}
use Rattle.store.specs.Starts.{Begun, GivenBack}
use Rattle.store.specs.Runs.{OneCellEach, LeftFor, Steps, first_calls, MadeCalls, Completed, Ran}
use Rattle.store.proofs.Free.{node_rows, entry_rows}
use Rattle.store.proofs.Lent.{all_made}

module _ {X Y : Type 0} (K : KeyKind) (V : ValueKind) (kb : X → List ℕ) (vb : Y → List ℕ) where
  module _ (S : State X Y) (a : Account) (rep : Represents K V kb vb S a) where
    held_in : (x : Marked) (xs ys : List Marked) → xs ≡ ys → in_row x xs ≡ true → Memᴰ x ys
    held_in x xs ys e h = in_row_member x ys (ap (in_row x) (sym e) ∙ h)

    node_of_each : OneCellEach (λ i. (cell S.tables.nodes i).holders) (λ i. (rep.notes.node i).label) (HoldsNode a)
    node_of_each = record {
      held = λ i h. held_live (λ v. v.nodes) a _ (held_in _ _ _ (node_rows K V kb vb S a rep) (nodes_reached K kb vb S.tables.nodes S.tables.entries rep.notes.node rep.notes.entry S.tables.free S.tables.spare (owners S.places) rep.sits.nodes rep.sits.means i h));
      cell_of = λ x h. reached_nodes K kb vb S.tables.nodes S.tables.entries rep.notes.node rep.notes.entry S.tables.free S.tables.spare (owners S.places) rep.sits.nodes rep.sits.means x
          (ap (in_row x) (node_rows K V kb vb S a rep) ∙ member_in_row x (live_held (λ v. v.nodes) a x h.0 h.1.0 h.1.1.0 h.1.1.1));
      once = rep.sits.means.once;
    }

    entries_with_none : flat_map (λ r. (rep.notes.node r).entries) (owners S.places) ++ map (λ e. (rep.notes.entry e).label) [] ≡ held_entries a.places
    entries_with_none = append-nil (flat_map (λ i. (rep.notes.node i).entries) (owners S.places)) ∙ entry_rows K V kb vb S a rep

    entry_of_each : OneCellEach (λ e. (entry_cell S.tables.entries e).holders) (λ e. (rep.notes.entry e).label) (HoldsEntry a)
    entry_of_each = record {
      held = λ e h. held_live (λ v. v.entries) a _ (held_in _ _ _ entries_with_none (entries_reached K kb vb S.tables.nodes S.tables.entries rep.notes.node rep.notes.entry S.tables.free S.tables.spare (owners S.places) rep.sits.nodes rep.sits.means S.tables.entry_free S.tables.entry_spare [] rep.sits.entries rep.sits.entryless e h));
      cell_of = λ x h. reached_entries K kb vb S.tables.nodes S.tables.entries rep.notes.node rep.notes.entry S.tables.free S.tables.spare (owners S.places) rep.sits.nodes rep.sits.means S.tables.entry_free S.tables.entry_spare [] rep.sits.entries rep.sits.entryless x
          (ap (in_row x) entries_with_none ∙ member_in_row x (live_held (λ v. v.entries) a x h.0 h.1.0 h.1.1.0 h.1.1.1));
      once = rep.sits.means.entry_once;
    }

    left_for : (ds : List NodeCell) (fs : List (EntryCell X Y)) → S.tables.nodes ≡ ds → S.tables.entries ≡ fs → LeftFor K V kb vb ds fs a
    left_for ds fs d f = record {
      state = S;
      nodes_are = d;
      entries_are = f;
      represents = rep;
      held_nodes = subst (λ (l : List NodeCell). OneCellEach (λ i. (cell l i).holders) (λ i. (rep.notes.node i).label) (HoldsNode a)) d node_of_each;
      held_entries = subst (λ (l : List (EntryCell X Y)). OneCellEach (λ e. (entry_cell l e).holders) (λ e. (rep.notes.entry e).label) (HoldsEntry a)) f entry_of_each;
    }

  laws : LawsOfRuns K V
  laws = model.laws K V

  -- each call that was made is of keys, values and images
  steps_made : (S S' : State X Y) (cs : List model_calls.Call) (rs : List model_calls.Answer) → Steps K V kb vb S cs rs S' → AllMade K V cs
  steps_made S S' [] [] s c m = absurd (Memᴰ.not-nil m)
  steps_made S S' [] (r ∷ rs) s c m = absurd s
  steps_made S S' (d ∷ cs) [] s c m = absurd s
  steps_made S S' (d ∷ cs) (r ∷ rs) s c (Memᴰ.head e) = subst (Made K V) (sym e) s.1.0.made
  steps_made S S' (d ∷ cs) (r ∷ rs) s c (Memᴰ.tail m) = steps_made s.0 S' cs rs s.1.1 c m

  -- the first calls are among the first of more
  first_in : (calls : List (LentCall X Y)) (m n : ℕ) → m ≤ n → (c : model_calls.Call) → Memᴰ c (first_calls K V kb vb m calls) → Memᴰ c (first_calls K V kb vb n calls)
  first_in calls zero n h c x = absurd (Memᴰ.not-nil x)
  first_in [] (suc m) n h c x = absurd (Memᴰ.not-nil x)
  first_in (d ∷ calls) (suc m) zero h c x = absurd (omega arith)
  first_in (d ∷ calls) (suc m) (suc n) h c (Memᴰ.head e) = Memᴰ.head e
  first_in (d ∷ calls) (suc m) (suc n) h c (Memᴰ.tail x) = Memᴰ.tail (first_in calls m n (omega arith) c x)

  -- a run that made its calls
  pub completed :
      (cs : List NodeCell) (es : List (EntryCell X Y)) (S : State X Y) → Begun K V kb vb cs es S
      → (S' : State X Y) (ds : List NodeCell) (fs : List (EntryCell X Y)) → ds ≡ S'.tables.nodes → fs ≡ S'.tables.entries
      → (calls : List (LentCall X Y)) (old new : List (Answer Y)) (out out' : List ℕ) (n : ℕ) → MadeCalls K V kb vb S S' calls old new out out' n
      → Completed K V kb vb cs ds es fs calls old new out out' n
  unfolding left_for
  completed cs es S begun S' ds fs dn de calls old new out out' n M =
      let a : Account = fresh (length cs) (length es) in
      let s = begun.account in
      let rep = M.account a s in
      let made : AllMade K V (first_calls K V kb vb n calls) = steps_made S S' (first_calls K V kb vb n calls) (answers_shown vb out' (take n new)) M.steps in
      record {
        few_nodes = begun.few_nodes;
        few_entries = begun.few_entries;
        as_many = M.as_many a s;
        all_made = λ h k. M.as_many a s ∙ all_made K V kb vb a calls (length old) (length out) h k;
        answered = M.answered a s;
        wrote = M.wrote;
        left = left_for S' (run K V a (first_calls K V kb vb n calls)) rep ds fs (sym dn) (sym de);
        begun = S;
        begins = s;
        steps = M.steps;
        lawful_calls = made;
        reached = λ m h. reached_run K V a s.reached (first_calls K V kb vb m calls) (λ c x. made c (first_in calls m n h c x));
        laws = laws;
      }

  -- a run whose start was refused
  pub turned_away :
      (cs : List NodeCell) (es : List (EntryCell X Y)) (u : NotStarted X Y) → GivenBack cs es u → (calls : List (LentCall X Y)) (old : List (Answer Y)) (out : List ℕ)
      → (r : Result (Finished X Y) (NotStarted X Y)) → IsErrAnd r (λ v. v ≡ u) → Ran K V kb vb cs es calls old old out out r
  turned_away cs es u given calls old out (Ok f) h = absurd h
  turned_away cs es u given calls old out (Err v) h = record { given_back = subst (GivenBack cs es) (sym h) given; answers = refl; buffer = refl }

-- what holds of an error holds of the one that is handed on
pub handed_on_if : {A E : Type 0} (P : E → Type 0) (u : E) (r : Result A E) → IsErrAnd r (λ v. v ≡ u) → P u → IfErr r P
handed_on_if P u (Ok x) h p = absurd h
handed_on_if P u (Err v) h p = subst P (sym h) p

-- What a list of calls on a new store promises. Assumes nothing.
use Rattle.std.specs.Prelude.{◌≡◌, ℕ, ◌<◌, ◌≤◌, List, [], ◌∷◌, map, length, take, drop, Ok, Err, Result}
use Rattle.kinds.specs.Kinds.{KeyKind, ValueKind}
use Rattle.model.specs.declared.limits.TheConstants.{MOST_CELLS}
use Rattle.model.specs.Sharing.{Marked}
use Rattle.model.specs.Accounts.{Account, fresh}
use Rattle.model.specs.Calls as model
use Rattle.model.specs.Calls.{run, answers}
use Rattle.model.specs.Runs.{AllMade, Reached, HoldsNode, HoldsEntry}
use Rattle.model.specs.Laws.{LawsOfRuns}
use Rattle.tables.specs.declared.cells.NodeCell.{NodeCell}
use Rattle.tables.specs.declared.cells.EntryCell.{EntryCell}
use Rattle.tables.specs.Cells.{cell, entry_cell}
use Rattle.store.specs.declared.calls.Answer.{Answer}
use Rattle.store.specs.declared.running.Finished.{Finished}
use Rattle.store.specs.declared.starting.NotStarted.{NotStarted}
use Rattle.store.specs.Starts.{GivenBack}
use Rattle.store.specs.Stores.{State, Represents, Answered}
use Rattle.store.specs.Answers.{LentCall, call_shown}
use Rattle.store.specs.Buffers.{Keeps, answers_shown, all_written, all_capacity, made}

-- the held cells of a table, by what each stands for, are one to one with what an account holds
pub record OneCellEach (holders : ℕ → ℕ) (label : ℕ → Marked) (Holds : Marked → Type 0) : Type 0 where
  pub held : (i : ℕ) → 0 < holders i → Holds (label i)
  pub cell_of : (x : Marked) → Holds x → (i : ℕ) × ((0 < holders i) × (label i ≡ x))
  pub once : (i j : ℕ) → 0 < holders i → 0 < holders j → label i ≡ label j → i ≡ j

module _ {X Y : Type 0} (K : KeyKind) (V : ValueKind) (kb : X → List ℕ) (vb : Y → List ℕ) where
  -- the first n of a list of calls, as the account has them
  abbrev pub first_calls : ℕ → List (LentCall X Y) → List model.Call
  first_calls n cs = map (call_shown kb vb) (take n cs)

  -- the first n answers of a list and the bytes that they tell of are written; the rest of the list, and of the buffer, is as it was
  pub record Wrote (n : ℕ) (old new : List (Answer Y)) (out out' : List ℕ) : Type 0 where
    pub long : length new ≡ length old
    pub kept : drop n new ≡ drop n old
    pub buffer : Keeps (all_written (take n new)) out out'

  -- from one state to another by calls with their answers, each made as it promises by itself; so a refused one leaves each cell and place as it was
  abbrev pub Steps : State X Y → List model.Call → List model.Answer → State X Y → Type 0
  Steps S [] [] T = S ≡ T
  Steps S [] (r ∷ rs) T = ⊥
  Steps S (c ∷ cs) [] T = ⊥
  Steps S (c ∷ cs) (r ∷ rs) T = (U : State X Y) × (Answered K V kb vb S U c r × Steps U cs rs T)

  -- a store that was S made the first n of the calls, as many as there was space for, and is now S': whichever account it stood for, each answer is the account's, and it stands for the account after them; the list of answers was old and is now new, the buffer was out and is now out'
  pub record MadeCalls (S S' : State X Y) (calls : List (LentCall X Y)) (old new : List (Answer Y)) (out out' : List ℕ) (n : ℕ) : Type 0 where
    pub as_many : (a : Account) → Represents K V kb vb S a → n ≡ made K V kb vb a calls (length old) (length out)
    pub answered : (a : Account) → Represents K V kb vb S a → answers_shown vb out' (take n new) ≡ answers K V a (first_calls n calls)
    pub account : (a : Account) → Represents K V kb vb S a → Represents K V kb vb S' (run K V a (first_calls n calls))
    pub steps : Steps S (first_calls n calls) (answers_shown vb out' (take n new)) S'
    pub wrote : Wrote n old new out out'

  -- two tables, as they are left, stand for an account: there is a state of a store with these cells that represents it
  pub record LeftFor (ds : List NodeCell) (fs : List (EntryCell X Y)) (a : Account) : Type 0 where
    pub state : State X Y
    pub nodes_are : state.tables.nodes ≡ ds
    pub entries_are : state.tables.entries ≡ fs
    pub represents : Represents K V kb vb state a
    -- each node, and each entry, that a live version holds has one cell to itself; no other cell is held
    pub held_nodes : OneCellEach (λ i. (cell ds i).holders) (λ i. (represents.notes.node i).label) (HoldsNode a)
    pub held_entries : OneCellEach (λ e. (entry_cell fs e).holders) (λ e. (represents.notes.entry e).label) (HoldsEntry a)

  -- a new store over tables that were cs and es, and are now ds and fs, made the first n of the calls, as many as there was space for in the list of answers, which was old and is now new, and in the buffer, which was out and is now out'
  pub record Completed (cs ds : List NodeCell) (es fs : List (EntryCell X Y)) (calls : List (LentCall X Y)) (old new : List (Answer Y)) (out out' : List ℕ) (n : ℕ) : Type 0 where
    pub few_nodes : length cs ≤ MOST_CELLS
    pub few_entries : length es ≤ MOST_CELLS
    pub as_many : n ≡ made K V kb vb (fresh (length cs) (length es)) calls (length old) (length out)
    -- with an answer for each call, and as many bytes as the saves are lent, all calls are made
    pub all_made : length calls ≤ length old → all_capacity calls ≤ length out → n ≡ length calls
    -- every answer is the account's, and so is every image, one after another from the buffer's first byte on
    pub answered : answers_shown vb out' (take n new) ≡ answers K V (fresh (length cs) (length es)) (first_calls n calls)
    -- the rest of the list, and of the buffer, is as it was
    pub wrote : Wrote n old new out out'
    -- the tables, as they are left, stand for the account that the calls lead to
    pub left : LeftFor ds fs (run K V (fresh (length cs) (length es)) (first_calls n calls))
    -- a new store came to that state by these calls, one after another
    pub begun : State X Y
    pub begins : Represents K V kb vb begun (fresh (length cs) (length es))
    pub steps : Steps begun (first_calls n calls) (answers_shown vb out' (take n new)) left.state
    -- the calls are of keys, values and images, so that the laws of runs hold of them, and of every account on the way
    pub lawful_calls : AllMade K V (first_calls n calls)
    pub reached : (m : ℕ) → m ≤ n → Reached K V (run K V (fresh (length cs) (length es)) (first_calls m calls))
    -- what holds after every list of calls, this one or any other
    pub laws : LawsOfRuns K V

-- a table is longer than 65,535 cells: refused with 2; the tables come back as they were, and the list of answers and the buffer are as they were
pub record TurnedAway {X Y : Type 0} (cs : List NodeCell) (es : List (EntryCell X Y)) (old new : List (Answer Y)) (out out' : List ℕ) (u : NotStarted X Y) : Type 0 where
  pub given_back : GivenBack cs es u
  pub answers : new ≡ old
  pub buffer : out' ≡ out

-- of tables that were cs and es
abbrev pub Ran :
    {X Y : Type 0} → KeyKind → ValueKind → (X → List ℕ) → (Y → List ℕ) → List NodeCell → List (EntryCell X Y) →
    List (LentCall X Y) → List (Answer Y) → List (Answer Y) → List ℕ → List ℕ → Result (Finished X Y) (NotStarted X Y) → Type 0
Ran K V kb vb cs es calls old new out out' (Ok f) = Completed K V kb vb cs f.nodes.now es f.entries.now calls old new out out' f.made
Ran K V kb vb cs es calls old new out out' (Err u) = TurnedAway cs es old new out out' u

-- Merging three branches at the deepest level, whatever parts they are. Assumes nothing.
use Rattle.std.proofs.Common.{◌≡◌, ℕ, ◌+◌, ◌<◌, true, false, List, [], ◌∷◌, ◌++◌, length, get_or, sym, ap, ◌∙◌, subst}
use lib.Count.{ones}
use Rattle.kinds.specs.Kinds.{KeyKind, ValueKind}
use Rattle.tables.specs.declared.cells.NodeCell.{NodeCell}
use Rattle.branches.specs.declared.branch.Branch.{Branch}
use Rattle.branches.specs.States.{Tables}
use Rattle.branches.specs.Branches.{Kept}
use Rattle.branches.specs.Handfuls.{nothing_in_hand, Assembling, Assembled, Rowful, entries_in}
use Rattle.branches.proofs.Growing.{NodesStay}
use Rattle.edits.specs.Rowing.{entries_of}
use Rattle.edits.proofs.RowEnds.{above}
use Rattle.merges.specs.declared.choices.Choice.{Choice}
use Rattle.merges.specs.declared.chosen.Chosen.{Chosen}
use Rattle.merges.specs.Merges.{MayMerge, MergeDone}
use Rattle.merges.specs.Rowing.{choices, Chose}
use Rattle.merges.specs.Building.{Taking, Taken}
use Rattle.merges.proofs.RowHands.{Rowed, RowTo, rowed_none, row_room, row_hand, row_takes, row_taken}
use Rattle.merges.proofs.RowEnds.{kept_ours, kept_theirs, row_room_for, row_assembles, row_built}

module _ {X Y : Type 0} (K : KeyKind) (V : ValueKind) (kb : X → List ℕ) (vb : Y → List ℕ) (T : Tables X Y) (ours base theirs : Branch) (c : Chosen)
    (R : Chose K kb vb T.entries V (entries_of T.nodes ours) (entries_of T.nodes base) (entries_of T.nodes theirs) c) where
  -- a source's part
  pub ours_done : c.ours ≡ true → (U : Tables X Y) → Kept K kb vb T ours U → MergeDone K V kb vb T ours base theirs 0 ours U
  ours_done is U H = record { built = λ q. kept_ours K V kb vb T ours base theirs q c R is U H }

  module _ (cs : List Choice) (row : cs ≡ choices c) where
    pub theirs_done : c.ours ≡ false → c.theirs ≡ true → 1 < length cs → (U : Tables X Y) → Kept K kb vb T theirs U → MergeDone K V kb vb T ours base theirs 0 theirs U
    theirs_done other is several U H = record { built = λ q. kept_theirs K V kb vb T ours base theirs q c R other is (subst (λ (l : List Choice). 1 < length l) row several) U H }

    -- entry by entry
    pub row_begins : (hand : NodeCell) → hand ≡ nothing_in_hand → RowTo K V kb vb T ours base theirs 0 hand T
    row_begins hand e = record { so_far = λ q. subst (λ (h : NodeCell). Rowed K V kb vb T ours base theirs q 0 h T) (sym e) (rowed_none K V kb vb T ours base theirs q c R) }

    module _ (j : ℕ) (hand : NodeCell) (U : Tables X Y) (I : RowTo K V kb vb T ours base theirs j hand U) where
      module _ (inside : j < length cs) where
        within : j < length (choices c)
        within = subst (λ (l : List Choice). j < length l) row inside

        pub row_free : MayMerge K V kb vb T ours base theirs 0 → (Rowful hand (entries_in hand)) × ((ones hand.datamap) < 16)
        row_free q = (row_hand K V kb vb T ours base theirs q c R j hand U (I.so_far q) within, row_room K V kb vb T ours base theirs q c R j hand U (I.so_far q) within)

        pub row_taking : (none : Choice) → c.ours ≡ false → (1 < length cs → c.theirs ≡ false) → MayMerge K V kb vb T ours base theirs 0
            → Taking K V kb vb U.entries U.entry_free U.entry_spare (get_or cs j none)
        row_taking none apart late q =
            row_takes K V kb vb T ours base theirs q c R j hand U (I.so_far q) within (get_or cs j none) none (ap (λ (l : List Choice). get_or l j none) row)
            (row_room_for K V kb vb T ours base theirs q c R apart (λ h. late (subst (λ (l : List Choice). 1 < length l) (sym row) h)))

        pub row_on :
            (none : Choice) (id : ℕ) (W : Tables X Y) → NodesStay U W → Taken K V kb vb U.entries U.entry_free U.entry_spare (get_or cs j none) id W.entries W.entry_free W.entry_spare
            → (hand' : NodeCell) → Rowful hand' (entries_in hand ++ (id ∷ [])) → RowTo K V kb vb T ours base theirs (j + 1) hand' W
        row_on none id W stay taken hand' up = record {
          so_far = λ q.
              row_taken K V kb vb T ours base theirs q c R j hand U (I.so_far q) within (get_or cs j none) none (ap (λ (l : List Choice). get_or l j none) row)
              id W stay taken hand' up;
        }

      -- all of them
      module _ (end : j ≡ length cs) (apart : c.ours ≡ false) (late : 1 < length cs → c.theirs ≡ false) where
        at_end : (q : MayMerge K V kb vb T ours base theirs 0) → Rowed K V kb vb T ours base theirs q (length (choices c)) hand U
        at_end q = subst (λ (i : ℕ). Rowed K V kb vb T ours base theirs q i hand U) (end ∙ ap length row) (I.so_far q)

        late_in : 1 < length (choices c) → c.theirs ≡ false
        late_in h = late (subst (λ (l : List Choice). 1 < length l) (sym row) h)

        pub row_ready : MayMerge K V kb vb T ours base theirs 0 → Assembling hand 0 U.nodes U.free U.spare
        row_ready q = row_assembles K V kb vb T ours base theirs q c R apart late_in hand U (at_end q)

        pub row_done : (r : Branch) (ds : List NodeCell) (f s : ℕ) → Assembled hand 0 r U.nodes U.free U.spare ds f s → MergeDone K V kb vb T ours base theirs 0 r (above U ds f s)
        row_done r ds f s done = record { built = λ q. row_built K V kb vb T ours base theirs q c R apart late_in hand U (at_end q) r ds f s done }

-- One key of a draft is set: what the call answers, whichever account the store represents. Assumes nothing.
use Rattle.std.proofs.Common.{◌≡◌, ℕ, ◌+◌, ◌<◌, ◌≤◌, true, false, ◌⊎◌, List, ◌++◌, get_or, set, Some, None, Err, Option, Result, IsErrAnd, refl, subst, arith}
use Rattle.kinds.specs.Kinds.{KeyKind, ValueKind}
use Rattle.kinds.specs.declared.refusal.Refusal.{Refusal}
use Rattle.kinds.specs.Refusals as refusals
use Rattle.kinds.specs.Refusals.{Refused}
use Rattle.model.specs.Calls.{Answer, took, refused, Put, Remove}
use Rattle.branches.specs.declared.branch.Branch.{Branch}
use Rattle.branches.specs.States.{Tables}
use Rattle.branches.specs.Branches.{node_of}
use Rattle.branches.proofs.Growing.{nodes_same}
use Rattle.tables.specs.Chains.{occ}
use Rattle.tables.specs.Heaps.{Nodes, Entries, Entryless}
use Rattle.tables.proofs.Occurrences.{occ_nil, occ_append}
use Rattle.edits.specs.declared.estimate.Estimate.{Estimate}
use Rattle.edits.specs.Sets.{Seen, Estimated, Ready, Done, ValueReads, value_bytes}
use Rattle.model.proofs.Runs.Steps.{took_accepts}
use Rattle.store.specs.declared.spot.Spot.{Spot}
use Rattle.store.specs.declared.spot.Spot.TheVariants.{Empty, Draft}
use Rattle.store.specs.Stores.{State, owners, Started, Answered}
use Rattle.store.specs.Spots.{Wanted, IsDraft, GivenUp, root_of}
use Rattle.store.specs.Answers.{result_shown}
use Rattle.store.specs.Sets.{set_call}
use Rattle.store.proofs.Answering.{turned_down, spot_inside}
use Rattle.store.proofs.Unwanted.{undrafted}
use Rattle.store.proofs.Places.{owners_set}
use Rattle.store.proofs.Sets.{Edits, set_made, seen, set_crowded, set_no_room, set_kept, ready, set_built}

-- what is set was made by its kind
pub value_made : {Y : Type 0} (V : ValueKind) (vb : Y → List ℕ) → ((y : Y) → V.readable (vb y) ≡ true) → (x : Option Y) → ValueReads V (value_bytes vb x)
value_made V vb law (Some y) = law y
value_made V vb law None = tt

pub as_often : (x y z r o o' b n : ℕ) → x ≡ r + o → y ≡ b + z → z ≡ r + o' → o' + b ≡ o + n → n ≡ 0 → x ≡ y
as_often x y z r o o' b n e f g h w = omega arith

-- no draft is at the place
pub edit_undrafted :
    {X Y : Type 0} (K : KeyKind) (V : ValueKind) (kb : X → List ℕ) (vb : Y → List ℕ) (S : State X Y) (i : ℕ) (k : List ℕ) (x : Option (List ℕ))
    → K.readable k ≡ true → ValueReads V x → {B : Type 0} (f : B → Answer) (r : Result B Refusal) (e : Refusal) → IsErrAnd r (λ y. y ≡ e)
    → Wanted IsDraft 6 S.places i (Err e) → Answered K V kb vb S S (set_call i k x) (result_shown f r)
edit_undrafted K V kb vb S i k (Some v) key_reads value_reads f r e on h = undrafted K V kb vb S (Put i k v) (key_reads, value_reads) i f r e on _ (λ a _. refl) h
edit_undrafted K V kb vb S i k None key_reads value_reads f r e on h = undrafted K V kb vb S (Remove i k) key_reads i f r e on _ (λ a _. refl) h

-- a draft is at the place of a store, and so of what it has inside
pub edits :
    {X Y : Type 0} (K : KeyKind) (V : ValueKind) {kb : X → List ℕ} {vb : Y → List ℕ} {S T : State X Y} {i : ℕ} {k : List ℕ} {x : Option (List ℕ)} {b : Branch}
    → K.readable k ≡ true → ValueReads V x → T ≡ S → (i < 64) × (get_or S.places i Empty ≡ Draft b) → Edits K V kb vb T i k x b
edits K V key_reads value_reads e h = record { key_reads = key_reads; value_reads = value_reads; inside = h.0; at = spot_inside _ e h.1 }

module _ {X Y : Type 0} {K : KeyKind} {V : ValueKind} {kb : X → List ℕ} {vb : Y → List ℕ} {S : State X Y} {i : ℕ} {k : List ℕ} {x : Option (List ℕ)} {b : Branch} (m : Edits K V kb vb S i k x b) where
  pub edit_seen : Started K V kb vb S → Seen K V kb vb S.tables b k x 8
  edit_seen started = seen m started.0 started.1

  module _ (c : Estimate) (E : Estimated K V kb vb S.tables b k x 8 c) where
    pub edit_crowded : c.crowded ≡ true → Answered K V kb vb S S (set_call i k x) (refused (refusals.refused 10))
    edit_crowded e = turned_down K V kb vb S (set_call i k x) 10 _ refl (set_made m) (λ a rep. set_crowded m a rep c E e)

    module _ (calm : c.crowded ≡ false) where
      pub edit_no_room : (S.tables.spare < c.nodes) ⊎ (S.tables.entry_spare < c.entries) → Answered K V kb vb S S (set_call i k x) (refused (refusals.refused 11))
      edit_no_room h = turned_down K V kb vb S (set_call i k x) 11 _ refl (set_made m) (λ a rep. set_no_room m a rep c E calm h)

      module _ (nodes_fit : c.nodes ≤ S.tables.spare) (entries_fit : c.entries ≤ S.tables.entry_spare) where
        pub edit_kept : c.ours ≡ true → Answered K V kb vb S S (set_call i k x) (took c.nodes c.entries)
        edit_kept o = record { made = set_made m; account = λ a rep. set_kept m a rep c E calm nodes_fit entries_fit o; unchanged = λ y e. refl }

        unfoldable pub edit_ready : c.ours ≡ false → Started K V kb vb S → Ready K V kb vb S.tables b k x 8
        edit_ready o started = ready m started.0 started.1 c E calm nodes_fit entries_fit o

        module _ (o : c.ours ≡ false) (r : Branch) (U : Tables X Y) (done : Done K V kb vb S.tables b k x 8 r U) where
          -- the old version is one of the roots
          pub old_root : (started : Started K V kb vb S)
              → ((R : List ℕ) × Nodes U.nodes U.free U.spare (node_of b ++ R)) × (((E : List ℕ) × Entries U.nodes U.entries U.entry_free U.entry_spare E) × Entryless U.nodes)
          unfolding edit_ready ready
          old_root started =
              let B = done.built (edit_ready o started) in
              let old : (j : ℕ) → occ j (node_of r ++ owners S.places) ≡ occ j (node_of b ++ (node_of r ++ owners (set S.places i Empty))) = λ j.
              as_often _ _ _ _ _ _ _ _ (occ_append j (node_of r) (owners S.places)) (occ_append j (node_of b) (node_of r ++ owners (set S.places i Empty))) (occ_append j (node_of r) (owners (set S.places i Empty)))
              (subst (λ (z : Spot). occ j (owners (set S.places i Empty)) + occ j (root_of z) ≡ occ j (owners S.places) + occ j (root_of Empty)) m.at (owners_set j S.places i Empty (omega (arith, started.1.all_places)))) (occ_nil j) in
              ((_, nodes_same U.nodes U.free U.spare _ _ old B.sits.nodes), ((_, B.sits.entries), B.sits.entryless))

          pub edit_built : (W : Tables X Y) → GivenUp (node_of b) U W → Answered K V kb vb S (record { tables = W; places = set S.places i (Draft r) }) (set_call i k x) (took c.nodes c.entries)
          edit_built W gone = record {
            made = set_made m;
            account = λ a rep. set_built m a rep c E calm nodes_fit entries_fit o r U W done gone;
            unchanged = λ y e. absurd (took_accepts c.nodes c.entries y e);
          }

-- A draft's root is merged with two others: what the account answers, and what is built. Assumes nothing.
use Rattle.std.proofs.Common.{◌≡◌, ℕ, ◌+◌, ◌<◌, ◌≤◌, true, false, ◌&&◌, leb, ◌⊎◌, List, [], ◌∷◌, ◌++◌, length, get_or, set, Result, Ok, Err, sym, refl, ap, ◌∙◌, subst, ap₂, inl, inr, arith}
use Rattle.std.specs.List.{AllByRecursion}
use Rattle.std.proofs.lemmas.List.{set-get_or}
use Rattle.std.proofs.lemmas.Bool.{cond-true, cond-false, and_from, le-leb, lt-leb, and_left, and_right}
use Rattle.kinds.specs.Kinds.{KeyKind, ValueKind}
use Rattle.kinds.specs.declared.refusal.Refusal.{Refusal}
use Rattle.kinds.specs.declared.refusal.Refusal.TheVariants.{Crowded, NoRoom}
use Rattle.model.specs.Maps.{Map, Sound, merge}
use Rattle.model.specs.Tries.{crowded, Lawful}
use Rattle.model.specs.Sharing.{Shared, shared}
use Rattle.model.specs.Accounts.{Version, draft, Account, whole, free_nodes, free_entries}
use Rattle.model.specs.Calls.{Call, took, Outcome, outcome, after, refuse, leave, result, version}
use Rattle.model.proofs.Promises.{few_settings}
use Rattle.model.proofs.Marks.Keys.{same_map_true}
use Rattle.plans.specs.Plans.{portion, Told}
use Rattle.plans.proofs.Crowds.{crowd_is_crowded, uncrowded_crowd}
use Rattle.plans.proofs.Twice.{portion_root}
use Rattle.branches.specs.declared.branch.Branch.{Branch}
use Rattle.branches.specs.States.{Tables, Sits, Under, Led}
use Rattle.branches.specs.Branches.{Is, part_of, node_of}
use Rattle.branches.proofs.Kept.{portion_kept}
use Rattle.branches.proofs.Growing.{nodes_same}
use Rattle.tables.specs.Chains.{occ}
use Rattle.tables.specs.Heaps.{Nodes, Entries, Entryless}
use Rattle.tables.proofs.Occurrences.{occ_nil, occ_append}
use Rattle.edits.specs.declared.estimate.Estimate.{Estimate}
use Rattle.edits.specs.Sets.{tally}
use Rattle.merges.specs.Merges.{Met, MergeEstimated, MayMerge, MergeDone}
use Rattle.store.specs.declared.spot.Spot.{Spot}
use Rattle.store.specs.declared.spot.Spot.TheVariants.{Empty, Draft}
use Rattle.store.specs.Stores.{State, owners, Started, Represents}
use Rattle.store.specs.Spots.{root_of, GivenUp}
use Rattle.store.specs.Merges.{Merging, SomeMerge, Judges, IsMerge, RootsMerged}
use Rattle.store.proofs.Free.{free_is}
use Rattle.store.proofs.Judging.{live_draft}
use Rattle.store.proofs.Places.{owners_few, owners_set}
use Rattle.store.proofs.Reading.{lawful_draft}
use Rattle.store.proofs.Steps.{clear_now, replaced, turned}
use Rattle.store.proofs.Answering.{turned_down, still_started}
use Rattle.store.proofs.Sets.{le_of, few_owners, no_entry}
use Rattle.model.proofs.Runs.Steps.{took_accepts}
use Rattle.store.proofs.Edited.{as_often}

pub sound_from : (K : KeyKind) (V : ValueKind) (m : Map) → Lawful K V m → Sound K V m
sound_from K V m l = record { rises = l.rises; reads = l.reads }

-- every key is led by no digits
pub led_by_nothing : (K : KeyKind) (m : Map) → AllByRecursion (λ s. Led K [] s.key) m
led_by_nothing K [] = tt
led_by_nothing K (s ∷ m) = (refl, led_by_nothing K m)

module _ {X Y : Type 0} (K : KeyKind) (V : ValueKind) (kb : X → List ℕ) (vb : Y → List ℕ) (S : State X Y) (i : ℕ) (ours base theirs : Branch) (inside : i < 64) (at : get_or S.places i Empty ≡ Draft ours) where
  module _ (a : Account) (rep : Represents K V kb vb S a) (w : Merging K V kb vb S i ours base theirs a rep) where
    pub law : Lawful K V w.mine.settings
    law = lawful_draft K V kb vb S a rep i w.mine w.there

    unfoldable pub met : Met K V kb vb S.tables ours base theirs 8
    unfolding law
    met = record {
      prefix = [];
      mine = whole w.mine;
      common = w.common;
      other = whole w.other;
      notes = rep.notes;
      roots = owners S.places;
      in_hand = [];
      sits = rep.sits;
      ours_is = w.ours_is;
      base_is = w.base_is;
      theirs_is = w.theirs_is;
      deep = refl;
      sound = sound_from K V w.mine.settings law;
      common_sound = sound_from K V w.common.settings w.common_lawful;
      other_sound = sound_from K V w.other.settings w.other_lawful;
      calm = uncrowded_crowd K w.mine.settings law.uncrowded;
      common_calm = uncrowded_crowd K w.common.settings w.common_lawful.uncrowded;
      other_calm = uncrowded_crowd K w.other.settings w.other_lawful.uncrowded;
      few = few_settings K V a rep.reached i w.mine (live_draft K V a i w.mine w.there);
      common_few = w.common_few;
      other_few = w.other_few;
    }

    abbrev m : Map
    m = merge K V w.mine.settings w.common.settings w.other.settings

    module _ (c : Estimate) (E : MergeEstimated K V kb vb S.tables ours base theirs 8 c) where
      abbrev s : Shared
      s = shared K (a.calls + 1) (whole w.mine ∷ (whole w.other ∷ [])) m

      pub told : Told K (a.calls + 1) 8 [] (whole w.mine) (whole w.other) m (tally c)
      unfolding met
      told = E.told met (a.calls + 1)

      pub share_is : portion K (a.calls + 1) 8 [] (whole w.mine ∷ (whole w.other ∷ [])) m ≡ s
      share_is = sym (portion_root K (a.calls + 1) (whole w.mine ∷ (whole w.other ∷ [])) m)

      pub nodes_are : c.nodes ≡ s.new_nodes
      nodes_are = told.nodes ∙ ap (λ (z : Shared). z.new_nodes) share_is

      pub entries_are : c.entries ≡ s.new_entries
      entries_are = told.entries ∙ ap (λ (z : Shared). z.new_entries) share_is

      pub crowded_is : c.crowded ≡ crowded K m
      crowded_is = told.crowded ∙ crowd_is_crowded K m

      module _ (p : c.nodes ≤ S.tables.spare) (q : c.entries ≤ S.tables.entry_spare) (e : c.crowded ≡ false) where
        unfoldable pub may_merge : MayMerge K V kb vb S.tables ours base theirs 8
        unfolding met
        may_merge = record {
          met = met;
          call = a.calls + 1;
          clear = clear_now K V kb vb S a rep (Under []) (Led K []);
          result_calm = crowd_is_crowded K m ∙ sym crowded_is ∙ e;
          led = led_by_nothing K m;
          room = subst (λ (z : Shared). z.new_nodes ≤ S.tables.spare) (sym share_is) (le_of c.nodes _ _ nodes_are p);
          entry_room = subst (λ (z : Shared). z.new_entries ≤ S.tables.entry_spare) (sym share_is) (le_of c.entries _ _ entries_are q);
          few_roots = few_owners (length (owners S.places)) (length S.places) (owners_few S.places) rep.all_places;
          few_in_hand = omega arith;
        }

  -- ---- a call that is such a merge

  module _ (call : Call) (C : IsMerge K V kb vb S i ours base theirs call) (c : Estimate) (E : MergeEstimated K V kb vb S.tables ours base theirs 8 c) (a : Account) (rep : Represents K V kb vb S a) where
    abbrev J : Judges K V kb vb S i ours base theirs call a rep
    J = C.judges a rep

    abbrev w : Merging K V kb vb S i ours base theirs a rep
    w = J.merging

    abbrev result_map : Map
    result_map = merge K V w.mine.settings w.common.settings w.other.settings

    abbrev sharing : Shared
    sharing = shared K (a.calls + 1) (whole w.mine ∷ (whole w.other ∷ [])) result_map

    abbrev new_version : Version
    new_version = version K V a result_map J.names sharing

    -- ---- refusals

    pub merge_crowded : c.crowded ≡ true → outcome K V a call ≡ refuse K V a 10
    merge_crowded e = J.outcome_is ∙ cond-true (crowded K result_map) (refuse K V a 10) _ (sym (crowded_is a rep w c E) ∙ e)

    judged : c.crowded ≡ false → outcome K V a call ≡ result K V a i (w.mine ∷ (w.other ∷ [])) result_map (λ z. draft (version K V a result_map J.names z))
    judged e = J.outcome_is ∙ cond-false (crowded K result_map) (refuse K V a 10) _ (sym (crowded_is a rep w c E) ∙ e)

    free : (S.tables.spare ≡ free_nodes a) × (S.tables.entry_spare ≡ free_entries a)
    free = free_is K V kb vb S a rep

    pub merge_no_room : c.crowded ≡ false → (S.tables.spare < c.nodes) ⊎ (S.tables.entry_spare < c.entries) → outcome K V a call ≡ refuse K V a 11
    merge_no_room e h =
        judged e ∙ cond-false (leb sharing.new_nodes (free_nodes a) && leb sharing.new_entries (free_entries a)) _ (refuse K V a 11) (elim h [
          | inl l ↦ and_left (leb sharing.new_nodes (free_nodes a)) _ (lt-leb sharing.new_nodes (free_nodes a) (omega (arith, l, free.0, nodes_are a rep w c E)))
          | inr l ↦ and_right (leb sharing.new_nodes (free_nodes a)) _ (lt-leb sharing.new_entries (free_entries a) (omega (arith, l, free.1, entries_are a rep w c E)))
        ])

    module _ (p : c.nodes ≤ S.tables.spare) (q : c.entries ≤ S.tables.entry_spare) (e : c.crowded ≡ false) where
      merge_room : outcome K V a call ≡ leave K V a (took sharing.new_nodes sharing.new_entries) i (draft new_version)
      merge_room =
          judged e ∙ cond-true (leb sharing.new_nodes (free_nodes a) && leb sharing.new_entries (free_entries a)) _ (refuse K V a 11)
          (and_from _ _ (le-leb sharing.new_nodes (free_nodes a) (omega (arith, p, free.0, nodes_are a rep w c E))) (le-leb sharing.new_entries (free_entries a) (omega (arith, q, free.1, entries_are a rep w c E))))

      -- ---- nothing changes but names

      kept_whole : c.ours ≡ true → whole new_version ≡ whole w.mine
      kept_whole o =
          let f : result_map ≡ w.mine.settings = sym (same_map_true w.mine.settings result_map (sym (told a rep w c E).ours ∙ o)) in
          ap₂ part_of f (portion_root K (a.calls + 1) (whole w.mine ∷ (whole w.other ∷ [])) result_map ∙ ap (portion K (a.calls + 1) 8 [] (whole w.mine ∷ (whole w.other ∷ []))) f)
          ∙ (portion_kept K kb vb (a.calls + 1) 8 [] (whole w.other ∷ []) S.tables rep.notes (owners S.places) [] ours (whole w.mine) rep.sits w.ours_is).0

      pub merge_kept : c.ours ≡ true → (took c.nodes c.entries ≡ (outcome K V a call).answer) × Represents K V kb vb S (after K V a call)
      merge_kept o =
          let r = turned K V kb vb S a rep call C.made i inside (Draft ours) (draft new_version) (ap (λ (z : Outcome). z.places) merge_room) (ap root_of at)
          (subst (Is S.tables rep.notes ours 8 []) (sym (kept_whole o)) w.ours_is) in (
            ap₂ took (nodes_are a rep w c E) (entries_are a rep w c E) ∙ sym (ap (λ (z : Outcome). z.answer) merge_room),
            subst (λ (ps : List Spot). Represents K V kb vb (record { tables = S.tables; places = ps }) (after K V a call)) (ap (set S.places i) (sym at) ∙ set-get_or S.places i Empty) r,
          )

      -- ---- a new version

      pub merge_built : (r : Branch) (U W : Tables X Y) → MergeDone K V kb vb S.tables ours base theirs 8 r U → GivenUp (node_of ours) U W
          → (took c.nodes c.entries ≡ (outcome K V a call).answer) × Represents K V kb vb (record { tables = W; places = set S.places i (Draft r) }) (after K V a call)
      unfolding may_merge met
      merge_built r U W done gone =
          let B = done.built (may_merge a rep w c E p q e) in
          let here : Is U B.notes r 8 [] (whole new_version) = subst (λ (z : Shared). Is U B.notes r 8 [] (part_of result_map z)) (sym (portion_root K (a.calls + 1) (whole w.mine ∷ (whole w.other ∷ [])) result_map)) B.is in (
            ap₂ took (nodes_are a rep w c E) (entries_are a rep w c E) ∙ sym (ap (λ (z : Outcome). z.answer) merge_room),
            replaced K V kb vb S a rep call C.made i inside (Draft r) (draft new_version) (ap (λ (z : Outcome). z.places) merge_room)
                U B.notes (subst (λ (l : List ℕ). Sits K kb vb U B.notes (node_of r ++ owners S.places) l) (no_entry U B.notes r _ here) B.sits)
                (Under []) (Led K []) B.grown here W (subst (λ (z : Spot). GivenUp (root_of z) U W) (sym at) gone),
          )

-- ---- whatever the call and the account are

module _ {X Y : Type 0} {K : KeyKind} {V : ValueKind} {kb : X → List ℕ} {vb : Y → List ℕ} {S T : State X Y} {i : ℕ} {ours base theirs : Branch} (e : T ≡ S) where
  pub some_inside : SomeMerge K V kb vb S i ours base theirs → SomeMerge K V kb vb T i ours base theirs
  some_inside h = subst (λ (Z : State X Y). SomeMerge K V kb vb Z i ours base theirs) (sym e) h

  pub refused_inside : {r : Result (ℕ × ℕ) Refusal} → RootsMerged K V kb vb T i ours base theirs T r → RootsMerged K V kb vb S i ours base theirs S r
  refused_inside {r} h = subst (λ (Z : State X Y). RootsMerged K V kb vb Z i ours base theirs Z r) e h

  pub merged_inside : {U : State X Y} {r : Result (ℕ × ℕ) Refusal} → RootsMerged K V kb vb T i ours base theirs U r → RootsMerged K V kb vb S i ours base theirs U r
  merged_inside {U} {r} h = subst (λ (Z : State X Y). RootsMerged K V kb vb Z i ours base theirs U r) e h

module _ {X Y : Type 0} {K : KeyKind} {V : ValueKind} {kb : X → List ℕ} {vb : Y → List ℕ} {S : State X Y} {i : ℕ} {ours base theirs : Branch} (inside : i < 64) (some : SomeMerge K V kb vb S i ours base theirs) where
  pub met_somewhere : Started K V kb vb S → Met K V kb vb S.tables ours base theirs 8
  met_somewhere started = met K V kb vb S i ours base theirs inside some.at started.0 started.1 (some.is.judges started.0 started.1).merging

  -- the store stands for the account after the call
  pub merged_started : {U : State X Y} {r : Result (ℕ × ℕ) Refusal} → Started K V kb vb S → RootsMerged K V kb vb S i ours base theirs U r → Started K V kb vb U
  merged_started started done = still_started started (done.answered some.call some.is)

  module _ (c : Estimate) (E : MergeEstimated K V kb vb S.tables ours base theirs 8 c) where
    pub roots_crowded : c.crowded ≡ true → RootsMerged K V kb vb S i ours base theirs S (Err Crowded)
    roots_crowded e = record { answered = λ call C. turned_down K V kb vb S call 10 _ refl C.made (λ a rep. merge_crowded K V kb vb S i ours base theirs inside some.at call C c E a rep e) }

    module _ (e : c.crowded ≡ false) where
      pub roots_no_room : (S.tables.spare < c.nodes) ⊎ (S.tables.entry_spare < c.entries) → RootsMerged K V kb vb S i ours base theirs S (Err NoRoom)
      roots_no_room h = record { answered = λ call C. turned_down K V kb vb S call 11 _ refl C.made (λ a rep. merge_no_room K V kb vb S i ours base theirs inside some.at call C c E a rep e h) }

      module _ (p : c.nodes ≤ S.tables.spare) (q : c.entries ≤ S.tables.entry_spare) where
        pub roots_kept : c.ours ≡ true → RootsMerged K V kb vb S i ours base theirs S (Ok (c.nodes, c.entries))
        roots_kept o = record {
          answered = λ call C. record { made = C.made; account = λ a rep. merge_kept K V kb vb S i ours base theirs inside some.at call C c E a rep p q e o; unchanged = λ x z. absurd (took_accepts c.nodes c.entries x z) };
        }

        pub roots_ready : Started K V kb vb S → MayMerge K V kb vb S.tables ours base theirs 8
        roots_ready started = may_merge K V kb vb S i ours base theirs inside some.at started.0 started.1 (some.is.judges started.0 started.1).merging c E p q e

        -- the draft's old root may be given up once the new one stands
        pub old_root : Started K V kb vb S → (r : Branch) (U : Tables X Y) → MergeDone K V kb vb S.tables ours base theirs 8 r U
            → ((R : List ℕ) × Nodes U.nodes U.free U.spare (node_of ours ++ R)) × (((E : List ℕ) × Entries U.nodes U.entries U.entry_free U.entry_spare E) × Entryless U.nodes)
        unfolding may_merge met
        old_root started r U done =
            let B = done.built (may_merge K V kb vb S i ours base theirs inside some.at started.0 started.1 (some.is.judges started.0 started.1).merging c E p q e) in
            let old : (j : ℕ) → occ j (node_of r ++ owners S.places) ≡ occ j (node_of ours ++ (node_of r ++ owners (set S.places i Empty))) = λ j.
            as_often _ _ _ _ _ _ _ _ (occ_append j (node_of r) (owners S.places)) (occ_append j (node_of ours) (node_of r ++ owners (set S.places i Empty))) (occ_append j (node_of r) (owners (set S.places i Empty)))
            (subst (λ (z : Spot). occ j (owners (set S.places i Empty)) + occ j (root_of z) ≡ occ j (owners S.places) + occ j (root_of Empty)) some.at (owners_set j S.places i Empty (omega (arith, started.1.all_places)))) (occ_nil j) in
            ((_, nodes_same U.nodes U.free U.spare _ _ old B.sits.nodes), ((_, B.sits.entries), B.sits.entryless))

        pub roots_merged : (r : Branch) (U W : Tables X Y) → MergeDone K V kb vb S.tables ours base theirs 8 r U → GivenUp (node_of ours) U W
            → RootsMerged K V kb vb S i ours base theirs (record { tables = W; places = set S.places i (Draft r) }) (Ok (c.nodes, c.entries))
        roots_merged r U W done gone = record {
          answered = λ call C. record { made = C.made; account = λ a rep. merge_built K V kb vb S i ours base theirs inside some.at call C c E a rep p q e r U W done gone; unchanged = λ x z. absurd (took_accepts c.nodes c.entries x z) };
        }

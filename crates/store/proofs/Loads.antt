-- An image loaded at an empty place: what the account answers, and what is built. Assumes nothing.
use Rattle.std.proofs.Common.{◌≡◌, ℕ, ◌+◌, ◌<◌, ◌≤◌, true, ◌&&◌, leb, ◌⊎◌, List, [], ◌∷◌, ◌++◌, get_or, set, Some, Result, IsErrAnd, sym, refl, ap, ◌∙◌, subst, ap₂, inl, inr, arith}
use Rattle.std.proofs.lemmas.Bool.{cond-true, cond-false, and_from, le-leb, lt-leb, and_left, and_right}
use Rattle.byte_rows.specs.Rows.{byte_row}
use Rattle.kinds.specs.Kinds.{KeyKind, ValueKind}
use Rattle.kinds.specs.declared.refusal.Refusal.{Refusal}
use Rattle.kinds.specs.Refusals as refusals
use Rattle.kinds.specs.Refusals.{Refused, shown}
use Rattle.model.specs.Maps.{Map}
use Rattle.model.specs.Reading.{Verdict, judge, accepted}
use Rattle.model.specs.Reading as reading
use Rattle.model.specs.Sharing.{Shared, shared}
use Rattle.model.specs.Accounts.{Version, Account, published, whole, free_nodes, free_entries}
use Rattle.model.specs.Calls.{Answer, took, refused, Outcome, outcome, after, reply, refuse, leave, result, version, Load}
use Rattle.model.proofs.Images.Exact.{exact}
use Rattle.plans.proofs.Twice.{portion_root}
use Rattle.branches.specs.declared.branch.Branch.{Branch}
use Rattle.branches.specs.States.{Tables, Sits, Under, Led}
use Rattle.branches.specs.Branches.{Is, part_of, node_of}
use Rattle.image_loader.specs.Counts.{IsImage, CellsCounted}
use Rattle.image_loader.specs.Loads.{MayLoad, Loaded}
use Rattle.store.specs.declared.spot.Spot.{Spot}
use Rattle.store.specs.declared.spot.Spot.TheVariants.{Empty, Published}
use Rattle.store.specs.Stores.{State, owners, Started, Represents, Answered}
use Rattle.store.specs.Spots.{root_of, GivenUp}
use Rattle.store.specs.Answers.{result_shown}
use Rattle.store.proofs.Free.{free_is}
use Rattle.store.proofs.Judging.{is_place, empty_is_empty}
use Rattle.store.proofs.Reading.{at_empty}
use Rattle.store.proofs.Steps.{refused_step, clear_now, nothing_given_up, replaced}
use Rattle.store.proofs.Answering.{handed_on, turned_down}
use Rattle.store.proofs.Sets.{le_of, no_entry}
use Rattle.model.proofs.Runs.Steps.{took_accepts}

module _ {X Y : Type 0} (K : KeyKind) (V : ValueKind) (kb : X → List ℕ) (vb : Y → List ℕ) (S : State X Y) (i : ℕ) (bs : List ℕ) (row : byte_row bs ≡ true) (inside : i < 64) (at : get_or S.places i Empty ≡ Empty) where
  -- what the account makes of a verdict
  abbrev by_verdict : Account → Verdict → Outcome
  by_verdict a v = elim v [
    | accepted m ↦ result K V a i [] m (λ s. published (version K V a m (Some ((a.calls + 1) ∷ [])) s))
    | reading.refused n o ↦ reply K V a (refused (refusals.refused_at n o))
  ]

  judged : (a : Account) → Represents K V kb vb S a → outcome K V a (Load i bs) ≡ by_verdict a (judge K V bs)
  judged a rep = is_place K V a i _ inside ∙ empty_is_empty K V a i _ (at_empty K V kb vb S a rep i at)

  -- ---- the image is refused

  pub image_refused :
      {B : Type 0} (f : B → Answer) (r : Result B Refusal) (x : Refusal) → IsErrAnd r (λ y. y ≡ x) → (n o : ℕ) → judge K V bs ≡ reading.refused n o → shown x ≡ refusals.refused_at n o
      → Answered K V kb vb S S (Load i bs) (result_shown f r)
  image_refused f r x on n o e w = record {
    made = row;
    account = λ a rep.
        let z = judged a rep ∙ ap (by_verdict a) e in (
          handed_on f r x on ∙ ap refused w ∙ sym (ap (λ (y : Outcome). y.answer) z),
          refused_step K V kb vb S a rep (Load i bs) row (ap (λ (y : Outcome). y.places) z),
        );
    unchanged = λ y d. refl;
  }

  -- ---- the image is accepted

  module _ (m : Map) (yes' : judge K V bs ≡ accepted m) where
    pub is_image : IsImage K V bs
    is_image = let e = exact K V bs m row yes' in record { settings = m; lawful = e.1; is = e.0 }

    module _ (nodes entries : ℕ) (C : CellsCounted K V bs nodes entries) (a : Account) (rep : Represents K V kb vb S a) where
      abbrev s : Shared
      s = shared K (a.calls + 1) [] m

      pub nodes_are : nodes ≡ s.new_nodes
      unfolding is_image
      nodes_are = C.nodes_are is_image (a.calls + 1)

      pub entries_are : entries ≡ s.new_entries
      unfolding is_image
      entries_are = C.entries_are is_image (a.calls + 1)

      free : (S.tables.spare ≡ free_nodes a) × (S.tables.entry_spare ≡ free_entries a)
      free = free_is K V kb vb S a rep

      abbrev new_version : Version
      new_version = version K V a m (Some ((a.calls + 1) ∷ [])) s

      takes : outcome K V a (Load i bs) ≡ result K V a i [] m (λ z. published (version K V a m (Some ((a.calls + 1) ∷ [])) z))
      takes = judged a rep ∙ ap (by_verdict a) yes'

      pub load_no_room : (S.tables.spare < nodes) ⊎ (S.tables.entry_spare < entries) → outcome K V a (Load i bs) ≡ refuse K V a 11
      load_no_room h =
          takes ∙ cond-false (leb s.new_nodes (free_nodes a) && leb s.new_entries (free_entries a)) _ (refuse K V a 11) (elim h [
            | inl l ↦ and_left (leb s.new_nodes (free_nodes a)) _ (lt-leb s.new_nodes (free_nodes a) (omega (arith, l, free.0, nodes_are)))
            | inr l ↦ and_right (leb s.new_nodes (free_nodes a)) _ (lt-leb s.new_entries (free_entries a) (omega (arith, l, free.1, entries_are)))
          ])

      module _ (p : nodes ≤ S.tables.spare) (q : entries ≤ S.tables.entry_spare) where
        load_room : outcome K V a (Load i bs) ≡ leave K V a (took s.new_nodes s.new_entries) i (published new_version)
        load_room =
            takes ∙ cond-true (leb s.new_nodes (free_nodes a) && leb s.new_entries (free_entries a)) _ (refuse K V a 11)
            (and_from _ _ (le-leb s.new_nodes (free_nodes a) (omega (arith, p, free.0, nodes_are))) (le-leb s.new_entries (free_entries a) (omega (arith, q, free.1, entries_are))))

        unfoldable pub may_load : MayLoad K V kb vb S.tables bs
        unfolding is_image
        may_load = record {
          call = a.calls + 1;
          image = is_image;
          notes = rep.notes;
          roots = owners S.places;
          in_hand = [];
          sits = rep.sits;
          clear = clear_now K V kb vb S a rep (Under []) (Led K []);
          nodes_fit = subst (λ (z : Shared). z.new_nodes ≤ S.tables.spare) (portion_root K (a.calls + 1) [] m) (le_of nodes _ _ nodes_are p);
          entries_fit = subst (λ (z : Shared). z.new_entries ≤ S.tables.entry_spare) (portion_root K (a.calls + 1) [] m) (le_of entries _ _ entries_are q);
        }

        pub loads : (r : Branch) (U : Tables X Y) → Loaded K V kb vb S.tables bs r U
            → (took nodes entries ≡ (outcome K V a (Load i bs)).answer) × Represents K V kb vb (record { tables = U; places = set S.places i (Published r) }) (after K V a (Load i bs))
        unfolding may_load is_image
        loads r U done =
            let B = done.built may_load in
            let here : Is U B.notes r 8 [] (whole new_version) = subst (λ (z : Shared). Is U B.notes r 8 [] (part_of m z)) (sym (portion_root K (a.calls + 1) [] m)) B.is in (
              ap₂ took nodes_are entries_are ∙ sym (ap (λ (z : Outcome). z.answer) load_room),
              replaced K V kb vb S a rep (Load i bs) row i inside (Published r) (published new_version) (ap (λ (z : Outcome). z.places) load_room)
                  U B.notes (subst (λ (l : List ℕ). Sits K kb vb U B.notes (node_of r ++ owners S.places) l) (no_entry U B.notes r _ here) B.sits)
                  (Under []) (Led K []) B.grown here U (subst (λ (z : Spot). GivenUp (root_of z) U U) (sym at) (nothing_given_up U)),
            )

    -- ---- whatever the account is

    module _ (nodes entries : ℕ) (C : CellsCounted K V bs nodes entries) where
      pub load_refused : (r : Answer) → r ≡ refused (refusals.refused 11) → (S.tables.spare < nodes) ⊎ (S.tables.entry_spare < entries) → Answered K V kb vb S S (Load i bs) r
      load_refused r e h = turned_down K V kb vb S (Load i bs) 11 r e row (λ a rep. load_no_room nodes entries C a rep h)

      module _ (p : nodes ≤ S.tables.spare) (q : entries ≤ S.tables.entry_spare) where
        pub load_ready : Started K V kb vb S → MayLoad K V kb vb S.tables bs
        load_ready started = may_load nodes entries C started.0 started.1 p q

        pub load_answered : (r : Branch) (U : Tables X Y) → Loaded K V kb vb S.tables bs r U → Answered K V kb vb S (record { tables = U; places = set S.places i (Published r) }) (Load i bs) (took nodes entries)
        load_answered r U done = record { made = row; account = λ a rep. loads nodes entries C a rep p q r U done; unchanged = λ x e. absurd (took_accepts nodes entries x e) }

-- One key of a draft is set: what the account answers, and what is built. Assumes nothing.
use Rattle.std.proofs.Common.{◌≡◌, ℕ, ◌+◌, ◌*◌, ◌<◌, ◌≤◌, true, false, ◌&&◌, leb, ◌⊎◌, List, [], ◌∷◌, ◌++◌, length, get_or, set, Some, None, Option, sym, refl, ap, ◌∙◌, subst, ap₂, inl, inr, arith}
use Rattle.std.proofs.lemmas.List.{set-get_or}
use Rattle.std.proofs.lemmas.Bool.{cond-true, cond-false, and_from, le-leb, lt-leb, and_left, and_right}
use Rattle.kinds.specs.Kinds.{KeyKind, ValueKind}
use Rattle.model.specs.Maps.{Map, Sound}
use Rattle.model.specs.Tries.{crowded, Lawful}
use Rattle.model.specs.Sharing.{Part, Shared, shared}
use Rattle.model.specs.Accounts.{Version, draft, Account, nth, whole, free_nodes, free_entries}
use Rattle.model.specs.Calls.{took, Outcome, outcome, after, refuse, leave, on_uncrowded, result, version}
use Rattle.model.specs.Runs.{Made}
use Rattle.model.proofs.Promises.{few_settings}
use Rattle.model.proofs.Maps.Crowds.{uncrowded_remove}
use Rattle.model.proofs.Marks.Keys.{same_map_true}
use Rattle.plans.specs.Plans.{edited, portion, Told}
use Rattle.plans.proofs.Crowds.{crowd_is_crowded, uncrowded_crowd}
use Rattle.plans.proofs.Twice.{portion_twice, portion_root}
use Rattle.branches.specs.declared.branch.Branch.{Branch}
use Rattle.branches.specs.declared.branch.Branch.TheVariants.{Nothing, Entry, Child}
use Rattle.branches.specs.States.{Tables, Notes, Sits, Under, Led}
use Rattle.branches.specs.Branches.{Is, part_of, node_of, entry_of}
use Rattle.branches.proofs.Kept.{portion_kept}
use Rattle.branches.proofs.Settings.{edited_same}
use Rattle.edits.specs.declared.estimate.Estimate.{Estimate}
use Rattle.edits.specs.Sets.{Seen, Estimated, Ready, Done, ValueReads, tally}
use Rattle.edits.proofs.Turns.{reads}
use Rattle.store.specs.declared.spot.Spot.{Spot}
use Rattle.store.specs.declared.spot.Spot.TheVariants.{Empty, Draft}
use Rattle.store.specs.Stores.{State, owners, Represents}
use Rattle.store.specs.Spots.{root_of, GivenUp}
use Rattle.store.specs.Sets.{set_call}
use Rattle.store.proofs.Free.{free_is}
use Rattle.store.proofs.Judging.{is_place, draft_is_draft, live_draft}
use Rattle.store.proofs.Places.{owners_few}
use Rattle.store.proofs.Reading.{at_draft, lawful_draft, lawful_sound}
use Rattle.store.proofs.Steps.{clear_now, replaced, turned}

pub le_of : (a b c : ℕ) → a ≡ b → a ≤ c → b ≤ c
le_of a b c e h = omega arith

pub few_owners : (l n : ℕ) → l ≤ n → n ≡ 64 → l + 16 * 8 + 16 ≤ 65535
few_owners l n h e = omega arith

-- a root is no entry
pub no_entry : {X Y : Type 0} (T : Tables X Y) (N : Notes) (r : Branch) (a : Part) → Is T N r 8 [] a → entry_of r ++ [] ≡ []
no_entry T N Nothing a h = refl
no_entry T N (Entry e) a h = absurd (omega (arith, h.0))
no_entry T N (Child j) a h = refl

-- the outcome of the call, judged up to the draft
abbrev set_outcome : (K : KeyKind) (V : ValueKind) (a : Account) → ℕ → List ℕ → Option (List ℕ) → Version → Outcome
set_outcome K V a i k x d =
    let m : Map = edited K d.settings k x in
    on_uncrowded K V a m (result K V a i (d ∷ []) m (λ s. draft (version K V a m None s)))

-- a draft is at the place, and what is set reads
pub record Edits {X Y : Type 0} (K : KeyKind) (V : ValueKind) (kb : X → List ℕ) (vb : Y → List ℕ) (S : State X Y) (i : ℕ) (k : List ℕ) (x : Option (List ℕ)) (b : Branch) : Type 0 where
  pub key_reads : K.readable k ≡ true
  pub value_reads : ValueReads V x
  pub inside : i < 64
  pub at : get_or S.places i Empty ≡ Draft b

module _ {X Y : Type 0} {K : KeyKind} {V : ValueKind} {kb : X → List ℕ} {vb : Y → List ℕ} {S : State X Y} {i : ℕ} {k : List ℕ} {x : Option (List ℕ)} {b : Branch} (edit : Edits K V kb vb S i k x b) where
  pub set_made : Made K V (set_call i k x)
  set_made = go x edit.value_reads
    where
      go : (y : Option (List ℕ)) → ValueReads V y → Made K V (set_call i k y)
      go (Some v) r = (edit.key_reads, r)
      go None r = edit.key_reads

  module _ (a : Account) (rep : Represents K V kb vb S a) where
    pub v : Version
    v = (at_draft K V kb vb S a rep i b edit.at).version

    pub there : nth a.places i ≡ draft v
    unfolding v
    there = (at_draft K V kb vb S a rep i b edit.at).at

    pub is : Is S.tables rep.notes b 8 [] (whole v)
    unfolding v
    is = (at_draft K V kb vb S a rep i b edit.at).is

    pub law : Lawful K V v.settings
    law = lawful_draft K V kb vb S a rep i v there

    pub sound : Sound K V v.settings
    sound = lawful_sound K V v law

    abbrev m : Map
    m = edited K v.settings k x

    -- a remove crowds nothing
    uncrowded_none : (y : Option (List ℕ)) → y ≡ None → crowded K (edited K v.settings k y) ≡ false
    uncrowded_none (Some w) e = let z : ◌≡◌ {A = ℕ} 0 1 = cc in absurd (omega arith)
    uncrowded_none None e = sym (crowd_is_crowded K _) ∙ uncrowded_crowd K _ (uncrowded_remove K V v.settings k sound edit.key_reads law.uncrowded)

    set_at_draft : outcome K V a (set_call i k x) ≡ set_outcome K V a i k x v
    set_at_draft = go x
      where
        go : (y : Option (List ℕ)) → outcome K V a (set_call i k y) ≡ set_outcome K V a i k y v
        go (Some w) = is_place K V a i _ edit.inside ∙ draft_is_draft K V a i _ v there
        go None = is_place K V a i _ edit.inside ∙ draft_is_draft K V a i _ v there ∙ sym (cond-false (crowded K (edited K v.settings k None)) (refuse K V a 10) _ (uncrowded_none None refl))

    pub seen : Seen K V kb vb S.tables b k x 8
    seen = record {
      prefix = [];
      source = whole v;
      notes = rep.notes;
      roots = owners S.places;
      in_hand = [];
      sits = rep.sits;
      is = is;
      deep = refl;
      sound = sound;
      key_reads = edit.key_reads;
      value_reads = edit.value_reads;
      led = refl;
      calm = uncrowded_crowd K v.settings law.uncrowded;
      few = few_settings K V a rep.reached i v (live_draft K V a i v there);
    }

    module _ (c : Estimate) (E : Estimated K V kb vb S.tables b k x 8 c) where
      abbrev s : Shared
      s = shared K (a.calls + 1) (whole v ∷ []) m

      pub told : Told K (a.calls + 1) 8 [] (whole v) (whole v) m (tally c)
      unfolding seen
      told = E.told seen (a.calls + 1)

      share_is : portion K (a.calls + 1) 8 [] (whole v ∷ (whole v ∷ [])) m ≡ s
      share_is = portion_twice K (a.calls + 1) 8 [] (whole v) m ∙ sym (portion_root K (a.calls + 1) (whole v ∷ []) m)

      pub nodes_are : c.nodes ≡ s.new_nodes
      nodes_are = told.nodes ∙ ap (λ (z : Shared). z.new_nodes) share_is

      pub entries_are : c.entries ≡ s.new_entries
      entries_are = told.entries ∙ ap (λ (z : Shared). z.new_entries) share_is

      pub crowded_is : c.crowded ≡ crowded K m
      crowded_is = told.crowded ∙ crowd_is_crowded K m

      -- ---- refusals

      pub set_crowded : c.crowded ≡ true → outcome K V a (set_call i k x) ≡ refuse K V a 10
      set_crowded e = set_at_draft ∙ cond-true (crowded K m) (refuse K V a 10) _ (sym crowded_is ∙ e)

      -- where it is not crowded, the room decides
      judged : c.crowded ≡ false → outcome K V a (set_call i k x) ≡ result K V a i (v ∷ []) m (λ z. draft (version K V a m None z))
      judged e = set_at_draft ∙ cond-false (crowded K m) (refuse K V a 10) _ (sym crowded_is ∙ e)

      free : (S.tables.spare ≡ free_nodes a) × (S.tables.entry_spare ≡ free_entries a)
      free = free_is K V kb vb S a rep

      pub set_no_room : c.crowded ≡ false → (S.tables.spare < c.nodes) ⊎ (S.tables.entry_spare < c.entries) → outcome K V a (set_call i k x) ≡ refuse K V a 11
      set_no_room e h =
          judged e ∙ cond-false (leb s.new_nodes (free_nodes a) && leb s.new_entries (free_entries a)) _ (refuse K V a 11) (elim h [
            | inl l ↦ and_left (leb s.new_nodes (free_nodes a)) _ (lt-leb s.new_nodes (free_nodes a) (omega (arith, l, free.0, nodes_are)))
            | inr l ↦ and_right (leb s.new_nodes (free_nodes a)) _ (lt-leb s.new_entries (free_entries a) (omega (arith, l, free.1, entries_are)))
          ])

      set_room : c.crowded ≡ false → c.nodes ≤ S.tables.spare → c.entries ≤ S.tables.entry_spare → outcome K V a (set_call i k x) ≡ leave K V a (took s.new_nodes s.new_entries) i (draft (version K V a m None s))
      set_room e p q =
          judged e ∙ cond-true (leb s.new_nodes (free_nodes a) && leb s.new_entries (free_entries a)) _ (refuse K V a 11)
          (and_from _ _ (le-leb s.new_nodes (free_nodes a) (omega (arith, p, free.0, nodes_are))) (le-leb s.new_entries (free_entries a) (omega (arith, q, free.1, entries_are))))

      -- ---- nothing changes

      unchanged_map : c.ours ≡ true → m ≡ v.settings
      unchanged_map e = sym (same_map_true v.settings m (sym told.ours ∙ e))

      kept_whole : c.ours ≡ true → whole (version K V a m None s) ≡ whole v
      kept_whole e =
          let f = unchanged_map e in
          ap₂ part_of f (portion_root K (a.calls + 1) (whole v ∷ []) m ∙ ap (portion K (a.calls + 1) 8 [] (whole v ∷ [])) f)
          ∙ (portion_kept K kb vb (a.calls + 1) 8 [] [] S.tables rep.notes (owners S.places) [] b (whole v) rep.sits is).0

      pub set_kept : c.crowded ≡ false → c.nodes ≤ S.tables.spare → c.entries ≤ S.tables.entry_spare → c.ours ≡ true
          → (took c.nodes c.entries ≡ (outcome K V a (set_call i k x)).answer) × Represents K V kb vb S (after K V a (set_call i k x))
      set_kept e p q o =
          let out = set_room e p q in
          let r = turned K V kb vb S a rep (set_call i k x) set_made i edit.inside (Draft b) (draft (version K V a m None s)) (ap (λ (z : Outcome). z.places) out) (ap root_of edit.at)
          (subst (Is S.tables rep.notes b 8 []) (sym (kept_whole o)) is) in (
            ap₂ took nodes_are entries_are ∙ sym (ap (λ (z : Outcome). z.answer) out),
            subst (λ (ps : List Spot). Represents K V kb vb (record { tables = S.tables; places = ps }) (after K V a (set_call i k x))) (ap (set S.places i) (sym edit.at) ∙ set-get_or S.places i Empty) r,
          )

      -- ---- a new version

      unfoldable pub ready : c.crowded ≡ false → c.nodes ≤ S.tables.spare → c.entries ≤ S.tables.entry_spare → c.ours ≡ false → Ready K V kb vb S.tables b k x 8
      ready e p q o = record {
        call = a.calls + 1;
        prefix = [];
        source = whole v;
        notes = rep.notes;
        roots = owners S.places;
        in_hand = [];
        sits = rep.sits;
        clear = clear_now K V kb vb S a rep (Under []) (Led K []);
        is = is;
        deep = refl;
        sound = sound;
        key_reads = edit.key_reads;
        value_reads = edit.value_reads;
        led = refl;
        changed = sym (edited_same K V v.settings k sound edit.key_reads x (reads V x edit.value_reads)) ∙ sym told.ours ∙ o;
        calm = crowd_is_crowded K m ∙ sym crowded_is ∙ e;
        room = subst (λ (z : Shared). z.new_nodes ≤ S.tables.spare) (portion_root K (a.calls + 1) (whole v ∷ []) m) (le_of c.nodes _ _ nodes_are p);
        entry_room = subst (λ (z : Shared). z.new_entries ≤ S.tables.entry_spare) (portion_root K (a.calls + 1) (whole v ∷ []) m) (le_of c.entries _ _ entries_are q);
        few_roots = few_owners (length (owners S.places)) (length S.places) (owners_few S.places) rep.all_places;
        few_in_hand = omega arith;
      }

      pub set_built : (e : c.crowded ≡ false) (p : c.nodes ≤ S.tables.spare) (q : c.entries ≤ S.tables.entry_spare) (o : c.ours ≡ false)
          (r : Branch) (U W : Tables X Y) → Done K V kb vb S.tables b k x 8 r U → GivenUp (node_of b) U W
          → (took c.nodes c.entries ≡ (outcome K V a (set_call i k x)).answer) × Represents K V kb vb (record { tables = W; places = set S.places i (Draft r) }) (after K V a (set_call i k x))
      unfolding ready
      set_built e p q o r U W done gone =
          let out = set_room e p q in
          let B = done.built (ready e p q o) in
          let here : Is U B.notes r 8 [] (whole (version K V a m None s)) = subst (λ (z : Shared). Is U B.notes r 8 [] (part_of m z)) (sym (portion_root K (a.calls + 1) (whole v ∷ []) m)) B.is in (
            ap₂ took nodes_are entries_are ∙ sym (ap (λ (z : Outcome). z.answer) out),
            replaced K V kb vb S a rep (set_call i k x) set_made i edit.inside (Draft r) (draft (version K V a m None s)) (ap (λ (z : Outcome). z.places) out)
                U B.notes (subst (λ (l : List ℕ). Sits K kb vb U B.notes (node_of r ++ owners S.places) l) (no_entry U B.notes r _ here) B.sits)
                (Under []) (Led K []) B.grown here W (subst (λ (z : Spot). GivenUp (root_of z) U W) (sym edit.at) gone),
          )

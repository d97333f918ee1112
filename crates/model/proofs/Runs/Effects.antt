-- What a call leaves at the places, and what it does to the names that a version is gathered from. Assumes nothing.
use Rattle.std.proofs.Common.{◌≡◌, ℕ, zero, suc, ◌+◌, ◌<◌, ◌⊎◌, List, [], ◌∷◌, ◌++◌, length, replicate, set, Some, None, Option, sym, refl, ap, ◌∙◌, inl, inr, arith}
use mathlib.Core.List.Memᴰ
use mathlib.Core.List.{Memᴰ}
use Rattle.std.specs.List.{AllByRecursion}
use Rattle.std.proofs.ByRecursion.{All-set}
use Rattle.kinds.specs.Kinds.{KeyKind, ValueKind}
use Rattle.kinds.specs.Refusals.{Refused}
use Rattle.kinds.specs.Refusals as refusals
use Rattle.model.specs.declared.limits.TheConstants.{PLACES}
use Rattle.model.specs.Maps.{Map, put, remove, union, merge}
use Rattle.model.specs.Reading.{judge, accepted, Verdict, OnlyImagesAreAccepted}
use Rattle.model.specs.Reading as reading
use Rattle.model.specs.Sharing.{Shared, no_share}
use Rattle.model.specs.Accounts.{Version, Place, empty, draft, published, Account, nth, fresh}
use Rattle.model.specs.Calls.{Call, Open, OpenFrom, Put, Remove, Union, Merge, Publish, Abandon, Retire, Load, Answer, done, took, refused, Outcome, now, reply, refuse, leave, on_place, on_published, on_empty, on_draft, on_uncrowded, result, both_names, version, named, outcome, after, run}
use Rattle.model.specs.Runs.{Made, Reached}
use Rattle.model.specs.Effects.{place_of, published_names, GathersBoth, Accepted, LeavesDraft, LeavesPublished, SomeDraft, SomePublished, Effects, AcceptedCallsHaveTheirEffects, OtherPlacesStay, RefusedCallsLeaveThePlaces, EachCallIsCounted, TablesKeepTheirLengths, PublishedVersionsAreGathered}
use Rattle.model.proofs.Runs.Steps.{past_place, past_number, past_published, past_empty, past_draft, past_uncrowded, past_result, New, cleared, opened, copied, edited, united, issued, loaded, step}
use Rattle.model.proofs.Runs.Invariants.{reached_keeps_on, Good, reached_good}
use Rattle.model.proofs.Runs.Live.{all_places}

-- a place that is written holds what is written, and every other what it had
pub nth_written : (ps : List Place) (i : ℕ) (p : Place) → i < length ps → nth (set ps i p) i ≡ p
nth_written [] i p h = absurd (omega arith)
nth_written (q ∷ ps) zero p h = refl
nth_written (q ∷ ps) (suc i) p h = nth_written ps i p (omega arith)

pub nth_other : (ps : List Place) (i j : ℕ) (p : Place) → (i ≡ j → ⊥) → nth (set ps i p) j ≡ nth ps j
nth_other [] i j p h = refl
nth_other (q ∷ ps) zero zero p h = absurd (h refl)
nth_other (q ∷ ps) zero (suc j) p h = refl
nth_other (q ∷ ps) (suc i) zero p h = refl
nth_other (q ∷ ps) (suc i) (suc j) p h = nth_other ps i j p (λ e. h (ap suc e))

-- names in either of two rows
in_both : (n : ℕ) (x y : List ℕ) → (Memᴰ n (x ++ y) → Memᴰ n x ⊎ Memᴰ n y) × (Memᴰ n x ⊎ Memᴰ n y → Memᴰ n (x ++ y))
in_both n x y = (Memᴰ.append_cases x, λ h. elim h [ inl m ↦ Memᴰ.append_left y m | inr m ↦ Memᴰ.append_right x m ])

module _ (K : KeyKind) (V : ValueKind) where
  gathers_both : (a : Account) (x y : Option (List ℕ)) → GathersBoth x y (both_names K V a x y)
  gathers_both a None y = refl
  gathers_both a (Some x) None = refl
  gathers_both a (Some x) (Some y) = λ n. in_both n x y

  names_of_published : (a : Account) (v : Version) → (named K V a v).names ≡ published_names (a.calls + 1) v.names
  names_of_published a v = go v.names
    where
      go : (o : Option (List ℕ)) → ◌≡◌ {A = Option (List ℕ)} (elim o [ Some x ↦ Some x | None ↦ Some (now K V a ∷ []) ]) (published_names (a.calls + 1) o)
      go (Some x) = refl
      go None = refl

  -- G is what is wanted of an accepted call; it holds past each refusal
  module _ (a : Account) (long : length a.places ≡ PLACES) (c : Call) (G : Type 0) where
    abbrev Then : Outcome → Type 0
    Then o = outcome K V a c ≡ o → ((x : Refused) → o.answer ≡ refused x → ⊥) → G

    abbrev no : (n : ℕ) → Then (refuse K V a n)
    no n o h = absurd (h (refusals.refused n) refl)

    number : (i : ℕ) (o : Outcome) → (i < PLACES → Then o) → Then (on_place K V a i o)
    number = past_number K V a Then no

    place : (i : ℕ) (o : Outcome) → Then o → Then (on_place K V a i o)
    place = past_place K V a Then no

    free_place : (i : ℕ) (o : Outcome) → Then o → Then (on_empty K V a i o)
    free_place = past_empty K V a Then no

    drafted : (i : ℕ) (f : Version → Outcome) → ((v : Version) → nth a.places i ≡ draft v → Then (f v)) → Then (on_draft K V a i f)
    drafted = past_draft K V a Then no

    issued_at : (i : ℕ) (f : Version → Outcome) → ((v : Version) → nth a.places i ≡ published v → Then (f v)) → Then (on_published K V a i f)
    issued_at = past_published K V a Then no

    -- where a result of sources fits, what it leaves
    fits : (i : ℕ) → i < PLACES → (vs : List Version) (m : Map) (f : Shared → Place) → ((s : Shared) → nth (after K V a c).places i ≡ f s → G) → Then (result K V a i vs m f)
    fits i small vs m f g = past_result K V a Then no i vs m f (λ s x y z o h. g s (ap (λ (r : Outcome). nth r.places i) o ∙ nth_written a.places i (f s) (omega (arith, long))))

    uncrowded_fits : (i : ℕ) → i < PLACES → (vs : List Version) (m : Map) (f : Shared → Place) → ((s : Shared) → nth (after K V a c).places i ≡ f s → G) → Then (on_uncrowded K V a m (result K V a i vs m f))
    uncrowded_fits i small vs m f g = past_uncrowded K V a Then no m (result K V a i vs m f) (λ u. fits i small vs m f g)

    -- what is done without a cell
    leaves : (i : ℕ) → i < PLACES → (r : Answer) (p : Place) → (nth (after K V a c).places i ≡ p → G) → Then (leave K V a r i p)
    leaves i small r p g o h = g (ap (λ (x : Outcome). nth x.places i) o ∙ nth_written a.places i p (omega (arith, long)))

  module _ (a : Account) (long : length a.places ≡ PLACES) where
    opens : (i : ℕ) → Accepted K V a (Open i) → LeavesDraft K V a (Open i) i (λ v. (v.settings ≡ []) × (v.names ≡ Some []))
    opens i =
        let c : Call = Open i in
        let G : Type 0 = LeavesDraft K V a c i (λ v. (v.settings ≡ []) × (v.names ≡ Some [])) in
        let v : Version = version K V a [] (Some []) no_share in
        number a long c G i _ (λ small. free_place a long c G i _ (leaves a long c G i small done (draft v) (λ e. (v, (e, (refl, refl)))))) refl

    opens_from : (i j : ℕ) → Accepted K V a (OpenFrom i j) → SomePublished K V a j (λ w. LeavesDraft K V a (OpenFrom i j) i (λ v. v ≡ w))
    opens_from i j =
        let c : Call = OpenFrom i j in
        let G : Type 0 = SomePublished K V a j (λ w. LeavesDraft K V a c i (λ v. v ≡ w)) in
        number a long c G i _ (λ small. place a long c G j _ (issued_at a long c G j _ λ w f.
        free_place a long c G i _ (leaves a long c G i small done (draft w) (λ e. (w, (f, (w, (e, refl)))))))) refl

    puts : (i : ℕ) (k x : List ℕ) → Accepted K V a (Put i k x)
        → SomeDraft K V a i (λ d. LeavesDraft K V a (Put i k x) i (λ v. (v.settings ≡ put K d.settings k x) × (v.names ≡ None)))
    puts i k x =
        let c : Call = Put i k x in
        let G : Type 0 = SomeDraft K V a i (λ d. LeavesDraft K V a c i (λ v. (v.settings ≡ put K d.settings k x) × (v.names ≡ None))) in
        number a long c G i _ (λ small. drafted a long c G i _ λ d f.
        let m : Map = put K d.settings k x in
        uncrowded_fits a long c G i small (d ∷ []) m (λ s. draft (version K V a m None s)) (λ s e. (d, (f, (version K V a m None s, (e, (refl, refl))))))) refl

    removes : (i : ℕ) (k : List ℕ) → Accepted K V a (Remove i k)
        → SomeDraft K V a i (λ d. LeavesDraft K V a (Remove i k) i (λ v. (v.settings ≡ remove K d.settings k) × (v.names ≡ None)))
    removes i k =
        let c : Call = Remove i k in
        let G : Type 0 = SomeDraft K V a i (λ d. LeavesDraft K V a c i (λ v. (v.settings ≡ remove K d.settings k) × (v.names ≡ None))) in
        number a long c G i _ (λ small. drafted a long c G i _ λ d f.
        let m : Map = remove K d.settings k in
        fits a long c G i small (d ∷ []) m (λ s. draft (version K V a m None s)) (λ s e. (d, (f, (version K V a m None s, (e, (refl, refl))))))) refl

    unites : (i j : ℕ) → Accepted K V a (Union i j)
        → SomeDraft K V a i (λ d. SomePublished K V a j (λ o. LeavesDraft K V a (Union i j) i (λ v. (v.settings ≡ union K V d.settings o.settings) × GathersBoth d.names o.names v.names)))
    unites i j =
        let c : Call = Union i j in
        let G : Type 0 = SomeDraft K V a i (λ d. SomePublished K V a j (λ o. LeavesDraft K V a c i (λ v. (v.settings ≡ union K V d.settings o.settings) × GathersBoth d.names o.names v.names))) in
        number a long c G i _ (λ small. place a long c G j _ (issued_at a long c G j _ λ o g. drafted a long c G i _ λ d f.
        let m : Map = union K V d.settings o.settings in
        let n : Option (List ℕ) = both_names K V a d.names o.names in
        uncrowded_fits a long c G i small (d ∷ (o ∷ [])) m (λ s. draft (version K V a m n s))
        (λ s e. (d, (f, (o, (g, (version K V a m n s, (e, (refl, gathers_both a d.names o.names)))))))))) refl

    merges : (i b t : ℕ) → Accepted K V a (Merge i b t)
        → SomeDraft K V a i (λ d. SomePublished K V a b (λ base. SomePublished K V a t (λ theirs. LeavesDraft K V a (Merge i b t) i (λ v.
        (v.settings ≡ merge K V d.settings base.settings theirs.settings) × (v.names ≡ None)))))
    merges i b t =
        let c : Call = Merge i b t in
        let G : Type 0 = SomeDraft K V a i (λ d. SomePublished K V a b (λ base. SomePublished K V a t (λ theirs. LeavesDraft K V a c i (λ v.
        (v.settings ≡ merge K V d.settings base.settings theirs.settings) × (v.names ≡ None))))) in
        number a long c G i _ (λ small. place a long c G b _ (place a long c G t _ (issued_at a long c G b _ λ base g. issued_at a long c G t _ λ theirs h. drafted a long c G i _ λ d f.
        let m : Map = merge K V d.settings base.settings theirs.settings in
        uncrowded_fits a long c G i small (d ∷ (theirs ∷ [])) m (λ s. draft (version K V a m None s))
        (λ s e. (d, (f, (base, (g, (theirs, (h, (version K V a m None s, (e, (refl, refl))))))))))))) refl

    publishes : (i : ℕ) → Accepted K V a (Publish i)
        → SomeDraft K V a i (λ d. LeavesPublished K V a (Publish i) i (λ v.
        (v.settings ≡ d.settings) × ((v.nodes ≡ d.nodes) × ((v.entries ≡ d.entries) × (v.names ≡ published_names (a.calls + 1) d.names)))))
    publishes i =
        let c : Call = Publish i in
        let G : Type 0 = SomeDraft K V a i (λ d. LeavesPublished K V a c i (λ v.
        (v.settings ≡ d.settings) × ((v.nodes ≡ d.nodes) × ((v.entries ≡ d.entries) × (v.names ≡ published_names (a.calls + 1) d.names))))) in
        number a long c G i _ (λ small. drafted a long c G i _ λ d f.
        leaves a long c G i small done (published (named K V a d)) (λ e. (d, (f, (named K V a d, (e, (refl, (refl, (refl, names_of_published a d))))))))) refl

    abandons : (i : ℕ) → Accepted K V a (Abandon i) → SomeDraft K V a i (λ d. nth (after K V a (Abandon i)).places i ≡ empty)
    abandons i =
        let c : Call = Abandon i in
        let G : Type 0 = SomeDraft K V a i (λ d. nth (after K V a c).places i ≡ empty) in
        number a long c G i _ (λ small. drafted a long c G i _ λ d f. leaves a long c G i small done empty (λ e. (d, (f, e)))) refl

    retires : (i : ℕ) → Accepted K V a (Retire i) → SomePublished K V a i (λ v. nth (after K V a (Retire i)).places i ≡ empty)
    retires i =
        let c : Call = Retire i in
        let G : Type 0 = SomePublished K V a i (λ v. nth (after K V a c).places i ≡ empty) in
        number a long c G i _ (λ small. issued_at a long c G i _ λ v f. leaves a long c G i small done empty (λ e. (v, (f, e)))) refl

    abbrev Loads : ℕ → List ℕ → Type 0
    Loads i bs = (m : Map) × ((judge K V bs ≡ accepted m) × LeavesPublished K V a (Load i bs) i (λ v. (v.settings ≡ m) × (v.names ≡ Some ((a.calls + 1) ∷ []))))

    judged : (i : ℕ) (bs : List ℕ) → i < PLACES → (j : Verdict) → judge K V bs ≡ j →
        Then a long (Load i bs) (Loads i bs) (elim j [
          | accepted m ↦ result K V a i [] m (λ s. published (version K V a m (Some (now K V a ∷ [])) s))
          | reading.refused n o ↦ reply K V a (refused (refusals.refused_at n o))
        ])
    judged i bs small (accepted m) j =
        fits a long (Load i bs) (Loads i bs) i small [] m (λ s. published (version K V a m (Some (now K V a ∷ [])) s))
        (λ s e. (m, (j, (version K V a m (Some (now K V a ∷ [])) s, (e, (refl, refl))))))
    judged i bs small (reading.refused n o) j = λ is h. absurd (h (refusals.refused_at n o) refl)

    loads : (i : ℕ) (bs : List ℕ) → Accepted K V a (Load i bs) → Loads i bs
    loads i bs =
        number a long (Load i bs) (Loads i bs) i _ (λ small. free_place a long (Load i bs) (Loads i bs) i _ (judged i bs small (judge K V bs) refl)) refl

  module _ (exact : OnlyImagesAreAccepted K V) where
    pub effects : AcceptedCallsHaveTheirEffects K V
    effects a r =
        let long = all_places K V exact a r in
        record {
          opened = opens a long;
          opened_from = opens_from a long;
          put = puts a long;
          removed = removes a long;
          united = unites a long;
          merged = merges a long;
          published = publishes a long;
          abandoned = abandons a long;
          retired = retires a long;
          loaded = loads a long;
        }

    pub others : OtherPlacesStay K V
    others a r c made i apart =
        step K V a exact (Good K V) (λ v q. q) (reached_good K V exact a r) (λ o. nth o.places i ≡ nth a.places i) (λ s. refl) c made
        (λ s j p o w n. nth_other a.places j i p (λ e. apart (w ∙ ap Some e)))

    pub refusals_leave : RefusedCallsLeaveThePlaces K V
    refusals_leave a r c made x e =
        step K V a exact (Good K V) (λ v q. q) (reached_good K V exact a r) (λ o. o.answer ≡ refused x → o.places ≡ a.places) (λ s h. refl) c made
        (λ s j p o w n h. absurd (o x h)) e

    -- what is published at a place has names
    abbrev Gathered : Place → Type 0
    Gathered empty = Unit {0}
    Gathered (draft v) = Unit {0}
    Gathered (published v) = (x : List ℕ) × (v.names ≡ Some x)

    none_published : (n : ℕ) → AllByRecursion Gathered (replicate n empty)
    none_published zero = tt
    none_published (suc n) = (tt, none_published n)

    issued_gathered : (a : Account) (v : Version) → (x : List ℕ) × ((named K V a v).names ≡ Some x)
    issued_gathered a v = go v.names
      where
        go : (o : Option (List ℕ)) → (x : List ℕ) × ◌≡◌ {A = Option (List ℕ)} (elim o [ Some y ↦ Some y | None ↦ Some (now K V a ∷ []) ]) (Some x)
        go (Some x) = (x, refl)
        go None = (now K V a ∷ [], refl)

    new_gathered : (a : Account) {i : ℕ} {p : Place} → New K V a (Good K V) i p → Gathered p
    new_gathered a cleared = tt
    new_gathered a opened = tt
    new_gathered a (copied j v q e) = tt
    new_gathered a (edited vs m s l) = tt
    new_gathered a (united v w s l) = tt
    new_gathered a (issued i v q e) = issued_gathered a v
    new_gathered a (loaded m s l) = (now K V a ∷ [], refl)

    all_gathered : (a : Account) → Reached K V a → AllByRecursion Gathered a.places
    all_gathered =
        reached_keeps_on K V (λ a. AllByRecursion Gathered a.places)
        (λ a r c made h. step K V a exact (Good K V) (λ v q. q) (reached_good K V exact a r) (λ o. AllByRecursion Gathered o.places) (λ s. h) c made (λ s i p o w q. All-set Gathered a.places i p (new_gathered a q) h))
        (λ n e x y. none_published PLACES)

    gathered_at : (ps : List Place) (i : ℕ) → AllByRecursion Gathered ps → Gathered (nth ps i)
    gathered_at [] i h = tt
    gathered_at (p ∷ ps) zero h = h.0
    gathered_at (p ∷ ps) (suc i) h = gathered_at ps i h.1

    pub gathered : PublishedVersionsAreGathered K V
    gathered a r i v e = rw e at (gathered_at a.places i (all_gathered a r))

  pub counted : EachCallIsCounted K V
  counted a c = (refl, (refl, refl))

  run_keeps_lengths : (cs : List Call) (a : Account) → ((run K V a cs).node_cells ≡ a.node_cells) × ((run K V a cs).entry_cells ≡ a.entry_cells)
  run_keeps_lengths [] a = (refl, refl)
  run_keeps_lengths (c ∷ cs) a = run_keeps_lengths cs (after K V a c)

  pub lengths : TablesKeepTheirLengths K V
  lengths a r =
      let k = run_keeps_lengths r.calls (fresh r.nodes r.entries) in
      (ap (λ (b : Account). b.node_cells) (sym r.comes) ∙ k.0, ap (λ (b : Account). b.entry_cells) (sym r.comes) ∙ k.1)

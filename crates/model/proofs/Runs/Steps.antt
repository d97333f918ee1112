-- What a call can leave: the places as they were, or one of them new. Assumes nothing.
use Rattle.std.proofs.Common.{◌≡◌, ℕ, zero, suc, ◌<◌, ◌≤◌, Bool, true, false, cond, ◌&&◌, ltb, leb, ◌⊎◌, List, [], ◌∷◌, map, length, Some, None, refl, inl, inr}
use Rattle.std.specs.List.{AllByRecursion}
use Rattle.std.proofs.lemmas.Bool.{and_parts, leb-true, leb-false}
use Rattle.kinds.specs.Kinds.{KeyKind, ValueKind}
use Rattle.kinds.specs.Refusals.{Refused}
use Rattle.kinds.specs.Refusals as refusals
use Rattle.model.specs.declared.limits.TheConstants.{PLACES}
use Rattle.model.specs.Maps.{Map, put, remove, union, merge, Sound}
use Rattle.model.specs.Tries.{crowded, Uncrowded}
use Rattle.model.specs.Images.{image}
use Rattle.model.specs.Reading.{judge, accepted, Verdict, OnlyImagesAreAccepted}
use Rattle.model.specs.Sharing.{Shared, shared, no_share}
use Rattle.model.specs.Accounts.{Version, Place, empty, draft, published, Account, nth, whole, free_nodes, free_entries}
use Rattle.model.specs.Calls.{Call, Answer, done, took, saved, refused, Outcome, at, now, refuse, reply, leave, on_place, on_live, on_published, on_empty, on_draft, on_uncrowded, result, version, both_names, named, outcome}
use Rattle.model.specs.Runs.{Made}
use Rattle.model.specs.Effects.{place_of}
use Rattle.model.specs.Reading as reading
use Rattle.model.specs.Calls as Calls
use Rattle.model.proofs.Maps.Edits.{sound_put, sound_remove, sound_union, sound_merge}
use Rattle.model.proofs.Maps.Crowds.{uncrowded, uncrowded_remove}

-- an answer that is no refusal
abbrev pub Accepting : Answer → Type 0
Accepting r = (x : Refused) → r ≡ refused x → ⊥

pub done_accepts : Accepting done
done_accepts x e = cc

pub took_accepts : (n m : ℕ) → Accepting (took n m)
took_accepts n m x e = cc

-- what holds of the version at a place, if there is one
abbrev pub Holds : (Version → Type 0) → Place → Type 0
Holds P empty = Unit {0}
Holds P (draft v) = P v
Holds P (published v) = P v

pub holds_nth : (P : Version → Type 0) (ps : List Place) (i : ℕ) → AllByRecursion (Holds P) ps → Holds P (nth ps i)
holds_nth P [] i h = tt
holds_nth P (p ∷ ps) zero h = h.0
holds_nth P (p ∷ ps) (suc i) h = holds_nth P ps i h.1

module _ (K : KeyKind) (V : ValueKind) (a : Account) where
  -- Q holds of an outcome, past each way in which the call is refused
  module _ (Q : Outcome → Type 0) (refusal : (n : ℕ) → Q (refuse K V a n)) where
    -- the number of a place is below 64
    pub past_number : (i : ℕ) (o : Outcome) → (i < PLACES → Q o) → Q (on_place K V a i o)
    past_number i o q = go (leb PLACES i) refl
      where
        go : (b : Bool) → leb PLACES i ≡ b → Q (cond b (refuse K V a 3) o)
        go true e = refusal 3
        go false e = q (leb-false PLACES i e)

    pub past_place : (i : ℕ) (o : Outcome) → Q o → Q (on_place K V a i o)
    past_place i o q = past_number i o (λ small. q)

    pub past_live : (i : ℕ) (f : Version → Outcome) → ((v : Version) → Q (f v)) → Q (on_live K V a i f)
    past_live i f q = go (at K V a i)
      where
        go : (p : Place) → Q (elim p [ empty ↦ refuse K V a 4 | draft v ↦ f v | published v ↦ f v ])
        go empty = refusal 4
        go (draft v) = q v
        go (published v) = q v

    pub past_published : (i : ℕ) (f : Version → Outcome) → ((v : Version) → at K V a i ≡ published v → Q (f v)) → Q (on_published K V a i f)
    past_published i f q = go (at K V a i) refl
      where
        go : (p : Place) → at K V a i ≡ p → Q (elim p [ empty ↦ refuse K V a 4 | draft v ↦ refuse K V a 4 | published v ↦ f v ])
        go empty e = refusal 4
        go (draft v) e = refusal 4
        go (published v) e = q v e

    pub past_empty : (i : ℕ) (o : Outcome) → Q o → Q (on_empty K V a i o)
    past_empty i o q = go (at K V a i)
      where
        go : (p : Place) → Q (elim p [ empty ↦ o | draft v ↦ refuse K V a 5 | published v ↦ refuse K V a 5 ])
        go empty = q
        go (draft v) = refusal 5
        go (published v) = refusal 5

    pub past_draft : (i : ℕ) (f : Version → Outcome) → ((v : Version) → at K V a i ≡ draft v → Q (f v)) → Q (on_draft K V a i f)
    past_draft i f q = go (at K V a i) refl
      where
        go : (p : Place) → at K V a i ≡ p → Q (elim p [ empty ↦ refuse K V a 6 | draft v ↦ f v | published v ↦ refuse K V a 6 ])
        go empty e = refusal 6
        go (draft v) e = q v e
        go (published v) e = refusal 6

    pub past_uncrowded : (m : Map) (o : Outcome) → (Uncrowded K m → Q o) → Q (on_uncrowded K V a m o)
    past_uncrowded m o q = go (crowded K m) refl
      where
        go : (b : Bool) → crowded K m ≡ b → Q (cond b (refuse K V a 10) o)
        go true e = refusal 10
        go false e = q (uncrowded K m e)

    pub past_result : (i : ℕ) (vs : List Version) (m : Map) (f : Shared → Place) →
        ((s : Shared) → s ≡ shared K (now K V a) (map whole vs) m → s.new_nodes ≤ free_nodes a → s.new_entries ≤ free_entries a →
        Q (leave K V a (took s.new_nodes s.new_entries) i (f s))) →
        Q (result K V a i vs m f)
    past_result i vs m f q = go (shared K (now K V a) (map whole vs) m) refl
      where
        go : (s : Shared) → s ≡ shared K (now K V a) (map whole vs) m →
            Q (cond (leb s.new_nodes (free_nodes a) && leb s.new_entries (free_entries a)) (leave K V a (took s.new_nodes s.new_entries) i (f s)) (refuse K V a 11))
        go s e = fit (leb s.new_nodes (free_nodes a) && leb s.new_entries (free_entries a)) refl
          where
            fit : (b : Bool) → (leb s.new_nodes (free_nodes a) && leb s.new_entries (free_entries a)) ≡ b →
                Q (cond b (leave K V a (took s.new_nodes s.new_entries) i (f s)) (refuse K V a 11))
            fit true h =
                let p = and_parts (leb s.new_nodes (free_nodes a)) (leb s.new_entries (free_entries a)) h in
                q s e (leb-true s.new_nodes (free_nodes a) p.0) (leb-true s.new_entries (free_entries a) p.1)
            fit false h = refusal 11

  -- a result that was let in: its sources are live, it is sound and uncrowded, and there was room for what it took
  pub record LetIn (P : Version → Type 0) (vs : List Version) (m : Map) (s : Shared) : Type 0 where
    pub from : AllByRecursion P vs
    pub live : AllByRecursion (λ v. (j : ℕ) × ((at K V a j ≡ draft v) ⊎ (at K V a j ≡ published v))) vs
    pub shares : s ≡ shared K (now K V a) (map whole vs) m
    pub nodes_fit : s.new_nodes ≤ free_nodes a
    pub entries_fit : s.new_entries ≤ free_entries a
    pub sound : Sound K V m
    pub uncrowded : Uncrowded K m

  -- what a call can leave at a place of which it is given the number, where P holds of the versions before
  pub data New (P : Version → Type 0) : ℕ → Place → Type 0 where
    cleared : {i : ℕ} → New P i empty
    opened : {i : ℕ} → New P i (draft (version K V a [] (Some []) no_share))
    copied : {i : ℕ} (j : ℕ) (v : Version) → P v → at K V a j ≡ published v → New P i (draft v)
    edited : {i : ℕ} (vs : List Version) (m : Map) (s : Shared) → LetIn P vs m s → New P i (draft (version K V a m None s))
    united : {i : ℕ} (v w : Version) (s : Shared) → LetIn P (v ∷ (w ∷ [])) (union K V v.settings w.settings) s →
        New P i (draft (version K V a (union K V v.settings w.settings) (both_names K V a v.names w.names) s))
    issued : (i : ℕ) (v : Version) → P v → at K V a i ≡ draft v → New P i (published (named K V a v))
    loaded : {i : ℕ} (m : Map) (s : Shared) → LetIn P [] m s → New P i (published (version K V a m (Some (now K V a ∷ [])) s))

  module _ (exact : OnlyImagesAreAccepted K V) (P : Version → Type 0) (lawful : (v : Version) → P v → Sound K V v.settings × Uncrowded K v.settings)
      (held : AllByRecursion (Holds P) a.places) (Q : Outcome → Type 0) (kept : (r : Answer) → Q (reply K V a r)) where
    refusal : (n : ℕ) → Q (refuse K V a n)
    refusal n = kept (refused (refusals.refused n))

    at_draft : (i : ℕ) (v : Version) → at K V a i ≡ draft v → P v
    at_draft i v e = rw e at (holds_nth P a.places i held)

    at_published : (i : ℕ) (v : Version) → at K V a i ≡ published v → P v
    at_published i v e = rw e at (holds_nth P a.places i held)

    -- one source, a draft
    from_one : (i : ℕ) (d : Version) → at K V a i ≡ draft d → (m : Map) (s : Shared) → Sound K V m → Uncrowded K m →
        s ≡ shared K (now K V a) (map whole (d ∷ [])) m → s.new_nodes ≤ free_nodes a → s.new_entries ≤ free_entries a → LetIn P (d ∷ []) m s
    from_one i d e m s g u h n t =
        record { from = (at_draft i d e, tt); live = ((i, inl e), tt); shares = h; nodes_fit = n; entries_fit = t; sound = g; uncrowded = u }

    -- two sources, a draft and a published version
    from_two : (i j : ℕ) (d o : Version) → at K V a i ≡ draft d → at K V a j ≡ published o → (m : Map) (s : Shared) → Sound K V m → Uncrowded K m →
        s ≡ shared K (now K V a) (map whole (d ∷ (o ∷ []))) m → s.new_nodes ≤ free_nodes a → s.new_entries ≤ free_entries a → LetIn P (d ∷ (o ∷ [])) m s
    from_two i j d o e f m s g u h n t =
        record {
          from = (at_draft i d e, (at_published j o f, tt));
          live = ((i, inl e), ((j, inr f), tt));
          shares = h;
          nodes_fit = n;
          entries_fit = t;
          sound = g;
          uncrowded = u;
        }

    -- a call leaves the places as they were, or the one that it may change new
    pub step : (c : Call) → Made K V c → ((r : Answer) (i : ℕ) (p : Place) → Accepting r → place_of c ≡ Some i → New P i p → Q (leave K V a r i p)) → Q (outcome K V a c)
    step (Calls.Open i) h new = past_place Q refusal i _ (past_empty Q refusal i _ (new done i _ done_accepts refl opened))
    step (Calls.OpenFrom i j) h new =
        past_place Q refusal i _ (past_place Q refusal j _ (past_published Q refusal j _ λ v e. past_empty Q refusal i _ (new done i _ done_accepts refl (copied j v (at_published j v e) e))))
    step (Calls.Put i k v) h new =
        past_place Q refusal i _ (past_draft Q refusal i _ λ d e.
        let m : Map = put K d.settings k v in
        past_uncrowded Q refusal m _ λ u. past_result Q refusal i (d ∷ []) m _ λ s x y z.
        new _ i _ (took_accepts _ _) refl (edited (d ∷ []) m s (from_one i d e m s (sound_put K V d.settings k (lawful d (at_draft i d e)).0 h.0 v h.1) u x y z)))
    step (Calls.Remove i k) h new =
        past_place Q refusal i _ (past_draft Q refusal i _ λ d e.
        let m : Map = remove K d.settings k in
        let g = lawful d (at_draft i d e) in
        past_result Q refusal i (d ∷ []) m _ λ s x y z.
        new _ i _ (took_accepts _ _) refl (edited (d ∷ []) m s (from_one i d e m s (sound_remove K V d.settings k g.0 h) (uncrowded_remove K V d.settings k g.0 h g.1) x y z)))
    step (Calls.Union i j) h new =
        past_place Q refusal i _ (past_place Q refusal j _ (past_published Q refusal j _ λ o f. past_draft Q refusal i _ λ d e.
        let m : Map = union K V d.settings o.settings in
        past_uncrowded Q refusal m _ λ u. past_result Q refusal i (d ∷ (o ∷ [])) m _ λ s x y z.
        new _ i _ (took_accepts _ _) refl (united d o s
        (from_two i j d o e f m s (sound_union K V d.settings o.settings (lawful d (at_draft i d e)).0 (lawful o (at_published j o f)).0) u x y z))))
    step (Calls.Merge i b t) h new =
        past_place Q refusal i _ (past_place Q refusal b _ (past_place Q refusal t _ (past_published Q refusal b _ λ base g. past_published Q refusal t _ λ theirs f. past_draft Q refusal i _ λ d e.
        let m : Map = merge K V d.settings base.settings theirs.settings in
        past_uncrowded Q refusal m _ λ u. past_result Q refusal i (d ∷ (theirs ∷ [])) m _ λ s x y z.
        new _ i _ (took_accepts _ _) refl (edited (d ∷ (theirs ∷ [])) m s
        (from_two i t d theirs e f m s
        (sound_merge K V d.settings base.settings theirs.settings (lawful d (at_draft i d e)).0 (lawful theirs (at_published t theirs f)).0) u x y z)))))
    step (Calls.Publish i) h new = past_place Q refusal i _ (past_draft Q refusal i _ λ v e. new done i _ done_accepts refl (issued i v (at_draft i v e) e))
    step (Calls.Abandon i) h new = past_place Q refusal i _ (past_draft Q refusal i _ λ v e. new done i _ done_accepts refl cleared)
    step (Calls.Retire i) h new = past_place Q refusal i _ (past_published Q refusal i _ λ v e. new done i _ done_accepts refl cleared)
    step (Calls.Load i bs) h new = past_place Q refusal i _ (past_empty Q refusal i _ (go (judge K V bs) (λ m e. let l = (exact bs m h e).1 in (record { rises = l.rises; reads = l.reads }, l.uncrowded))))
      where
        go : (j : Verdict) → ((m : Map) → j ≡ accepted m → Sound K V m × Uncrowded K m) →
            Q (elim j [
              | accepted m ↦ result K V a i [] m (λ s. published (version K V a m (Some (now K V a ∷ [])) s))
              | reading.refused n o ↦ reply K V a (refused (refusals.refused_at n o))
            ])
        go (accepted m) g =
            past_result Q refusal i [] m _ λ s x y z.
            new _ i _ (took_accepts _ _) refl (loaded m s (record { from = tt; live = tt; shares = x; nodes_fit = y; entries_fit = z; sound = (g m refl).0; uncrowded = (g m refl).1 }))
        go (reading.refused n o) g = kept (refused (refusals.refused_at n o))
    step (Calls.LookUp i k) h new = past_place Q refusal i _ (past_live Q refusal i _ λ v. kept _)
    step (Calls.Count i) h new = past_place Q refusal i _ (past_live Q refusal i _ λ v. kept _)
    step (Calls.Compare i j) h new = past_place Q refusal i _ (past_place Q refusal j _ (past_live Q refusal i _ λ v. past_live Q refusal j _ λ w. kept _))
    step (Calls.Save i room) h new = past_place Q refusal i _ (past_live Q refusal i _ λ v. go (ltb room (length (image K V v.settings))) (image K V v.settings))
      where
        go : (b : Bool) (x : List ℕ) → Q (cond b (refuse K V a 12) (reply K V a (saved x)))
        go true x = refusal 12
        go false x = kept (saved x)
    step Calls.Free h new = kept _

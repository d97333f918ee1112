-- What stands at one place, in the store and in the account that it represents. Assumes nothing.
use Rattle.std.proofs.Common.{◌≡◌, ℕ, List, [], get_or, refl, subst, inl, inr}
use Rattle.kinds.specs.Kinds.{KeyKind, ValueKind}
use Rattle.model.specs.Maps.{Sound}
use Rattle.model.specs.Tries.{Lawful}
use Rattle.model.specs.Accounts.{Version, Place, empty, draft, published, Account, nth, whole}
use Rattle.model.specs.Calls.{Outcome, refuse, on_published, on_empty, on_draft, on_live}
use Rattle.model.proofs.Promises.{lawful}
use Rattle.branches.specs.declared.branch.Branch.{Branch}
use Rattle.branches.specs.Branches.{Is}
use Rattle.branches.specs.States.{Tables, Notes}
use Rattle.store.specs.declared.spot.Spot.{Spot}
use Rattle.store.specs.declared.spot.Spot.TheVariants.{Empty, Draft, Published}
use Rattle.store.specs.Stores.{State, Shows, Represents}
use Rattle.store.specs.Spots.{IsLive}
use Rattle.store.proofs.Judging.{draft_not_empty, published_not_empty, empty_not_draft, published_not_draft, empty_not_published, draft_not_published, empty_not_live, live_draft}
use Rattle.store.proofs.Places.{shows_at}

-- a version of the account at a place that the store has the branch b for
pub record Seen {X Y : Type 0} (T : Tables X Y) (N : Notes) (b : Branch) (kind : Version → Place) (p : Place) : Type 0 where
  pub version : Version
  pub at : p ≡ kind version
  pub is : Is T N b 8 [] (whole version)

-- ---- a spot and a place that stand for each other

module _ {X Y : Type 0} (T : Tables X Y) (N : Notes) where
  empty_seen : (p : Place) → Shows T N Empty p → p ≡ empty
  empty_seen empty h = refl
  empty_seen (draft v) h = absurd h
  empty_seen (published v) h = absurd h

  draft_seen : (b : Branch) (p : Place) → Shows T N (Draft b) p → Seen T N b draft p
  draft_seen b empty h = absurd h
  draft_seen b (draft v) h = record { version = v; at = refl; is = h }
  draft_seen b (published v) h = absurd h

  published_seen : (b : Branch) (p : Place) → Shows T N (Published b) p → Seen T N b published p
  published_seen b empty h = absurd h
  published_seen b (draft v) h = absurd h
  published_seen b (published v) h = record { version = v; at = refl; is = h }

module _ {X Y : Type 0} (K : KeyKind) (V : ValueKind) (kb : X → List ℕ) (vb : Y → List ℕ) (S : State X Y) (a : Account) (rep : Represents K V kb vb S a) (i : ℕ) where
  abbrev spot : Spot
  spot = get_or S.places i Empty

  -- the two stand for each other
  pub shows_here : Shows S.tables rep.notes (get_or S.places i Empty) (nth a.places i)
  shows_here = shows_at S.tables rep.notes S.places a.places i rep.shows

  pub at_empty : get_or S.places i Empty ≡ Empty → nth a.places i ≡ empty
  at_empty e = empty_seen S.tables rep.notes (nth a.places i) (subst (λ (s : Spot). Shows S.tables rep.notes s (nth a.places i)) e shows_here)

  pub at_draft : (b : Branch) → get_or S.places i Empty ≡ Draft b → Seen S.tables rep.notes b draft (nth a.places i)
  at_draft b e = draft_seen S.tables rep.notes b (nth a.places i) (subst (λ (s : Spot). Shows S.tables rep.notes s (nth a.places i)) e shows_here)

  pub at_published : (b : Branch) → get_or S.places i Empty ≡ Published b → Seen S.tables rep.notes b published (nth a.places i)
  at_published b e = published_seen S.tables rep.notes b (nth a.places i) (subst (λ (s : Spot). Shows S.tables rep.notes s (nth a.places i)) e shows_here)

  -- ---- the account judges as the store does

  pub not_empty : (o : Outcome) → (get_or S.places i Empty ≡ Empty → ⊥) → on_empty K V a i o ≡ refuse K V a 5
  not_empty o never = go spot refl
    where
      go : (s : Spot) → spot ≡ s → on_empty K V a i o ≡ refuse K V a 5
      go Empty e = absurd (never e)
      go (Draft b) e = draft_not_empty K V a i o _ (at_draft b e).at
      go (Published b) e = published_not_empty K V a i o _ (at_published b e).at

  pub not_draft : (f : Version → Outcome) → ((b : Branch) → get_or S.places i Empty ≡ Draft b → ⊥) → on_draft K V a i f ≡ refuse K V a 6
  not_draft f never = go spot refl
    where
      go : (s : Spot) → spot ≡ s → on_draft K V a i f ≡ refuse K V a 6
      go Empty e = empty_not_draft K V a i f (at_empty e)
      go (Draft b) e = absurd (never b e)
      go (Published b) e = published_not_draft K V a i f _ (at_published b e).at

  pub not_published : (f : Version → Outcome) → ((b : Branch) → get_or S.places i Empty ≡ Published b → ⊥) → on_published K V a i f ≡ refuse K V a 4
  not_published f never = go spot refl
    where
      go : (s : Spot) → spot ≡ s → on_published K V a i f ≡ refuse K V a 4
      go Empty e = empty_not_published K V a i f (at_empty e)
      go (Draft b) e = draft_not_published K V a i f _ (at_draft b e).at
      go (Published b) e = absurd (never b e)

  pub not_live : (f : Version → Outcome) → ((b : Branch) → IsLive (get_or S.places i Empty) b → ⊥) → on_live K V a i f ≡ refuse K V a 4
  not_live f never = go spot refl
    where
      go : (s : Spot) → spot ≡ s → on_live K V a i f ≡ refuse K V a 4
      go Empty e = empty_not_live K V a i f (at_empty e)
      go (Draft b) e = absurd (never b (inl e))
      go (Published b) e = absurd (never b (inr e))

  -- ---- live versions are lawful

  pub lawful_draft : (v : Version) → nth a.places i ≡ draft v → Lawful K V v.settings
  lawful_draft v e = lawful K V a rep.reached i v (live_draft K V a i v e)

-- and so sound
pub lawful_sound : (K : KeyKind) (V : ValueKind) (v : Version) → Lawful K V v.settings → Sound K V v.settings
lawful_sound K V v l = record { rises = l.rises; reads = l.reads }

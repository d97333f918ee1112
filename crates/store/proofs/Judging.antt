-- How the account judges a place, by what stands there. Assumes nothing.
use Rattle.std.proofs.Common.{◌≡◌, ℕ, ◌<◌, ◌≤◌, leb, Some, None, Option, ap, arith}
use Rattle.std.proofs.lemmas.Bool.{cond-true, cond-false, le-leb, lt-leb}
use Rattle.kinds.specs.Kinds.{KeyKind, ValueKind}
use Rattle.model.specs.declared.limits.TheConstants.{PLACES}
use Rattle.model.specs.Accounts.{Version, Place, empty, draft, published, Account, nth}
use Rattle.model.specs.Calls.{Outcome, refuse, on_place, on_live, on_published, on_empty, on_draft}
use Rattle.model.specs.Runs.{live}

module _ (K : KeyKind) (V : ValueKind) (a : Account) (i : ℕ) where
  -- the number of a place
  pub no_place : (o : Outcome) → PLACES ≤ i → on_place K V a i o ≡ refuse K V a 3
  no_place o h = cond-true (leb PLACES i) (refuse K V a 3) o (le-leb PLACES i h)

  pub is_place : (o : Outcome) → i < PLACES → on_place K V a i o ≡ o
  is_place o h = cond-false (leb PLACES i) (refuse K V a 3) o (lt-leb PLACES i h)

  -- what stands there, by cases
  abbrev of_empty : Outcome → Place → Outcome
  of_empty o p = elim p [ empty ↦ o | draft v ↦ refuse K V a 5 | published v ↦ refuse K V a 5 ]

  abbrev of_draft : (Version → Outcome) → Place → Outcome
  of_draft f p = elim p [ empty ↦ refuse K V a 6 | draft v ↦ f v | published v ↦ refuse K V a 6 ]

  abbrev of_published : (Version → Outcome) → Place → Outcome
  of_published f p = elim p [ empty ↦ refuse K V a 4 | draft v ↦ refuse K V a 4 | published v ↦ f v ]

  abbrev of_live : (Version → Outcome) → Place → Outcome
  of_live f p = elim p [ empty ↦ refuse K V a 4 | draft v ↦ f v | published v ↦ f v ]

  abbrev version_at : Place → Option Version
  version_at p = elim p [ empty ↦ None | draft v ↦ Some v | published v ↦ Some v ]

  pub empty_is_empty : (o : Outcome) → nth a.places i ≡ empty → on_empty K V a i o ≡ o
  empty_is_empty o e = ap (of_empty o) e

  pub draft_not_empty : (o : Outcome) (v : Version) → nth a.places i ≡ draft v → on_empty K V a i o ≡ refuse K V a 5
  draft_not_empty o v e = ap (of_empty o) e

  pub published_not_empty : (o : Outcome) (v : Version) → nth a.places i ≡ published v → on_empty K V a i o ≡ refuse K V a 5
  published_not_empty o v e = ap (of_empty o) e

  pub empty_not_draft : (f : Version → Outcome) → nth a.places i ≡ empty → on_draft K V a i f ≡ refuse K V a 6
  empty_not_draft f e = ap (of_draft f) e

  pub draft_is_draft : (f : Version → Outcome) (v : Version) → nth a.places i ≡ draft v → on_draft K V a i f ≡ f v
  draft_is_draft f v e = ap (of_draft f) e

  pub published_not_draft : (f : Version → Outcome) (v : Version) → nth a.places i ≡ published v → on_draft K V a i f ≡ refuse K V a 6
  published_not_draft f v e = ap (of_draft f) e

  pub empty_not_published : (f : Version → Outcome) → nth a.places i ≡ empty → on_published K V a i f ≡ refuse K V a 4
  empty_not_published f e = ap (of_published f) e

  pub draft_not_published : (f : Version → Outcome) (v : Version) → nth a.places i ≡ draft v → on_published K V a i f ≡ refuse K V a 4
  draft_not_published f v e = ap (of_published f) e

  pub published_is_published : (f : Version → Outcome) (v : Version) → nth a.places i ≡ published v → on_published K V a i f ≡ f v
  published_is_published f v e = ap (of_published f) e

  pub empty_not_live : (f : Version → Outcome) → nth a.places i ≡ empty → on_live K V a i f ≡ refuse K V a 4
  empty_not_live f e = ap (of_live f) e

  pub draft_is_live : (f : Version → Outcome) (v : Version) → nth a.places i ≡ draft v → on_live K V a i f ≡ f v
  draft_is_live f v e = ap (of_live f) e

  pub published_is_live : (f : Version → Outcome) (v : Version) → nth a.places i ≡ published v → on_live K V a i f ≡ f v
  published_is_live f v e = ap (of_live f) e

  pub live_draft : (v : Version) → nth a.places i ≡ draft v → live a i ≡ Some v
  live_draft v e = ap version_at e

  pub live_published : (v : Version) → nth a.places i ≡ published v → live a i ≡ Some v
  live_published v e = ap version_at e

-- A live place has a number below 64, so what is asked of it is answered of its version. Assumes nothing.
use Rattle.std.proofs.Common.{◌≡◌, ℕ, zero, suc, ◌<◌, ◌≤◌, true, false, cond, ltb, leb, List, [], ◌∷◌, length, set, replicate, Some, None, Option, IsTrue, ◌↔◌, sym, refl, ap, ◌∙◌, subst, arith, length-set}
use Rattle.std.proofs.lemmas.Bool.{cond-true, cond-false, lt-ltb, le-ltb, lt-leb}
use Rattle.std.specs.List.{AllByRecursion}
use Rattle.kinds.specs.Kinds.{KeyKind, ValueKind}
use Rattle.kinds.specs.Refusals as refusals
use Rattle.model.specs.declared.limits.TheConstants.{PLACES}
use Rattle.model.specs.Maps.{Map, same_map}
use Rattle.model.specs.Images.{image}
use Rattle.model.specs.Accounts.{Version, Place, empty, draft, published, Account, nth}
use Rattle.model.specs.Calls.{Call, Compare, Save, equal, saved, refused, Outcome, refuse, reply, on_place, on_live, outcome, after}
use Rattle.model.specs.Reading.{OnlyImagesAreAccepted}
use Rattle.model.specs.Runs.{live, Made, Reached, SavesWriteTheImage, CompareSaysWhetherMapsAreEqual}
use Rattle.model.proofs.Marks.Keys.{same_map_true, same_map_self}
use Rattle.model.proofs.Runs.Invariants.{Good, reached_good, reached_keeps_on}
use Rattle.model.proofs.Runs.Steps.{Holds, New, step}

-- what is live is within the row of places
live_within : (ps : List Place) (i : ℕ) (v : Version) → ◌≡◌ {A = Option Version} (elim (nth ps i) [ empty ↦ None | draft w ↦ Some w | published w ↦ Some w ]) (Some v) → i < length ps
live_within [] i v e = cc
live_within (p ∷ ps) zero v e = omega arith
live_within (p ∷ ps) (suc i) v e = let r = live_within ps i v e in omega arith

length_replicate : (n : ℕ) (p : Place) → length (replicate n p) ≡ n
length_replicate zero p = refl
length_replicate (suc n) p = ap suc (length_replicate n p)

module _ (K : KeyKind) (V : ValueKind) where
  module _ (exact : OnlyImagesAreAccepted K V) where
    -- no call adds a place or takes one away
    pub all_places : (a : Account) → Reached K V a → length a.places ≡ PLACES
    all_places = reached_keeps_on K V (λ a. length a.places ≡ PLACES) keeps (λ n e x y. length_replicate PLACES empty)
      where
        keeps : (a : Account) → Reached K V a → (c : Call) → Made K V c → length a.places ≡ PLACES → length (after K V a c).places ≡ PLACES
        keeps a r c made h =
            step K V a exact (Good K V) (λ v q. q) (reached_good K V exact a r) (λ o. length o.places ≡ PLACES) (λ s. h) c made (λ s i p o w q. length-set a.places i p ∙ h)

    pub live_place : (a : Account) → Reached K V a → (i : ℕ) (v : Version) → live a i ≡ Some v → i < PLACES
    live_place a r i v e = omega (arith, live_within a.places i v e, all_places a r)

  module _ (a : Account) where
    at_place : (i : ℕ) (o : Outcome) → i < PLACES → on_place K V a i o ≡ o
    at_place i o h = cond-false (leb PLACES i) (refuse K V a 3) o (lt-leb PLACES i h)

    at_live : (i : ℕ) (f : Version → Outcome) (v : Version) → live a i ≡ Some v → on_live K V a i f ≡ f v
    at_live i f v = go (nth a.places i)
      where
        go : (p : Place) → ◌≡◌ {A = Option Version} (elim p [ empty ↦ None | draft w ↦ Some w | published w ↦ Some w ]) (Some v) → ◌≡◌ {A = Outcome} (elim p [ empty ↦ refuse K V a 4 | draft w ↦ f w | published w ↦ f w ]) (f v)
        go empty e = cc
        go (draft w) e = let s : w ≡ v = cc in ap f s
        go (published w) e = let s : w ≡ v = cc in ap f s

  pub saves : OnlyImagesAreAccepted K V → SavesWriteTheImage K V
  saves exact a r i v e capacity =
      let bytes : List ℕ = image K V v.settings in
      let asked : outcome K V a (Save i capacity) ≡ cond (ltb capacity (length bytes)) (refuse K V a 12) (reply K V a (saved bytes)) =
      at_place a i _ (live_place exact a r i v e) ∙ at_live a i _ v e in (
        λ fits. ap (λ (o : Outcome). o.answer) (asked ∙ cond-false (ltb capacity (length bytes)) _ _ (le-ltb capacity (length bytes) fits)),
        λ short. ap (λ (o : Outcome). o.answer) (asked ∙ cond-true (ltb capacity (length bytes)) _ _ (lt-ltb capacity (length bytes) short)),
      )

  pub compares : OnlyImagesAreAccepted K V → CompareSaysWhetherMapsAreEqual K V
  compares exact a r i j v w e f = (
    same_map v.settings w.settings,
    (
      ap (λ (o : Outcome). o.answer)
          (at_place a i _ (live_place exact a r i v e) ∙ at_place a j _ (live_place exact a r j w f) ∙ at_live a i _ v e ∙ at_live a j _ w f),
      (same_map_true v.settings w.settings, λ h. subst (λ (m : Map). same_map v.settings m ≡ true) h (same_map_self v.settings)),
    ),
  )

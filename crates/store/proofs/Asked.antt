-- Questions of a live place: what they answer, whichever account the store represents. Assumes nothing.
use Rattle.std.proofs.Common.{◌≡◌, ℕ, ◌<◌, true, List, [], get_or, Some, Option, sym, refl, ap, ◌∙◌, inl, inr}
use Rattle.kinds.specs.Kinds.{KeyKind, ValueKind}
use Rattle.model.specs.Accounts.{Version, Account, whole}
use Rattle.model.specs.Calls.{found, counted, Outcome, on_live, LookUp, Count}
use Rattle.model.specs.Runs.{live}
use Rattle.model.proofs.Promises.{few_settings}
use Rattle.branches.specs.declared.branch.Branch.{Branch}
use Rattle.branches.specs.Branches.{Is, SomePart}
use Rattle.branches.specs.Asked.{bytes_found, LookedUp, FewPart, Counted}
use Rattle.store.specs.declared.spot.Spot.TheVariants.{Empty}
use Rattle.store.specs.Stores.{State, owners, Started, Represents, Answered}
use Rattle.store.specs.Spots.{IsLive}
use Rattle.store.proofs.Judging.{is_place, draft_is_live, published_is_live, live_draft, live_published}
use Rattle.store.proofs.Reading.{at_draft, at_published}
use Rattle.store.proofs.Steps.{refused_step}

module _ {X Y : Type 0} (K : KeyKind) (V : ValueKind) (kb : X → List ℕ) (vb : Y → List ℕ) (S : State X Y) (i : ℕ) where
  -- the account's version at a live place
  pub record VersionAt (a : Account) (rep : Represents K V kb vb S a) (b : Branch) : Type 0 where
    pub version : Version
    pub is : Is S.tables rep.notes b 8 [] (whole version)
    pub lives : live a i ≡ Some version
    pub answers : (f : Version → Outcome) → on_live K V a i f ≡ f version

  pub version_at : (a : Account) (rep : Represents K V kb vb S a) (b : Branch) → IsLive (get_or S.places i Empty) b → VersionAt a rep b
  version_at a rep b alive =
      elim alive [
        | inl e ↦ let w = at_draft K V kb vb S a rep i b e in
            record { version = w.version; is = w.is; lives = live_draft K V a i w.version w.at; answers = λ f. draft_is_live K V a i f w.version w.at }
        | inr e ↦ let w = at_published K V kb vb S a rep i b e in
            record { version = w.version; is = w.is; lives = live_published K V a i w.version w.at; answers = λ f. published_is_live K V a i f w.version w.at }
      ]

  module _ (b : Branch) (alive : IsLive (get_or S.places i Empty) b) where
    pub asked_part : Started K V kb vb S → SomePart K kb vb S.tables b 8
    asked_part started =
        let rep = started.1 in
        let w = version_at started.0 rep b alive in
        record { notes = rep.notes; roots = owners S.places; in_hand = []; sits = rep.sits; prefix = []; part = whole w.version; deep = refl; is = w.is }

    pub asked_few : Started K V kb vb S → FewPart K kb vb S.tables b 8
    unfolding asked_part
    asked_few started =
        let w = version_at started.0 started.1 b alive in
        record { some = asked_part started; few = few_settings K V started.0 started.1.reached i w.version w.lives }

  pub looked :
      (k : List ℕ) → K.readable k ≡ true → i < 64 → (b : Branch) → IsLive (get_or S.places i Empty) b → (r : Option Y) → LookedUp K kb vb S.tables b 8 k r
      → Answered K V kb vb S S (LookUp i k) (found (bytes_found vb r))
  looked k key_reads inside b alive r done = record {
    made = key_reads;
    account = λ a rep.
        let w = version_at a rep b alive in
        let o = is_place K V a i _ inside ∙ w.answers _ in (
          ap found (done.found rep.notes (owners S.places) [] rep.sits [] (whole w.version) refl w.is) ∙ sym (ap (λ (z : Outcome). z.answer) o),
          refused_step K V kb vb S a rep (LookUp i k) key_reads (ap (λ (z : Outcome). z.places) o),
        );
    unchanged = λ x e. refl;
  }

  pub counts : i < 64 → (b : Branch) → IsLive (get_or S.places i Empty) b → (n : ℕ) → Counted K kb vb S.tables b 8 n → Answered K V kb vb S S (Count i) (counted n)
  counts inside b alive n done = record {
    made = tt;
    account = λ a rep.
        let w = version_at a rep b alive in
        let o = is_place K V a i _ inside ∙ w.answers _ in (
          ap counted (done.number rep.notes (owners S.places) [] rep.sits [] (whole w.version) refl w.is) ∙ sym (ap (λ (z : Outcome). z.answer) o),
          refused_step K V kb vb S a rep (Count i) tt (ap (λ (z : Outcome). z.places) o),
        );
    unchanged = λ x e. refl;
  }

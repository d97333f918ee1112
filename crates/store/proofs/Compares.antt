-- Two live places compared: what the call answers, whichever account the store represents. Assumes nothing.
use Rattle.std.proofs.Common.{◌≡◌, ℕ, ◌<◌, Bool, List, [], get_or, Err, Result, IsErrAnd, sym, refl, ap, ◌∙◌}
use Rattle.kinds.specs.Kinds.{KeyKind, ValueKind}
use Rattle.kinds.specs.declared.refusal.Refusal.{Refusal}
use Rattle.model.specs.Maps.{same_map}
use Rattle.model.specs.Accounts.{Version, Account, whole}
use Rattle.model.specs.Calls.{Answer, equal, Outcome, reply, on_place, on_live, Compare}
use Rattle.model.proofs.Promises.{lawful}
use Rattle.branches.specs.declared.branch.Branch.{Branch}
use Rattle.branches.specs.Compared.{TwoParts, Compared}
use Rattle.store.specs.declared.spot.Spot.TheVariants.{Empty}
use Rattle.store.specs.Stores.{State, owners, Started, Answered}
use Rattle.store.specs.Spots.{Judged, Wanted, IsLive}
use Rattle.store.specs.Answers.{result_shown}
use Rattle.store.proofs.Judging.{is_place}
use Rattle.store.proofs.Steps.{refused_step}
use Rattle.store.proofs.Unwanted.{unplaced, unlive}
use Rattle.store.proofs.Asked.{version_at}

module _ {X Y : Type 0} (K : KeyKind) (V : ValueKind) (kb : X → List ℕ) (vb : Y → List ℕ) (S : State X Y) (i j : ℕ) where
  -- what the account says of two versions
  abbrev says : Account → Version → Version → Outcome
  says a v w = reply K V a (equal (same_map v.settings w.settings))

  -- a refusal of the call
  module _ {B : Type 0} (f : B → Answer) (r : Result B Refusal) (x : Refusal) (on : IsErrAnd r (λ y. y ≡ x)) where
    pub first_unplaced : Judged S.places i (Err x) → Answered K V kb vb S S (Compare i j) (result_shown f r)
    first_unplaced h = unplaced K V kb vb S (Compare i j) tt i f r x on _ (λ a _. refl) h

    module _ (inside : i < 64) where
      pub second_unplaced : Judged S.places j (Err x) → Answered K V kb vb S S (Compare i j) (result_shown f r)
      second_unplaced h = unplaced K V kb vb S (Compare i j) tt j f r x on _ (λ a _. is_place K V a i _ inside) h

      module _ (inside_too : j < 64) where
        pub first_unlive : Wanted IsLive 4 S.places i (Err x) → Answered K V kb vb S S (Compare i j) (result_shown f r)
        first_unlive h = unlive K V kb vb S (Compare i j) tt i f r x on (λ a v. on_live K V a j (says a v)) (λ a _. ap (on_place K V a i) (is_place K V a j _ inside_too)) h

        pub second_unlive : (b : Branch) → IsLive (get_or S.places i Empty) b → Wanted IsLive 4 S.places j (Err x) → Answered K V kb vb S S (Compare i j) (result_shown f r)
        second_unlive b alive h =
            unlive K V kb vb S (Compare i j) tt j f r x on (λ a w. on_live K V a i (λ v. says a v w))
            (λ a rep.
            let at_i = version_at K V kb vb S i a rep b alive in
            is_place K V a i _ inside ∙ ap (on_place K V a j) (at_i.answers (λ v. on_live K V a j (says a v)) ∙ ap (on_live K V a j) (λ t w. sym (at_i.answers (λ v. says a v w)) t)))
            h

  module _ (b c : Branch) (alive : IsLive (get_or S.places i Empty) b) (alive_too : IsLive (get_or S.places j Empty) c) where
    pub two_parts : Started K V kb vb S → TwoParts K kb vb S.tables b c 8
    two_parts started =
        let rep = started.1 in
        let v = version_at K V kb vb S i started.0 rep b alive in
        let w = version_at K V kb vb S j started.0 rep c alive_too in
        record {
          first = record { notes = rep.notes; roots = owners S.places; in_hand = []; sits = rep.sits; prefix = []; part = whole v.version; deep = refl; is = v.is };
          second = whole w.version;
          is = w.is;
        }

    pub compares : i < 64 → j < 64 → (r : Bool) → Compared K kb vb S.tables b c 8 r → Answered K V kb vb S S (Compare i j) (equal r)
    compares inside inside_too r done = record {
      made = tt;
      account = λ a rep.
          let v = version_at K V kb vb S i a rep b alive in
          let w = version_at K V kb vb S j a rep c alive_too in
          let o = is_place K V a i _ inside ∙ is_place K V a j _ inside_too ∙ v.answers (λ u. on_live K V a j (says a u)) ∙ w.answers (says a v.version) in (
            ap equal (done.same rep.notes (owners S.places) [] rep.sits [] (whole v.version) (whole w.version) refl v.is w.is
                (lawful K V a rep.reached i v.version v.lives).rises (lawful K V a rep.reached j w.version w.lives).rises) ∙ sym (ap (λ (z : Outcome). z.answer) o),
            refused_step K V kb vb S a rep (Compare i j) tt (ap (λ (z : Outcome). z.places) o),
          );
      unchanged = λ x e. refl;
    }

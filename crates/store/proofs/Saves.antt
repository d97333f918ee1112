-- A live place saved: what the call answers and leaves in the buffer, whichever account the store represents. Assumes nothing.
use Rattle.std.proofs.Common.{◌≡◌, ℕ, ◌<◌, ◌≤◌, Bool, true, false, cond, ltb, List, [], ◌++◌, length, take, drop, get_or, Ok, Err, Result, sym, refl, ap, ◌∙◌, subst, ap₂, arith, length-append, length-drop}
use Rattle.std.proofs.Math.Seq.{drop-append_seam, take-append_seam}
use Rattle.std.proofs.lemmas.List.{length-take-le, drop-append-le, take-append-le, take-append-drop}
use Rattle.std.proofs.lemmas.Bool.{cond-true, cond-false, lt-ltb, le-ltb}
use Rattle.kinds.specs.Kinds.{KeyKind, ValueKind}
use Rattle.kinds.specs.declared.refusal.Refusal.{Refusal}
use Rattle.kinds.specs.Refusals as refusals
use Rattle.model.specs.Images.{image}
use Rattle.model.specs.Accounts.{Account, whole}
use Rattle.model.specs.Calls.{saved, refused, Outcome, reply, refuse, Save}
use Rattle.branches.specs.declared.branch.Branch.{Branch}
use Rattle.image_writer.specs.Saved.{SavedAs, Saved}
use Rattle.store.specs.declared.spot.Spot.TheVariants.{Empty}
use Rattle.store.specs.Stores.{State, owners, Started, Answered}
use Rattle.store.specs.Spots.{IsLive}
use Rattle.store.specs.Answers.{saved_shown}
use Rattle.store.specs.Buffers.{Keeps, KeepsRest}
use Rattle.store.proofs.Judging.{is_place}
use Rattle.store.proofs.Steps.{refused_step}
use Rattle.store.proofs.Asked.{version_at}

-- what lies past the image is as it was
pub rest_kept : (xs old new : List ℕ) (r : Result ℕ Refusal) → SavedAs xs old new r → KeepsRest old new r
rest_kept xs old new (Ok n) h = record {
  within = omega (arith, h.0, h.1.0);
  long = ap length h.1.1 ∙ length-append xs (drop (length xs) old) ∙ omega (arith, length-drop (length xs) old, h.1.0);
  rest = ap₂ drop h.0 h.1.1 ∙ drop-append_seam xs (drop (length xs) old) ∙ ap (λ (k : ℕ). drop k old) (sym h.0);
}
rest_kept xs old new (Err x) h = h.1.1

-- the first bytes of a buffer are lent, and keep what they have to
module _ (room n : ℕ) (old part' : List ℕ) (fits : room ≤ length old) (kept : Keeps n (take room old) part') where
  room_long : length (take room old) ≡ room
  room_long = length-take-le room old fits

  pub keeps_lent : Keeps n old (part' ++ drop room old)
  keeps_lent = record {
    within = omega (arith, kept.within, room_long, fits);
    long = length-append part' (drop room old) ∙ omega (arith, kept.long, room_long, length-drop room old, fits);
    rest =
        drop-append-le n part' (drop room old) (omega (arith, kept.within, kept.long))
        ∙ ap (λ (l : List ℕ). l ++ drop room old) kept.rest
        ∙ sym (drop-append-le n (take room old) (drop room old) kept.within)
        ∙ ap (drop n) (take-append-drop room old);
  }

  pub taken_lent : take n (part' ++ drop room old) ≡ take n part'
  taken_lent = take-append-le n part' (drop room old) (omega (arith, kept.within, kept.long))

module _ {X Y : Type 0} (K : KeyKind) (V : ValueKind) (kb : X → List ℕ) (vb : Y → List ℕ) (S : State X Y) (i : ℕ) where
  module _ (b : Branch) (alive : IsLive (get_or S.places i Empty) b) (old new : List ℕ) (r : Result ℕ Refusal) (done : Saved K V kb vb S.tables b old new r) where
    pub save_keeps : Started K V kb vb S → KeepsRest old new r
    save_keeps started =
        let w = version_at K V kb vb S i started.0 started.1 b alive in
        rest_kept (image K V w.version.settings) old new r (done.image_is started.1.notes (owners S.places) [] started.1.sits (whole w.version) w.is)

    -- by what the save answers
    answers_so : (xs : List ℕ) (q : Result ℕ Refusal) → SavedAs xs old new q → saved_shown new q ≡ cond (ltb (length old) (length xs)) (refused (refusals.refused 12)) (saved xs)
    answers_so xs (Ok n) h =
        ap saved (ap₂ take h.0 h.1.1 ∙ take-append_seam xs (drop (length xs) old))
        ∙ sym (cond-false (ltb (length old) (length xs)) (refused (refusals.refused 12)) (saved xs) (le-ltb (length old) (length xs) h.1.0))
    answers_so xs (Err x) h = ap refused h.0 ∙ sym (cond-true (ltb (length old) (length xs)) (refused (refusals.refused 12)) (saved xs) (lt-ltb (length old) (length xs) h.1.0))

    -- the account's outcome by its parts
    outcome_so : (a : Account) (t : Bool) (xs : List ℕ) → (cond t (refuse K V a 12) (reply K V a (saved xs))).answer ≡ cond t (refused (refusals.refused 12)) (saved xs)
    outcome_so a true xs = refl
    outcome_so a false xs = refl

    places_so : (a : Account) (t : Bool) (xs : List ℕ) → (cond t (refuse K V a 12) (reply K V a (saved xs))).places ≡ a.places
    places_so a true xs = refl
    places_so a false xs = refl

    pub saves : i < 64 → Answered K V kb vb S S (Save i (length old)) (saved_shown new r)
    saves inside = record {
      made = tt;
      account = λ a rep.
          let w = version_at K V kb vb S i a rep b alive in
          let xs : List ℕ = image K V w.version.settings in
          let o = is_place K V a i _ inside ∙ w.answers _ in (
            answers_so xs r (done.image_is rep.notes (owners S.places) [] rep.sits (whole w.version) w.is) ∙ sym (ap (λ (z : Outcome). z.answer) o ∙ outcome_so a (ltb (length old) (length xs)) xs),
            refused_step K V kb vb S a rep (Save i (length old)) tt (ap (λ (z : Outcome). z.places) o ∙ places_so a (ltb (length old) (length xs)) xs),
          );
      unchanged = λ x e. refl;
    }

-- a save into the first bytes of a buffer, with its call's own number of bytes
pub save_lent :
    {X Y : Type 0} (K : KeyKind) (V : ValueKind) (kb : X → List ℕ) (vb : Y → List ℕ) (S : State X Y) (i room n : ℕ) (old part' : List ℕ) → room ≤ length old → Keeps n (take room old) part'
    → Answered K V kb vb S S (Save i (length (take room old))) (saved (take n part')) → Answered K V kb vb S S (Save i room) (saved (take n (part' ++ drop room old)))
save_lent K V kb vb S i room n old part' fits kept A =
    subst (λ (l : List ℕ). Answered K V kb vb S S (Save i room) (saved l)) (sym (taken_lent room n old part' fits kept))
    (subst (λ (k : ℕ). Answered K V kb vb S S (Save i k) (saved (take n part'))) (length-take-le room old fits) A)

-- Calls that are refused, since a place has not what is wanted of it. Assumes nothing.
use Rattle.std.proofs.Common.{◌≡◌, ℕ, List, get_or, Err, Result, IsErrAnd, ◌∙◌, ap, inl, inr}
use Rattle.kinds.specs.Kinds.{KeyKind, ValueKind}
use Rattle.kinds.specs.declared.refusal.Refusal.{Refusal}
use Rattle.model.specs.Accounts.{Account, Version}
use Rattle.model.specs.Calls.{Call, Answer, refused, Outcome, outcome, refuse, on_place, on_empty, on_draft, on_published, on_live}
use Rattle.model.specs.Runs.{Made}
use Rattle.store.specs.declared.spot.Spot.{Spot}
use Rattle.store.specs.declared.spot.Spot.TheVariants.{Empty}
use Rattle.store.specs.Stores.{State, Represents, Answered}
use Rattle.store.specs.Spots.{Judged, Wanted, IsEmpty, IsDraft, IsPublished, IsLive}
use Rattle.store.specs.Answers.{result_shown}
use Rattle.store.proofs.Judging.{no_place, is_place}
use Rattle.store.proofs.Reading.{not_empty, not_draft, not_published, not_live}
use Rattle.store.proofs.Answering.{handed_on, turned_down}

module _ {X Y : Type 0} (K : KeyKind) (V : ValueKind) (kb : X → List ℕ) (vb : Y → List ℕ) (S : State X Y) (c : Call) (made : Made K V c) (i : ℕ)
    {B : Type 0} (f : B → Answer) (r : Result B Refusal) (x : Refusal) (on : IsErrAnd r (λ y. y ≡ x)) where
  -- no place has the number
  pub unplaced : (o : Account → Outcome) → ((a : Account) → Represents K V kb vb S a → outcome K V a c ≡ on_place K V a i (o a)) → Judged S.places i (Err x) → Answered K V kb vb S S c (result_shown f r)
  unplaced o is h = turned_down K V kb vb S c 3 _ (handed_on f r x on ∙ ap refused h.1) made (λ a rep. is a rep ∙ no_place K V a i (o a) h.0)

  -- or the account refuses what stands there
  unwanted :
      {A : Type 0} (P : Spot → A → Type 0) (n : ℕ) (o : Account → Outcome) → ((a : Account) → Represents K V kb vb S a → outcome K V a c ≡ on_place K V a i (o a))
      → ((a : Account) → Represents K V kb vb S a → ((y : A) → P (get_or S.places i Empty) y → ⊥) → o a ≡ refuse K V a n)
      → Wanted P n S.places i (Err x) → Answered K V kb vb S S c (result_shown f r)
  unwanted P n o is down h =
      elim h [
        | inl w ↦ unplaced o is w
        | inr w ↦ turned_down K V kb vb S c n _ (handed_on f r x on ∙ ap refused w.1.1) made (λ a rep. is a rep ∙ is_place K V a i (o a) w.0 ∙ down a rep w.1.0)
      ]

  pub taken : (o : Account → Outcome) → ((a : Account) → Represents K V kb vb S a → outcome K V a c ≡ on_place K V a i (on_empty K V a i (o a))) → Wanted IsEmpty 5 S.places i (Err x) → Answered K V kb vb S S c (result_shown f r)
  taken o is h = unwanted IsEmpty 5 _ is (λ a rep never. not_empty K V kb vb S a rep i (o a) (never tt)) h

  pub undrafted : (o : Account → Version → Outcome) → ((a : Account) → Represents K V kb vb S a → outcome K V a c ≡ on_place K V a i (on_draft K V a i (o a))) → Wanted IsDraft 6 S.places i (Err x) → Answered K V kb vb S S c (result_shown f r)
  undrafted o is h = unwanted IsDraft 6 _ is (λ a rep never. not_draft K V kb vb S a rep i (o a) never) h

  pub unpublished : (o : Account → Version → Outcome) → ((a : Account) → Represents K V kb vb S a → outcome K V a c ≡ on_place K V a i (on_published K V a i (o a))) → Wanted IsPublished 4 S.places i (Err x) → Answered K V kb vb S S c (result_shown f r)
  unpublished o is h = unwanted IsPublished 4 _ is (λ a rep never. not_published K V kb vb S a rep i (o a) never) h

  pub unlive : (o : Account → Version → Outcome) → ((a : Account) → Represents K V kb vb S a → outcome K V a c ≡ on_place K V a i (on_live K V a i (o a))) → Wanted IsLive 4 S.places i (Err x) → Answered K V kb vb S S c (result_shown f r)
  unlive o is h = unwanted IsLive 4 _ is (λ a rep never. not_live K V kb vb S a rep i (o a) never) h

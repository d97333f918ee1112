-- What a call promises, from what the account answers. Assumes nothing.
use Rattle.std.proofs.Common.{◌≡◌, ℕ, List, get_or, Ok, Err, Result, IsErrAnd, sym, refl, ap, ◌∙◌, subst, arith}
use Rattle.kinds.specs.Kinds.{KeyKind, ValueKind}
use Rattle.kinds.specs.declared.refusal.Refusal.{Refusal}
use Rattle.kinds.specs.Refusals as refusals
use Rattle.kinds.specs.Refusals.{Refused, shown}
use Rattle.model.specs.Accounts.{Account}
use Rattle.model.specs.Calls.{Call, Answer, done, spare, refused, Outcome, Free, outcome, after, refuse}
use Rattle.model.specs.Runs.{Made}
use Rattle.model.proofs.Runs.Steps.{done_accepts}
use Rattle.store.specs.Stores.{State, Represents, Started, Answered}
use Rattle.branches.specs.declared.branch.Branch.{Branch}
use Rattle.store.specs.declared.spot.Spot.{Spot}
use Rattle.store.specs.declared.spot.Spot.TheVariants.{Empty}
use Rattle.store.specs.Spots.{IsLive}
use Rattle.store.specs.Answers.{result_shown}
use Rattle.store.proofs.Steps.{refused_step}
use Rattle.store.proofs.Free.{free_is}

-- done is no refusal
-- a refusal that is handed on
pub handed_on : {A : Type 0} (f : A → Answer) (r : Result A Refusal) (x : Refusal) → IsErrAnd r (λ y. y ≡ x) → result_shown f r ≡ refused (shown x)
handed_on f (Ok y) x e = absurd e
handed_on f (Err y) x e = ap (λ (z : Refusal). refused (shown z)) e

module _ {X Y : Type 0} (K : KeyKind) (V : ValueKind) (kb : X → List ℕ) (vb : Y → List ℕ) (S : State X Y) where
  -- a call that the account refuses
  pub turned_down :
      (c : Call) (n : ℕ) (r : Answer) → r ≡ refused (refusals.refused n) → Made K V c
      → ((a : Account) → Represents K V kb vb S a → outcome K V a c ≡ refuse K V a n) → Answered K V kb vb S S c r
  turned_down c n r e made same = record {
    made = made;
    account = λ a rep. (e ∙ sym (ap (λ (o : Outcome). o.answer) (same a rep)), refused_step K V kb vb S a rep c made (ap (λ (o : Outcome). o.places) (same a rep)));
    unchanged = λ x e. refl;
  }

  -- a call that the account does
  pub done_with :
      (S' : State X Y) (c : Call) → Made K V c → ((a : Account) → Represents K V kb vb S a → (done ≡ (outcome K V a c).answer) × Represents K V kb vb S' (after K V a c))
      → Answered K V kb vb S S' c done
  done_with S' c made account = record { made = made; account = account; unchanged = λ x e. absurd (done_accepts x e) }

  -- what is free
  pub free_answered : Answered K V kb vb S S Free (spare S.tables.spare S.tables.entry_spare)
  free_answered = record {
    made = tt;
    account = λ a rep. let f = free_is K V kb vb S a rep in (cc, refused_step K V kb vb S a rep Free tt refl);
    unchanged = λ x e. refl;
  }

-- after a call the next one may come
pub still_started :
    {X Y : Type 0} {K : KeyKind} {V : ValueKind} {kb : X → List ℕ} {vb : Y → List ℕ} {S S' : State X Y} {c : Call} {r : Answer}
    → Started K V kb vb S → Answered K V kb vb S S' c r → Started K V kb vb S'
still_started {K = K} {V = V} {c = c} started answered = (after K V started.0 c, (answered.account started.0 started.1).1)

-- ---- a store, and what it has inside

pub spot_inside : {X Y : Type 0} {S T : State X Y} {s : Spot} (i : ℕ) → T ≡ S → get_or S.places i Empty ≡ s → get_or T.places i Empty ≡ s
spot_inside i e h = ap (λ (Z : State _ _). get_or Z.places i Empty) e ∙ h

pub live_inside : {X Y : Type 0} {S T : State X Y} {b : Branch} (i : ℕ) → T ≡ S → IsLive (get_or S.places i Empty) b → IsLive (get_or T.places i Empty) b
live_inside {b = b} i e h = subst (λ (Z : State _ _). IsLive (get_or Z.places i Empty) b) (sym e) h

pub answered_inside :
    {X Y : Type 0} {K : KeyKind} {V : ValueKind} {kb : X → List ℕ} {vb : Y → List ℕ} {S T S' : State X Y} {c : Call} {r : Answer}
    → T ≡ S → Answered K V kb vb T S' c r → Answered K V kb vb S S' c r
answered_inside {K = K} {V = V} {kb = kb} {vb = vb} {S' = S'} {c = c} {r = r} e h = subst (λ (Z : State _ _). Answered K V kb vb Z S' c r) e h

pub asked_inside :
    {X Y : Type 0} {K : KeyKind} {V : ValueKind} {kb : X → List ℕ} {vb : Y → List ℕ} {S T : State X Y} {c : Call} {r : Answer}
    → T ≡ S → Answered K V kb vb T T c r → Answered K V kb vb S S c r
asked_inside {K = K} {V = V} {kb = kb} {vb = vb} {c = c} {r = r} e h = subst (λ (Z : State _ _). Answered K V kb vb Z Z c r) e h

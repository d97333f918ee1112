-- Where there is space for all answers and for all that saves are lent, every call of a list is made. Assumes nothing.
use Rattle.std.proofs.Common.{◌≡◌, ℕ, zero, suc, ◌+◌, ◌-◌, ◌≤◌, Bool, true, false, cond, ltb, leb, Some, None, List, [], ◌∷◌, length, sym, refl, ap, ◌∙◌, arith}
use Rattle.std.proofs.lemmas.Bool.{cond-true, le-leb, ltb-false}
use Rattle.kinds.specs.Kinds.{KeyKind, ValueKind}
use Rattle.kinds.specs.Refusals as refusals
use Rattle.model.specs.Images.{image}
use Rattle.model.specs.Maps.{Map, put, remove, union, merge}
use Rattle.model.specs.Reading.{judge, accepted, Verdict}
use Rattle.model.specs.Reading as reading
use Rattle.model.specs.Sharing.{Shared}
use Rattle.model.specs.Accounts.{Version, Place, draft, published, Account}
use Rattle.model.specs.Calls as model
use Rattle.model.specs.Calls.{Outcome, refuse, reply, result, now, version, both_names, outcome, after}
use Rattle.model.proofs.Runs.Steps.{past_place, past_live, past_published, past_empty, past_draft, past_uncrowded, past_result}
use Rattle.store.specs.declared.calls.Call.TheVariants.{Open, OpenFrom, Put, Remove, Union, Merge, Publish, Abandon, Retire, Load, LookUp, Count, Compare, Save, Free}
use Rattle.store.specs.Answers.{LentCall, call_shown}
use Rattle.store.specs.Buffers.{capacity_of, all_capacity, saved_bytes, made}

module _ (K : KeyKind) (V : ValueKind) (a : Account) where
  -- an outcome that answers an image of at most n bytes, if any
  record Within (n : ℕ) (o : Outcome) : Type 0 where
    few : saved_bytes o.answer ≤ n

  refusal : (k n : ℕ) → Within k (refuse K V a n)
  refusal k n = record { few = omega arith }

  took_none : (n : ℕ) (i : ℕ) (vs : List Version) (m : Map) (f : Shared → Place) → Within n (result K V a i vs m f)
  took_none n i vs m f = past_result K V a (Within n) (refusal n) i vs m f (λ s x y z. record { few = omega arith })

  save_within : (n i : ℕ) → Within n (outcome K V a (model.Save i n))
  save_within n i = past_place K V a (Within n) (refusal n) i _ (past_live K V a (Within n) (refusal n) i _ λ v. go (image K V v.settings) (ltb n (length (image K V v.settings))) refl)
    where
      go : (bytes : List ℕ) (b : Bool) → ltb n (length bytes) ≡ b → Within n (cond b (refuse K V a 12) (reply K V a (model.saved bytes)))
      go bytes true e = record { few = omega arith }
      go bytes false e = record { few = ltb-false n (length bytes) e }

  load_within : (i : ℕ) (j : Verdict) → Within 0 (elim j [
    | accepted m ↦ result K V a i [] m (λ s. published (version K V a m (Some (now K V a ∷ [])) s))
    | reading.refused n o ↦ reply K V a (model.refused (refusals.refused_at n o))
  ])
  load_within i (accepted m) = took_none 0 i [] m (λ s. published (version K V a m (Some (now K V a ∷ [])) s))
  load_within i (reading.refused n o) = record { few = omega arith }

  module _ {X Y : Type 0} (kb : X → List ℕ) (vb : Y → List ℕ) where
    -- a call answers no more bytes than it is lent
    answers_within : (c : LentCall X Y) → Within (capacity_of c) (outcome K V a (call_shown kb vb c))
    answers_within (Open i) = past_place K V a (Within 0) (refusal 0) i _ (past_empty K V a (Within 0) (refusal 0) i _ (record { few = omega arith }))
    answers_within (OpenFrom i j) =
        past_place K V a (Within 0) (refusal 0) i _ (past_place K V a (Within 0) (refusal 0) j _ (past_published K V a (Within 0) (refusal 0) j _ λ v e. past_empty K V a (Within 0) (refusal 0) i _ (record { few = omega arith })))
    answers_within (Put i k v) = past_place K V a (Within 0) (refusal 0) i _ (past_draft K V a (Within 0) (refusal 0) i _ λ d e. let m : Map = put K d.settings (kb k) (vb v) in past_uncrowded K V a (Within 0) (refusal 0) m _ λ u. took_none 0 i (d ∷ []) m (λ s. draft (version K V a m None s)))
    answers_within (Remove i k) = past_place K V a (Within 0) (refusal 0) i _ (past_draft K V a (Within 0) (refusal 0) i _ λ d e. let m : Map = remove K d.settings (kb k) in took_none 0 i (d ∷ []) m (λ s. draft (version K V a m None s)))
    answers_within (Union i j) =
        past_place K V a (Within 0) (refusal 0) i _ (past_place K V a (Within 0) (refusal 0) j _ (past_published K V a (Within 0) (refusal 0) j _ λ o f. past_draft K V a (Within 0) (refusal 0) i _ λ d e.
        let m : Map = union K V d.settings o.settings in
        past_uncrowded K V a (Within 0) (refusal 0) m _ λ u. took_none 0 i (d ∷ (o ∷ [])) m (λ s. draft (version K V a m (both_names K V a d.names o.names) s))))
    answers_within (Merge i b t) =
        past_place K V a (Within 0) (refusal 0) i _ (past_place K V a (Within 0) (refusal 0) b _ (past_place K V a (Within 0) (refusal 0) t _ (past_published K V a (Within 0) (refusal 0) b _ λ base f.
        past_published K V a (Within 0) (refusal 0) t _ λ theirs g. past_draft K V a (Within 0) (refusal 0) i _ λ d e. let m : Map = merge K V d.settings base.settings theirs.settings in
        past_uncrowded K V a (Within 0) (refusal 0) m _ λ u. took_none 0 i (d ∷ (theirs ∷ [])) m (λ s. draft (version K V a m None s)))))
    answers_within (Publish i) = past_place K V a (Within 0) (refusal 0) i _ (past_draft K V a (Within 0) (refusal 0) i _ λ d e. record { few = omega arith })
    answers_within (Abandon i) = past_place K V a (Within 0) (refusal 0) i _ (past_draft K V a (Within 0) (refusal 0) i _ λ d e. record { few = omega arith })
    answers_within (Retire i) = past_place K V a (Within 0) (refusal 0) i _ (past_published K V a (Within 0) (refusal 0) i _ λ v e. record { few = omega arith })
    answers_within (Load i bs) = past_place K V a (Within 0) (refusal 0) i _ (past_empty K V a (Within 0) (refusal 0) i _ (load_within i (judge K V bs.now)))
    answers_within (LookUp i k) = past_place K V a (Within 0) (refusal 0) i _ (past_live K V a (Within 0) (refusal 0) i _ λ v. record { few = omega arith })
    answers_within (Count i) = past_place K V a (Within 0) (refusal 0) i _ (past_live K V a (Within 0) (refusal 0) i _ λ v. record { few = omega arith })
    answers_within (Compare i j) =
        past_place K V a (Within 0) (refusal 0) i _ (past_place K V a (Within 0) (refusal 0) j _ (past_live K V a (Within 0) (refusal 0) i _ λ v. past_live K V a (Within 0) (refusal 0) j _ λ w. record { few = omega arith }))
    answers_within (Save i n) = save_within n i
    answers_within Free = record { few = omega arith }

module _ {X Y : Type 0} (K : KeyKind) (V : ValueKind) (kb : X → List ℕ) (vb : Y → List ℕ) where
  pub all_made : (a : Account) (calls : List (LentCall X Y)) (k left : ℕ) → length calls ≤ k → all_capacity calls ≤ left → made K V kb vb a calls k left ≡ length calls
  all_made a [] k left h f = refl
  all_made a (c ∷ cs) zero left h f = absurd (omega arith)
  all_made a (c ∷ cs) (suc k) left h f =
      let w = answers_within K V a kb vb c in
      cond-true (leb (capacity_of c) left) _ 0 (le-leb (capacity_of c) left (omega arith))
      ∙ ap suc (all_made (after K V a (call_shown kb vb c)) cs k (left - saved_bytes (outcome K V a (call_shown kb vb c)).answer) (omega arith) (omega (arith, w.few)))

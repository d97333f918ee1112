-- Calls and answers as the account has them: keys and values by their bytes. Assumes nothing.
use Rattle.std.specs.Prelude.{ℕ, Bool, List, take, Ok, Err, Option, Result}
use Rattle.std.specs.Borrow.{Bor}
use Rattle.kinds.specs.declared.refusal.Refusal.{Refusal}
use Rattle.kinds.specs.Refusals.{shown}
use Rattle.model.specs.Calls as model
use Rattle.branches.specs.Asked.{bytes_found}
use Rattle.store.specs.declared.calls.Call.{Call}
use Rattle.store.specs.declared.calls.Call.TheVariants.{Open, OpenFrom, Put, Remove, Union, Merge, Publish, Abandon, Retire, Load, LookUp, Count, Compare, Save, Free}
use Rattle.store.specs.declared.calls.Answer.{Answer}
use Rattle.store.specs.declared.calls.Answer.TheVariants.{Done, Took, Found, Counted, Equal, Saved, Spare, Refused}

-- a call that is lent its image, if it has one
abbrev pub LentCall : Type 0 → Type 0 → Type 0
LentCall X Y = Call (Bor (List ℕ)) X Y

abbrev pub call_shown : {X Y : Type 0} → (X → List ℕ) → (Y → List ℕ) → LentCall X Y → model.Call
call_shown kb vb (Open p) = model.Open p
call_shown kb vb (OpenFrom p q) = model.OpenFrom p q
call_shown kb vb (Put p k v) = model.Put p (kb k) (vb v)
call_shown kb vb (Remove p k) = model.Remove p (kb k)
call_shown kb vb (Union p q) = model.Union p q
call_shown kb vb (Merge p b t) = model.Merge p b t
call_shown kb vb (Publish p) = model.Publish p
call_shown kb vb (Abandon p) = model.Abandon p
call_shown kb vb (Retire p) = model.Retire p
call_shown kb vb (Load p bs) = model.Load p bs.now
call_shown kb vb (LookUp p k) = model.LookUp p (kb k)
call_shown kb vb (Count p) = model.Count p
call_shown kb vb (Compare p q) = model.Compare p q
call_shown kb vb (Save p n) = model.Save p n
call_shown kb vb Free = model.Free

-- an image that was saved stands in the buffer bs from its first byte on
abbrev pub answer_shown : {Y : Type 0} → (Y → List ℕ) → List ℕ → Answer Y → model.Answer
answer_shown vb bs Done = model.done
answer_shown vb bs (Took n e) = model.took n e
answer_shown vb bs (Found o) = model.found (bytes_found vb o)
answer_shown vb bs (Counted n) = model.counted n
answer_shown vb bs (Equal b) = model.equal b
answer_shown vb bs (Saved n) = model.saved (take n bs)
answer_shown vb bs (Spare n e) = model.spare n e
answer_shown vb bs (Refused x) = model.refused (shown x)

-- ---- what each call's own result answers

-- what was done, as f has it, or the refusal
abbrev pub result_shown : {A : Type 0} → (A → model.Answer) → Result A Refusal → model.Answer
result_shown f (Ok x) = f x
result_shown f (Err x) = model.refused (shown x)

abbrev pub done_shown : Result Unit Refusal → model.Answer
done_shown = result_shown (λ u. model.done)

abbrev pub took_shown : Result (ℕ × ℕ) Refusal → model.Answer
took_shown = result_shown (λ t. model.took t.0 t.1)

abbrev pub found_shown : {Y : Type 0} → (Y → List ℕ) → Result (Option Y) Refusal → model.Answer
found_shown vb = result_shown (λ o. model.found (bytes_found vb o))

abbrev pub counted_shown : Result ℕ Refusal → model.Answer
counted_shown = result_shown (λ n. model.counted n)

abbrev pub compared_shown : Result Bool Refusal → model.Answer
compared_shown = result_shown (λ b. model.equal b)

abbrev pub saved_shown : List ℕ → Result ℕ Refusal → model.Answer
saved_shown bs = result_shown (λ n. model.saved (take n bs))

-- The buffer that images are saved into. Assumes nothing.
use Rattle.std.specs.Prelude.{◌≡◌, ℕ, zero, suc, ◌+◌, ◌-◌, ◌≤◌, cond, List, [], ◌∷◌, length, drop, Ok, Err, Result, nat_le}
use Rattle.kinds.specs.Kinds.{KeyKind, ValueKind}
use Rattle.kinds.specs.declared.refusal.Refusal.{Refusal}
use Rattle.model.specs.Accounts.{Account}
use Rattle.model.specs.Calls as model
use Rattle.store.specs.declared.calls.Call.{Call}
use Rattle.store.specs.declared.calls.Call.TheVariants.{Open, OpenFrom, Put, Remove, Union, Merge, Publish, Abandon, Retire, Load, LookUp, Count, Compare, Save, Free}
use Rattle.store.specs.declared.calls.Answer.{Answer}
use Rattle.store.specs.declared.calls.Answer.TheVariants.{Done, Took, Found, Counted, Equal, Saved, Spare, Refused}
use Rattle.store.specs.Answers.{LentCall, call_shown, answer_shown}

-- so many bytes were written at most, from the first on: the buffer is as long as it was, and what lies past them is as it was
pub record Keeps (n : ℕ) (old new : List ℕ) : Type 0 where
  pub within : n ≤ length old
  pub long : length new ≡ length old
  pub rest : drop n new ≡ drop n old

-- a save that answers a length keeps what lies past that; a refused one keeps all
abbrev pub KeepsRest : List ℕ → List ℕ → Result ℕ Refusal → Type 0
KeepsRest old new (Ok n) = Keeps n old new
KeepsRest old new (Err x) = new ≡ old

-- how many bytes of the buffer a call is lent
abbrev pub capacity_of : {I X Y : Type 0} → Call I X Y → ℕ
capacity_of (Open p) = 0
capacity_of (OpenFrom p q) = 0
capacity_of (Put p k v) = 0
capacity_of (Remove p k) = 0
capacity_of (Union p q) = 0
capacity_of (Merge p b t) = 0
capacity_of (Publish p) = 0
capacity_of (Abandon p) = 0
capacity_of (Retire p) = 0
capacity_of (Load p bs) = 0
capacity_of (LookUp p k) = 0
capacity_of (Count p) = 0
capacity_of (Compare p q) = 0
capacity_of (Save p n) = n
capacity_of Free = 0

-- how many bytes an answer tells of
abbrev pub written : {Y : Type 0} → Answer Y → ℕ
written Done = 0
written (Took n e) = 0
written (Found o) = 0
written (Counted n) = 0
written (Equal b) = 0
written (Saved n) = n
written (Spare n e) = 0
written (Refused x) = 0

abbrev pub result_written : {Y : Type 0} → Result (Answer Y) Refusal → ℕ
result_written (Ok r) = written r
result_written (Err x) = 0

-- ---- several images, one after another

-- answers as the account has them; the images that were saved stand in the buffer one after another
abbrev pub answers_shown : {Y : Type 0} → (Y → List ℕ) → List ℕ → List (Answer Y) → List model.Answer
answers_shown vb bs [] = []
answers_shown vb bs (r ∷ rs) = answer_shown vb bs r ∷ answers_shown vb (drop (written r) bs) rs

-- how many bytes they tell of
abbrev pub all_written : {Y : Type 0} → List (Answer Y) → ℕ
all_written [] = 0
all_written (r ∷ rs) = written r + all_written rs

-- how long an image is that the account answers
abbrev pub saved_bytes : model.Answer → ℕ
saved_bytes model.done = 0
saved_bytes (model.took n e) = 0
saved_bytes (model.found o) = 0
saved_bytes (model.counted n) = 0
saved_bytes (model.equal b) = 0
saved_bytes (model.saved bs) = length bs
saved_bytes (model.spare n e) = 0
saved_bytes (model.refused x) = 0

-- how many bytes the calls of a list are lent
abbrev pub all_capacity : {I X Y : Type 0} → List (Call I X Y) → ℕ
all_capacity [] = 0
all_capacity (c ∷ cs) = capacity_of c + all_capacity cs

-- how many calls of a list an account makes, where there is space for so many answers, and so many bytes of the buffer are left: each in turn, up to one that wants an answer or bytes more
abbrev pub made : {X Y : Type 0} → KeyKind → ValueKind → (X → List ℕ) → (Y → List ℕ) → Account → List (LentCall X Y) → ℕ → ℕ → ℕ
made K V kb vb a [] k left = 0
made K V kb vb a (c ∷ cs) zero left = 0
made K V kb vb a (c ∷ cs) (suc k) left =
    let m : model.Call = call_shown kb vb c in
    cond (nat_le (capacity_of c) left) (suc (made K V kb vb (model.after K V a m) cs k (left - saved_bytes (model.outcome K V a m).answer))) 0

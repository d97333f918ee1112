-- What the calls on drafts answer, and the drafts that they hand out. Assumes nothing.
use Rattle.std.specs.Prelude.{◌≡◌, ℕ, Ok, Err, Result}
use Rattle.kinds.specs.declared.refusal.Refusal.{Refusal}
use Rattle.kinds.specs.Refusals.{shown}
use Rattle.model.specs.Calls.{Answer, done, refused}
use Rattle.store.specs.declared.draft.Draft.{Draft}
use Rattle.store.specs.Answers.{result_shown}

-- a call that opens a draft
abbrev pub opened_shown : Result Draft Refusal → Answer
opened_shown = result_shown (λ d. done)

-- an opened draft has the number of its place
abbrev pub Numbered : ℕ → Result Draft Refusal → Type 0
Numbered i (Ok d) = d ≡ i
Numbered i (Err x) = Unit {0}

-- a call that takes a draft
abbrev pub taken_shown : Result Unit (Draft × Refusal) → Answer
taken_shown (Ok u) = done
taken_shown (Err e) = refused (shown e.1)

-- where it is refused, the draft comes back
abbrev pub ComesBack : Draft → Result Unit (Draft × Refusal) → Type 0
ComesBack d (Ok u) = Unit {0}
ComesBack d (Err e) = e.0 ≡ d

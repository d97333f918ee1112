-- What the marks of places tell of a store's account. Assumes nothing.
use Rattle.std.specs.Prelude.{◌≡◌, ℕ, List, map}
use Rattle.kinds.specs.Kinds.{KeyKind, ValueKind}
use Rattle.model.specs.Accounts.{Place, Account}
use Rattle.model.specs.Accounts as model
use Rattle.model.specs.Calls.{outcome, after}
use Rattle.store.specs.declared.calls.Answer.{Answer}
use Rattle.store.specs.Answers.{LentCall, call_shown, answer_shown}
use Rattle.sovindrate.specs.declared.marks.Mark.{Mark}
use Rattle.sovindrate.specs.declared.marks.Mark.TheVariants.{Empty, Draft, Published}

-- what stands at a place of an account
abbrev pub mark_of : Place → Mark
mark_of model.empty = Empty
mark_of (model.draft v) = Draft
mark_of (model.published v) = Published

-- of each place what stands there
abbrev pub Tell : List Mark → Account → Type 0
Tell marks a = marks ≡ map mark_of a.places

-- marks were old and are now new: whichever account they told of, they tell of it after a call that it answers so, an image standing in the buffer bs
abbrev pub Follow : {X Y : Type 0} → KeyKind → ValueKind → (X → List ℕ) → (Y → List ℕ) → List Mark → List Mark → LentCall X Y → Answer Y → Type 0
Follow K V kb vb old new c r =
    (a : Account) (bs : List ℕ) → Tell old a → answer_shown vb bs r ≡ (outcome K V a (call_shown kb vb c)).answer → Tell new (after K V a (call_shown kb vb c))

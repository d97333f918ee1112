-- One more call of a list: the account after it, the answers and images so far, and what the store stands for. Assumes nothing.
use Rattle.std.proofs.Common.{◌≡◌, ℕ, suc, ◌+◌, ◌-◌, ◌<◌, ◌≤◌, leb, List, [], ◌∷◌, ◌++◌, map, length, get_or, take, drop, set, sym, refl, ap, ◌∙◌, subst, ap₂, arith, length-set, length-append, length-drop}
use Rattle.std.proofs.Math.Seq.{drop-append_seam, drop-cons, drop-length}
use Rattle.std.proofs.Math.ListN.{drop_of_length-le}
use Rattle.std.proofs.lemmas.List.{append-nil, take_more, take_more_set, drop-set-lt, drop-drop, drop-take, take_rest, map_push, length-take-le, take-append-le, drop-append-le, take-append-drop, length-take-le}
use Rattle.std.proofs.lemmas.Bool.{cond-true, cond-false, le-leb, lt-leb}
use Rattle.kinds.specs.Kinds.{KeyKind, ValueKind}
use Rattle.model.specs.Accounts.{Account}
use Rattle.model.specs.Calls as model
use Rattle.model.specs.Calls.{outcome, after, run, answers}
use Rattle.store.specs.declared.calls.Call.{Call}
use Rattle.store.specs.declared.calls.Answer.{Answer}
use Rattle.store.specs.declared.calls.Answer.TheVariants.{Done, Took, Found, Counted, Equal, Saved, Spare, Refused}
use Rattle.store.specs.Stores.{State, Represents, Answered}
use Rattle.store.specs.Answers.{LentCall, call_shown, answer_shown}
use Rattle.store.specs.Buffers.{Keeps, capacity_of, written, answers_shown, all_written, saved_bytes, made}
use Rattle.store.specs.Runs.{first_calls, Steps, MadeCalls}

-- ---- the account

module _ (K : KeyKind) (V : ValueKind) where
  -- the account after one call more
  pub run_more : (a : Account) (cs : List model.Call) (c : model.Call) → run K V a (cs ++ (c ∷ [])) ≡ after K V (run K V a cs) c
  run_more a [] c = refl
  run_more a (d ∷ ds) c = run_more (after K V a d) ds c

  -- and what it answers
  pub answers_more : (a : Account) (cs : List model.Call) (c : model.Call) → answers K V a (cs ++ (c ∷ [])) ≡ answers K V a cs ++ ((outcome K V (run K V a cs) c).answer ∷ [])
  answers_more a [] c = refl
  answers_more a (d ∷ ds) c = ap (λ (l : List model.Answer). (outcome K V a d).answer ∷ l) (answers_more (after K V a d) ds c)

-- ---- answers and the bytes that they tell of

module _ {Y : Type 0} (vb : Y → List ℕ) where
  -- an answer tells of no byte past those that it says
  shown_by_front : (bs cs : List ℕ) (r : Answer Y) → take (written r) bs ≡ take (written r) cs → answer_shown vb bs r ≡ answer_shown vb cs r
  shown_by_front bs cs Done e = refl
  shown_by_front bs cs (Took n x) e = refl
  shown_by_front bs cs (Found o) e = refl
  shown_by_front bs cs (Counted n) e = refl
  shown_by_front bs cs (Equal b) e = refl
  shown_by_front bs cs (Saved n) e = ap model.saved e
  shown_by_front bs cs (Spare n x) e = refl
  shown_by_front bs cs (Refused x) e = refl

  -- nor do several
  pub all_by_front : (rs : List (Answer Y)) (k : ℕ) (bs more : List ℕ) → all_written rs ≤ k → k ≤ length bs → answers_shown vb (take k bs ++ more) rs ≡ answers_shown vb bs rs
  all_by_front [] k bs more f g = refl
  all_by_front (r ∷ rs) k bs more f g =
      let n : ℕ = written r in
      let small : n ≤ k = omega arith in
      let long : length (take k bs) ≡ k = length-take-le k bs g in
      let front : take n (take k bs ++ more) ≡ take n bs = take-append-le n (take k bs) more (omega (arith, long)) ∙ sym (take-append-le n (take k bs) (drop k bs) (omega (arith, long))) ∙ ap (take n) (take-append-drop k bs) in
      let rest : drop n (take k bs ++ more) ≡ take (k - n) (drop n bs) ++ more = drop-append-le n (take k bs) more (omega (arith, long)) ∙ ap (λ (l : List ℕ). l ++ more) (drop_take n k bs small) in
      ap₂ (λ (x : model.Answer) (l : List model.Answer). x ∷ l) (shown_by_front (take k bs ++ more) bs r front)
      (ap (λ (l : List ℕ). answers_shown vb l rs) rest ∙ all_by_front rs (k - n) (drop n bs) more (omega arith) (omega (arith, length-drop n bs)))
    where
      drop_take : (n k : ℕ) (l : List ℕ) → n ≤ k → drop n (take k l) ≡ take (k - n) (drop n l)
      drop_take n k l f = ap (λ (i : ℕ). drop n (take i l)) (let z : k ≡ n + (k - n) = omega arith in z) ∙ drop-take n (k - n) l

  -- one answer more
  pub shown_more : (bs : List ℕ) (rs : List (Answer Y)) (r : Answer Y) → answers_shown vb bs (rs ++ (r ∷ [])) ≡ answers_shown vb bs rs ++ (answer_shown vb (drop (all_written rs) bs) r ∷ [])
  shown_more bs [] r = refl
  shown_more bs (s ∷ rs) r = ap (λ (l : List model.Answer). answer_shown vb bs s ∷ l) (shown_more (drop (written s) bs) rs r ∙ ap (λ (l : List ℕ). answers_shown vb (drop (written s) bs) rs ++ (answer_shown vb l r ∷ [])) (drop_on (written s) (all_written rs) bs))
    where
      drop_on : (n k : ℕ) (l : List ℕ) → drop k (drop n l) ≡ drop (n + k) l
      drop_on n k l = drop-drop k n l

  written_more : (rs : List (Answer Y)) (r : Answer Y) → all_written (rs ++ (r ∷ [])) ≡ all_written rs + written r
  written_more [] r = omega arith
  written_more (s ∷ rs) r = omega (arith, written_more rs r)

  -- the account's image is as long as the answer says
  as_long : (bs : List ℕ) (r : Answer Y) → written r ≤ length bs → saved_bytes (answer_shown vb bs r) ≡ written r
  as_long bs Done f = refl
  as_long bs (Took n x) f = refl
  as_long bs (Found o) f = refl
  as_long bs (Counted n) f = refl
  as_long bs (Equal b) f = refl
  as_long bs (Saved n) f = length-take-le n bs f
  as_long bs (Spare n x) f = refl
  as_long bs (Refused x) f = refl

-- ---- one call more

-- one step more
steps_more :
    {X Y : Type 0} (K : KeyKind) (V : ValueKind) (kb : X → List ℕ) (vb : Y → List ℕ) (S T U : State X Y) (cs : List model.Call) (rs : List model.Answer) (c : model.Call) (r : model.Answer)
    → Steps K V kb vb S cs rs T → Answered K V kb vb T U c r → Steps K V kb vb S (cs ++ (c ∷ [])) (rs ++ (r ∷ [])) U
steps_more K V kb vb S T U [] [] c r s A = (U, (subst (λ (Z : State _ _). Answered K V kb vb Z U c r) (sym s) A, refl))
steps_more K V kb vb S T U [] (q ∷ rs) c r s A = absurd s
steps_more K V kb vb S T U (d ∷ cs) [] c r s A = absurd s
steps_more K V kb vb S T U (d ∷ cs) (q ∷ rs) c r s A = (s.0, (s.1.0, steps_more K V kb vb s.0 T U cs rs c r s.1.1 A))

module _ {X Y : Type 0} (K : KeyKind) (V : ValueKind) (kb : X → List ℕ) (vb : Y → List ℕ) where
  -- the calls so far, with one more
  first_more : (calls : List (LentCall X Y)) (n : ℕ) (c : LentCall X Y) → n < length calls → c ≡ get_or calls n c → first_calls K V kb vb (n + 1) calls ≡ first_calls K V kb vb n calls ++ (call_shown kb vb c ∷ [])
  first_more calls n c h e =
      ap (map (call_shown kb vb)) (take_more calls n c h ∙ ap (λ (d : LentCall X Y). take n calls ++ (d ∷ [])) (sym e)) ∙ map_push (call_shown kb vb) (take n calls) c

  -- the first n of the calls are made, and so many bytes are written; of what is left, the account makes as many as it would after them
  pub record MadeTo (S S' : State X Y) (calls : List (LentCall X Y)) (old new : List (Answer Y)) (out out' : List ℕ) (n at : ℕ) : Type 0 where
    pub account : (a : Account) → Represents K V kb vb S a →
        (answers_shown vb out' (take n new) ≡ answers K V a (first_calls K V kb vb n calls)) × Represents K V kb vb S' (run K V a (first_calls K V kb vb n calls))
    pub steps : Steps K V kb vb S (first_calls K V kb vb n calls) (answers_shown vb out' (take n new)) S'
    pub many : (a : Account) → Represents K V kb vb S a →
        made K V kb vb a calls (length old) (length out) ≡ n + made K V kb vb (run K V a (first_calls K V kb vb n calls)) (drop n calls) (length old - n) (length out - at)
    pub within : n ≤ length old
    pub long : length new ≡ length old
    pub kept : drop n new ≡ drop n old
    pub at_is : at ≡ all_written (take n new)
    pub buffer : Keeps at out out'

  pub none_made : (S : State X Y) (calls : List (LentCall X Y)) (old : List (Answer Y)) (out : List ℕ) → MadeTo S S calls old old out out 0 0
  none_made S calls old out = record {
    account = λ a s. (refl, s);
    steps = refl;
    many = λ a s. let z : made K V kb vb a calls (length old) (length out) ≡ 0 + made K V kb vb a calls (length old - 0) (length out - 0) = ap₂ (λ (k l : ℕ). made K V kb vb a calls k l) (let y : length old ≡ length old - 0 = omega arith in y) (let y : length out ≡ length out - 0 = omega arith in y) ∙ omega arith in z;
    within = omega arith;
    long = refl;
    kept = refl;
    at_is = refl;
    buffer = record { within = omega arith; long = refl; rest = refl };
  }

  module _ (S S' : State X Y) (calls : List (LentCall X Y)) (old new : List (Answer Y)) (out out' : List ℕ) (n at : ℕ) (M : MadeTo S S' calls old new out out' n at) where
    -- the loop stops there
    pub made_calls : ((a : Account) → Represents K V kb vb S a → made K V kb vb (run K V a (first_calls K V kb vb n calls)) (drop n calls) (length old - n) (length out - at) ≡ 0) → MadeCalls K V kb vb S S' calls old new out out' n
    made_calls stops = record {
      as_many = λ a s. omega (arith, M.many a s, stops a s);
      answered = λ a s. (M.account a s).0;
      account = λ a s. (M.account a s).1;
      steps = M.steps;
      wrote = record { long = M.long; kept = M.kept; buffer = subst (λ (i : ℕ). Keeps i out out') M.at_is M.buffer };
    }

    -- no call is left
    pub made_all : n ≡ length calls → MadeCalls K V kb vb S S' calls old new out out' (length calls)
    made_all e = subst (MadeCalls K V kb vb S S' calls old new out out') e (made_calls (λ a s. ap (λ (l : List (LentCall X Y)). made K V kb vb (run K V a (first_calls K V kb vb n calls)) l (length old - n) (length out - at)) (ap (λ (i : ℕ). drop i calls) e ∙ drop-length calls)))

    module _ (c : LentCall X Y) (inside : n < length calls) (here : c ≡ get_or calls n c) where
      left : drop n calls ≡ c ∷ drop (n + 1) calls
      left = drop-cons calls n c inside ∙ ap₂ (λ (d : LentCall X Y) (l : List (LentCall X Y)). d ∷ l) (sym here) (ap (λ (i : ℕ). drop i calls) (let z : suc n ≡ n + 1 = omega arith in z))

      -- no answer has room
      pub made_out : n ≡ length old → MadeCalls K V kb vb S S' calls old new out out' n
      made_out e = made_calls (λ a s.
          ap₂ (λ (l : List (LentCall X Y)) (k : ℕ). made K V kb vb (run K V a (first_calls K V kb vb n calls)) l k (length out - at)) left (let z : length old - n ≡ 0 = omega (arith, e) in z))

      -- the buffer has not so many bytes left
      pub made_full : n < length old → (length out - at) < capacity_of c → MadeCalls K V kb vb S S' calls old new out out' n
      made_full f g = made_calls (λ a s.
          ap₂ (λ (l : List (LentCall X Y)) (k : ℕ). made K V kb vb (run K V a (first_calls K V kb vb n calls)) l k (length out - at)) left (let z : length old - n ≡ suc (length old - (n + 1)) = omega (arith, f) in z)
          ∙ cond-false (leb (capacity_of c) (length out - at)) _ 0 (lt-leb (capacity_of c) (length out - at) g))

      module _ (in_old : n < length old) (fits : capacity_of c ≤ length out - at) (S'' : State X Y) (r : Answer Y) (part' : List ℕ)
          (A : Answered K V kb vb S' S'' (call_shown kb vb c) (answer_shown vb part' r)) (kept_part : Keeps (written r) (drop at out') part') where
        abbrev out'' : List ℕ
        out'' = take at out' ++ part'

        at_in : at ≤ length out'
        at_in = omega (arith, M.buffer.within, M.buffer.long)

        at_long : length (take at out') ≡ at
        at_long = length-take-le at out' at_in

        past : drop at out'' ≡ part'
        past = ap (λ (i : ℕ). drop i out'') (sym at_long) ∙ drop-append_seam (take at out') part'

        pub made_more : (new' : List (Answer Y)) → new' ≡ set new n r → MadeTo S S'' calls old new' out out'' (n + 1) (at + written r)
        made_more new' w =
            let in_new : n < length new = omega (arith, M.long, in_old) in
            let taken : take (n + 1) new' ≡ take n new ++ (r ∷ []) = ap (take (n + 1)) w ∙ take_more_set new n r in_new in
            let room : written r ≤ length part' = omega (arith, kept_part.within, kept_part.long) in
            let shown_is : answers_shown vb out'' (take (n + 1) new') ≡ answers_shown vb out' (take n new) ++ (answer_shown vb part' r ∷ []) =
            ap (answers_shown vb out'') taken
            ∙ shown_more vb out'' (take n new) r
            ∙ ap₂ (λ (l : List model.Answer) (x : model.Answer). l ++ (x ∷ [])) (all_by_front vb (take n new) at out' part' (omega (arith, M.at_is)) at_in)
            (ap (λ (i : ℕ). answer_shown vb (drop i out'') r) (sym M.at_is) ∙ ap (λ (l : List ℕ). answer_shown vb l r) past) in
            record {
              account = λ a s.
                  let before = M.account a s in
                  let step = A.account (run K V a (first_calls K V kb vb n calls)) before.1 in (
                    shown_is
                        ∙ ap₂ (λ (l : List model.Answer) (x : model.Answer). l ++ (x ∷ [])) before.0 step.0
                        ∙ sym (answers_more K V a (first_calls K V kb vb n calls) (call_shown kb vb c))
                        ∙ ap (answers K V a) (sym (first_more calls n c inside here)),
                    subst (Represents K V kb vb S'')
                        (sym (ap (run K V a) (first_more calls n c inside here) ∙ run_more K V a (first_calls K V kb vb n calls) (call_shown kb vb c)))
                        step.1,
                  );
              steps =
                  subst (λ (l : List model.Call). Steps K V kb vb S l (answers_shown vb out'' (take (n + 1) new')) S'') (sym (first_more calls n c inside here))
                  (subst (λ (l : List model.Answer). Steps K V kb vb S (first_calls K V kb vb n calls ++ (call_shown kb vb c ∷ [])) l S'') (sym shown_is)
                  (steps_more K V kb vb S S' S'' (first_calls K V kb vb n calls) (answers_shown vb out' (take n new)) (call_shown kb vb c) (answer_shown vb part' r) M.steps A));
              many = λ a s.
                  let before = M.account a s in
                  let b : Account = run K V a (first_calls K V kb vb n calls) in
                  let step = A.account b before.1 in
                  let bytes : saved_bytes (outcome K V b (call_shown kb vb c)).answer ≡ written r = ap saved_bytes (sym step.0) ∙ as_long vb part' r room in
                  let on : run K V a (first_calls K V kb vb (n + 1) calls) ≡ after K V b (call_shown kb vb c) = ap (run K V a) (first_more calls n c inside here) ∙ run_more K V a (first_calls K V kb vb n calls) (call_shown kb vb c) in
                  let rest : ℕ → ℕ = λ k. made K V kb vb (after K V b (call_shown kb vb c)) (drop (n + 1) calls) (length old - (n + 1)) k in
                  let e : made K V kb vb b (drop n calls) (length old - n) (length out - at) ≡ suc (rest (length out - (at + written r))) =
                  ap₂ (λ (l : List (LentCall X Y)) (k : ℕ). made K V kb vb b l k (length out - at)) left (let z : length old - n ≡ suc (length old - (n + 1)) = omega (arith, in_old) in z)
                  ∙ cond-true (leb (capacity_of c) (length out - at)) _ 0 (le-leb (capacity_of c) (length out - at) fits)
                  ∙ ap (λ (k : ℕ). suc (rest k)) (let z : (length out - at) - saved_bytes (outcome K V b (call_shown kb vb c)).answer ≡ length out - (at + written r) = omega (arith, bytes) in z) in
                  let f : rest (length out - (at + written r)) ≡ made K V kb vb (run K V a (first_calls K V kb vb (n + 1) calls)) (drop (n + 1) calls) (length old - (n + 1)) (length out - (at + written r)) =
                  ap (λ (x : Account). made K V kb vb x (drop (n + 1) calls) (length old - (n + 1)) (length out - (at + written r))) (sym on) in
                  omega (arith, M.many a s, e, f);
              within = omega (arith, in_old);
              long = ap length w ∙ length-set new n r ∙ M.long;
              kept =
                  ap (drop (n + 1)) w
                  ∙ drop-set-lt (n + 1) new n r (omega arith)
                  ∙ sym (drop-drop 1 n new)
                  ∙ ap (drop 1) M.kept
                  ∙ drop-drop 1 n old;
              at_is = omega (arith, M.at_is, ap all_written taken, written_more vb (take n new) r);
              buffer = record {
                within = omega (arith, kept_part.within, length-drop at out', M.buffer.within, M.buffer.long);
                long = length-append (take at out') part' ∙ omega (arith, at_long, kept_part.long, length-drop at out', M.buffer.long, at_in);
                rest =
                    sym (drop-drop (written r) at out'') ∙ ap (drop (written r)) past ∙ kept_part.rest ∙ ap (drop (written r)) M.buffer.rest ∙ drop-drop (written r) at out;
              };
            }

      -- the rest of the buffer is lent, and comes back
      pub made_on :
          n < length old → capacity_of c ≤ length out - at → (S'' : State X Y) (r : Answer Y) (part' : List ℕ)
          → Answered K V kb vb S' S'' (call_shown kb vb c) (answer_shown vb part' r) → Keeps (written r) (take (length out' - at) (drop at out')) part'
          → (new' : List (Answer Y)) → new' ≡ set new n r → (w : ℕ) → w ≡ written r
          → MadeTo S S'' calls old new' out (take at out' ++ (part' ++ drop (length out' - at) (drop at out'))) (n + 1) (at + w)
      made_on in_old fits S'' r part' A kept_part new' e w f =
          let back : Keeps (written r) (drop at out') part' = subst (λ (l : List ℕ). Keeps (written r) l part') (take_rest out' at) kept_part in
          let nothing : drop (length out' - at) (drop at out') ≡ [] = drop_of_length-le (drop at out') (omega (arith, length-drop at out')) in
          let z : take at out' ++ part' ≡ take at out' ++ (part' ++ drop (length out' - at) (drop at out')) = ap (λ (l : List ℕ). take at out' ++ l) (sym (append-nil part') ∙ ap (λ (l : List ℕ). part' ++ l) (sym nothing)) in
          subst (λ (l : List ℕ). MadeTo S S'' calls old new' out l (n + 1) (at + w)) z
          (subst (λ (i : ℕ). MadeTo S S'' calls old new' out (take at out' ++ part') (n + 1) (at + i)) (sym f) (made_more in_old fits S'' r part' A back new' e))

-- Marks beside the places of an account. Assumes nothing.
use Rattle.std.proofs.Common.{◌≡◌, ℕ, zero, suc, Bool, true, false, List, [], ◌∷◌, map, length, get_or, set, None, sym, refl, subst, ◌⊎◌, inl, inr, ◌≤◌, ap, ◌∙◌, arith, cond}
use Rattle.std.proofs.lemmas.List.{map-set, length-map}
use Rattle.std.specs.Prelude.{nat_le, nat_lt, Some}
use denote.Bor.{Bor}
use Rattle.kinds.specs.Kinds.{KeyKind, ValueKind}
use Rattle.kinds.specs.Refusals as refusals
use Rattle.model.specs.declared.limits.TheConstants.{PLACES}
use Rattle.model.specs.Maps.{Map, put, remove, union, merge}
use Rattle.model.specs.Tries.{crowded}
use Rattle.model.specs.Images.{image}
use Rattle.model.specs.Reading.{Verdict, judge, accepted}
use Rattle.model.specs.Reading as reading
use Rattle.model.specs.Sharing.{Shared}
use Rattle.model.specs.Accounts.{Version, Place, Account, nth, empty, draft, published}
use Rattle.model.specs.Calls.{Outcome, Answer, after, done, took, found, counted, equal, saved, spare, refused, Open, OpenFrom, Put, Remove, Union, Merge, Publish, Abandon, Retire, Load, LookUp, Count, Compare, Save, now, named, both_names, version, outcome, reply, leave, refuse, result, on_place, on_empty, on_draft, on_published, on_live, on_uncrowded}
use Rattle.store.specs.declared.calls.Answer as store
use Rattle.store.specs.declared.calls.Call.TheVariants as calls
use Rattle.store.specs.declared.calls.Answer.TheVariants as replies
use Rattle.store.specs.declared.calls.Answer.TheVariants.{Done}
use Rattle.store.specs.Answers.{LentCall, call_shown, answer_shown}
use Rattle.sovindrate.specs.declared.marks.Mark.{Mark}
use Rattle.sovindrate.specs.declared.marks.Mark.TheVariants.{Empty, Draft, Published}
use Rattle.sovindrate.specs.Marks.{mark_of, Tell}

-- a mark that is set where it stands already changes nothing
pub same_mark : (ps : List Place) (i : ℕ) (p : Place) → mark_of p ≡ mark_of (nth ps i) → map mark_of (set ps i p) ≡ map mark_of ps
same_mark [] i p e = refl
same_mark (q ∷ ps) zero p e = ap (λ m. m ∷ map mark_of ps) e
same_mark (q ∷ ps) (suc i) p e = ap (λ ms. mark_of q ∷ ms) (same_mark ps i p e)

-- a mark that is set past the end is lost
pub mark_past : (ms : List Mark) (i : ℕ) (m : Mark) → length ms ≤ i → set ms i m ≡ ms
mark_past [] i m h = refl
mark_past (n ∷ ms) zero m h = absurd (omega arith)
mark_past (n ∷ ms) (suc i) m h = ap (λ r. n ∷ r) (mark_past ms i m (omega arith))

-- a mark, read
read_mark : (ps : List Place) (i : ℕ) → get_or (map mark_of ps) i Empty ≡ mark_of (nth ps i)
read_mark [] i = refl
read_mark (q ∷ ps) zero = refl
read_mark (q ∷ ps) (suc i) = read_mark ps i

nothing_past : (ps : List Place) (i : ℕ) → length ps ≤ i → Empty ≡ mark_of (nth ps i)
nothing_past [] i h = refl
nothing_past (q ∷ ps) zero h = absurd (omega arith)
nothing_past (q ∷ ps) (suc i) h = nothing_past ps i (omega arith)

module _ (ms : List Mark) (a : Account) (i : ℕ) (told : Tell ms a) where
  as_many : length ms ≡ length a.places
  as_many = ap length told ∙ length-map a.places mark_of

  pub told_here : get_or ms i Empty ≡ mark_of (nth a.places i)
  told_here = ap (λ r. get_or r i Empty) told ∙ read_mark a.places i

  pub told_past : length ms ≤ i → Empty ≡ mark_of (nth a.places i)
  told_past h = nothing_past a.places i (omega (arith, h, as_many))

-- what a call leaves if it is done, and else
abbrev pub on_done : Answer → List Mark → List Mark → List Mark
on_done done x y = x
on_done (took n e) x y = y
on_done (found o) x y = y
on_done (counted n) x y = y
on_done (equal b) x y = y
on_done (saved bs) x y = y
on_done (spare n e) x y = y
on_done (refused r) x y = y

-- what a call leaves if it took cells, and else
abbrev pub on_took : Answer → List Mark → List Mark → List Mark
on_took done x y = y
on_took (took n e) x y = x
on_took (found o) x y = y
on_took (counted n) x y = y
on_took (equal b) x y = y
on_took (saved bs) x y = y
on_took (spare n e) x y = y
on_took (refused r) x y = y

module _ (K : KeyKind) (V : ValueKind) (a : Account) where
  abbrev marks : List Mark
  marks = map mark_of a.places

  -- the marks of what an outcome leaves
  abbrev left : Outcome → List Mark
  left o = map mark_of o.places

  -- an outcome that leaves each mark as it was, whatever it answers
  abbrev pub Still : Outcome → Type 0
  Still o = left o ≡ marks

  -- an outcome that, if it is done, leaves a mark at a place, and else each mark as it was
  abbrev pub Moves : ℕ → Mark → Outcome → Type 0
  Moves i m o = left o ≡ on_done o.answer (set marks i m) marks

  still_place : (i : ℕ) (o : Outcome) → Still o → Still (on_place K V a i o)
  still_place i o h = by_case (nat_le PLACES i)
    where
      by_case : (b : Bool) → Still (cond b (refuse K V a 3) o)
      by_case true = refl
      by_case false = h

  moves_place : (i j : ℕ) (m : Mark) (o : Outcome) → Moves j m o → Moves j m (on_place K V a i o)
  moves_place i j m o h = by_case (nat_le PLACES i)
    where
      by_case : (b : Bool) → Moves j m (cond b (refuse K V a 3) o)
      by_case true = refl
      by_case false = h

  -- what is done at a place leaves its mark
  moves_leave : (i : ℕ) (p : Place) → Moves i (mark_of p) (leave K V a done i p)
  moves_leave i p = map-set mark_of a.places i p

  moves_empty : (i j : ℕ) (m : Mark) (o : Outcome) → Moves j m o → Moves j m (on_empty K V a i o)
  moves_empty i j m o h = by_place (nth a.places i)
    where
      by_place : (p : Place) → Moves j m (elim p [ empty ↦ o | draft v ↦ refuse K V a 5 | published v ↦ refuse K V a 5 ])
      by_place empty = h
      by_place (draft v) = refl
      by_place (published v) = refl

  moves_draft : (i j : ℕ) (m : Mark) (f : Version → Outcome) → ((v : Version) → Moves j m (f v)) → Moves j m (on_draft K V a i f)
  moves_draft i j m f h = by_place (nth a.places i)
    where
      by_place : (p : Place) → Moves j m (elim p [ empty ↦ refuse K V a 6 | draft v ↦ f v | published v ↦ refuse K V a 6 ])
      by_place empty = refl
      by_place (draft v) = h v
      by_place (published v) = refl

  moves_published : (i j : ℕ) (m : Mark) (f : Version → Outcome) → ((v : Version) → Moves j m (f v)) → Moves j m (on_published K V a i f)
  moves_published i j m f h = by_place (nth a.places i)
    where
      by_place : (p : Place) → Moves j m (elim p [ empty ↦ refuse K V a 4 | draft v ↦ refuse K V a 4 | published v ↦ f v ])
      by_place empty = refl
      by_place (draft v) = refl
      by_place (published v) = h v

  still_live : (i : ℕ) (f : Version → Answer) → Still (on_live K V a i (λ v. reply K V a (f v)))
  still_live i f = by_place (nth a.places i)
    where
      by_place : (p : Place) → Still (elim p [ empty ↦ refuse K V a 4 | draft v ↦ reply K V a (f v) | published v ↦ reply K V a (f v) ])
      by_place empty = refl
      by_place (draft v) = refl
      by_place (published v) = refl

  still_read : (i : ℕ) (f : Version → Outcome) → ((v : Version) → Still (f v)) → Still (on_live K V a i f)
  still_read i f h = by_place (nth a.places i)
    where
      by_place : (p : Place) → Still (elim p [ empty ↦ refuse K V a 4 | draft v ↦ f v | published v ↦ f v ])
      by_place empty = refl
      by_place (draft v) = h v
      by_place (published v) = h v

  still_published : (i : ℕ) (f : Version → Outcome) → ((v : Version) → Still (f v)) → Still (on_published K V a i f)
  still_published i f h = by_place (nth a.places i)
    where
      by_place : (p : Place) → Still (elim p [ empty ↦ refuse K V a 4 | draft v ↦ refuse K V a 4 | published v ↦ f v ])
      by_place empty = refl
      by_place (draft v) = refl
      by_place (published v) = h v

  still_length : (v : Version) (room : ℕ) →
      Still (cond (nat_lt room (length (image K V v.settings))) (refuse K V a 12) (reply K V a (saved (image K V v.settings))))
  still_length v room = by_case (nat_lt room (length (image K V v.settings)))
    where
      by_case : (b : Bool) → Still (cond b (refuse K V a 12) (reply K V a (saved (image K V v.settings))))
      by_case true = refl
      by_case false = refl

  -- an edit leaves a draft where there was one
  still_draft : (i : ℕ) (f : Version → Outcome) → ((v : Version) → mark_of (nth a.places i) ≡ Draft → Still (f v)) → Still (on_draft K V a i f)
  still_draft i f h = by_place (nth a.places i) refl
    where
      by_place : (p : Place) → nth a.places i ≡ p → Still (elim p [ empty ↦ refuse K V a 6 | draft v ↦ f v | published v ↦ refuse K V a 6 ])
      by_place empty e = refl
      by_place (draft v) e = h v (ap mark_of e)
      by_place (published v) e = refl

  still_room : (b : Bool) (i n e : ℕ) (v : Version) → mark_of (nth a.places i) ≡ Draft → Still (cond b (leave K V a (took n e) i (draft v)) (refuse K V a 11))
  still_room true i n e v h = same_mark a.places i (draft v) (sym h)
  still_room false i n e v h = refl

  still_result : (i : ℕ) (vs : List Version) (m : Map) (f : Shared → Version) → mark_of (nth a.places i) ≡ Draft → Still (result K V a i vs m (λ s. draft (f s)))
  still_result i vs m f h = still_room _ i _ _ _ h

  still_uncrowded : (m : Map) (o : Outcome) → Still o → Still (on_uncrowded K V a m o)
  still_uncrowded m o h = by_case (crowded K m)
    where
      by_case : (b : Bool) → Still (cond b (refuse K V a 10) o)
      by_case true = refl
      by_case false = h

  -- ---- the calls

  pub opened : (i : ℕ) → Moves i Draft (outcome K V a (Open i))
  opened i = moves_place i i Draft _ (moves_empty i i Draft _ (moves_leave i _))

  pub opened_from : (i j : ℕ) → Moves i Draft (outcome K V a (OpenFrom i j))
  opened_from i j =
      moves_place i i Draft _ (moves_place j i Draft _ (moves_published j i Draft _ (λ v. moves_empty i i Draft _ (moves_leave i (draft v)))))

  pub published_at : (i : ℕ) → Moves i Published (outcome K V a (Publish i))
  published_at i = moves_place i i Published _ (moves_draft i i Published _ (λ v. moves_leave i (published (named K V a v))))

  pub abandoned : (i : ℕ) → Moves i Empty (outcome K V a (Abandon i))
  abandoned i = moves_place i i Empty _ (moves_draft i i Empty _ (λ v. moves_leave i empty))

  pub retired : (i : ℕ) → Moves i Empty (outcome K V a (Retire i))
  retired i = moves_place i i Empty _ (moves_published i i Empty _ (λ v. moves_leave i empty))

  -- the version that an edit leaves
  abbrev edited : Map → Shared → Version
  edited m s = version K V a m None s

  pub set_at : (i : ℕ) (k v : List ℕ) → Still (outcome K V a (Put i k v))
  set_at i k v =
      still_place i _ (still_draft i _ (λ d e.
      let m : Map = put K d.settings k v in
      still_uncrowded m (result K V a i (d ∷ []) m (λ s. draft (edited m s))) (still_result i (d ∷ []) m (edited m) e)))

  pub removed : (i : ℕ) (k : List ℕ) → Still (outcome K V a (Remove i k))
  removed i k = still_place i _ (still_draft i _ (λ d e. let m : Map = remove K d.settings k in still_result i (d ∷ []) m (edited m) e))

  pub united : (i j : ℕ) → Still (outcome K V a (Union i j))
  united i j =
      still_place i _ (still_place j _ (still_published j _ (λ o. still_draft i _ (λ d e.
      let m : Map = union K V d.settings o.settings in
      let of : Shared → Version = version K V a m (both_names K V a d.names o.names) in
      still_uncrowded m (result K V a i (d ∷ (o ∷ [])) m (λ s. draft (of s))) (still_result i (d ∷ (o ∷ [])) m of e)))))

  pub merged : (i b t : ℕ) → Still (outcome K V a (Merge i b t))
  merged i b t =
      still_place i _ (still_place b _ (still_place t _ (still_published b _ (λ base. still_published t _ (λ theirs. still_draft i _ (λ d e.
      let m : Map = merge K V d.settings base.settings theirs.settings in
      still_uncrowded m (result K V a i (d ∷ (theirs ∷ [])) m (λ s. draft (edited m s))) (still_result i (d ∷ (theirs ∷ [])) m (edited m) e)))))))

  -- a load that took leaves a published place, and else each mark as it was
  abbrev pub Loads : ℕ → Outcome → Type 0
  Loads i o = left o ≡ on_took o.answer (set marks i Published) marks

  loads_place : (i : ℕ) (o : Outcome) → Loads i o → Loads i (on_place K V a i o)
  loads_place i o h = by_case (nat_le PLACES i)
    where
      by_case : (b : Bool) → Loads i (cond b (refuse K V a 3) o)
      by_case true = refl
      by_case false = h

  loads_empty : (i : ℕ) (o : Outcome) → Loads i o → Loads i (on_empty K V a i o)
  loads_empty i o h = by_place (nth a.places i)
    where
      by_place : (p : Place) → Loads i (elim p [ empty ↦ o | draft v ↦ refuse K V a 5 | published v ↦ refuse K V a 5 ])
      by_place empty = h
      by_place (draft v) = refl
      by_place (published v) = refl

  loads_room : (b : Bool) (i n e : ℕ) (v : Version) → Loads i (cond b (leave K V a (took n e) i (published v)) (refuse K V a 11))
  loads_room true i n e v = map-set mark_of a.places i (published v)
  loads_room false i n e v = refl

  pub loaded : (i : ℕ) (bs : List ℕ) → Loads i (outcome K V a (Load i bs))
  loaded i bs = loads_place i _ (loads_empty i _ (by_verdict (judge K V bs)))
    where
      by_verdict : (j : Verdict) →
          Loads i (elim j [
            | accepted m ↦ result K V a i [] m (λ s. published (version K V a m (Some (now K V a ∷ [])) s))
            | reading.refused n o ↦ reply K V a (refused (refusals.refused_at n o))
          ])
      by_verdict (accepted m) = loads_room _ i _ _ _
      by_verdict (reading.refused n o) = refl

  pub looked_up : (i : ℕ) (k : List ℕ) → Still (outcome K V a (LookUp i k))
  looked_up i k = still_place i _ (still_live i _)

  pub counted_at : (i : ℕ) → Still (outcome K V a (Count i))
  counted_at i = still_place i _ (still_live i _)

  pub compared : (i j : ℕ) → Still (outcome K V a (Compare i j))
  compared i j = still_place i _ (still_place j _ (still_read i _ (λ v. still_live j _)))

  pub saved_at : (i room : ℕ) → Still (outcome K V a (Save i room))
  saved_at i room = still_place i _ (still_read i _ (λ v. still_length v room))

-- ---- the calls as the store has them, an image standing in the buffer bs

module _ {X Y : Type 0} (K : KeyKind) (V : ValueKind) (kb : X → List ℕ) (vb : Y → List ℕ) (a : Account) (bs : List ℕ) where
  abbrev o : LentCall X Y → Outcome
  o c = outcome K V a (call_shown kb vb c)

  -- a call that is done
  module _ (old new : List Mark) (c : LentCall X Y) (r : store.Answer Y) (i : ℕ) (is : r ≡ Done) (told : Tell old a) (same : answer_shown vb bs r ≡ (o c).answer) where
    moved : (m : Mark) → Moves K V a i m (o c) → new ≡ set old i m → Tell new (after K V a (call_shown kb vb c))
    moved m h e =
        e ∙ ap (λ (ms : List Mark). set ms i m) told
        ∙ ap (λ x. on_done x (set (map mark_of a.places) i m) (map mark_of a.places)) (sym (ap (answer_shown vb bs) is) ∙ same) ∙ sym h

    pub follow_open : (c ≡ calls.Open i) ⊎ ((j : ℕ) × (c ≡ calls.OpenFrom i j)) → new ≡ set old i Draft → Tell new (after K V a (call_shown kb vb c))
    follow_open (inl e) = moved Draft (subst (λ c. Moves K V a i Draft (o c)) (sym e) (opened K V a i))
    follow_open (inr t) = moved Draft (subst (λ c. Moves K V a i Draft (o c)) (sym t.1) (opened_from K V a i t.0))

    pub follow_publish : c ≡ calls.Publish i → new ≡ set old i Published → Tell new (after K V a (call_shown kb vb c))
    follow_publish e = moved Published (subst (λ c. Moves K V a i Published (o c)) (sym e) (published_at K V a i))

    pub follow_end : (c ≡ calls.Abandon i) ⊎ (c ≡ calls.Retire i) → new ≡ set old i Empty → Tell new (after K V a (call_shown kb vb c))
    follow_end (inl e) = moved Empty (subst (λ c. Moves K V a i Empty (o c)) (sym e) (abandoned K V a i))
    follow_end (inr e) = moved Empty (subst (λ c. Moves K V a i Empty (o c)) (sym e) (retired K V a i))

  -- a load that took cells
  pub follow_load :
      (old new : List Mark) (c : LentCall X Y) (r : store.Answer Y) (i n e : ℕ) (brought : Bor (List ℕ)) → r ≡ replies.Took n e → c ≡ calls.Load i brought →
      Tell old a → answer_shown vb bs r ≡ (o c).answer → new ≡ set old i Published → Tell new (after K V a (call_shown kb vb c))
  follow_load old new c r i n e brought is load told same put =
      put ∙ ap (λ (ms : List Mark). set ms i Published) told
      ∙ ap (λ x. on_took x (set (map mark_of a.places) i Published) (map mark_of a.places)) (sym (ap (answer_shown vb bs) is) ∙ same)
      ∙ sym (subst (λ c. Loads K V a i (o c)) (sym load) (loaded K V a i brought.now))

  -- a call that is not done
  quiet : (r : store.Answer Y) → (r ≡ Done → ⊥) → (x y : List Mark) → on_done (answer_shown vb bs r) x y ≡ y
  quiet Done h x y = absurd (h refl)
  quiet (replies.Took n e) h x y = refl
  quiet (replies.Found f) h x y = refl
  quiet (replies.Counted n) h x y = refl
  quiet (replies.Equal b) h x y = refl
  quiet (replies.Saved n) h x y = refl
  quiet (replies.Spare n e) h x y = refl
  quiet (replies.Refused f) h x y = refl

  -- a call that took no cells
  took_none : (r : store.Answer Y) → ((n e : ℕ) → r ≡ replies.Took n e → ⊥) → (x y : List Mark) → on_took (answer_shown vb bs r) x y ≡ y
  took_none Done h x y = refl
  took_none (replies.Took n e) h x y = absurd (h n e refl)
  took_none (replies.Found f) h x y = refl
  took_none (replies.Counted n) h x y = refl
  took_none (replies.Equal b) h x y = refl
  took_none (replies.Saved n) h x y = refl
  took_none (replies.Spare n e) h x y = refl
  took_none (replies.Refused f) h x y = refl

  -- a load leaves each mark where it took no cells, and every other call where it is not done
  still_all :
      (c : LentCall X Y) → ((x y : List Mark) → on_done (o c).answer x y ≡ y) →
      ((i : ℕ) (brought : Bor (List ℕ)) → c ≡ calls.Load i brought → (x y : List Mark) → on_took (o c).answer x y ≡ y) → Still K V a (o c)
  still_all (calls.Open i) q t = opened K V a i ∙ q _ _
  still_all (calls.OpenFrom i j) q t = opened_from K V a i j ∙ q _ _
  still_all (calls.Put i k v) q t = set_at K V a i (kb k) (vb v)
  still_all (calls.Remove i k) q t = removed K V a i (kb k)
  still_all (calls.Union i j) q t = united K V a i j
  still_all (calls.Merge i b x) q t = merged K V a i b x
  still_all (calls.Publish i) q t = published_at K V a i ∙ q _ _
  still_all (calls.Abandon i) q t = abandoned K V a i ∙ q _ _
  still_all (calls.Retire i) q t = retired K V a i ∙ q _ _
  still_all (calls.Load i brought) q t = loaded K V a i brought.now ∙ t i brought refl _ _
  still_all (calls.LookUp i k) q t = looked_up K V a i (kb k)
  still_all (calls.Count i) q t = counted_at K V a i
  still_all (calls.Compare i j) q t = compared K V a i j
  still_all (calls.Save i room) q t = saved_at K V a i room
  still_all calls.Free q t = refl

  pub follow_other : (old : List Mark) (c : LentCall X Y) (r : store.Answer Y) → (r ≡ Done → ⊥) → ((n e : ℕ) → r ≡ replies.Took n e → ⊥) → Tell old a →
      answer_shown vb bs r ≡ (o c).answer → Tell old (after K V a (call_shown kb vb c))
  follow_other old c r h t told same =
      told
      ∙ sym (still_all c (λ x y. ap (λ z. on_done z x y) (sym same) ∙ quiet r h x y)
      (λ i brought is x y. ap (λ z. on_took z x y) (sym same) ∙ took_none r t x y))

  -- a call that took cells and is no load
  pub follow_edit : (old : List Mark) (c : LentCall X Y) (r : store.Answer Y) (n e : ℕ) → r ≡ replies.Took n e →
      ((i : ℕ) (brought : Bor (List ℕ)) → c ≡ calls.Load i brought → ⊥) → Tell old a →
      answer_shown vb bs r ≡ (o c).answer → Tell old (after K V a (call_shown kb vb c))
  follow_edit old c r n e is other told same =
      told
      ∙ sym (still_all c (λ x y. ap (λ z. on_done z x y) (sym same ∙ ap (answer_shown vb bs) is)) (λ i brought load x y. absurd (other i brought load)))

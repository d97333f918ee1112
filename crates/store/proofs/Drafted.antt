-- Drafts are opened as the account opens them. Assumes nothing.
use Rattle.std.proofs.Common.{◌≡◌, ℕ, ◌+◌, ◌<◌, ◌≤◌, List, [], ◌++◌, length, get_or, set, Err, Result, IsErrAnd, inl, inr, sym, refl, ap, ◌∙◌, subst, arith}
use Rattle.kinds.specs.Kinds.{KeyKind, ValueKind}
use Rattle.kinds.specs.declared.refusal.Refusal.{Refusal}
use Rattle.model.specs.Accounts.{Version, draft, Account, whole}
use Rattle.model.specs.Calls.{Answer, done, refused, Outcome, Open, OpenFrom, outcome, leave}
use Rattle.branches.specs.declared.branch.Branch.{Branch}
use Rattle.branches.specs.declared.branch.Branch.TheVariants.{Nothing, Entry, Child}
use Rattle.branches.specs.States.{Tables, Notes, Sits, Grown}
use Rattle.branches.specs.Branches.{Is, node_of}
use Rattle.branches.proofs.Growing.{grown_none, is_grown, EntriesStay, node_held_grown, node_held_sits}
use Rattle.store.specs.declared.spot.Spot.{Spot}
use Rattle.store.specs.declared.spot.Spot.TheVariants.{Empty, Draft, Published}
use Rattle.store.specs.Stores.{State, owners, Represents, Answered}
use Rattle.store.specs.Spots.{Wanted, IsEmpty, root_of, HeldRoot, RootHeld, GivenUp}
use Rattle.store.specs.Answers.{result_shown}
use Rattle.store.proofs.Judging.{is_place, empty_is_empty, published_is_published}
use Rattle.store.proofs.Reading.{at_empty, at_published, not_empty}
use Rattle.store.proofs.Places.{owners_few}
use Rattle.store.proofs.Steps.{nothing_given_up, replaced}
use Rattle.store.proofs.Answering.{handed_on, turned_down, done_with}

module _ {X Y : Type 0} (K : KeyKind) (V : ValueKind) (kb : X → List ℕ) (vb : Y → List ℕ) (S : State X Y) (i : ℕ) where
  -- ---- the empty map

  pub opened :
      i < 64 → get_or S.places i Empty ≡ Empty
      → Answered K V kb vb S (record { tables = S.tables; places = set S.places i (Draft Nothing) }) (Open i) done
  opened h e =
      done_with K V kb vb S _ (Open i) tt
      (λ a rep.
      let o = is_place K V a i _ h ∙ empty_is_empty K V a i _ (at_empty K V kb vb S a rep i e) in (
        sym (ap (λ (x : Outcome). x.answer) o),
        replaced K V kb vb S a rep (Open i) tt i h (Draft Nothing) _ (ap (λ (x : Outcome). x.places) o) S.tables rep.notes rep.sits
            (λ q. ⊥) (λ k. ⊥) (grown_none _ _ _ S.tables rep.notes) refl S.tables
            (subst (λ (s : Spot). GivenUp (root_of s) S.tables S.tables) (sym e) (nothing_given_up S.tables)),
      ))

  -- ---- the map of another place

  -- the source's root is held
  root_is_held : (T : Tables X Y) (N : Notes) (b : Branch) (v : Version) → Is T N b 8 [] (whole v) → HeldRoot T.nodes b
  root_is_held T N Nothing v h = tt
  root_is_held T N (Entry e) v h = tt
  root_is_held T N (Child r) v h = h.0.held

  pub source_held : (a : Account) → Represents K V kb vb S a → (j : ℕ) (b : Branch) → get_or S.places j Empty ≡ Published b → HeldRoot S.tables.nodes b
  source_held a rep j b e = let s = at_published K V kb vb S a rep j b e in root_is_held S.tables rep.notes b s.version s.is

  pub few_roots : (a : Account) → Represents K V kb vb S a → length (owners S.places) ≤ 65535
  few_roots a rep = few _ _ (owners_few S.places) rep.all_places
    where
      few : (m n : ℕ) → m ≤ n → n ≡ 64 → m ≤ 65535
      few m n h e = omega arith

  -- and then it is held once more
  abbrev HeldOn : Branch → Tables X Y → Type 0
  HeldOn b U = RootHeld b S.tables.nodes S.tables.free S.tables.spare U.nodes U.free U.spare

  same_tables : (T U : Tables X Y) → (U.nodes ≡ T.nodes) × (U.free ≡ T.free) × (U.spare ≡ T.spare) → EntriesStay T U → T ≡ U
  same_tables T U n e = λ t. record {
    nodes = sym n.0 t;
    free = sym n.1 t;
    spare = sym n.2 t;
    entries = sym e.0 t;
    entry_free = sym e.1 t;
    entry_spare = sym e.2 t;
  }

  pub record HoldsMore (U : Tables X Y) (N : Notes) (n : ℕ) (b : Branch) (v : Version) : Type 0 where
    pub sits : Sits K kb vb U N (node_of b ++ owners S.places) []
    pub grown : Grown n (λ q. ⊥) (λ k. ⊥) S.tables N U N
    pub is : Is U N b 8 [] (whole v)

  same_more : (U : Tables X Y) (N : Notes) (n : ℕ) (v : Version) → S.tables ≡ U → Sits K kb vb S.tables N (owners S.places) [] → Is S.tables N Nothing 8 [] (whole v) → HoldsMore U N n Nothing v
  same_more U N n v e H h = subst (λ (T : Tables X Y). HoldsMore T N n Nothing v) e (record { sits = H; grown = grown_none n _ _ S.tables N; is = h })

  held_more : (U : Tables X Y) (N : Notes) (n : ℕ) (b : Branch) (v : Version) → HeldOn b U → EntriesStay S.tables U → Sits K kb vb S.tables N (owners S.places) [] → Is S.tables N b 8 [] (whole v) → HoldsMore U N n b v
  held_more U N n Nothing v held stay H h = same_more U N n v (same_tables S.tables U held stay) H h
  held_more U N n (Entry e) v held stay H h = absurd (omega (arith, h.0))
  held_more U N n (Child r) v held stay H h =
      let G = node_held_grown S.tables U r.0 held h.0.held stay n (λ q. ⊥) (λ k. ⊥) N in
      record {
        sits = node_held_sits S.tables U r.0 held h.0.held stay K kb vb N (owners S.places) [] H;
        grown = G;
        is = is_grown n (λ q. ⊥) (λ k. ⊥) S.tables U N N G (Child r) 8 [] (whole v) h;
      }

  -- the place is taken: the account sees it once the other place is published
  pub from_taken :
      (j : ℕ) (b : Branch) {B : Type 0} (f : B → Answer) (r : Result B Refusal) (x : Refusal) → IsErrAnd r (λ y. y ≡ x)
      → i < 64 → j < 64 → get_or S.places j Empty ≡ Published b → Wanted IsEmpty 5 S.places i (Err x) → Answered K V kb vb S S (OpenFrom i j) (result_shown f r)
  from_taken j b f r x on h k e w =
      elim w [
        | inl n ↦ absurd (omega (arith, h, n.0))
        | inr n ↦
            turned_down K V kb vb S (OpenFrom i j) 5 _ (handed_on f r x on ∙ ap refused n.1.1) tt
            (λ a rep.
            let v = at_published K V kb vb S a rep j b e in
            is_place K V a i _ h ∙ is_place K V a j _ k ∙ published_is_published K V a j _ v.version v.at ∙ not_empty K V kb vb S a rep i _ (n.1.0 tt))
      ]

  pub opened_from :
      (j : ℕ) (b : Branch) (U : Tables X Y) → i < 64 → j < 64 → get_or S.places i Empty ≡ Empty → get_or S.places j Empty ≡ Published b
      → HeldOn b U → EntriesStay S.tables U
      → Answered K V kb vb S (record { tables = U; places = set S.places i (Draft b) }) (OpenFrom i j) done
  opened_from j b U h k e f held stay =
      done_with K V kb vb S _ (OpenFrom i j) tt
      (λ a rep.
      let v = at_published K V kb vb S a rep j b f in
      let o : outcome K V a (OpenFrom i j) ≡ leave K V a done i (draft v.version) =
      is_place K V a i _ h ∙ is_place K V a j _ k ∙ published_is_published K V a j _ v.version v.at ∙ empty_is_empty K V a i _ (at_empty K V kb vb S a rep i e) in
      let m = held_more U rep.notes (a.calls + 1) b v.version held stay rep.sits v.is in (
        sym (ap (λ (z : Outcome). z.answer) o),
        replaced K V kb vb S a rep (OpenFrom i j) tt i h (Draft b) (draft v.version) (ap (λ (z : Outcome). z.places) o) U rep.notes m.sits
            (λ q. ⊥) (λ k. ⊥) m.grown m.is U (subst (λ (z : Spot). GivenUp (root_of z) U U) (sym e) (nothing_given_up U)),
      ))

-- Drafts and published versions end as the account ends them. Assumes nothing.
use Rattle.std.proofs.Common.{◌≡◌, ℕ, ◌+◌, ◌<◌, List, ◌++◌, get_or, set, sym, refl, ap, ◌∙◌, subst, inl, inr, arith}
use Rattle.kinds.specs.Kinds.{KeyKind, ValueKind}
use Rattle.model.specs.Accounts.{published, empty, Account}
use Rattle.model.specs.Calls.{Call, done, Outcome, Publish, Abandon, Retire, outcome, after, leave, named}
use Rattle.model.specs.Runs.{Made}
use Rattle.tables.specs.Chains.{occ}
use Rattle.tables.specs.Heaps.{Nodes}
use Rattle.tables.proofs.Occurrences.{occ_nil, occ_append}
use Rattle.branches.specs.declared.branch.Branch.{Branch}
use Rattle.branches.specs.Branches.{node_of}
use Rattle.branches.proofs.Growing.{nodes_same, grown_none}
use Rattle.store.specs.declared.spot.Spot.{Spot}
use Rattle.store.specs.declared.spot.Spot.TheVariants.{Empty, Draft, Published}
use Rattle.store.specs.Stores.{State, owners, Represents, Started, Answered}
use Rattle.store.specs.Spots.{IsLive, root_of, GivenUp}
use Rattle.store.proofs.Judging.{is_place, draft_is_draft, published_is_published}
use Rattle.store.proofs.Reading.{at_draft, at_published}
use Rattle.store.proofs.Places.{owners_set}
use Rattle.store.proofs.Steps.{replaced, turned}
use Rattle.store.proofs.Answering.{done_with, still_started}

-- as often as before, counted apart
apart_often : (x p y z n : ℕ) → y + p ≡ x + n → n ≡ 0 → z ≡ p + y → x ≡ z
apart_often x p y z n e f g = omega arith

module _ {X Y : Type 0} (K : KeyKind) (V : ValueKind) (kb : X → List ℕ) (vb : Y → List ℕ) (S : State X Y) (i : ℕ) where
  -- the root at a place, apart from the others
  pub root_apart :
      (a : Account) → Represents K V kb vb S a → i < 64 → (s : Spot) → get_or S.places i Empty ≡ s
      → Nodes S.tables.nodes S.tables.free S.tables.spare (root_of s ++ owners (set S.places i Empty))
  root_apart a rep h s e =
      nodes_same S.tables.nodes S.tables.free S.tables.spare (owners S.places) (root_of s ++ owners (set S.places i Empty))
      (λ k. apart_often _ _ _ _ _
      (subst (λ (z : Spot). occ k (owners (set S.places i Empty)) + occ k (root_of z) ≡ occ k (owners S.places) + occ k (root_of Empty)) e (owners_set k S.places i Empty (omega (arith, rep.all_places))))
      (occ_nil k) (occ_append k (root_of s) (owners (set S.places i Empty)))) rep.sits.nodes

  pub live_apart : (b : Branch) → Started K V kb vb S → i < 64 → IsLive (get_or S.places i Empty) b → (R : List ℕ) × Nodes S.tables.nodes S.tables.free S.tables.spare (node_of b ++ R)
  live_apart b s h live = (
    owners (set S.places i Empty),
    elim live [
      | inl e ↦ root_apart s.0 s.1 h (Draft b) e
      | inr e ↦ root_apart s.0 s.1 h (Published b) e
    ],
  )

  -- ---- publish

  pub made_public :
      (b : Branch) → i < 64 → get_or S.places i Empty ≡ Draft b
      → Answered K V kb vb S (record { tables = S.tables; places = set S.places i (Published b) }) (Publish i) done
  made_public b h e =
      done_with K V kb vb S _ (Publish i) tt
      (λ a rep.
      let v = at_draft K V kb vb S a rep i b e in
      let o : outcome K V a (Publish i) ≡ leave K V a done i (published (named K V a v.version)) = is_place K V a i _ h ∙ draft_is_draft K V a i _ v.version v.at in (
        sym (ap (λ (z : Outcome). z.answer) o),
        turned K V kb vb S a rep (Publish i) tt i h (Published b) (published (named K V a v.version)) (ap (λ (z : Outcome). z.places) o) (ap root_of e) v.is,
      ))

  -- ---- abandon and retire: the place is emptied, and its root is given up

  module _ (S' : State X Y) (h : i < 64) (b : Branch) (gone : GivenUp (node_of b) S.tables S'.tables) (cleared : S'.places ≡ set S.places i Empty) where
    emptied :
        (c : Call) (made : Made K V c) (s : Spot) → root_of s ≡ node_of b → get_or S.places i Empty ≡ s
        → ((a : Account) → Represents K V kb vb S a → outcome K V a c ≡ leave K V a done i empty) → Answered K V kb vb S S' c done
    emptied c made s root e is =
        done_with K V kb vb S S' c made
        (λ a rep. (
          sym (ap (λ (z : Outcome). z.answer) (is a rep)),
          subst (λ (ps : List Spot). Represents K V kb vb (record { tables = S'.tables; places = ps }) (after K V a c)) (sym cleared)
              (replaced K V kb vb S a rep c made i h Empty empty (ap (λ (x : Outcome). x.places) (is a rep)) S.tables rep.notes rep.sits
              (λ q. ⊥) (λ k. ⊥) (grown_none _ _ _ S.tables rep.notes) tt S'.tables (subst (λ (r : List ℕ). GivenUp r S.tables S'.tables) (sym root ∙ ap root_of (sym e)) gone)),
        ))

    pub abandoned : get_or S.places i Empty ≡ Draft b → Answered K V kb vb S S' (Abandon i) done
    abandoned e =
        emptied (Abandon i) tt (Draft b) refl e (λ a rep. let v = at_draft K V kb vb S a rep i b e in is_place K V a i _ h ∙ draft_is_draft K V a i _ v.version v.at)

    pub retired : get_or S.places i Empty ≡ Published b → Answered K V kb vb S S' (Retire i) done
    retired e =
        emptied (Retire i) tt (Published b) refl e (λ a rep. let v = at_published K V kb vb S a rep i b e in is_place K V a i _ h ∙ published_is_published K V a i _ v.version v.at)

    pub cleared_started : IsLive (get_or S.places i Empty) b → Started K V kb vb S → Started K V kb vb S'
    cleared_started live s =
        elim live [
          | inl e ↦ still_started s (abandoned e)
          | inr e ↦ still_started s (retired e)
        ]

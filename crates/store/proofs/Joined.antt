-- Union and merge as merges of roots, and what they are refused for. Assumes nothing.
use Rattle.std.proofs.Common.{◌≡◌, ℕ, ◌<◌, ◌≤◌, List, [], ◌∷◌, length, get_or, None, Err, Result, IsErrAnd, sym, refl, ap, ◌∙◌, arith}
use Rattle.kinds.specs.Kinds.{KeyKind, ValueKind}
use Rattle.kinds.specs.declared.refusal.Refusal.{Refusal}
use Rattle.model.specs.Maps.{Map, union, merge}
use Rattle.model.specs.Tries.{Lawful}
use Rattle.model.specs.Accounts.{Version, Account, nth, draft, published, whole}
use Rattle.model.specs.Calls.{Answer, Outcome, on_place, on_published, on_draft, on_uncrowded, result, version, both_names, Union, Merge}
use Rattle.model.proofs.Maps.Joins as joins
use Rattle.model.proofs.Promises.{lawful, few_settings}
use Rattle.branches.specs.declared.branch.Branch.{Branch}
use Rattle.branches.specs.declared.branch.Branch.TheVariants.{Nothing}
use Rattle.branches.specs.Branches.{no_part}
use Rattle.store.specs.declared.spot.Spot.TheVariants.{Empty, Draft, Published}
use Rattle.store.specs.Stores.{State, Represents, Answered}
use Rattle.store.specs.Spots.{Judged, Wanted, IsDraft, IsPublished}
use Rattle.store.specs.Answers.{result_shown}
use Rattle.store.specs.Merges.{SomeMerge, Judges, IsMerge}
use Rattle.store.proofs.Judging.{is_place, draft_is_draft, published_is_published, live_published}
use Rattle.store.proofs.Reading.{at_draft, at_published, lawful_draft}
use Rattle.store.proofs.Unwanted.{unplaced, unpublished, undrafted}
use Rattle.store.proofs.Merged.{sound_from}

nothing_lawful : (K : KeyKind) (V : ValueKind) → Lawful K V []
nothing_lawful K V = record { rises = tt; reads = tt; uncrowded = λ x. omega arith; counted = omega arith }

module _ {X Y : Type 0} (K : KeyKind) (V : ValueKind) (kb : X → List ℕ) (vb : Y → List ℕ) (S : State X Y) where
  -- the version at a published place is lawful, and of no more settings than a table has entries
  lawful_at : (a : Account) (rep : Represents K V kb vb S a) (j : ℕ) (v : Version) → nth a.places j ≡ published v → Lawful K V v.settings
  lawful_at a rep j v e = lawful K V a rep.reached j v (live_published K V a j v e)

  few_at : (a : Account) (rep : Represents K V kb vb S a) (j : ℕ) (v : Version) → nth a.places j ≡ published v → length v.settings ≤ 65535
  few_at a rep j v e = few_settings K V a rep.reached j v (live_published K V a j v e)

  -- ---- union

  module _ (i j : ℕ) where
    -- what the account says of the two versions
    abbrev joins_to : Account → Version → Version → Outcome
    joins_to a d o =
        let m : Map = union K V d.settings o.settings in
        on_uncrowded K V a m (result K V a i (d ∷ (o ∷ [])) m (λ s. draft (version K V a m (both_names K V a d.names o.names) s)))

    module _ {B : Type 0} (f : B → Answer) (r : Result B Refusal) (x : Refusal) (on : IsErrAnd r (λ y. y ≡ x)) where
      pub union_unplaced : Judged S.places i (Err x) → Answered K V kb vb S S (Union i j) (result_shown f r)
      union_unplaced h = unplaced K V kb vb S (Union i j) tt i f r x on _ (λ a _. refl) h

      pub union_unpublished : i < 64 → Wanted IsPublished 4 S.places j (Err x) → Answered K V kb vb S S (Union i j) (result_shown f r)
      union_unpublished inside h = unpublished K V kb vb S (Union i j) tt j f r x on (λ a o. on_draft K V a i (λ d. joins_to a d o)) (λ a _. is_place K V a i _ inside) h

      pub union_undrafted : i < 64 → j < 64 → (b : Branch) → get_or S.places j Empty ≡ Published b → Wanted IsDraft 6 S.places i (Err x) → Answered K V kb vb S S (Union i j) (result_shown f r)
      union_undrafted inside inside_too b e h =
          undrafted K V kb vb S (Union i j) tt i f r x on (λ a d. on_published K V a j (λ o. joins_to a d o))
          (λ a rep.
          let O = at_published K V kb vb S a rep j b e in
          ap (on_place K V a i) (is_place K V a j _ inside_too ∙ published_is_published K V a j _ O.version O.at
          ∙ ap (on_draft K V a i) (λ t d. sym (published_is_published K V a j (λ o. joins_to a d o) O.version O.at) t)))
          h

    module _ (ours theirs : Branch) (inside : i < 64) (inside_too : j < 64) (at : get_or S.places i Empty ≡ Draft ours) (at_other : get_or S.places j Empty ≡ Published theirs) where
      union_judges : (a : Account) (rep : Represents K V kb vb S a) → Judges K V kb vb S i ours Nothing theirs (Union i j) a rep
      union_judges a rep =
          let D = at_draft K V kb vb S a rep i ours at in
          let O = at_published K V kb vb S a rep j theirs at_other in
          let law = lawful_draft K V kb vb S a rep i D.version D.at in
          let law_other = lawful_at a rep j O.version O.at in
          record {
            merging = record {
              mine = D.version;
              there = D.at;
              ours_is = D.is;
              common = no_part;
              base_is = refl;
              common_lawful = nothing_lawful K V;
              common_few = omega arith;
              other = O.version;
              theirs_is = O.is;
              other_lawful = law_other;
              other_few = few_at a rep j O.version O.at;
            };
            names = both_names K V a D.version.names O.version.names;
            outcome_is =
                is_place K V a i _ inside ∙ is_place K V a j _ inside_too ∙ published_is_published K V a j _ O.version O.at ∙ draft_is_draft K V a i _ D.version D.at
                ∙ ap (λ (m : Map). on_uncrowded K V a m (result K V a i (D.version ∷ (O.version ∷ [])) m (λ s. draft (version K V a m (both_names K V a D.version.names O.version.names) s))))
                (joins.union_is_merge K V D.version.settings O.version.settings (sound_from K V D.version.settings law) (sound_from K V O.version.settings law_other));
          }

      pub union_is : IsMerge K V kb vb S i ours Nothing theirs (Union i j)
      union_is = record { made = tt; judges = union_judges }

      pub union_some : SomeMerge K V kb vb S i ours Nothing theirs
      union_some = record { at = at; call = Union i j; is = union_is }

  -- ---- merge

  module _ (i p t : ℕ) where
    abbrev merges_to : Account → Version → Version → Version → Outcome
    merges_to a d b o =
        let m : Map = merge K V d.settings b.settings o.settings in
        on_uncrowded K V a m (result K V a i (d ∷ (o ∷ [])) m (λ s. draft (version K V a m None s)))

    module _ {B : Type 0} (f : B → Answer) (r : Result B Refusal) (x : Refusal) (on : IsErrAnd r (λ y. y ≡ x)) where
      pub merge_unplaced : Judged S.places i (Err x) → Answered K V kb vb S S (Merge i p t) (result_shown f r)
      merge_unplaced h = unplaced K V kb vb S (Merge i p t) tt i f r x on _ (λ a _. refl) h

      module _ (inside : i < 64) where
        pub base_unplaced : Judged S.places p (Err x) → Answered K V kb vb S S (Merge i p t) (result_shown f r)
        base_unplaced h = unplaced K V kb vb S (Merge i p t) tt p f r x on _ (λ a _. is_place K V a i _ inside) h

        module _ (base_inside : p < 64) where
          pub theirs_unplaced : Judged S.places t (Err x) → Answered K V kb vb S S (Merge i p t) (result_shown f r)
          theirs_unplaced h = unplaced K V kb vb S (Merge i p t) tt t f r x on _ (λ a _. is_place K V a i _ inside ∙ is_place K V a p _ base_inside) h

          module _ (theirs_inside : t < 64) where
            pub base_unpublished : Wanted IsPublished 4 S.places p (Err x) → Answered K V kb vb S S (Merge i p t) (result_shown f r)
            base_unpublished h =
                unpublished K V kb vb S (Merge i p t) tt p f r x on (λ a b. on_published K V a t (λ o. on_draft K V a i (λ d. merges_to a d b o)))
                (λ a _. is_place K V a i _ inside ∙ ap (on_place K V a p) (is_place K V a t _ theirs_inside)) h

            module _ (base : Branch) (at_base : get_or S.places p Empty ≡ Published base) where
              pub theirs_unpublished : Wanted IsPublished 4 S.places t (Err x) → Answered K V kb vb S S (Merge i p t) (result_shown f r)
              theirs_unpublished h =
                  unpublished K V kb vb S (Merge i p t) tt t f r x on (λ a o. on_published K V a p (λ b. on_draft K V a i (λ d. merges_to a d b o)))
                  (λ a rep.
                  let B = at_published K V kb vb S a rep p base at_base in
                  is_place K V a i _ inside ∙ is_place K V a p _ base_inside
                  ∙ ap (on_place K V a t) (published_is_published K V a p _ B.version B.at
                  ∙ ap (on_published K V a t) (λ u o. sym (published_is_published K V a p (λ b. on_draft K V a i (λ d. merges_to a d b o)) B.version B.at) u)))
                  h

              pub merge_undrafted : (theirs : Branch) → get_or S.places t Empty ≡ Published theirs → Wanted IsDraft 6 S.places i (Err x) → Answered K V kb vb S S (Merge i p t) (result_shown f r)
              merge_undrafted theirs at_theirs h =
                  undrafted K V kb vb S (Merge i p t) tt i f r x on (λ a d. on_published K V a p (λ b. on_published K V a t (λ o. merges_to a d b o)))
                  (λ a rep.
                  let B = at_published K V kb vb S a rep p base at_base in
                  let O = at_published K V kb vb S a rep t theirs at_theirs in
                  ap (on_place K V a i) (is_place K V a p _ base_inside ∙ is_place K V a t _ theirs_inside ∙ published_is_published K V a p _ B.version B.at ∙ published_is_published K V a t _ O.version O.at
                  ∙ ap (on_draft K V a i) (λ u d. sym (published_is_published K V a p (λ b. on_published K V a t (λ o. merges_to a d b o)) B.version B.at ∙ published_is_published K V a t (λ o. merges_to a d B.version o) O.version O.at) u)))
                  h

    module _ (ours base theirs : Branch) (inside : i < 64) (base_inside : p < 64) (theirs_inside : t < 64)
        (at : get_or S.places i Empty ≡ Draft ours) (at_base : get_or S.places p Empty ≡ Published base) (at_theirs : get_or S.places t Empty ≡ Published theirs) where
      merge_judges : (a : Account) (rep : Represents K V kb vb S a) → Judges K V kb vb S i ours base theirs (Merge i p t) a rep
      merge_judges a rep =
          let D = at_draft K V kb vb S a rep i ours at in
          let B = at_published K V kb vb S a rep p base at_base in
          let O = at_published K V kb vb S a rep t theirs at_theirs in
          record {
            merging = record {
              mine = D.version;
              there = D.at;
              ours_is = D.is;
              common = whole B.version;
              base_is = B.is;
              common_lawful = lawful_at a rep p B.version B.at;
              common_few = few_at a rep p B.version B.at;
              other = O.version;
              theirs_is = O.is;
              other_lawful = lawful_at a rep t O.version O.at;
              other_few = few_at a rep t O.version O.at;
            };
            names = None;
            outcome_is =
                is_place K V a i _ inside ∙ is_place K V a p _ base_inside ∙ is_place K V a t _ theirs_inside
                ∙ published_is_published K V a p _ B.version B.at ∙ published_is_published K V a t _ O.version O.at ∙ draft_is_draft K V a i _ D.version D.at;
          }

      pub merge_is : IsMerge K V kb vb S i ours base theirs (Merge i p t)
      merge_is = record { made = tt; judges = merge_judges }

      pub merge_some : SomeMerge K V kb vb S i ours base theirs
      merge_some = record { at = at; call = Merge i p t; is = merge_is }

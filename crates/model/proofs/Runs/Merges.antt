-- Two merges with ours and theirs swapped leave one image. Assumes nothing.
use Rattle.std.proofs.Common.{◌≡◌, ℕ, zero, suc, ◌+◌, List, [], ◌∷◌, set, ◌++◌, Some, None, sym, refl, ap, ◌∙◌, subst, arith}
use mathlib.Core.List.Memᴰ
use mathlib.Core.List.{Memᴰ}
use Rattle.kinds.specs.Kinds.{KeyKind, ValueKind}
use Rattle.model.specs.Maps.{merge}
use Rattle.model.specs.Images.{image}
use Rattle.model.specs.Sharing.{Shared}
use Rattle.model.specs.Accounts.{Version, Place, draft, published, Account, nth, fresh}
use Rattle.model.specs.Calls.{Call, Merge, took, Outcome, at, refuse, leave, version, outcome, run}
use Rattle.model.specs.Runs.{live, AllMade, Reached, Merged, MergeIn, AcceptedMergesLeaveAVersion, MergeIsSymmetric}
use Rattle.model.specs.Reading.{OnlyImagesAreAccepted}
use Rattle.model.proofs.Maps.Joins.{merge_swap}
use Rattle.model.proofs.Runs.Steps.{past_place, past_published, past_draft, past_uncrowded, past_result}
use Rattle.model.proofs.Runs.Invariants.{live_sound}

pub live_draft : (a : Account) (i : ℕ) (v : Version) → nth a.places i ≡ draft v → live a i ≡ Some v
live_draft a i v e = rw (e, live)

pub live_published : (a : Account) (i : ℕ) (v : Version) → nth a.places i ≡ published v → live a i ≡ Some v
live_published a i v e = rw (e, live)

-- a place that is written where a draft was holds what is written
pub nth_set : (ps : List Place) (i : ℕ) (d : Version) (p : Place) → nth ps i ≡ draft d → nth (set ps i p) i ≡ p
nth_set [] i d p e = let z : ◌≡◌ {A = ℕ} 0 1 = cc in absurd (omega arith)
nth_set (q ∷ ps) zero d p e = refl
nth_set (q ∷ ps) (suc i) d p e = nth_set ps i d p e

module _ (K : KeyKind) (V : ValueKind) where
  -- what an accepted merge leaves is the merge of the three maps
  pub record MergedSo (a : Account) (i b t : ℕ) : Type 0 where
    pub versions : Merged K V a i b t
    pub is : versions.result.settings ≡ merge K V versions.ours.settings versions.base.settings versions.theirs.settings

  merged_so : (a : Account) (i b t n e : ℕ) → (outcome K V a (Merge i b t)).answer ≡ took n e → MergedSo a i b t
  merged_so a i b t =
      past_place K V a Q refusal i _ (past_place K V a Q refusal b _ (past_place K V a Q refusal t _ (past_published K V a Q refusal b _ λ base f. past_published K V a Q refusal t _ λ theirs g. past_draft K V a Q refusal i _ λ d h.
      past_uncrowded K V a Q refusal (merge K V d.settings base.settings theirs.settings) _ λ few.
      past_result K V a Q refusal i (d ∷ (theirs ∷ [])) (merge K V d.settings base.settings theirs.settings) _ λ s x y z. at_end base theirs d f g h s))) refl
    where
      Q : Outcome → Type 0
      Q o = outcome K V a (Merge i b t) ≡ o → (n e : ℕ) → o.answer ≡ took n e → MergedSo a i b t

      refusal : (n : ℕ) → Q (refuse K V a n)
      refusal n o m e x = cc

      at_end : (base theirs d : Version) → at K V a b ≡ published base → at K V a t ≡ published theirs → at K V a i ≡ draft d → (s : Shared) →
          Q (leave K V a (took s.new_nodes s.new_entries) i (draft (version K V a (merge K V d.settings base.settings theirs.settings) None s)))
      at_end base theirs d f g h s o n e x =
          let w = version K V a (merge K V d.settings base.settings theirs.settings) None s in
          record {
            versions = record {
              ours = d;
              base = base;
              theirs = theirs;
              result = w;
              ours_is = h;
              base_is = f;
              theirs_is = g;
              result_is = ap (λ (r : Outcome). nth r.places i) o ∙ nth_set a.places i d (draft w) h;
            };
            is = refl;
          }

  pub merges_leave : AcceptedMergesLeaveAVersion K V
  merges_leave a r i b t n e x = (merged_so a i b t n e x).versions

  -- whichever versions they are
  merged_is : (a : Account) (i b t n e : ℕ) → (outcome K V a (Merge i b t)).answer ≡ took n e → (m : Merged K V a i b t) →
      m.result.settings ≡ merge K V m.ours.settings m.base.settings m.theirs.settings
  merged_is a i b t n e x m =
      let s = merged_so a i b t n e x in
      let v = s.versions in
      let eo : v.ours ≡ m.ours = cc (v.ours_is, m.ours_is) in
      let eb : v.base ≡ m.base = cc (v.base_is, m.base_is) in
      let et : v.theirs ≡ m.theirs = cc (v.theirs_is, m.theirs_is) in
      let er : v.result ≡ m.result = cc (v.result_is, m.result_is) in
      ap (λ (w : Version). w.settings) (sym er) ∙ s.is ∙ rw (eo, eb, et)

  -- the calls before a merge lead to an account
  reached_before : (calls : List Call) → AllMade K V calls → (x : MergeIn K V calls) → Reached K V (run K V (fresh x.nodes x.entries) x.before)
  reached_before calls made x = record {
    nodes = x.nodes;
    entries = x.entries;
    few_nodes = x.few_nodes;
    few_entries = x.few_entries;
    calls = x.before;
    all_made = λ c m. made c (subst (Memᴰ c) (sym x.calls_are) (Memᴰ.append_left _ m));
    comes = refl;
  }

  pub merge_symmetric : OnlyImagesAreAccepted K V → MergeIsSymmetric K V
  merge_symmetric exact calls others made also x y eb eo et =
      let a : Account = run K V (fresh x.nodes x.entries) x.before in
      let m = merged_is a x.ours_at x.base_at x.theirs_at x.new_nodes x.new_entries x.accepted x.merged in
      let n = merged_is (run K V (fresh y.nodes y.entries) y.before) y.ours_at y.base_at y.theirs_at y.new_nodes y.new_entries y.accepted y.merged in
      let r = reached_before calls made x in
      let s =
      merge_swap K V x.merged.ours.settings x.merged.base.settings x.merged.theirs.settings
      (live_sound K V exact a r x.ours_at x.merged.ours (live_draft a x.ours_at x.merged.ours x.merged.ours_is)) (live_sound K V exact a r x.theirs_at x.merged.theirs (live_published a x.theirs_at x.merged.theirs x.merged.theirs_is)) in
      ap (image K V) (m ∙ s ∙ rw (eb, eo, et) (sym n))

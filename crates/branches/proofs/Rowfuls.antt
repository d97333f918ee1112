-- Entries taken up one after another, and no child. Assumes nothing.
use Rattle.std.proofs.Common.{◌≡◌, ℕ, ◌^◌, ◌<◌, ◌≤◌, Bool, true, false, ltb, List, [], ◌∷◌, ◌++◌, map, length, sym, ◌∙◌, subst, inl, inr, arith}
use lib.Count.{ones}
use Rattle.std.proofs.lemmas.List.{length-map, length_push, map_push}
use Rattle.std.proofs.lemmas.Bool.{or_cases, ltb-true}
use Rattle.tables.specs.declared.cells.NodeCell.{NodeCell}
use Rattle.tables.specs.declared.cells.EntryId.{EntryId}
use Rattle.tables.specs.Cells.{listed}
use Rattle.branches.specs.declared.branch.Branch.TheVariants.{Entry}
use Rattle.branches.specs.Handfuls.{with_branch, Bundled, Rowful, entries_in, makes_node}
use Rattle.branches.proofs.Bundles.{bundled_more, bundled_fits, bundled_entries, bundled_children}

module _ (h : NodeCell) (ys : List ℕ) (R : Rowful h ys) where
  pub rowful_count : (ones h.datamap) ≡ length ys
  rowful_count = R.bundled.singles_are

  pub digits_long : length (map (λ (y : ℕ). true) ys) ≡ length ys
  digits_long = length-map ys (λ y. true)

  -- what taking one more up asks for
  pub rowful_fits : ((ones h.nodemap) < 16) × ((h.datamap < 2 ^ (ones h.datamap)) × (h.nodemap < 2 ^ (ones h.datamap)))
  rowful_fits =
      let f = bundled_fits h (map (λ y. true) ys) (map (λ y. false) ys) ys [] R.bundled in
      let e : length (map (λ (y : ℕ). true) ys) ≡ (ones h.datamap) = digits_long ∙ sym rowful_count in
      (omega (arith, R.bundled.kids_are), (subst (λ (n : ℕ). h.datamap < 2 ^ n) e f.0, subst (λ (n : ℕ). h.nodemap < 2 ^ n) e f.1))

  pub rowful_in : entries_in h ≡ ys
  rowful_in = R.bundled.entries_are

  pub rowful_itself : Rowful h (entries_in h)
  rowful_itself = subst (Rowful h) (sym rowful_in) R

  pub rowful_more : (e : EntryId) → (ones h.datamap) < 16 → (next : NodeCell) → next ≡ with_branch h (ones h.datamap) (Entry e) → Rowful next (ys ++ (e.0 ∷ []))
  rowful_more e l next made =
      let B : Bundled (with_branch h (length (map (λ (y : ℕ). true) ys)) (Entry e)) (map (λ y. true) ys ++ (true ∷ [])) (map (λ y. false) ys ++ (false ∷ [])) (ys ++ (e.0 ∷ [])) [] =
      bundled_more h (map (λ y. true) ys) (map (λ y. false) ys) ys [] R.bundled (Entry e) l rowful_fits.0 in
      subst (λ (a : NodeCell). Rowful a (ys ++ (e.0 ∷ []))) (sym made) (record {
        bundled =
            subst (λ (n : ℕ). Bundled (with_branch h n (Entry e)) (map (λ y. true) (ys ++ (e.0 ∷ []))) (map (λ y. false) (ys ++ (e.0 ∷ []))) (ys ++ (e.0 ∷ [])) []) (digits_long ∙ sym rowful_count)
            (subst (λ (a : List Bool). Bundled (with_branch h (length (map (λ (y : ℕ). true) ys)) (Entry e)) a (map (λ y. false) (ys ++ (e.0 ∷ []))) (ys ++ (e.0 ∷ [])) []) (sym (map_push (λ y. true) ys e.0))
            (subst (λ (a : List Bool). Bundled (with_branch h (length (map (λ (y : ℕ). true) ys)) (Entry e)) (map (λ y. true) ys ++ (true ∷ [])) a (ys ++ (e.0 ∷ [])) []) (sym (map_push (λ y. false) ys e.0)) B));
        few = omega (arith, length_push ys e.0, rowful_count);
      })

-- what is in hand has no child
module _ (h : NodeCell) (ids : List ℕ) (R : Rowful h ids) where
  digits_few : length (map (λ (y : ℕ). true) ids) ≤ 16
  digits_few = omega (arith, digits_long h ids R, R.few)

  pub no_children : listed h.nodemap h.children ≡ []
  no_children = bundled_children h _ _ ids [] R.bundled digits_few

  pub its_entries : listed h.datamap h.entries ≡ ids
  its_entries = bundled_entries h _ _ ids [] R.bundled digits_few

  pub several_ids : makes_node h 0 ≡ true → 1 < length ids
  several_ids e =
      elim (or_cases (ltb 0 (ones h.nodemap)) (ltb 1 (ones h.datamap)) e) [
        | inl a ↦ absurd (omega (arith, ltb-true 0 (ones h.nodemap) a, R.bundled.kids_are))
        | inr a ↦ omega (arith, ltb-true 1 (ones h.datamap) a, rowful_count h ids R)
      ]

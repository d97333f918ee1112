-- Entries taken up one after another, and held once more each. Assumes nothing.
use Rattle.std.proofs.Common.{◌≡◌, ℕ, ◌+◌, ◌<◌, ◌≤◌, List, [], ◌∷◌, ◌++◌, length, get_or, take, sym, refl, ap, ◌∙◌, subst, append_assoc, arith, length-append}
use lib.Count.{ones}
use Rattle.std.proofs.lemmas.List.{take_more, length-take-le}
use Rattle.kinds.specs.Kinds.{KeyKind}
use Rattle.tables.specs.declared.cells.NodeCell.{NodeCell}
use Rattle.tables.specs.declared.cells.EntryCell.{EntryCell}
use Rattle.tables.specs.Heaps.{Entries, EntryHeld}
use Rattle.tables.specs.Cells.{cell, entry_cell}
use Rattle.tables.proofs.Occurrences.{occ_nil, occ_cons, occ_append}
use Rattle.branches.specs.Handfuls.{Rowful, entries_in}
use Rattle.branches.proofs.Rowfuls.{rowful_in}
use Rattle.branches.proofs.Growing.{grown_then, sits_same, entry_held_grown, entry_held_sits}
use Rattle.edits.specs.Rowing.{beside, Keeping, EntriesKept}

-- ---- held

module _ {X Y : Type 0} (K : KeyKind) (kb : X → List ℕ) (vb : Y → List ℕ) where
  pub kept_more :
      (es : List (EntryCell X Y)) (f s : ℕ) (xs : List ℕ) (fs : List (EntryCell X Y)) (g t : ℕ) → EntriesKept K kb vb es f s xs fs g t
      → (e : ℕ) → 0 < (entry_cell fs e).holders → (gs : List (EntryCell X Y)) (h u : ℕ) → EntryHeld e fs g t gs h u
      → EntriesKept K kb vb es f s (xs ++ (e ∷ [])) gs h u
  kept_more es f s xs fs g t old e held gs h u done = record {
    spare = done.spare ∙ old.spare;
    sits = λ T N R E H.
        sits_same K kb vb (beside T gs h u) N R R (e ∷ (xs ++ E)) ((xs ++ (e ∷ [])) ++ E) (λ i. refl)
        (λ i. omega (arith, occ_cons i e (xs ++ E), occ_append i xs E, occ_append i (xs ++ (e ∷ [])) E, occ_append i xs (e ∷ []), occ_cons i e [], occ_nil i))
        (entry_held_sits (beside T fs g t) (beside T gs h u) e done held (refl, refl, refl) K kb vb N R (xs ++ E) (old.sits T N R E H));
    grown = λ T N n.
        grown_then n (λ q. ⊥) (λ q. ⊥) (λ q. ⊥) (λ k. ⊥) (λ k. ⊥) (λ k. ⊥) (beside T es f s) (beside T fs g t) (beside T gs h u) N N N (λ q z. z) (λ q z. z) (λ k z. z) (λ k z. z)
        (old.grown T N n) (entry_held_grown (beside T fs g t) (beside T gs h u) e done held (refl, refl, refl) n (λ q. ⊥) (λ k. ⊥) N);
  }

-- ---- the first entries of a row

-- so many are held and in hand
abbrev pub KeptTo :
    {X Y : Type 0} → KeyKind → (X → List ℕ) → (Y → List ℕ) → List (EntryCell X Y) → ℕ → ℕ → List ℕ → NodeCell → ℕ → List (EntryCell X Y) → ℕ → ℕ → NodeCell → Type 0
KeptTo K kb vb es f s xs hand j fs g t all = EntriesKept K kb vb es f s (take j xs) fs g t × Rowful all (entries_in hand ++ take j xs)

module _ {X Y : Type 0} (K : KeyKind) (kb : X → List ℕ) (vb : Y → List ℕ) (es : List (EntryCell X Y)) (f s : ℕ) (xs : List ℕ) (hand : NodeCell) (P : Keeping K kb vb es f s xs hand) where
  module _ (j : ℕ) (fs : List (EntryCell X Y)) (g t : ℕ) (all : NodeCell) (I : KeptTo K kb vb es f s xs hand j fs g t all) where
    module _ (inside : j < length xs) where
      pub keep_held : 0 < (entry_cell fs (get_or xs j 0)).holders
      keep_held = (I.0.grown P.tables P.notes 0).entry_held (get_or xs j 0) (P.held j 0 inside)

      so_far : length (take j xs) ≡ j
      so_far = length-take-le j xs (omega arith)

      pub keep_heap :
          (cs : List NodeCell) × ((R : List ℕ) × (Entries cs fs g t R × ((length R ≤ 65535) × ((length cs ≤ 65535) × ((i : ℕ) → ones (cell cs i).datamap ≤ 16)))))
      keep_heap =
          let H = I.0.sits P.tables P.notes P.roots P.in_hand P.sits in (
            P.tables.nodes,
            (take j xs ++ P.in_hand, (H.entries, (omega (arith, length-append (take j xs) P.in_hand, so_far, P.few_in_hand), (H.nodes.short, λ i. (H.nodes.narrow i).0)))),
          )

      pub keep_step : (gs : List (EntryCell X Y)) (h u e : ℕ) (next : NodeCell) → e ≡ get_or xs j 0 → EntryHeld e fs g t gs h u
          → Rowful next (entries_in all ++ (e ∷ [])) → KeptTo K kb vb es f s xs hand (j + 1) gs h u next
      keep_step gs h u e next z done up =
          let more : take j xs ++ (e ∷ []) ≡ take (j + 1) xs = sym (take_more xs j 0 inside ∙ ap (λ (x : ℕ). take j xs ++ (x ∷ [])) (sym z)) in (
            subst (λ (l : List ℕ). EntriesKept K kb vb es f s l gs h u) more
                (kept_more K kb vb es f s (take j xs) fs g t I.0 e (subst (λ (x : ℕ). 0 < (entry_cell fs x).holders) (sym z) keep_held) gs h u done),
            subst (Rowful next)
                (ap (λ (l : List ℕ). l ++ (e ∷ [])) (rowful_in all (entries_in hand ++ take j xs) I.1) ∙ append_assoc (entries_in hand) (take j xs) (e ∷ []) ∙ ap (λ (l : List ℕ). entries_in hand ++ l) more) up,
          )

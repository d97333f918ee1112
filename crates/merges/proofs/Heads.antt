-- The first key of two rows. Assumes nothing.
use Rattle.std.proofs.Common.{◌≡◌, ℕ, true, List, ◌∷◌, drop, Some, None, sym, refl, ap, ◌∙◌, subst, arith}
use Rattle.std.specs.List.{AllByRecursion}
use Rattle.std.proofs.ByRecursion.{All-weaker}
use Rattle.kinds.specs.Kinds.{KeyKind}
use Rattle.model.specs.Maps.{Map, Rises}
use Rattle.tables.specs.declared.cells.EntryCell.{EntryCell}
use Rattle.tables.specs.declared.cells.EntryId.{EntryId}
use Rattle.edits.specs.Rowing.{setting_at, row_settings}
use Rattle.merges.specs.Rowing.{FirstIs, Comes, HeadIs}

module _ {X Y : Type 0} (K : KeyKind) (kb : X → List ℕ) (vb : Y → List ℕ) (es : List (EntryCell X Y)) where
  module _ (xs : List ℕ) (key : X) (id : EntryId) (F : FirstIs K kb vb es xs key id) where
    split : row_settings kb vb es xs ≡ setting_at kb vb es id.0 ∷ row_settings kb vb es (drop 1 xs)
    split = ap (row_settings kb vb es) F.row

    behind : Rises K (row_settings kb vb es xs) → AllByRecursion (λ s. K.before (kb key) s.key ≡ true) (row_settings kb vb es (drop 1 xs))
    behind up = subst (λ (k : List ℕ). AllByRecursion (λ s. K.before k s.key ≡ true) (row_settings kb vb es (drop 1 xs))) F.key_is (subst (Rises K) split up).0

    first_comes : (k : List ℕ) → kb key ≡ k → Comes K kb vb es xs k (Some id)
    first_comes k e = record {
      row = F.row;
      some = F.some;
      key_is = F.key_is ∙ e;
      ahead = λ up. subst (λ (j : List ℕ). AllByRecursion (λ s. K.before j s.key ≡ true) (row_settings kb vb es (drop 1 xs))) e (behind up);
    }

    later_comes : (k : List ℕ) → K.before k (kb key) ≡ true → Comes K kb vb es xs k None
    later_comes k b = record {
      row = refl;
      some = tt;
      key_is = tt;
      ahead = λ up.
          subst (λ (m : Map). AllByRecursion (λ s. K.before k s.key ≡ true) m) (sym split)
          (ap (K.before k) F.key_is ∙ b, All-weaker (λ s. K.before (kb key) s.key ≡ true) (λ s. K.before k s.key ≡ true) (λ s e. K.before_onward k (kb key) s.key b e) (row_settings kb vb es (drop 1 xs)) (behind up));
    }

  module _ (xs zs : List ℕ) (key : X) (id : EntryId) (F : FirstIs K kb vb es xs key id) (other : X) (other_id : EntryId) (G : FirstIs K kb vb es zs other other_id) where
    pub head_less : K.before (kb key) (kb other) ≡ true → HeadIs K kb vb es xs zs key (Some id) None
    head_less b = record { mine = first_comes xs key id F (kb key) refl; other = later_comes zs other other_id G (kb key) b; some = omega arith }

    pub head_equal : kb key ≡ kb other → HeadIs K kb vb es xs zs key (Some id) (Some other_id)
    head_equal e = record { mine = first_comes xs key id F (kb key) refl; other = first_comes zs other other_id G (kb key) (sym e); some = omega arith }

    pub head_greater : K.before (kb other) (kb key) ≡ true → HeadIs K kb vb es xs zs other None (Some other_id)
    head_greater b = record { mine = later_comes xs key id F (kb other) b; other = first_comes zs other other_id G (kb other) refl; some = omega arith }

-- A new entry as a branch, at any prefix that its key leads through. Assumes nothing.
use Rattle.std.proofs.Common.{◌≡◌, ℕ, ◌<◌, List, [], ◌∷◌, Some, refl, ap, ◌∙◌, subst, arith, sym}
use Rattle.std.proofs.lemmas.List.{get_or-set_same}
use Rattle.kinds.specs.Kinds.{KeyKind}
use Rattle.model.specs.Maps.{Setting}
use Rattle.model.specs.Sharing.{Marked}
use Rattle.tables.specs.declared.cells.EntryCell.{EntryCell}
use Rattle.tables.specs.declared.cells.EntryId.{EntryId}
use Rattle.tables.specs.Cells.{entry_cell, blank_entry}
use Rattle.tables.specs.Heaps.{EntryMade}
use Rattle.tables.specs.Notes.{EntryNote, noted}
use Rattle.tables.proofs.Noting.{noted_same}
use Rattle.branches.specs.declared.branch.Branch.TheVariants.{Entry}
use Rattle.branches.specs.States.{Tables, Notes, Sits, Clear, Under, Led}
use Rattle.branches.specs.Branches.{Built}
use Rattle.branches.proofs.Growing.{grown_to, NodesStay, with_entry, entry_made_grown, entry_made_sits}
use Rattle.branches.proofs.Settings.{new_entry}

module _ {X Y : Type 0} (K : KeyKind) (kb : X → List ℕ) (vb : Y → List ℕ) (n level : ℕ) (low : level < 8) (p : List ℕ) (T : Tables X Y) (N : Notes) (R E : List ℕ)
    (S : Sits K kb vb T N R E) (clear : Clear n (Under p) (Led K p) T N) (key : X) (value : Y) (led : Led K p (kb key)) (id : EntryId) (U : Tables X Y) (stay : NodesStay T U)
    (made : EntryMade id.0 (record { held = Some (key, value); holders = 1; next = 0 }) T.entries T.entry_free T.entry_spare U.entries U.entry_free U.entry_spare) where
  abbrev s : Setting
  s = record { key = kb key; value = vb value }

  abbrev note : EntryNote
  note = record { label = record { what = kb key; mark = n }; setting = s }

  pub entry_built : Built K kb vb n level p (s ∷ []) (new_entry n s) T N R E (Entry id) U
  entry_built =
      let here : noted N.entry id.0 note id.0 ≡ note = noted_same N.entry id.0 note in
      let cell_is = ap (λ (l : List (EntryCell X Y)). entry_cell l id.0) made.is ∙ get_or-set_same T.entries id.0 (record { held = Some (key, value); holders = 1; next = 0 }) blank_entry made.inside in
      record {
        notes = with_entry N id.0 note;
        sits = entry_made_sits T U id.0 _ made stay N note K kb vb R E
            (record { key = key; value = value; holds = refl; setting_is = refl; label_is = refl })
            (λ e h z. clear.entry e h (ap (λ (y : Marked). y.mark) z) (subst (Led K p) (sym (ap (λ (y : Marked). y.what) z)) led))
            S;
        grown = grown_to n (λ y. ⊥) (Under p) (λ y. y ≡ kb key) (Led K p) T U N (with_entry N id.0 note)
            (λ y z. absurd z) (λ y z. subst (Led K p) (sym z) led)
            (entry_made_grown T U id.0 _ made stay N note n (kb key) refl);
        is = (
          low,
          record {
            held = omega (arith, ap (λ (c : EntryCell X Y). c.holders) cell_is);
            settings = ap (λ (y : EntryNote). y.setting ∷ []) (sym here);
            nodes = refl;
            entries = ap (λ (y : EntryNote). y.label ∷ []) (sym here);
          },
        );
        cost = omega (arith, stay.2);
        entry_cost = made.less;
      }

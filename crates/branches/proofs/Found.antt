-- The digits of a hash by shifts, and the setting of an entry by its cell. Assumes nothing.
use Rattle.std.proofs.Common.{◌≡◌, ℕ, zero, suc, ◌+◌, ◌*◌, ◌/◌, ◌%◌, ◌^◌, ◌<◌, true, List, is_some, Some, None, sym, refl, ap, ◌∙◌, subst, pow-suc, arith}
use lib.Bits.{bit_and}
use Rattle.std.proofs.lemmas.Nat.{pow-add, and_mask}
use Rattle.std.proofs.lemmas.Bool.{false≢true}
use Rattle.kinds.specs.Kinds.{KeyKind}
use Rattle.model.specs.Tries.{digit}
use Rattle.tables.specs.declared.cells.EntryCell.{EntryCell}
use Rattle.tables.specs.Cells.{entry_cell}
use Rattle.branches.specs.States.{Tables, Notes, Sits}
use Rattle.branches.specs.Branches.{SomeEntry, SettingRead}

-- ---- digits

pow_sixteen : (d : ℕ) → 2 ^ (4 * d) ≡ 16 ^ d
pow_sixteen zero = refl
pow_sixteen (suc d) =
    let e : 4 * suc d ≡ 4 * d + 4 = omega arith in
    ap (λ (n : ℕ). 2 ^ n) e ∙ pow-add 2 (4 * d) 4 ∙ ap (λ (n : ℕ). n * 16) (pow_sixteen d) ∙ sym (pow-suc 16 d)

-- four bits of a hash
pub shifted_digit : (h d : ℕ) → bit_and (h / 2 ^ (4 * d)) 15 ≡ digit h d
shifted_digit h d = and_mask (h / 2 ^ (4 * d)) 4 ∙ ap (λ (n : ℕ). h / n % 16) (pow_sixteen d)

-- ---- settings

some_one : {A : Type 0} (a b : A) → Some a ≡ Some b → a ≡ b
some_one a b e = cc

module _ {X Y : Type 0} (K : KeyKind) (kb : X → List ℕ) (vb : Y → List ℕ) (es : List (EntryCell X Y)) (e : ℕ) where
  -- what is held is not empty
  pub not_empty : SomeEntry K kb vb es e → (entry_cell es e).held ≡ None → ⊥
  not_empty s n =
      let c : EntryCell X Y = entry_cell es e in
      let t : is_some c.held ≡ true = subst (λ l. is_some (entry_cell l e).held ≡ true) s.entries_are (s.sits.entries.filled e (subst (λ l. 0 < (entry_cell l e).holders) (sym s.entries_are) s.held)) in
      false≢true (sym (ap is_some n) ∙ t)

  -- and what it is, each note of it says
  pub read_setting : 0 < (entry_cell es e).holders → (key : X) (value : Y) → (entry_cell es e).held ≡ Some (key, value) → SettingRead K kb vb es e key value
  read_setting h key value is = record {
    held = is;
    setting = λ T N R E S t. (noted T N R E S t).0;
    label = λ T N R E S t. (noted T N R E S t).1;
  }
    where
      noted : (T : Tables X Y) (N : Notes) (R E : List ℕ) → Sits K kb vb T N R E → T.entries ≡ es → ((N.entry e).setting ≡ record { key = kb key; value = vb value }) × ((N.entry e).label.what ≡ kb key)
      noted T N R E S t =
          let f = S.means.entry_fits e (subst (λ l. 0 < (entry_cell l e).holders) (sym t) h) in
          let same : Some (f.key, f.value) ≡ Some (key, value) = sym f.holds ∙ ap (λ l. (entry_cell l e).held) t ∙ is in
          let pair : ◌≡◌ {A = X × Y} (f.key, f.value) (key, value) = some_one (f.key, f.value) (key, value) same in
          let k : f.key ≡ key = ap (λ (x : X × Y). x.0) pair in
          let v : f.value ≡ value = ap (λ (x : X × Y). x.1) pair in
          (f.setting_is ∙ (λ i. record { key = kb (k i); value = vb (v i) }), f.label_is ∙ ap kb k)

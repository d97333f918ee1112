-- A key is set where no other key is, in numbers. Assumes nothing.
use Rattle.std.proofs.Common.{◌≡◌, ℕ, ◌<◌, Bool, true, false, cond, List, [], ◌∷◌, ◌++◌, length, is_some, Some, None, Option, sym, refl, ap, ◌∙◌, subst, inl, inr, arith}
use mir.Val.{bool_byte}
use Rattle.std.proofs.lemmas.Bool.{cond-true}
use Rattle.byte_rows.specs.Rows.{same}
use Rattle.byte_rows.proofs.Orders.{same_decides}
use Rattle.kinds.specs.Kinds.{KeyKind, ValueKind}
use Rattle.model.specs.Maps.{Setting, Map, Sound, look, same_found, same_map}
use Rattle.model.specs.Sharing.{Part, Shared}
use Rattle.model.proofs.Maps.Order.{Reads}
use Rattle.plans.specs.Plans.{edited, Told, Tally}
use Rattle.plans.proofs.Leaves.{told_none, told_one}
use Rattle.plans.proofs.Twice.{entry_twice}
use Rattle.branches.specs.declared.branch.Branch.{Branch}
use Rattle.branches.specs.declared.branch.Branch.TheVariants.{Entry}
use Rattle.branches.specs.States.{Tables, Notes, Sits}
use Rattle.branches.specs.Branches.{Single}
use Rattle.branches.proofs.Settings.{lone, edited_split, edited_over, edited_same, old_entry, new_entry}
use Rattle.tables.specs.declared.cells.EntryId.{EntryId}
use Rattle.edits.specs.declared.estimate.Estimate.{Estimate}
use Rattle.edits.specs.Sets.{value_bytes, tally, Estimated, Alone, FoundAlone}
use Rattle.edits.specs.Rowing.{setting_held, setting_at, value_held, RowEstimate}
use Rattle.edits.specs.Estimates.{alone_told, SameAlone, EstimatedAlone}
use Rattle.edits.proofs.Turns.{reads}

-- ---- what is left

module _ (K : KeyKind) (V : ValueKind) (m : Map) (k : List ℕ) (good : Sound K V m) (key : K.readable k ≡ true) (x : Option (List ℕ)) (value : Reads V x) (alone : Alone m k) where
  -- only what is set is left
  pub edited_lone : edited K m k x ≡ lone k x
  edited_lone =
      elim alone [
        | inl e ↦ edited_split K V m k good key x value [] [] e tt tt ∙ whole (lone k x)
        | inr s ↦ edited_over K V m k good key x value [] s.0 [] s.1.0 s.1.1 tt tt ∙ whole (lone k x)
      ]
    where
      whole : (l : Map) → l ++ [] ≡ l
      whole [] = refl
      whole (s ∷ l) = ap (λ (r : Map). s ∷ r) (whole l)

  lone_same : same_map m (lone k x) ≡ same_found (look m k) x
  lone_same = ap (same_map m) (sym edited_lone) ∙ edited_same K V m k good key x value

-- ---- in numbers

no_entries : (b : Bool) → ◌≡◌ {A = ℕ} (cond b 0 0) 0
no_entries true = refl
no_entries false = refl

one_entry : (b : Bool) (s t : Shared) → s.new_entries ≡ 0 → t.new_entries ≡ 1 → cond b 0 1 ≡ (cond b s t).new_entries
one_entry true s t e f = sym e
one_entry false s t e f = sym f

told_lone : (K : KeyKind) (n h : ℕ) (p : List ℕ) (a : Part) (k : List ℕ) (x : Option (List ℕ)) → h < 8 → same_map a.settings (lone k x) ≡ same_found (look a.settings k) x → Told K n h p a a (lone k x) (alone_told x (same_found (look a.settings k) x))
told_lone K n h p a k None low e =
    let w = told_none K n h p a a in
    record { size = w.size; ours = sym e; theirs = sym e; crowded = w.crowded; nodes = w.nodes; entries = no_entries (same_found (look a.settings k) None) ∙ w.entries }
told_lone K n h p a k (Some v) low e =
    let s : Setting = record { key = k; value = v } in
    let w = told_one K n h p a a s low in
    record {
      size = w.size;
      ours = sym e;
      theirs = sym e;
      crowded = w.crowded;
      nodes = w.nodes;
      entries = one_entry (same_found (look a.settings k) (Some v)) (old_entry a s) (new_entry n s) refl refl ∙ sym (ap (λ (r : Shared). r.new_entries) (entry_twice n a s)) ∙ w.entries;
    }

-- ---- whether it was there already

module _ {X Y : Type 0} (K : KeyKind) (kb : X → List ℕ) (vb : Y → List ℕ) (T : Tables X Y) (b : Branch) (x : Option (List ℕ)) (r : Bool) where
  found_entry : (id : EntryId) (N : Notes) (R E : List ℕ) → Sits K kb vb T N R E → (a : Part) (k : List ℕ) → Single T N id.0 a → Alone a.settings k → look a.settings k ≡ value_held kb vb T.entries (Some id)
  found_entry id N R E S a k one alone =
      let s : Setting = setting_at kb vb T.entries id.0 in
      let F = S.means.entry_fits id.0 one.held in
      let is : a.settings ≡ s ∷ [] = one.settings ∙ ap (λ (t : Setting). t ∷ []) (F.setting_is ∙ sym (ap (setting_held kb vb) F.holds)) in
      let e : s.key ≡ k = elim alone [
        | inl z ↦ absurd (omega (arith, ap length (sym z ∙ is)))
        | inr z ↦ ap (λ (m : Map). first m) (sym is ∙ z.1.0) ∙ z.1.1
      ] in
      ap (λ (m : Map). look m k) is ∙ cond-true (same s.key k) (Some s.value) None ((same_decides s.key k).1 e)
    where
      first : Map → List ℕ
      first [] = []
      first (t ∷ m) = t.key

  pub same_entry : (id : EntryId) → b ≡ Entry id → r ≡ same_found (value_held kb vb T.entries (Some id)) x → SameAlone K kb vb T b x r
  same_entry id e f =
      subst (λ (y : Branch). SameAlone K kb vb T y x r) (sym e)
      (record { same = λ N R E S level p a k low is alone. f ∙ ap (λ (y : Option (List ℕ)). same_found y x) (sym (found_entry id N R E S a k is.1 alone)) })

-- what is set alone is a row of one setting, or none
row_alone : {Y : Type 0} (vb : Y → List ℕ) (value : Option Y) (same : Bool) (c : Estimate) → RowEstimate (bool_byte (is_some value)) (is_some value) same c → tally c ≡ alone_told (value_bytes vb value) same
row_alone vb (Some v) same c R = λ i. record { size = R.size i; ours = R.ours i; theirs = R.theirs i; crowded = R.crowded i; nodes = R.nodes i; entries = R.entries i }
row_alone vb None same c R =
    let none = R.entries ∙ sym (no_entries same) in
    λ i. record { size = R.size i; ours = R.ours i; theirs = R.theirs i; crowded = R.crowded i; nodes = R.nodes i; entries = none i }

pub estimated_alone :
    {X Y : Type 0} (K : KeyKind) (kb : X → List ℕ) (vb : Y → List ℕ) (T : Tables X Y) (b : Branch) (value : Option Y) (r : Bool) → SameAlone K kb vb T b (value_bytes vb value) r
    → (some : Bool) → some ≡ is_some value → (count : ℕ) → count ≡ bool_byte some → (c : Estimate) → RowEstimate count some r c → EstimatedAlone K kb vb T b (value_bytes vb value) c
estimated_alone K kb vb T b value r s some some_is count count_is c R = record {
  told = λ N R' E S level p a k low is alone.
      row_alone vb value r c
      (subst (λ (t : Bool). RowEstimate (bool_byte t) t r c) some_is (subst (λ (i : ℕ). RowEstimate i some r c) count_is R))
      ∙ ap (alone_told (value_bytes vb value)) (s.same N R' E S level p a k low is alone);
}

-- ---- whatever the branch is

pub told_alone : {X Y : Type 0} (K : KeyKind) (V : ValueKind) (kb : X → List ℕ) (vb : Y → List ℕ) (T : Tables X Y) (b : Branch) (k : List ℕ) (x : Option (List ℕ)) (level : ℕ) → level < 8 →
    (found : Bool) → FoundAlone K kb vb T b k found → found ≡ true → (c : Estimate) → EstimatedAlone K kb vb T b x c → Estimated K V kb vb T b k x level c
told_alone K V kb vb T b k x level low found A yes' c C = record {
  told = λ q n.
      let a = q.source in
      let value = reads V x q.value_reads in
      let alone = A.alone yes' q.notes q.roots q.in_hand q.sits level q.prefix a q.is in
      subst (λ (t : Tally). Told K n level q.prefix a a (edited K a.settings k x) t) (sym (C.told q.notes q.roots q.in_hand q.sits level q.prefix a k low q.is alone))
      (subst (λ (m : Map). Told K n level q.prefix a a m (alone_told x (same_found (look a.settings k) x))) (sym (edited_lone K V a.settings k q.sound q.key_reads x value alone))
      (told_lone K n level q.prefix a k x low (lone_same K V a.settings k q.sound q.key_reads x value alone)));
}

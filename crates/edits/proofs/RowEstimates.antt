-- What setting one key of a row would take. Assumes nothing.
use Rattle.std.proofs.Common.{◌≡◌, ℕ, ◌+◌, ◌≤◌, Bool, true, false, cond, ltb, List, [], ◌∷◌, ◌++◌, length, get_or, take, drop, is_some, Some, None, IfSome, All, Decides, Option, sym, refl, ap, ap₂, ◌∙◌, subst, inl, inr, arith, length-drop}
use mir.Val.{bool_byte}
use Rattle.std.specs.List.{AllByRecursion}
use Rattle.std.proofs.ByRecursion.{All-take, All-drop}
use Rattle.kinds.specs.Kinds.{KeyKind, ValueKind}
use Rattle.std.proofs.lemmas.List.{length-take-le}
use Rattle.std.proofs.lemmas.Bool.Decides.{same_from_decides}
use Rattle.byte_rows.specs.Rows.{same}
use Rattle.byte_rows.proofs.Orders.{same_decides}
use Rattle.model.specs.Maps.{Setting, Map, look, same_found, same_map}
use Rattle.model.specs.Sharing.{Part, Shared, entry_from, sum}
use Rattle.model.proofs.Maps.Found.{found_tells}
use Rattle.model.proofs.Maps.Order.{Reads}
use Rattle.model.proofs.Marks.Members.{all_from_mem}
use Rattle.tables.specs.declared.cells.EntryCell.{EntryCell}
use Rattle.tables.specs.declared.cells.EntryId.{EntryId}
use Rattle.plans.specs.Plans.{edited, capped, Told}
use Rattle.plans.proofs.Edits.{sound_edited}
use Rattle.plans.proofs.Leaves.{told_leaf}
use Rattle.plans.proofs.Twice.{entry_twice}
use Rattle.branches.specs.declared.branch.Branch.{Branch}
use Rattle.branches.specs.States.{Tables}
use Rattle.branches.specs.Branches.{SomeEntry, SettingRead}
use Rattle.branches.proofs.Settings.{lone, edited_same, look_mem, entry_old, entry_new}
use Rattle.branches.proofs.Picks.{sum_append}
use Rattle.edits.specs.declared.estimate.Estimate.{Estimate}
use Rattle.edits.specs.Sets.{value_bytes, Seen, tally}
use Rattle.edits.specs.Rowing.{entries_of, setting_held, setting_at, row_settings, Placed, Split, value_held, RowEstimate}
use Rattle.edits.proofs.Places.{no_setting, setting_in}
use Rattle.edits.proofs.RowParts.{same_settings, settings_count, some_entries, placed_in, edited_place, edited_long, found_at, look_place}
use Rattle.edits.proofs.RowSets.{value_read}

-- ---- the value that is there

pub same_both :
    {X Y : Type 0} (K : KeyKind) (kb : X → List ℕ) (vb : Y → List ℕ) (es : List (EntryCell X Y)) (found : Option EntryId) (value : Option Y) (id : EntryId) → found ≡ Some id → (new : Y) → value ≡ Some new
    → (key : X) (old : Y) → SettingRead K kb vb es id.0 key old → (t : Bool) → Decides t (vb old ≡ vb new) → t ≡ same_found (value_held kb vb es found) (value_bytes vb value)
same_both {Y = Y} K kb vb es found value id f new e key old read t d =
    same_from_decides t (same (vb old) (vb new)) d (same_decides (vb old) (vb new))
    ∙ ap (λ (s : Setting). same_found (Some s.value) (Some (vb new))) (sym (ap (setting_held kb vb) read.held))
    ∙ ap₂ (λ (o : Option EntryId) (v : Option Y). same_found (value_held kb vb es o) (value_bytes vb v)) (sym f) (sym e)

-- ---- new entries

module _ (K : KeyKind) (n : ℕ) (a : Part) where
  -- settings that the source has
  old_free : (l : Map) → AllByRecursion (λ s. look a.settings s.key ≡ Some s.value) l → (sum (entry_from n (a ∷ (a ∷ []))) l).new_entries ≡ 0
  old_free [] h = refl
  old_free (s ∷ l) h = omega (arith, ap (λ (q : Shared). q.new_entries) (entry_old K n a (a ∷ []) s h.0), old_free l h.1)

-- the one that is set
set_free : {Y : Type 0} (K : KeyKind) (n : ℕ) (a : Part) (k : List ℕ) (vb : Y → List ℕ) (value : Option Y)
    → (sum (entry_from n (a ∷ (a ∷ []))) (lone k (value_bytes vb value))).new_entries ≡ cond (is_some value) (cond (same_found (look a.settings k) (value_bytes vb value)) 0 1) 0
set_free K n a k vb None = refl
set_free K n a k vb (Some v) =
    let s : Setting = record { key = k; value = vb v } in
    elim (found_tells (look a.settings k) (Some (vb v))) [
      | inl e ↦ rw e.0 (omega (arith, ap (λ (q : Shared). q.new_entries) (entry_old K n a (a ∷ []) s e.1)))
      | inr e ↦ rw e.0 (omega (arith, ap (λ (q : Shared). q.new_entries) (entry_twice n a s ∙ entry_new n a s e.1)))
    ]

lone_count : {Y : Type 0} (k : List ℕ) (vb : Y → List ℕ) (value : Option Y) → length (lone k (value_bytes vb value)) ≡ cond (is_some value) 1 0
lone_count k vb (Some v) = refl
lone_count k vb None = refl

byte_is : (b : Bool) → bool_byte b ≡ cond b 1 0
byte_is true = refl
byte_is false = refl

cond_once : (b : Bool) → ◌≡◌ {A = ℕ} (cond b 0 1) (cond b 0 (cond b 0 1))
cond_once true = refl
cond_once false = refl

module _ {X Y : Type 0} (K : KeyKind) (V : ValueKind) (kb : X → List ℕ) (vb : Y → List ℕ) (T : Tables X Y) (b : Branch) (key : X) (value : Option Y) (q : Seen K V kb vb T b (kb key) (value_bytes vb value) 0) where
  abbrev k : List ℕ
  k = kb key

  abbrev x : Option (List ℕ)
  x = value_bytes vb value

  abbrev old : Map
  old = q.source.settings

  abbrev new : Map
  new = edited K q.source.settings (kb key) (value_bytes vb value)

  deepest : length q.prefix ≡ 8
  deepest = omega (arith, q.deep)

  reads : Reads V x
  reads = value_read V x q.value_reads

  module _ (xs : List ℕ) (row : xs ≡ entries_of T.nodes b) where
    pub seen_entries : All (SomeEntry K kb vb T.entries) xs
    seen_entries = some_entries K kb vb T q.notes q.roots q.in_hand q.sits q.prefix deepest q.source b q.is xs row

    counted : length old ≡ length xs
    counted = settings_count K kb vb T q.notes q.roots q.in_hand q.sits q.prefix deepest q.source b q.is xs row

    cells : row_settings kb vb T.entries xs ≡ old
    cells = same_settings K kb vb T q.notes q.roots q.in_hand q.sits q.prefix deepest q.source b q.is xs row

    module _ (ys : List ℕ) (own : Option EntryId) (zs : List ℕ) (F : Split K kb vb T.entries xs (kb key) ys own zs) where
      abbrev at : ℕ
      at = F.at

      abbrev found : Bool
      found = is_some own

      placed : Placed K old k F.at (is_some own)
      placed = placed_in K kb vb T q.notes q.roots q.in_hand q.sits q.prefix deepest q.source b q.is xs row q.sound.rises k ys own zs F

      past : F.at + cond (is_some own) 1 0 ≤ length xs
      past = omega (arith, placed.inside, counted)

      pub seen_own : IfSome own (λ id. SomeEntry K kb vb T.entries id.0)
      seen_own = go own F.own_is past
        where
          go : (o : Option EntryId) → IfSome o (λ id. id.0 ≡ get_or xs F.at 0) → F.at + cond (is_some o) 1 0 ≤ length xs → IfSome o (λ id. SomeEntry K kb vb T.entries id.0)
          go None w h = tt
          go (Some id) w h = subst (SomeEntry K kb vb T.entries) (sym w) (seen_entries F.at 0 (omega arith))

      there : found_at old F.at (is_some own) ≡ value_held kb vb T.entries own
      there = go own F.own_is past
        where
          go : (o : Option EntryId) → IfSome o (λ id. id.0 ≡ get_or xs F.at 0) → F.at + cond (is_some o) 1 0 ≤ length xs → found_at old F.at (is_some o) ≡ value_held kb vb T.entries o
          go None w h = refl
          go (Some id) w h =
              ap (λ (m : Map). Some (get_or m F.at no_setting).value) (sym cells)
              ∙ ap (λ (s : Setting). Some s.value) (setting_in kb vb T.entries xs F.at (omega arith) ∙ ap (setting_at kb vb T.entries) (sym w))

      row_long : length ys + length zs + cond (is_some own) 1 0 ≡ length xs
      row_long =
          omega (arith, ap length F.before_are, length-take-le F.at xs (omega (arith, past)), ap length F.after_are, length-drop (F.at + cond (is_some own) 1 0) xs, past)

      new_entries : (n : ℕ) → (sum (entry_from n (q.source ∷ (q.source ∷ []))) new).new_entries ≡ cond (is_some value) (cond (same_found (look old k) x) 0 1) 0
      new_entries n =
          let f : Setting → Shared = entry_from n (q.source ∷ (q.source ∷ [])) in
          let P : Setting → Type 0 = λ s. look old s.key ≡ Some s.value in
          let all : AllByRecursion P old = all_from_mem P old (λ s i. look_mem K old s q.sound.rises i) in
          let before = old_free K n q.source (take at old) (All-take P at old all) in
          let after = old_free K n q.source (drop (at + cond found 1 0) old) (All-drop P (at + cond found 1 0) old all) in
          ap (λ (m : Map). (sum f m).new_entries) (edited_place K V old k at q.sound q.key_reads x reads found placed)
          ∙ omega (arith, (sum_append f (take at old) (lone k x ++ drop (at + cond found 1 0) old)).1, (sum_append f (lone k x) (drop (at + cond found 1 0) old)).1, before, after)
          ∙ set_free K n q.source k vb value

      -- the estimate is the account's
      pub seen_told :
          (same : Bool) → same ≡ same_found (value_held kb vb T.entries own) (value_bytes vb value) → (some : Bool) → some ≡ is_some value
          → (v : ℕ) → v ≡ bool_byte some → (c : Estimate) → RowEstimate (length ys + v + length zs) some same c
          → (n : ℕ) → Told K n 0 q.prefix q.source q.source new (tally c)
      seen_told same same_is some some_is v v_is c R n =
          let count : ℕ = length ys + v + length zs in
          let long : count ≡ length new =
          omega (
            arith,
            edited_long K V old k at q.sound q.key_reads x reads found placed,
            counted,
            row_long,
            v_is,
            byte_is some,
            lone_count k vb value,
            ap {B = ℕ} (λ (t : Bool). cond t 1 0) some_is,
          ) in
          let alike : same ≡ same_map old new =
          same_is ∙ ap (λ (y : Option (List ℕ)). same_found y x) (sym (look_place K V old k at found placed ∙ there)) ∙ sym (edited_same K V old k q.sound q.key_reads x reads) in
          let L = told_leaf K V n q.prefix q.source q.source new (sound_edited K V old k q.sound q.key_reads x reads) in
          record {
            size = R.size ∙ ap capped long;
            ours = R.ours ∙ alike;
            theirs = R.theirs ∙ alike;
            crowded = R.crowded ∙ ap (ltb 16) long ∙ L.crowded;
            nodes =
                R.nodes ∙ ap {B = ℕ} (λ (i : ℕ). cond (ltb 1 i) (cond same 0 1) 0) long ∙ ap (λ (i : ℕ). cond (ltb 1 (length new)) i 0) (cond_once same)
                ∙ ap {B = ℕ} (λ (t : Bool). cond (ltb 1 (length new)) (cond t 0 (cond t 0 1)) 0) alike ∙ L.nodes;
            entries =
                R.entries ∙ ap {B = ℕ} (λ (t : Bool). cond t (cond same 0 1) 0) some_is
                ∙ ap {B = ℕ} (λ (t : Bool). cond (is_some value) (cond t 0 1) 0) (alike ∙ edited_same K V old k q.sound q.key_reads x reads) ∙ sym (new_entries n) ∙ L.entries;
          }

-- What merging three rows would take. Assumes nothing.
use Rattle.std.proofs.Common.{◌≡◌, ℕ, ◌+◌, ◌<◌, ◌≤◌, Bool, cond, ltb, List, [], ◌∷◌, map, length, Some, All, sym, refl, ap, ap₂, ◌∙◌, subst, arith, inl, inr}
use mathlib.Core.List.Memᴰ
use Rattle.std.specs.List.{AllByRecursion, count_by}
use Rattle.std.proofs.lemmas.Bool.{cases_eq}
use Rattle.std.proofs.lemmas.List.{length-map}
use Rattle.std.proofs.lemmas.List.Sums.{sum_by-cons}
use Rattle.kinds.specs.Kinds.{KeyKind, ValueKind}
use Rattle.model.specs.Maps.{Setting, Map, look, same_map, merge, Rises, Sound}
use Rattle.model.specs.Sharing.{Part, Shared, entry_from, sum}
use Rattle.model.proofs.Maps.Edits.{sound_merge}
use Rattle.model.proofs.Marks.Members.{Mem, mem_map}
use Rattle.tables.specs.declared.cells.EntryCell.{EntryCell}
use Rattle.tables.specs.Chains.{occ}
use Rattle.tables.proofs.Occurrences.{occ_nil, occ_rest}
use Rattle.plans.specs.Plans.{capped, Told}
use Rattle.plans.proofs.Leaves.{told_leaf}
use Rattle.plans.proofs.Crowds.{crowd_deepest}
use Rattle.branches.specs.declared.branch.Branch.{Branch}
use Rattle.branches.specs.States.{Tables}
use Rattle.branches.specs.Branches.{SomeEntry}
use Rattle.branches.proofs.Settings.{look_mem, entry_old, entry_else}
use Rattle.edits.specs.declared.estimate.Estimate.{Estimate}
use Rattle.edits.specs.Sets.{tally}
use Rattle.edits.specs.Rowing.{entries_of, setting_at, row_settings}
use Rattle.edits.proofs.RowParts.{same_settings, settings_count, some_entries}
use Rattle.merges.specs.declared.choices.Choice.{Choice}
use Rattle.merges.specs.declared.choices.Choice.TheVariants.{Ours, Theirs, Joined}
use Rattle.merges.specs.declared.chosen.Chosen.{Chosen}
use Rattle.merges.specs.Choices.{is_new, chosen}
use Rattle.merges.specs.Merges.{Met, merged}
use Rattle.merges.specs.Rowing.{choices, Apt, Ordered, merged_rows, Chose, Tallied}

pub occ_mem : (l : List ℕ) (e : ℕ) → 0 < occ e l → Mem e l
occ_mem [] e h = absurd (omega (arith, occ_nil e))
occ_mem (x ∷ l) e h = elim (cases_eq e x) [ inl z ↦ Memᴰ.head z | inr z ↦ Memᴰ.tail (occ_mem l e (occ_rest e x l h z)) ]

-- ---- how many entries are new

module _ {X Y : Type 0} (K : KeyKind) (V : ValueKind) (kb : X → List ℕ) (vb : Y → List ℕ) (es : List (EntryCell X Y)) (xs zs : List ℕ) (n : ℕ) (o t : Part)
    (mine : row_settings kb vb es xs ≡ o.settings) (other : row_settings kb vb es zs ≡ t.settings) (rises : Rises K o.settings) (other_rises : Rises K t.settings) where
  found : (ids : List ℕ) (a : Part) → row_settings kb vb es ids ≡ a.settings → Rises K a.settings → (e : ℕ) → 0 < occ e ids → look a.settings (setting_at kb vb es e).key ≡ Some (setting_at kb vb es e).value
  found ids a i u e h = look_mem K a.settings (setting_at kb vb es e) u (subst (Mem (setting_at kb vb es e)) i (mem_map (setting_at kb vb es) ids e (occ_mem ids e h)))

  one_new : (c : Choice) → Apt K kb vb es V xs zs c → (entry_from n (o ∷ (t ∷ [])) (chosen V kb vb es c)).new_entries ≡ cond (is_new c) 1 0
  one_new (Ours e) a = ap (λ (s : Shared). s.new_entries) (entry_old K n o (t ∷ []) (setting_at kb vb es e.0) (found xs o mine rises e.0 a))
  one_new (Theirs e) a =
      let s : Setting = setting_at kb vb es e.0 in
      let none : look o.settings s.key ≡ Some s.value → ⊥ = λ q. a.1 (ap (λ (m : Map). look m s.key) mine ∙ q) in
      ap (λ (s : Shared). s.new_entries) (entry_else n o (t ∷ []) s none ∙ entry_old K n t [] s (found zs t other other_rises e.0 a.0))
  one_new (Joined e d) a =
      let s : Setting = chosen V kb vb es (Joined e d) in
      let none : look o.settings s.key ≡ Some s.value → ⊥ = λ q. a.1.1.0 (ap (λ (m : Map). look m s.key) mine ∙ q) in
      let no : look t.settings s.key ≡ Some s.value → ⊥ = λ q. a.1.1.1 (ap (λ (m : Map). look m s.key) other ∙ q) in
      ap (λ (s : Shared). s.new_entries) (entry_else n o (t ∷ []) s none ∙ entry_else n t [] s no)

  pub all_new : (cs : List Choice) → AllByRecursion (Apt K kb vb es V xs zs) cs → (sum (entry_from n (o ∷ (t ∷ []))) (map (chosen V kb vb es) cs)).new_entries ≡ count_by is_new cs
  all_new [] a = refl
  all_new (c ∷ cs) a = omega (arith, one_new c a.0, all_new cs a.1, sum_by-cons (λ x. cond (is_new x) 1 0) c cs)

-- ---- three branches

module _ {X Y : Type 0} (K : KeyKind) (V : ValueKind) (kb : X → List ℕ) (vb : Y → List ℕ) (T : Tables X Y) (ours base theirs : Branch) (q : Met K V kb vb T ours base theirs 0) where
  pub deepest : length q.prefix ≡ 8
  deepest = omega (arith, q.deep)

  module _ (xs : List ℕ) (row : xs ≡ entries_of T.nodes ours) where
    pub mine_some : All (SomeEntry K kb vb T.entries) xs
    mine_some = some_entries K kb vb T q.notes q.roots q.in_hand q.sits q.prefix deepest q.mine ours q.ours_is xs row

    pub mine_settings : row_settings kb vb T.entries xs ≡ q.mine.settings
    mine_settings = same_settings K kb vb T q.notes q.roots q.in_hand q.sits q.prefix deepest q.mine ours q.ours_is xs row

    pub mine_few : length xs ≤ 16
    mine_few = omega (arith, settings_count K kb vb T q.notes q.roots q.in_hand q.sits q.prefix deepest q.mine ours q.ours_is xs row, crowd_deepest K (length q.prefix) q.mine.settings q.calm)

  module _ (ys : List ℕ) (row : ys ≡ entries_of T.nodes base) where
    pub common_some : All (SomeEntry K kb vb T.entries) ys
    common_some = some_entries K kb vb T q.notes q.roots q.in_hand q.sits q.prefix deepest q.common base q.base_is ys row

    pub common_settings : row_settings kb vb T.entries ys ≡ q.common.settings
    common_settings = same_settings K kb vb T q.notes q.roots q.in_hand q.sits q.prefix deepest q.common base q.base_is ys row

  module _ (zs : List ℕ) (row : zs ≡ entries_of T.nodes theirs) where
    pub other_some : All (SomeEntry K kb vb T.entries) zs
    other_some = some_entries K kb vb T q.notes q.roots q.in_hand q.sits q.prefix deepest q.other theirs q.theirs_is zs row

    pub other_settings : row_settings kb vb T.entries zs ≡ q.other.settings
    other_settings = same_settings K kb vb T q.notes q.roots q.in_hand q.sits q.prefix deepest q.other theirs q.theirs_is zs row

    pub other_few : length zs ≤ 16
    other_few = omega (arith, settings_count K kb vb T q.notes q.roots q.in_hand q.sits q.prefix deepest q.other theirs q.theirs_is zs row, crowd_deepest K (length q.prefix) q.other.settings q.other_calm)

  -- rows that stand for the branches
  module _ (xs ys zs : List ℕ) (row : xs ≡ entries_of T.nodes ours) (base_row : ys ≡ entries_of T.nodes base) (other_row : zs ≡ entries_of T.nodes theirs) where
    pub met_order : Ordered K kb vb T.entries V xs ys zs
    met_order = record {
      mine = subst (Sound K V) (sym (mine_settings xs row)) q.sound;
      common = subst (Rises K) (sym (common_settings ys base_row)) q.common_sound.rises;
      other = subst (Sound K V) (sym (other_settings zs other_row)) q.other_sound;
    }

    pub met_few : length xs + length zs ≤ 32
    met_few = omega (arith, mine_few xs row, other_few zs other_row)

    pub met_chose : (c : Chosen) → Chose K kb vb T.entries V xs ys zs c → Chose K kb vb T.entries V (entries_of T.nodes ours) (entries_of T.nodes base) (entries_of T.nodes theirs) c
    met_chose c R =
        subst (λ (l : List ℕ). Chose K kb vb T.entries V l (entries_of T.nodes base) (entries_of T.nodes theirs) c) row
        (subst (λ (l : List ℕ). Chose K kb vb T.entries V xs l (entries_of T.nodes theirs) c) base_row (subst (λ (l : List ℕ). Chose K kb vb T.entries V xs ys l c) other_row R))

  abbrev result : Map
  result = merge K V q.mine.settings q.common.settings q.other.settings

  pub sound_result : Sound K V (merge K V q.mine.settings q.common.settings q.other.settings)
  sound_result = sound_merge K V q.mine.settings q.common.settings q.other.settings q.sound q.other_sound

  module _ (c : Chosen) (R : Chose K kb vb T.entries V (entries_of T.nodes ours) (entries_of T.nodes base) (entries_of T.nodes theirs) c) where
    own : row_settings kb vb T.entries (entries_of T.nodes ours) ≡ q.mine.settings
    own = mine_settings (entries_of T.nodes ours) refl

    their_own : row_settings kb vb T.entries (entries_of T.nodes theirs) ≡ q.other.settings
    their_own = other_settings (entries_of T.nodes theirs) refl

    merges : merged_rows K kb vb T.entries V (entries_of T.nodes ours) (entries_of T.nodes base) (entries_of T.nodes theirs) ≡ result
    merges =
        ap₂ (λ (x z : Map). merge K V x (row_settings kb vb T.entries (entries_of T.nodes base)) z) own their_own
        ∙ ap (λ (y : Map). merge K V q.mine.settings y q.other.settings) (common_settings (entries_of T.nodes base) refl)

    pub chosen_are : map (chosen V kb vb T.entries) (choices c) ≡ merge K V q.mine.settings q.common.settings q.other.settings
    chosen_are = R.fitting.settings ∙ merges

    pub chosen_ours : c.ours ≡ same_map q.mine.settings (merge K V q.mine.settings q.common.settings q.other.settings)
    chosen_ours = R.fitting.ours_is ∙ ap₂ same_map own merges

    pub chosen_theirs : c.theirs ≡ same_map q.other.settings (merge K V q.mine.settings q.common.settings q.other.settings)
    chosen_theirs = R.fitting.theirs_is ∙ ap₂ same_map their_own merges

    pub chosen_long : length (choices c) ≡ length (merge K V q.mine.settings q.common.settings q.other.settings)
    chosen_long = sym (length-map (choices c) (chosen V kb vb T.entries)) ∙ ap length chosen_are

    pub chosen_new : (n : ℕ) → c.new ≡ (sum (entry_from n (q.mine ∷ (q.other ∷ []))) (merge K V q.mine.settings q.common.settings q.other.settings)).new_entries
    chosen_new n =
        R.new_is
        ∙ sym (all_new K V kb vb T.entries (entries_of T.nodes ours) (entries_of T.nodes theirs) n q.mine q.other own their_own q.sound.rises q.other_sound.rises (choices c) R.fitting.apt)
        ∙ ap (λ (m : Map). (sum (entry_from n (q.mine ∷ (q.other ∷ []))) m).new_entries) chosen_are

    -- the estimate is the account's
    pub met_told : (e : Estimate) → Tallied c e → (n : ℕ) → Told K n 0 q.prefix q.mine q.other (merged K V kb vb T ours base theirs 0 q) (tally e)
    met_told e G n =
        let L = told_leaf K V n q.prefix q.mine q.other result sound_result in
        record {
          size = G.size ∙ ap capped chosen_long;
          ours = G.ours ∙ chosen_ours;
          theirs = G.theirs ∙ chosen_theirs;
          crowded = G.crowded ∙ ap (ltb 16) chosen_long ∙ L.crowded;
          nodes =
              G.nodes ∙ ap (λ (i : ℕ). cond (ltb 1 i) (cond c.ours 0 (cond c.theirs 0 1)) 0) chosen_long
              ∙ ap₂ (λ (x y : Bool). cond (ltb 1 (length result)) (cond x 0 (cond y 0 1)) 0) chosen_ours chosen_theirs ∙ L.nodes;
          entries = G.entries ∙ chosen_new n ∙ L.entries;
        }

-- Where a key is in a row of entries. Assumes nothing.
use Rattle.std.proofs.Common.{◌≡◌, ℕ, zero, suc, ◌+◌, ◌<◌, true, false, List, [], ◌∷◌, length, get_or, take, drop, sym, ap, ◌∙◌, subst, arith}
use Rattle.std.specs.List.{AllByRecursion}
use Rattle.std.proofs.lemmas.List.{length-map, get_or-map, drop_more}
use Rattle.std.proofs.ByRecursion.{All-more, All-weaker}
use Rattle.kinds.specs.Kinds.{KeyKind}
use Rattle.model.specs.Maps.{Setting, Map, Rises}
use Rattle.tables.specs.declared.cells.EntryCell.{EntryCell}
use Rattle.branches.specs.Branches.{SettingRead}
use Rattle.edits.specs.Rowing.{setting_held, setting_at, row_settings, Placed}

abbrev pub no_setting : Setting
no_setting = record { key = []; value = [] }

-- the first so many settings of a row come before a key
abbrev pub Passed : {X Y : Type 0} → KeyKind → (X → List ℕ) → (Y → List ℕ) → List (EntryCell X Y) → List ℕ → List ℕ → ℕ → Type 0
Passed K kb vb es xs k j = AllByRecursion (λ s. K.before s.key k ≡ true) (take j (row_settings kb vb es xs))

-- in a rising map a key comes before all behind it
rises_after : (K : KeyKind) (m : Map) (j : ℕ) → j < length m → Rises K m → AllByRecursion (λ t. K.before (get_or m j no_setting).key t.key ≡ true) (drop (suc j) m)
rises_after K [] j h r = absurd (omega arith)
rises_after K (s ∷ m) zero h r = r.0
rises_after K (s ∷ m) (suc j) h r = rises_after K m j (omega arith) r.1

module _ {X Y : Type 0} (kb : X → List ℕ) (vb : Y → List ℕ) (es : List (EntryCell X Y)) (xs : List ℕ) where
  settings_long : length (row_settings kb vb es xs) ≡ length xs
  settings_long = length-map xs (setting_at kb vb es)

  pub setting_in : (j : ℕ) → j < length xs → get_or (row_settings kb vb es xs) j no_setting ≡ setting_at kb vb es (get_or xs j 0)
  setting_in j h = get_or-map (setting_at kb vb es) xs j 0 no_setting h

  module _ (K : KeyKind) (k : List ℕ) where
    -- one setting of the row, as it was read
    module _ (j : ℕ) (inside : j < length xs) (passed : Passed K kb vb es xs k j) (key : X) (value : Y) (read : SettingRead K kb vb es (get_or xs j 0) key value) where
      key_in : (get_or (row_settings kb vb es xs) j no_setting).key ≡ kb key
      key_in = ap (λ (s : Setting). s.key) (setting_in j inside ∙ ap (setting_held kb vb) read.held)

      within : j < length (row_settings kb vb es xs)
      within = omega (arith, settings_long)

      pub passed_more : K.before (kb key) k ≡ true → Passed K kb vb es xs k (j + 1)
      passed_more b = All-more (λ s. K.before s.key k ≡ true) (row_settings kb vb es xs) j no_setting within passed (ap (λ (x : List ℕ). K.before x k) key_in ∙ b)

      after_key : Rises K (row_settings kb vb es xs) → AllByRecursion (λ t. K.before (kb key) t.key ≡ true) (drop (j + 1) (row_settings kb vb es xs))
      after_key up =
          let one : j + 1 ≡ suc j = omega arith in
          subst (λ (x : List ℕ). AllByRecursion (λ t. K.before x t.key ≡ true) (drop (j + 1) (row_settings kb vb es xs))) key_in
          (subst (λ (i : ℕ). AllByRecursion (λ t. K.before (get_or (row_settings kb vb es xs) j no_setting).key t.key ≡ true) (drop i (row_settings kb vb es xs))) (sym one) (rises_after K (row_settings kb vb es xs) j within up))

      pub placed_here : kb key ≡ k → Rises K (row_settings kb vb es xs) → Placed K (row_settings kb vb es xs) k j true
      placed_here e up = record {
        inside = omega (arith, settings_long);
        behind = passed;
        here = λ z. key_in ∙ e;
        ahead = subst (λ (x : List ℕ). AllByRecursion (λ t. K.before x t.key ≡ true) (drop (j + 1) (row_settings kb vb es xs))) e (after_key up);
      }

      pub placed_before : K.before k (kb key) ≡ true → Rises K (row_settings kb vb es xs) → Placed K (row_settings kb vb es xs) k j false
      placed_before b up = record {
        inside = omega (arith, settings_long);
        behind = passed;
        here = λ z. absurd (let w : ◌≡◌ {A = ℕ} 0 1 = cc in omega arith);
        ahead =
            let z : j + 0 ≡ j = omega arith in
            let all : AllByRecursion (λ t. K.before k t.key ≡ true) (drop (j + 1) (row_settings kb vb es xs)) =
            All-weaker (λ t. K.before (kb key) t.key ≡ true) (λ t. K.before k t.key ≡ true) (λ t e. K.before_onward k (kb key) t.key b e) (drop (j + 1) (row_settings kb vb es xs)) (after_key up) in
            subst (λ (i : ℕ). AllByRecursion (λ t. K.before k t.key ≡ true) (drop i (row_settings kb vb es xs))) (sym z)
            (subst (λ (l : Map). AllByRecursion (λ t. K.before k t.key ≡ true) l) (sym (drop_more (row_settings kb vb es xs) j no_setting within)) (ap (K.before k) key_in ∙ b, all));
      }

-- What a row says of the part that it is of, and where a key is in it. Assumes nothing.
use Rattle.std.proofs.Common.{◌≡◌, ℕ, ◌+◌, ◌<◌, Bool, true, false, cond, List, [], ◌∷◌, ◌++◌, map, length, get_or, take, drop, is_some, Some, None, All, Option, sym, refl, ap, ◌∙◌, subst, inl, inr, arith, length-drop}
use Rattle.std.proofs.lemmas.List.{length-map, length-take-le, take-append-drop, drop_more}
use Rattle.std.proofs.lemmas.List.Elements.{All-from_get_or}
use Rattle.std.proofs.lemmas.Bool.{cases_eq}
use Rattle.kinds.specs.Kinds.{KeyKind, ValueKind}
use Rattle.model.specs.Maps.{Map, look, Rises, Sound}
use Rattle.model.specs.Sharing.{Part}
use Rattle.model.proofs.Maps.Order.{Reads}
use Rattle.tables.specs.declared.cells.EntryId.{EntryId}
use Rattle.tables.specs.Chains.{occ}
use Rattle.tables.specs.Cells.{entry_cell}
use Rattle.tables.proofs.Occurrences.{occ_nil, occ_rest, occ_at}
use Rattle.tables.proofs.Rows.{map_same}
use Rattle.plans.specs.Plans.{edited}
use Rattle.branches.specs.declared.branch.Branch.{Branch}
use Rattle.branches.specs.declared.branch.Branch.TheVariants.{Nothing, Entry, Child}
use Rattle.branches.specs.States.{Tables, Notes, Sits}
use Rattle.branches.specs.Branches.{Is, SomeEntry}
use Rattle.branches.proofs.Settings.{lone, length_lone, edited_split, edited_over, look_none, look_one}
use Rattle.branches.proofs.Ends.{deep_settings, deep_entries, deep_held}
use Rattle.edits.specs.Rowing.{entries_of, setting_held, setting_at, row_settings, Placed, Split}
use Rattle.edits.proofs.Places.{no_setting}

-- the entries xs are those of a part, in their order
pub record Says {X Y : Type 0} (T : Tables X Y) (N : Notes) (xs : List ℕ) (a : Part) : Type 0 where
  pub settings : map (λ e. (N.entry e).setting) xs ≡ a.settings
  pub labels : map (λ e. (N.entry e).label) xs ≡ a.entries
  pub held : (e : ℕ) → 0 < occ e xs → 0 < (entry_cell T.entries e).holders

-- one alone
only : (e x : ℕ) → 0 < occ e (x ∷ []) → e ≡ x
only e x h = elim (cases_eq e x) [ inl z ↦ z | inr z ↦ absurd (omega (arith, occ_rest e x [] h z, occ_nil e)) ]

module _ {X Y : Type 0} (K : KeyKind) (kb : X → List ℕ) (vb : Y → List ℕ) (T : Tables X Y) (N : Notes) (R E : List ℕ) (S : Sits K kb vb T N R E) (p : List ℕ) (deep : length p ≡ 8) (a : Part) where
  branch_says : (b : Branch) → Is T N b 0 p a → Says T N (entries_of T.nodes b) a
  branch_says Nothing is = record { settings = ap (λ (x : Part). x.settings) (sym is); labels = ap (λ (x : Part). x.entries) (sym is); held = λ e q. absurd (omega (arith, occ_nil e)) }
  branch_says (Entry i) is = record {
    settings = sym is.1.settings;
    labels = sym is.1.entries;
    held = λ e q. subst (λ (x : ℕ). 0 < (entry_cell T.entries x).holders) (sym (only e i.0 q)) is.1.held;
  }
  branch_says (Child i) is = record {
    settings = deep_settings K kb vb T N R E S i.0 p a is.0 deep;
    labels = deep_entries K kb vb T N R E S i.0 p a is.0 deep;
    held = deep_held K kb vb T N R E S i.0 p a is.0 deep;
  }

  module _ (b : Branch) (is : Is T N b 0 p a) (xs : List ℕ) (row : xs ≡ entries_of T.nodes b) where
    pub row_says : Says T N xs a
    row_says = subst (λ (l : List ℕ). Says T N l a) (sym row) (branch_says b is)

    pub settings_count : length a.settings ≡ length xs
    settings_count = ap length (sym row_says.settings) ∙ length-map xs (λ e. (N.entry e).setting)

    pub row_held : All (λ e. 0 < (entry_cell T.entries e).holders) xs
    row_held = All-from_get_or (λ e. 0 < (entry_cell T.entries e).holders) xs 0 (λ j h. row_says.held (get_or xs j 0) (occ_at xs j h))

    -- by its cells
    pub same_settings : row_settings kb vb T.entries xs ≡ a.settings
    same_settings = map_same (setting_at kb vb T.entries) (λ e. (N.entry e).setting) xs cells ∙ row_says.settings
      where
        cells : (e : ℕ) → 0 < occ e xs → setting_at kb vb T.entries e ≡ (N.entry e).setting
        cells e q = let F = S.means.entry_fits e (row_says.held e q) in ap (setting_held kb vb) F.holds ∙ sym F.setting_is

    pub some_entries : All (SomeEntry K kb vb T.entries) xs
    some_entries = λ j d h. record { tables = T; notes = N; roots = R; in_hand = E; sits = S; entries_are = refl; held = row_held j d h }

    pub placed_in : Rises K a.settings → (k ys : List ℕ) (own : Option EntryId) (zs : List ℕ) (F : Split K kb vb T.entries xs k ys own zs) → Placed K a.settings k F.at (is_some own)
    placed_in up k ys own zs F = subst (λ (m : Map). Placed K m k F.at (is_some own)) same_settings (F.placed (subst (Rises K) (sym same_settings) up))

-- ---- a key in its place

-- what a place says of the key's value
abbrev pub found_at : Map → ℕ → Bool → Option (List ℕ)
found_at m at found = cond found (Some (get_or m at no_setting).value) None

module _ (K : KeyKind) (V : ValueKind) (m : Map) (k : List ℕ) (at : ℕ) where
  module _ (good : Sound K V m) (key : K.readable k ≡ true) (x : Option (List ℕ)) (reads : Reads V x) where
    -- the key is set between what comes before and what comes after
    pub edited_place : (found : Bool) → Placed K m k at found → edited K m k x ≡ take at m ++ (lone k x ++ drop (at + cond found 1 0) m)
    edited_place true P =
        edited_over K V m k good key x reads (take at m) (get_or m at no_setting) (drop (at + 1) m)
        (sym (take-append-drop at m) ∙ ap (λ (l : Map). take at m ++ l) (drop_more m at no_setting (omega (arith, P.inside)))) (P.here refl) P.behind P.ahead
    edited_place false P =
        let z : at + 0 ≡ at = omega arith in
        edited_split K V m k good key x reads (take at m) (drop (at + 0) m) (sym (take-append-drop at m) ∙ ap (λ (i : ℕ). take at m ++ drop i m) (sym z)) P.behind P.ahead

    pub edited_long : (found : Bool) → Placed K m k at found → length (edited K m k x) + cond found 1 0 ≡ length m + length (lone k x)
    edited_long found P =
        omega (arith, ap length (edited_place found P), length_lone (take at m) (drop (at + cond found 1 0) m) k x, length-take-le at m (omega (arith, P.inside)), length-drop (at + cond found 1 0) m, P.inside)

  pub look_place : (found : Bool) → Placed K m k at found → look m k ≡ found_at m at found
  look_place true P =
      ap (λ (l : Map). look l k) (sym (take-append-drop at m) ∙ ap (λ (l : Map). take at m ++ l) (drop_more m at no_setting (omega (arith, P.inside))))
      ∙ look_one K V k (take at m) (get_or m at no_setting) (drop (at + 1) m) (P.here refl) P.behind P.ahead
  look_place false P =
      let z : at ≡ at + 0 = omega arith in
      ap (λ (l : Map). look l k) (sym (take-append-drop at m) ∙ ap (λ (i : ℕ). take at m ++ drop i m) z) ∙ look_none K V k (take at m) (drop (at + 0) m) P.behind P.ahead

-- The entries of a merge's result in hand, as they are taken up one after another. Assumes nothing.
use Rattle.std.proofs.Common.{◌≡◌, ℕ, zero, suc, ◌+◌, ◌<◌, ◌≤◌, true, List, [], ◌∷◌, ◌++◌, map, length, get_or, take, drop, Some, sym, refl, ap, ◌∙◌, subst, inl, inr, arith, length-append}
use lib.Count.{ones}
use mathlib.Core.List.Memᴰ
use Rattle.std.specs.List.{AllByRecursion}
use Rattle.std.proofs.Math.Seq.{drop-cons}
use Rattle.std.proofs.lemmas.List.{take_more, get_or-map, length-map, length-take-le, take-append-drop}
use Rattle.kinds.specs.Kinds.{KeyKind, ValueKind}
use Rattle.model.specs.Maps.{Setting, Map, look, merge, Rises}
use Rattle.model.specs.Sharing.{Marked, Part, Shared, sum, entry_from}
use Rattle.model.proofs.Marks.Members.{Mem, all_from_mem}
use Rattle.tables.specs.declared.cells.NodeCell.{NodeCell}
use Rattle.tables.specs.declared.cells.EntryId.{EntryId}
use Rattle.tables.specs.Chains.{occ}
use Rattle.tables.specs.Cells.{entry_cell}
use Rattle.tables.specs.Heaps.{EntryHeld}
use Rattle.tables.specs.Notes.{EntryNote}
use Rattle.tables.proofs.Occurrences.{occ_head, occ_later}
use Rattle.tables.proofs.Noting.{noted_same}
use Rattle.plans.proofs.Crowds.{crowd_deepest}
use Rattle.branches.specs.declared.branch.Branch.{Branch}
use Rattle.branches.specs.States.{Tables, Notes, Sits, Under, Led}
use Rattle.branches.specs.Branches.{SomeEntry}
use Rattle.branches.specs.Hands.{Hand}
use Rattle.branches.specs.Handfuls.{nothing_in_hand, Rowful, entries_in}
use Rattle.branches.proofs.Growing.{clear_grown, clear_to, NodesStay, with_entry, entry_made_grown, entry_made_sits, entry_held_grown, entry_held_sits}
use Rattle.branches.proofs.Settings.{entry_else, entry_listed, new_entry}
use Rattle.branches.proofs.Under.{label_key}
use Rattle.branches.proofs.Bundles.{bundled_none}
use Rattle.branches.proofs.Hands.{hand_none}
use Rattle.branches.proofs.Rows.{row_more}
use Rattle.branches.proofs.Rowfuls.{rowful_count, rowful_in, rowful_itself}
use Rattle.branches.proofs.Picks.{sum_append}
use Rattle.edits.specs.Rowing.{entries_of, setting_held, setting_at}
use Rattle.edits.proofs.Places.{no_setting}
use Rattle.edits.proofs.RowParts.{Says, row_says}
use Rattle.merges.specs.declared.choices.Choice.{Choice}
use Rattle.merges.specs.declared.choices.Choice.TheVariants.{Ours, Theirs, Joined}
use Rattle.merges.specs.declared.chosen.Chosen.{Chosen}
use Rattle.merges.specs.Choices.{chosen}
use Rattle.merges.specs.Merges.{MayMerge}
use Rattle.merges.specs.Rowing.{choices, Apt, Chose}
use Rattle.merges.specs.Building.{Holding, Taking, NewEntry, Taken}
use Rattle.merges.proofs.RowEstimates.{occ_mem, mine_settings, other_settings, sound_result, chosen_are, chosen_long}

mem_occ : (l : List ℕ) (e : ℕ) → Mem e l → 0 < occ e l
mem_occ [] e i = absurd (Memᴰ.not-nil i)
mem_occ (x ∷ l) e i = elim (Memᴰ.cases_cons i) [ inl z ↦ subst (λ (y : ℕ). 0 < occ e (y ∷ l)) z (occ_head e l) | inr j ↦ occ_later e x l (mem_occ l e j) ]

-- what holds of all holds at a place
pub all_at : {A : Type 0} (P : A → Type 0) (xs : List A) (j : ℕ) (d : A) → AllByRecursion P xs → j < length xs → P (get_or xs j d)
all_at P [] j d a l = absurd (omega arith)
all_at P (x ∷ xs) zero d a l = a.0
all_at P (x ∷ xs) (suc j) d a l = all_at P xs j d a.1 (omega arith)

-- nowhere; and at the first keys of a map
abbrev pub No : List ℕ → Type 0
No q = ⊥

abbrev pub Earlier : Map → ℕ → List ℕ → Type 0
Earlier m j k = (i : ℕ) × ((i < j) × (k ≡ (get_or m i no_setting).key))

-- keys that rise are apart
keys_apart : (K : KeyKind) (m : Map) (i j : ℕ) → Rises K m → i < j → j < length m → (get_or m j no_setting).key ≡ (get_or m i no_setting).key → ⊥
keys_apart K [] i j r a b e = omega arith
keys_apart K (s ∷ m) i zero r a b e = omega arith
keys_apart K (s ∷ m) zero (suc j) r a b e =
    let f : K.before s.key (get_or m j no_setting).key ≡ true = all_at (λ t. K.before s.key t.key ≡ true) m j no_setting r.0 (omega arith) in
    let g = K.before_not_self s.key in
    let h : K.before s.key s.key ≡ true = subst (λ (k : List ℕ). K.before s.key k ≡ true) e f in
    let z : ◌≡◌ {A = ℕ} 0 1 = cc (g, h) in omega arith
keys_apart K (s ∷ m) (suc i) (suc j) r a b e = keys_apart K m i j r.1 (omega arith) (omega arith) e

-- an entry's cell has the setting of its note
cell_says : {X Y : Type 0} (K : KeyKind) (kb : X → List ℕ) (vb : Y → List ℕ) (S : Tables X Y) (M : Notes) (R E : List ℕ) → Sits K kb vb S M R E
    → (e : ℕ) → 0 < (entry_cell S.entries e).holders → setting_at kb vb S.entries e ≡ (M.entry e).setting
cell_says K kb vb S M R E H e h = let F = H.means.entry_fits e h in ap (setting_held kb vb) F.holds ∙ sym F.setting_is

module _ {X Y : Type 0} (K : KeyKind) (V : ValueKind) (kb : X → List ℕ) (vb : Y → List ℕ) (T : Tables X Y) (ours base theirs : Branch) where
  module _ (q : MayMerge K V kb vb T ours base theirs 0) where
    abbrev pub ss : List Part
    ss = q.met.mine ∷ (q.met.other ∷ [])

    abbrev pub m : Map
    m = merge K V q.met.mine.settings q.met.common.settings q.met.other.settings

    -- the first entries are in hand
    pub record Rowed (j : ℕ) (hand : NodeCell) (U : Tables X Y) : Type 0 where
      pub ids : List ℕ
      pub rowful : Rowful hand ids
      pub in_hand : Hand K kb vb q.call 0 q.met.prefix ss m T q.met.notes q.met.roots q.met.in_hand No (Earlier m j) (take j m) [] ids [] U

  -- whatever the parts are
  pub record RowTo (j : ℕ) (hand : NodeCell) (U : Tables X Y) : Type 0 where
    pub so_far : (q : MayMerge K V kb vb T ours base theirs 0) → Rowed q j hand U

module _ {X Y : Type 0} (K : KeyKind) (V : ValueKind) (kb : X → List ℕ) (vb : Y → List ℕ) (T : Tables X Y) (ours base theirs : Branch) (q : MayMerge K V kb vb T ours base theirs 0) (c : Chosen)
    (R : Chose K kb vb T.entries V (entries_of T.nodes ours) (entries_of T.nodes base) (entries_of T.nodes theirs) c) where
  abbrev sources : List Part
  sources = q.met.mine ∷ (q.met.other ∷ [])

  abbrev result : Map
  result = merge K V q.met.mine.settings q.met.common.settings q.met.other.settings

  abbrev N : Notes
  N = q.met.notes

  pub deepest : length q.met.prefix ≡ 8
  deepest = omega (arith, q.met.deep)

  pub few : length result ≤ 16
  few = crowd_deepest K (length q.met.prefix) result q.result_calm

  settings_are : map (chosen V kb vb T.entries) (choices c) ≡ result
  settings_are = chosen_are K V kb vb T ours base theirs q.met c R

  pub long : length (choices c) ≡ length result
  long = chosen_long K V kb vb T ours base theirs q.met c R

  -- ---- whose the entries are

  says : Says T N (entries_of T.nodes ours) q.met.mine
  says = row_says K kb vb T N q.met.roots q.met.in_hand q.met.sits q.met.prefix deepest q.met.mine ours q.met.ours_is (entries_of T.nodes ours) refl

  other_says : Says T N (entries_of T.nodes theirs) q.met.other
  other_says = row_says K kb vb T N q.met.roots q.met.in_hand q.met.sits q.met.prefix deepest q.met.other theirs q.met.theirs_is (entries_of T.nodes theirs) refl

  abbrev label : ℕ → Marked
  label e = (N.entry e).label

  abbrev setting : ℕ → Setting
  setting e = (N.entry e).setting

  labelled : (xs : List ℕ) → ((e : ℕ) → 0 < occ e xs → 0 < (entry_cell T.entries e).holders) → AllByRecursion (λ e. (label e).what ≡ (setting e).key) xs
  labelled xs held =
      all_from_mem (λ e. (label e).what ≡ (setting e).key) xs (λ e i. label_key K kb vb T N q.met.roots q.met.in_hand q.met.sits e (held e (mem_occ xs e i)))

  cells : (e : ℕ) → 0 < (entry_cell T.entries e).holders → setting_at kb vb T.entries e ≡ setting e
  cells = cell_says K kb vb T N q.met.roots q.met.in_hand q.met.sits

  abbrev of_label : Marked → Shared
  of_label l = record { nodes = []; entries = l ∷ []; new_nodes = 0; new_entries = 0 }

  share_ours : (e : ℕ) → 0 < occ e (entries_of T.nodes ours) → entry_from q.call sources (setting_at kb vb T.entries e) ≡ of_label (label e)
  share_ours e h =
      ap (entry_from q.call sources) (cells e (says.held e h))
      ∙ entry_listed K label setting q.call q.met.mine (q.met.other ∷ []) (entries_of T.nodes ours) says.labels says.settings (labelled (entries_of T.nodes ours) says.held) q.met.sound.rises
      e (occ_mem (entries_of T.nodes ours) e h)

  not_mine : (s : Setting) → (look (map (setting_at kb vb T.entries) (entries_of T.nodes ours)) s.key ≡ Some s.value → ⊥) → look q.met.mine.settings s.key ≡ Some s.value → ⊥
  not_mine s f z = f (ap (λ (l : Map). look l s.key) (mine_settings K V kb vb T ours base theirs q.met (entries_of T.nodes ours) refl) ∙ z)

  not_other : (s : Setting) → (look (map (setting_at kb vb T.entries) (entries_of T.nodes theirs)) s.key ≡ Some s.value → ⊥) → look q.met.other.settings s.key ≡ Some s.value → ⊥
  not_other s f z = f (ap (λ (l : Map). look l s.key) (other_settings K V kb vb T ours base theirs q.met (entries_of T.nodes theirs) refl) ∙ z)

  share_theirs : (e : ℕ) → Apt K kb vb T.entries V (entries_of T.nodes ours) (entries_of T.nodes theirs) (Theirs (record { 0 = e }))
      → entry_from q.call sources (setting_at kb vb T.entries e) ≡ of_label (label e)
  share_theirs e a =
      entry_else q.call q.met.mine (q.met.other ∷ []) (setting_at kb vb T.entries e) (not_mine (setting_at kb vb T.entries e) a.1)
      ∙ ap (entry_from q.call (q.met.other ∷ [])) (cells e (other_says.held e a.0))
      ∙ entry_listed K label setting q.call q.met.other [] (entries_of T.nodes theirs) other_says.labels other_says.settings (labelled (entries_of T.nodes theirs) other_says.held) q.met.other_sound.rises
      e (occ_mem (entries_of T.nodes theirs) e a.0)

  share_joined : (e d : EntryId) → Apt K kb vb T.entries V (entries_of T.nodes ours) (entries_of T.nodes theirs) (Joined e d)
      → entry_from q.call sources (chosen V kb vb T.entries (Joined e d)) ≡ new_entry q.call (chosen V kb vb T.entries (Joined e d))
  share_joined e d a =
      let s : Setting = chosen V kb vb T.entries (Joined e d) in
      entry_else q.call q.met.mine (q.met.other ∷ []) s (not_mine s a.1.1.0) ∙ entry_else q.call q.met.other [] s (not_other s a.1.1.1)

  -- ---- in hand

  pub rowed_none : Rowed K V kb vb T ours base theirs q 0 nothing_in_hand T
  rowed_none = record {
    ids = [];
    rowful = record { bundled = bundled_none; few = omega arith };
    in_hand = hand_none K kb vb q.call 0 q.met.prefix sources result T N q.met.roots q.met.in_hand No (Earlier result 0) q.met.sits;
  }

  module _ (j : ℕ) (hand : NodeCell) (U : Tables X Y) (I : Rowed K V kb vb T ours base theirs q j hand U) (inside : j < length (choices c)) where
    within : j < length result
    within = omega (arith, long)

    abbrev s : Setting
    s = get_or result j no_setting

    ids_long : length I.ids ≡ j
    ids_long = sym (length-map I.ids (λ e. (I.in_hand.notes.entry e).setting)) ∙ ap length I.in_hand.settings_are ∙ length-take-le j result (omega (arith, within))

    pub row_room : (ones hand.datamap) < 16
    row_room = omega (arith, rowful_count hand I.ids I.rowful, ids_long, few, within)

    pub row_hand : Rowful hand (entries_in hand)
    row_hand = rowful_itself hand I.ids I.rowful

    -- an entry that was held is held
    held_on : (e : ℕ) → 0 < (entry_cell T.entries e).holders → 0 < (entry_cell U.entries e).holders
    held_on e h = I.in_hand.grown.entry_held e h

    -- and has the setting that it had
    setting_on : (e : ℕ) → 0 < (entry_cell T.entries e).holders → setting_at kb vb U.entries e ≡ setting_at kb vb T.entries e
    setting_on e h =
        cell_says K kb vb U I.in_hand.notes q.met.roots (I.ids ++ q.met.in_hand) I.in_hand.sits e (held_on e h)
        ∙ ap (λ (a : EntryNote). a.setting) (I.in_hand.grown.entry_kept e h) ∙ sym (cells e h)

    more : (id : ℕ) (hand' : NodeCell) → Rowful hand' (entries_in hand ++ (id ∷ [])) → (W : Tables X Y)
        → Hand K kb vb q.call 0 q.met.prefix sources result T N q.met.roots q.met.in_hand No (Earlier result (j + 1)) (take j result ++ (s ∷ [])) [] (I.ids ++ (id ∷ [])) [] W → Rowed K V kb vb T ours base theirs q (j + 1) hand' W
    more id hand' up W H = record {
      ids = I.ids ++ (id ∷ []);
      rowful = subst (λ (l : List ℕ). Rowful hand' (l ++ (id ∷ []))) (rowful_in hand I.ids I.rowful) up;
      in_hand =
          subst (λ (l : Map). Hand K kb vb q.call 0 q.met.prefix sources result T N q.met.roots q.met.in_hand No (Earlier result (j + 1)) l [] (I.ids ++ (id ∷ [])) [] W)
          (sym (take_more result j no_setting within)) H;
    }

    earlier_more : (k : List ℕ) → Earlier result j k → Earlier result (j + 1) k
    earlier_more k u = (u.0, (omega (arith, u.1.0), u.1.1))

    -- an entry of a source
    more_old :
        (e : ℕ) → 0 < (entry_cell T.entries e).holders → setting_at kb vb T.entries e ≡ s → entry_from q.call sources (setting_at kb vb T.entries e) ≡ of_label (label e)
        → (W : Tables X Y) → NodesStay U W → EntryHeld e U.entries U.entry_free U.entry_spare W.entries W.entry_free W.entry_spare
        → (hand' : NodeCell) → Rowful hand' (entries_in hand ++ (e ∷ [])) → Rowed K V kb vb T ours base theirs q (j + 1) hand' W
    more_old e h is shares W stay done hand' up =
        let H = I.in_hand in
        let shared : entry_from q.call sources s ≡ of_label (label e) = ap (entry_from q.call sources) (sym is) ∙ shares in
        let kept : H.notes.entry e ≡ N.entry e = H.grown.entry_kept e h in
        more e hand' up W
        (row_more K kb vb q.call 0 q.met.prefix sources result T N q.met.roots q.met.in_hand No (Earlier result j) (take j result) I.ids U H No No No (Earlier result (j + 1)) s e W H.notes
        (entry_held_grown U W e done (held_on e h) stay q.call No No H.notes) (λ x z. z) (λ x z. z) earlier_more (λ k z. absurd z)
        (entry_held_sits U W e done (held_on e h) stay K kb vb H.notes q.met.roots (I.ids ++ q.met.in_hand) H.sits)
        (ap (λ (a : EntryNote). a.setting) kept ∙ sym (cells e h) ∙ is)
        (ap (λ (a : EntryNote). a.label ∷ []) kept ∙ ap (λ (x : Shared). x.entries) (sym shared))
        stay.2 (omega (arith, done.spare, ap (λ (x : Shared). x.new_entries) shared)))

    -- no entry of this call has the key yet
    fresh : (e : ℕ) → 0 < (entry_cell U.entries e).holders → (I.in_hand.notes.entry e).label ≡ record { what = s.key; mark = q.call } → ⊥
    fresh e h z =
        (clear_grown q.call No (Under q.met.prefix) (Earlier result j) (λ k. k ≡ s.key) T U N I.in_hand.notes I.in_hand.grown (λ x u v. u)
        (λ k u v. keys_apart K result u.0 j (sound_result K V kb vb T ours base theirs q.met).rises u.1.0 within (sym v ∙ u.1.1))
        (clear_to q.call (Under q.met.prefix) (Under q.met.prefix) (Led K q.met.prefix) (λ k. k ≡ s.key) T N (λ x v. v)
        (λ k v. subst (Led K q.met.prefix) (sym v) (all_at (λ t. Led K q.met.prefix t.key) result j no_setting q.led within)) q.clear)).entry
        e h (ap (λ (x : Marked). x.mark) z) (ap (λ (x : Marked). x.what) z)

    -- a new entry
    more_new :
        (new : Setting) → new ≡ s → entry_from q.call sources s ≡ new_entry q.call s → (id : ℕ) (W : Tables X Y) → NodesStay U W
        → NewEntry K V kb vb U.entries U.entry_free U.entry_spare new id W.entries W.entry_free W.entry_spare
        → (hand' : NodeCell) → Rowful hand' (entries_in hand ++ (id ∷ [])) → Rowed K V kb vb T ours base theirs q (j + 1) hand' W
    more_new new e shares id W stay done hand' up =
        let H = I.in_hand in
        let is : record { key = kb done.key; value = vb done.value } ≡ s = done.setting_is ∙ e in
        let note : EntryNote = record { label = record { what = s.key; mark = q.call }; setting = s } in
        let noted_is = noted_same H.notes.entry id note in
        more id hand' up W
        (row_more K kb vb q.call 0 q.met.prefix sources result T N q.met.roots q.met.in_hand No (Earlier result j) (take j result) I.ids U H No (λ k. k ≡ s.key) No (Earlier result (j + 1)) s id W (with_entry H.notes id note)
        (entry_made_grown U W id _ done.made stay H.notes note q.call s.key refl) (λ x z. z) (λ x z. z) earlier_more (λ k v. (j, (omega arith, v)))
        (entry_made_sits U W id _ done.made stay H.notes note K kb vb q.met.roots (I.ids ++ q.met.in_hand)
        (record { key = done.key; value = done.value; holds = refl; setting_is = sym is; label_is = ap (λ (x : Setting). x.key) (sym is) }) fresh H.sits)
        (ap (λ (b : EntryNote). b.setting) noted_is) (ap (λ (b : EntryNote). b.label ∷ []) noted_is ∙ ap (λ (x : Shared). x.entries) (sym shares))
        stay.2 (omega (arith, done.made.less, ap (λ (x : Shared). x.new_entries) shares)))

    -- ---- one choice

    some_on : (e : ℕ) → 0 < (entry_cell T.entries e).holders → SomeEntry K kb vb U.entries e
    some_on e h = record {
      tables = U;
      notes = I.in_hand.notes;
      roots = q.met.roots;
      in_hand = I.ids ++ q.met.in_hand;
      sits = I.in_hand.sits;
      entries_are = refl;
      held = held_on e h;
    }

    holding : (e : ℕ) → 0 < (entry_cell T.entries e).holders → Holding K V kb vb U.entries U.entry_free U.entry_spare e
    holding e h = record {
      held = held_on e h;
      heap = (
        U.nodes,
        (
          I.ids ++ q.met.in_hand,
          (I.in_hand.sits.entries, (omega (arith, length-append I.ids q.met.in_hand, ids_long, within, few, q.few_in_hand), (I.in_hand.sits.nodes.short, λ i. (I.in_hand.sits.nodes.narrow i).0))),
        ),
      );
    }

    -- a new entry has room
    some_free : (sum (entry_from q.call sources) result).new_entries ≤ T.entry_spare → entry_from q.call sources s ≡ new_entry q.call s → 0 < U.entry_spare
    some_free room shares =
        let f : Setting → Shared = entry_from q.call sources in
        let split : result ≡ take j result ++ (s ∷ drop (suc j) result) = sym (take-append-drop j result) ∙ ap (λ (l : Map). take j result ++ l) (drop-cons result j no_setting within) in
        omega (
          arith,
          I.in_hand.entry_cost,
          room,
          ap (λ (l : Map). (sum f l).new_entries) split,
          (sum_append f (take j result) (s ∷ drop (suc j) result)).1,
          ap (λ (x : Shared). x.new_entries) shares,
        )

    module _ (ch none : Choice) (ch_is : ch ≡ get_or (choices c) j none) where
      setting_is : chosen V kb vb T.entries ch ≡ s
      setting_is =
          ap (chosen V kb vb T.entries) ch_is ∙ sym (get_or-map (chosen V kb vb T.entries) (choices c) j none no_setting inside) ∙ ap (λ (l : Map). get_or l j no_setting) settings_are

      apt : Apt K kb vb T.entries V (entries_of T.nodes ours) (entries_of T.nodes theirs) ch
      apt =
          subst (Apt K kb vb T.entries V (entries_of T.nodes ours) (entries_of T.nodes theirs)) (sym ch_is)
          (all_at (Apt K kb vb T.entries V (entries_of T.nodes ours) (entries_of T.nodes theirs)) (choices c) j none R.fitting.apt inside)

      new_shares : (e d : EntryId) → ch ≡ Joined e d → entry_from q.call sources s ≡ new_entry q.call s
      new_shares e d z =
          let is : chosen V kb vb T.entries (Joined e d) ≡ s = ap (chosen V kb vb T.entries) (sym z) ∙ setting_is in
          subst (λ (x : Setting). entry_from q.call sources x ≡ new_entry q.call x) is
          (share_joined e d (subst (Apt K kb vb T.entries V (entries_of T.nodes ours) (entries_of T.nodes theirs)) z apt))

      module _ (room : (sum (entry_from q.call sources) result).new_entries ≤ T.entry_spare) where
        pub row_takes : Taking K V kb vb U.entries U.entry_free U.entry_spare ch
        row_takes = go ch refl apt
          where
            go : (d : Choice) → ch ≡ d → Apt K kb vb T.entries V (entries_of T.nodes ours) (entries_of T.nodes theirs) d → Taking K V kb vb U.entries U.entry_free U.entry_spare d
            go (Ours e) z a = holding e.0 (says.held e.0 a)
            go (Theirs e) z a = holding e.0 (other_says.held e.0 a.0)
            go (Joined e d) z a = record {
              first = some_on e.0 (says.held e.0 a.0);
              second = some_on d.0 (other_says.held d.0 a.1.0);
              some = some_free room (new_shares e d z);
              heap = (U.nodes, (I.ids ++ q.met.in_hand, I.in_hand.sits.entries));
            }

      pub row_taken : (id : ℕ) (W : Tables X Y) → NodesStay U W → Taken K V kb vb U.entries U.entry_free U.entry_spare ch id W.entries W.entry_free W.entry_spare
          → (hand' : NodeCell) → Rowful hand' (entries_in hand ++ (id ∷ [])) → Rowed K V kb vb T ours base theirs q (j + 1) hand' W
      row_taken id W stay taken hand' up = go ch refl apt setting_is taken
        where
          old : (e : ℕ) → id ≡ e → Rowful hand' (entries_in hand ++ (e ∷ []))
          old e z = subst (λ (i : ℕ). Rowful hand' (entries_in hand ++ (i ∷ []))) z up

          go : (d : Choice) → ch ≡ d → Apt K kb vb T.entries V (entries_of T.nodes ours) (entries_of T.nodes theirs) d → chosen V kb vb T.entries d ≡ s
              → Taken K V kb vb U.entries U.entry_free U.entry_spare d id W.entries W.entry_free W.entry_spare → Rowed K V kb vb T ours base theirs q (j + 1) hand' W
          go (Ours e) z a is t = more_old e.0 (says.held e.0 a) is (share_ours e.0 a) W stay t.1 hand' (old e.0 t.0)
          go (Theirs e) z a is t = more_old e.0 (other_says.held e.0 a.0) is (share_theirs e.0 a) W stay t.1 hand' (old e.0 t.0)
          go (Joined e d) z a is t =
              let same : chosen V kb vb U.entries (Joined e d) ≡ chosen V kb vb T.entries (Joined e d) =
              λ i. record {
                key = (setting_on e.0 (says.held e.0 a.0) i).key;
                value = V.join (setting_on e.0 (says.held e.0 a.0) i).value (setting_on d.0 (other_says.held d.0 a.1.0) i).value;
              } in
              more_new (chosen V kb vb U.entries (Joined e d)) (same ∙ is) (new_shares e d z) id W stay t hand' up

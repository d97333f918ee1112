-- The settings of a row's result in hand, as they are taken up one after another. Assumes nothing.
use Rattle.std.proofs.Common.{◌≡◌, ℕ, ◌<◌, List, [], ◌∷◌, ◌++◌, map, take, drop, Some, None, Option, sym, refl, ap, ◌∙◌, subst, inl, inr, arith}
use mathlib.Core.List.Memᴰ
use Rattle.std.specs.List.{AllByRecursion}
use Rattle.std.proofs.lemmas.List.{append-nil, take-map, drop-map}
use Rattle.std.proofs.lemmas.Bool.{cases_eq}
use Rattle.std.proofs.ByRecursion.{All-take, All-drop}
use Rattle.kinds.specs.Kinds.{KeyKind}
use Rattle.model.specs.Maps.{Setting, Map, look, Rises}
use Rattle.model.specs.Sharing.{Marked, Part, Shared, sum, entry_from}
use Rattle.model.proofs.Marks.Members.{Mem, all_mem, all_from_mem}
use Rattle.tables.specs.declared.cells.EntryCell.{EntryCell}
use Rattle.tables.specs.Chains.{occ}
use Rattle.tables.specs.Cells.{entry_cell}
use Rattle.tables.specs.Heaps.{EntryMade}
use Rattle.tables.specs.Notes.{EntryNote}
use Rattle.tables.proofs.Occurrences.{occ_nil, occ_head, occ_later, occ_rest, occ_append}
use Rattle.tables.proofs.Noting.{noted_same}
use Rattle.tables.proofs.Rows.{map_same}
use Rattle.tables.specs.declared.cells.NodeCell.{NodeCell}
use Rattle.branches.specs.States.{Tables, Notes, Sits, Clear, Under, Led}
use Rattle.branches.specs.Hands.{Hand}
use Rattle.branches.specs.Handfuls.{nothing_in_hand, Rowful, entries_in}
use Rattle.branches.proofs.Growing.{grown_to, clear_grown, sits_same, with_entry, entry_made_grown, entry_made_sits}
use Rattle.branches.proofs.Settings.{lone, entry_new, entries_listed}
use Rattle.branches.proofs.Under.{label_key}
use Rattle.branches.proofs.Bundles.{bundled_none}
use Rattle.branches.proofs.Hands.{hand_none, hand_more}
use Rattle.branches.proofs.Rows.{row_more}
use Rattle.edits.specs.Sets.{value_bytes}
use Rattle.edits.specs.Rowing.{beside, EntriesKept, Added}
use Rattle.branches.proofs.Rowfuls.{rowful_in}
use Rattle.edits.proofs.RowParts.{Says}

-- members by how often they stand in a row
occ_mem : (l : List ℕ) (e : ℕ) → Mem e l → 0 < occ e l
occ_mem [] e i = absurd (Memᴰ.not-nil i)
occ_mem (x ∷ l) e i = elim (Memᴰ.cases_cons i) [ inl z ↦ subst (λ (y : ℕ). 0 < occ e (y ∷ l)) z (occ_head e l) | inr j ↦ occ_later e x l (occ_mem l e j) ]

mem_occ : (l : List ℕ) (e : ℕ) → 0 < occ e l → Mem e l
mem_occ [] e h = absurd (omega (arith, occ_nil e))
mem_occ (x ∷ l) e h = elim (cases_eq e x) [ inl z ↦ Memᴰ.head z | inr z ↦ Memᴰ.tail (mem_occ l e (occ_rest e x l h z)) ]

-- nowhere
abbrev pub No : List ℕ → Type 0
No q = ⊥

module _ {X Y : Type 0} (K : KeyKind) (kb : X → List ℕ) (vb : Y → List ℕ) (n : ℕ) (p : List ℕ) (a : Part) (m : Map) (T : Tables X Y) (N : Notes) (R E : List ℕ) where
  -- some settings of the result m are in hand as entries, in tables that have grown by nodes nowhere and entries of keys of which Q holds
  pub record Got (Q : List ℕ → Type 0) (own : Map) (hand : NodeCell) (U : Tables X Y) : Type 0 where
    pub ids : List ℕ
    pub rowful : Rowful hand ids
    pub in_hand : Hand K kb vb n 0 p (a ∷ []) m T N R E No Q own [] ids [] U

  pub got_none : Sits K kb vb T N R E → Got No [] nothing_in_hand T
  got_none S = record { ids = []; rowful = record { bundled = bundled_none; few = omega arith }; in_hand = hand_none K kb vb n 0 p (a ∷ []) m T N R E No No S }

  -- ---- entries of the source

  module _ (S : Sits K kb vb T N R E) (xs : List ℕ) (W : Says T N xs a) (rises : Rises K a.settings) where
    abbrev setting : ℕ → Setting
    setting e = (N.entry e).setting

    abbrev label : ℕ → Marked
    label e = (N.entry e).label

    themselves : AllByRecursion (λ e. Mem e xs) xs
    themselves = all_from_mem (λ e. Mem e xs) xs (λ e i. i)

    labelled : AllByRecursion (λ e. (label e).what ≡ (setting e).key) xs
    labelled = all_from_mem (λ e. (label e).what ≡ (setting e).key) xs (λ e i. label_key K kb vb T N R E S e (W.held e (occ_mem xs e i)))

    -- some of the source's entries more
    module _ (ys : List ℕ) (among : AllByRecursion (λ e. Mem e xs) ys) where
      some_held : (e : ℕ) → 0 < occ e ys → 0 < (entry_cell T.entries e).holders
      some_held e q = W.held e (occ_mem xs e (all_mem (λ e. Mem e xs) ys e among (mem_occ ys e q)))

      shares : sum (entry_from n (a ∷ [])) (map setting ys) ≡ record { nodes = []; entries = map label ys; new_nodes = 0; new_entries = 0 }
      shares = entries_listed K label setting n a [] xs W.labels W.settings labelled rises ys among

      got_some :
          (m' : Map) → map setting ys ≡ m'
          → (Q : List ℕ → Type 0) (own : Map) (hand : NodeCell) (U : Tables X Y) (G : Got Q own hand U) (next : NodeCell) (fs : List (EntryCell X Y)) (g t : ℕ)
          → EntriesKept K kb vb U.entries U.entry_free U.entry_spare ys fs g t → Rowful next (entries_in hand ++ ys) → Got Q (own ++ m') next (beside U fs g t)
      got_some m' is Q own hand U G next fs g t kept up =
          let M = G.in_hand.notes in
          let same : (e : ℕ) → 0 < occ e ys → M.entry e ≡ N.entry e = λ e q. G.in_hand.grown.entry_kept e (some_held e q) in
          record {
            ids = G.ids ++ ys;
            rowful = subst (λ (l : List ℕ). Rowful next (l ++ ys)) (rowful_in hand G.ids G.rowful) up;
            in_hand =
                hand_more K kb vb n 0 p (a ∷ []) m T N R E No Q own [] G.ids [] U G.in_hand No No No Q m' [] ys [] G.in_hand.kid (beside U fs g t) M
                (kept.grown U M n) (λ q z. z) (λ q z. z) (λ k z. z) (λ k z. absurd z)
                (sits_same K kb vb (beside U fs g t) M R R (ys ++ (G.ids ++ E)) ((G.ids ++ ys) ++ E) (λ i. refl)
                (λ i. omega (arith, occ_append i ys (G.ids ++ E), occ_append i G.ids E, occ_append i (G.ids ++ ys) E, occ_append i G.ids ys)) (kept.sits U M R (G.ids ++ E) G.in_hand.sits))
                (λ g q. refl)
                (map_same (λ e. (M.entry e).setting) setting ys (λ e q. ap (λ (b : EntryNote). b.setting) (same e q)) ∙ is)
                (map_same (λ e. (M.entry e).label) label ys (λ e q. ap (λ (b : EntryNote). b.label) (same e q)) ∙ ap (λ (s : Shared). s.entries) (sym shares)
                ∙ ap (λ (l : Map). (sum (entry_from n (a ∷ [])) l).entries) is)
                refl (λ g q. absurd (omega (arith, occ_nil g))) (omega arith)
                (omega (arith, kept.spare, ap (λ (s : Shared). s.new_entries) shares, ap (λ (l : Map). (sum (entry_from n (a ∷ [])) l).new_entries) is));
          }

    module _ (j : ℕ) (ys : List ℕ) where
      pub got_before : ys ≡ take j xs
          → (Q : List ℕ → Type 0) (own : Map) (hand : NodeCell) (U : Tables X Y) (G : Got Q own hand U) (next : NodeCell) (fs : List (EntryCell X Y)) (g t : ℕ)
          → EntriesKept K kb vb U.entries U.entry_free U.entry_spare ys fs g t → Rowful next (entries_in hand ++ ys) → Got Q (own ++ take j a.settings) next (beside U fs g t)
      got_before e =
          got_some ys (subst (AllByRecursion (λ e. Mem e xs)) (sym e) (All-take (λ e. Mem e xs) j xs themselves))
          (take j a.settings) (ap (map setting) e ∙ sym (take-map setting j xs) ∙ ap (take j) W.settings)

      pub got_after : ys ≡ drop j xs
          → (Q : List ℕ → Type 0) (own : Map) (hand : NodeCell) (U : Tables X Y) (G : Got Q own hand U) (next : NodeCell) (fs : List (EntryCell X Y)) (g t : ℕ)
          → EntriesKept K kb vb U.entries U.entry_free U.entry_spare ys fs g t → Rowful next (entries_in hand ++ ys) → Got Q (own ++ drop j a.settings) next (beside U fs g t)
      got_after e =
          got_some ys (subst (AllByRecursion (λ e. Mem e xs)) (sym e) (All-drop (λ e. Mem e xs) j xs themselves))
          (drop j a.settings) (ap (map setting) e ∙ sym (drop-map setting j xs) ∙ ap (drop j) W.settings)

  -- ---- a new entry

  got_wider : (Q Q' : List ℕ → Type 0) (own : Map) (hand : NodeCell) (U : Tables X Y) → ((k : List ℕ) → Q k → Q' k) → Got Q own hand U → Got Q' own hand U
  got_wider Q Q' own hand U w G =
      let H = G.in_hand in
      record {
        ids = G.ids;
        rowful = G.rowful;
        in_hand = record {
          notes = H.notes;
          kid = H.kid;
          sits = H.sits;
          grown = grown_to n No No Q Q' T U N H.notes (λ q z. z) w H.grown;
          settings_are = H.settings_are;
          labels_are = H.labels_are;
          kids_are = H.kids_are;
          stand = H.stand;
          cost = H.cost;
          entry_cost = H.entry_cost;
        };
      }

  module _ (clear : Clear n (Under p) (Led K p) T N) (key : X) (led : Led K p (kb key)) (own : Map) (hand : NodeCell) (U : Tables X Y) (G : Got No own hand U) where
    -- no entry of this call has the key yet
    fresh : (e : ℕ) → 0 < (entry_cell U.entries e).holders → (G.in_hand.notes.entry e).label ≡ record { what = kb key; mark = n } → ⊥
    fresh e h z =
        (clear_grown n No (Under p) No (Led K p) T U N G.in_hand.notes G.in_hand.grown (λ q u v. u) (λ k u v. u) clear).entry e h (ap (λ (x : Marked). x.mark) z)
        (subst (Led K p) (ap (λ (x : Marked). x.what) (sym z)) led)

    got_made :
        (v : Y) → (look a.settings (kb key) ≡ Some (vb v) → ⊥) → (next : NodeCell) (fs : List (EntryCell X Y)) (g t : ℕ) (e : ℕ)
        → EntryMade e (record { held = Some (key, v); holders = 1; next = 0 }) U.entries U.entry_free U.entry_spare fs g t → Rowful next (entries_in hand ++ (e ∷ []))
        → Got (λ y. y ≡ kb key) (own ++ (record { key = kb key; value = vb v } ∷ [])) next (beside U fs g t)
    got_made v other next fs g t e done up =
        let s : Setting = record { key = kb key; value = vb v } in
        let note : EntryNote = record { label = record { what = kb key; mark = n }; setting = s } in
        let H = G.in_hand in
        let is = noted_same H.notes.entry e note in
        let shares = entry_new n a s other in
        record {
          ids = G.ids ++ (e ∷ []);
          rowful = subst (λ (l : List ℕ). Rowful next (l ++ (e ∷ []))) (rowful_in hand G.ids G.rowful) up;
          in_hand =
              row_more K kb vb n 0 p (a ∷ []) m T N R E No No own G.ids U H No (λ y. y ≡ kb key) No (λ y. y ≡ kb key) s e (beside U fs g t) (with_entry H.notes e note)
              (entry_made_grown U (beside U fs g t) e _ done (refl, refl, refl) H.notes note n (kb key) refl) (λ q z. z) (λ q z. z) (λ k z. absurd z) (λ k z. z)
              (entry_made_sits U (beside U fs g t) e _ done (refl, refl, refl) H.notes note K kb vb R (G.ids ++ E) (record { key = key; value = v; holds = refl; setting_is = refl; label_is = refl }) fresh H.sits)
              (ap (λ (b : EntryNote). b.setting) is) (ap (λ (b : EntryNote). b.label ∷ []) is ∙ ap (λ (q : Shared). q.entries) (sym shares))
              refl (omega (arith, done.less, ap (λ (q : Shared). q.new_entries) shares));
        }

    -- with the entry of the value, if there is one
    pub got_new :
        (value : Option Y) → (look a.settings (kb key) ≡ value_bytes vb value → ⊥) → (next : NodeCell) (fs : List (EntryCell X Y)) (g t : ℕ)
        → Added key value hand U.entries U.entry_free U.entry_spare next fs g t
        → Got (λ y. y ≡ kb key) (own ++ lone (kb key) (value_bytes vb value)) next (beside U fs g t)
    got_new (Some v) other next fs g t done = got_made v other next fs g t done.0 done.1.0 done.1.1
    got_new None other next fs g t done =
        let Q : List ℕ → Type 0 = λ y. y ≡ kb key in
        subst (λ (o : Map). Got Q o next (beside U fs g t)) (sym (append-nil own))
        (subst (λ (h : NodeCell). Got Q own h (beside U fs g t)) (sym done.0)
        (subst (λ (es : List (EntryCell X Y)). Got Q own hand (beside U es g t)) (sym done.1.0)
        (subst (λ (i : ℕ). Got Q own hand (beside U U.entries i t)) (sym done.1.1.0)
        (subst (λ (i : ℕ). Got Q own hand (beside U U.entries U.entry_free i)) (sym done.1.1.1) (got_wider No Q own hand U (λ k z. absurd z) G)))))

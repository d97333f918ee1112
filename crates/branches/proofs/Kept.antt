-- A branch held once more: what it is, and what a result that is its part shares. Assumes nothing.
use Rattle.std.proofs.Common.{◌≡◌, ℕ, ◌<◌, List, [], ◌∷◌, ◌++◌, Some, None, sym, refl, ap, ◌∙◌, subst, arith}
use Rattle.std.proofs.lemmas.Bool.{cond-true}
use Rattle.byte_rows.specs.Rows.{same}
use Rattle.byte_rows.proofs.Orders.{same_decides}
use Rattle.kinds.specs.Kinds.{KeyKind}
use Rattle.model.specs.Maps.{Setting, Map, look, same_map}
use Rattle.model.specs.Sharing.{Marked, Part, Shared, no_share, first_same, mark_of, kept_or}
use Rattle.model.proofs.Maps.Found.{same_self}
use Rattle.tables.specs.declared.cells.NodeId.{NodeId}
use Rattle.tables.specs.declared.cells.EntryId.{EntryId}
use Rattle.tables.specs.Heaps.{NodeHeld, EntryHeld}
use Rattle.plans.specs.Plans.{portion}
use Rattle.plans.proofs.Digits.{same_map_self}
use Rattle.plans.proofs.Sharing.{share_first, portion_one, portion_bushy}
use Rattle.plans.proofs.Costs.{Costless}
use Rattle.branches.specs.declared.branch.Branch.{Branch}
use Rattle.branches.specs.declared.branch.Branch.TheVariants.{Nothing, Entry, Child}
use Rattle.branches.specs.States.{Tables, Notes, Sits, Grown, Under, Led}
use Rattle.branches.specs.Branches.{part_of, Is, node_of, entry_of, Built, Kept}
use Rattle.branches.proofs.Growing.{is_grown, EntriesStay, NodesStay, node_held_grown, node_held_sits, entry_held_grown, entry_held_sits}
use Rattle.branches.proofs.Settings.{entry_old, old_entry}

module _ {X Y : Type 0} (K : KeyKind) (kb : X → List ℕ) (vb : Y → List ℕ) where
  -- the tables have grown by nothing, and the branch is in hand
  built_of :
      (n level : ℕ) (p : List ℕ) (m : Map) (s : Shared) (T : Tables X Y) (N : Notes) (R E : List ℕ) (b : Branch) (U : Tables X Y) (a : Part)
      → Sits K kb vb U N (node_of b ++ R) (entry_of b ++ E) → Grown n (Under p) (Led K p) T N U N → Is T N b level p a → part_of m s ≡ a
      → U.spare ≡ T.spare → U.entry_spare ≡ T.entry_spare → s.new_nodes ≡ 0 → s.new_entries ≡ 0 → Built K kb vb n level p m s T N R E b U
  built_of n level p m s T N R E b U a H G is e x y u v = record {
    notes = N;
    sits = H;
    grown = G;
    is = subst (Is U N b level p) (sym e) (is_grown n (Under p) (Led K p) T U N N G b level p a is);
    cost = omega arith;
    entry_cost = omega arith;
  }

  held_entry :
      (T U : Tables X Y) (i : EntryId) → NodesStay T U
      → EntryHeld i.0 T.entries T.entry_free T.entry_spare U.entries U.entry_free U.entry_spare → Kept K kb vb T (Entry i) U
  held_entry T U i stay done = record {
    built = λ n level p N R E a m s H is e u v.
        let h = is.1.held in
        built_of n level p m s T N R E (Entry i) U a (entry_held_sits T U i.0 done h stay K kb vb N R E H) (entry_held_grown T U i.0 done h stay n (Under p) (Led K p) N)
        is e stay.2 done.spare u v;
  }

  pub kept_entry :
      (T U : Tables X Y) (b : Branch) (i : EntryId) → b ≡ Entry i → NodesStay T U
      → EntryHeld i.0 T.entries T.entry_free T.entry_spare U.entries U.entry_free U.entry_spare → Kept K kb vb T b U
  kept_entry T U b i e stay done = subst (λ (x : Branch). Kept K kb vb T x U) (sym e) (held_entry T U i stay done)

  held_child :
      (T U : Tables X Y) (i : NodeId) → EntriesStay T U
      → NodeHeld i.0 T.nodes T.free T.spare U.nodes U.free U.spare → Kept K kb vb T (Child i) U
  held_child T U i stay done = record {
    built = λ n level p N R E a m s H is e u v.
        let h = is.0.held in
        built_of n level p m s T N R E (Child i) U a (node_held_sits T U i.0 done h stay K kb vb N R E H) (node_held_grown T U i.0 done h stay n (Under p) (Led K p) N)
        is e done.spare stay.2 u v;
  }

  pub kept_child :
      (T U : Tables X Y) (b : Branch) (i : NodeId) → b ≡ Child i → EntriesStay T U
      → NodeHeld i.0 T.nodes T.free T.spare U.nodes U.free U.spare → Kept K kb vb T b U
  kept_child T U b i e stay done = subst (λ (x : Branch). Kept K kb vb T x U) (sym e) (held_child T U i stay done)

  -- ---- what a result that is the first source's part shares: all, and nothing is new

  module _ (n level : ℕ) (p : List ℕ) (rest : List Part) where
    shares_of : (a : Part) → (s : Shared) → portion K n level p (a ∷ rest) a.settings ≡ s → part_of a.settings s ≡ a → s.new_nodes ≡ 0 → s.new_entries ≡ 0
        → (part_of a.settings (portion K n level p (a ∷ rest) a.settings) ≡ a) × Costless (portion K n level p (a ∷ rest) a.settings)
    shares_of a s e f u v = (ap (part_of a.settings) e ∙ f, (ap (λ (x : Shared). x.new_nodes) e ∙ u, ap (λ (x : Shared). x.new_entries) e ∙ v))

    -- one label with the key of the one setting
    one_entry : (a : Part) (s : Setting) (l : Marked) → level < 8 → a.settings ≡ s ∷ [] → a.nodes ≡ [] → a.entries ≡ l ∷ [] → l.what ≡ s.key
        → (part_of a.settings (portion K n level p (a ∷ rest) a.settings) ≡ a) × Costless (portion K n level p (a ∷ rest) a.settings)
    one_entry a s l h x y z w =
        let found : look a.settings s.key ≡ Some s.value =
        ap (λ (m : Map). look m s.key) x ∙ cond-true (same s.key s.key) (Some s.value) None (same_self s.key) in
        let k : mark_of a.entries s.key ≡ l.mark =
        ap (λ (r : List Marked). mark_of r s.key) z ∙ cond-true (same l.what s.key) l.mark 0 ((same_decides l.what s.key).1 w) in
        let here : record { what = s.key; mark = mark_of a.entries s.key } ≡ l = λ t. record { what = sym w t; mark = k t } in
        let e : portion K n level p (a ∷ rest) a.settings ≡ old_entry a s =
        ap (portion K n level p (a ∷ rest)) x ∙ portion_one K n level p (a ∷ rest) s h ∙ entry_old K n a rest s found in
        let f : record { what = s.key; mark = mark_of a.entries s.key } ∷ [] ≡ a.entries = ap (λ (q : Marked). q ∷ []) here ∙ sym z in
        shares_of a (old_entry a s) e (λ t. record { settings = a.settings; nodes = sym y t; entries = f t }) refl refl

    pub portion_kept : (T : Tables X Y) (N : Notes) (R E : List ℕ) (b : Branch) (a : Part) → Sits K kb vb T N R E → Is T N b level p a
        → (part_of a.settings (portion K n level p (a ∷ rest) a.settings) ≡ a) × Costless (portion K n level p (a ∷ rest) a.settings)
    portion_kept T N R E Nothing a H is =
        let e : a.settings ≡ [] = ap (λ (x : Part). x.settings) is in
        shares_of a no_share (ap (portion K n level p (a ∷ rest)) e) (λ t. record { settings = a.settings; nodes = (sym is t).nodes; entries = (sym is t).entries }) refl refl
    portion_kept T N R E (Entry i) a H is =
        let S = is.1 in
        let F = H.means.entry_fits i.0 S.held in
        one_entry a (N.entry i.0).setting (N.entry i.0).label is.0 S.settings S.nodes S.entries (F.label_is ∙ ap (λ (s : Setting). s.key) (sym F.setting_is))
    portion_kept T N R E (Child i) a H is =
        let f : first_same (a ∷ rest) a.settings ≡ Some a = cond-true (same_map a.settings a.settings) (Some a) (first_same rest a.settings) (same_map_self a.settings) in
        shares_of a (kept_or (Some a) no_share) (portion_bushy K n level p (a ∷ rest) a.settings is.1 ∙ share_first K n p (a ∷ rest) a.settings level a f) refl refl refl

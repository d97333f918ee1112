-- What a held node lists lies under it: nodes begin with its prefix, entries have keys of its part. Assumes nothing.
use Rattle.std.proofs.Common.{◌≡◌, ℕ, zero, suc, ◌<◌, ◌≤◌, Bool, true, cond, eqb, ltb, List, [], ◌∷◌, ◌++◌, map, length, sym, refl, ap, ◌∙◌, subst, inl, inr, arith}
use mathlib.Core.List.Memᴰ
use Rattle.std.specs.List.{flat_map}
use Rattle.std.proofs.lemmas.Bool.{cond_both, cond-true, eqb-true, eq-eqb, ne_eqb, lt-ltb}
use Rattle.kinds.specs.Kinds.{KeyKind}
use Rattle.model.specs.Maps.{Setting, Map}
use Rattle.model.specs.Tries.{filter, digit, sixteen, at_digit, parts, one}
use Rattle.model.specs.Images.{picked}
use Rattle.model.specs.Sharing.{Marked, begins}
use Rattle.model.proofs.Marks.Members.{Mem, mem_of_filter}
use Rattle.model.proofs.Marks.Prefixes.{begins_same, begins_less}
use Rattle.tables.specs.Chains.{occ}
use Rattle.tables.specs.Cells.{cell, entry_cell, kids, singles}
use Rattle.tables.specs.Notes.{Seat, seat, branches, own}
use Rattle.tables.proofs.Rows.{to_map, from_joined, from_labels, to_labels}
use Rattle.tables.proofs.Noting.{kid_held, single_held}
use Rattle.branches.specs.States.{Tables, Notes, Sits}
use Rattle.branches.proofs.Filters.{filter_joined, digit_once, digit_in}

-- ---- the settings that stand in a node itself

-- a part if it is of one setting
abbrev lone : Map → Map
lone m = cond (one m) m []

picked_joined : (f : ℕ → Map) (xs : List ℕ) → picked one (λ q. q) (map f xs) ≡ flat_map (λ x. lone (f x)) xs
picked_joined f [] = refl
picked_joined f (x ∷ xs) = ap (λ r. lone (f x) ++ r) (picked_joined f xs)

lone_mem : (m : Map) (t : Setting) → Mem t (lone m) → Mem t m
lone_mem m t = cond_both (one m) m [] (λ l. Mem t l → Mem t m) (λ e n. n) (λ e n. absurd (Memᴰ.not-nil n))

module _ (K : KeyKind) (s : Seat) where
  abbrev at : ℕ → Map
  at g = at_digit K (length s.prefix) s.settings g

  digit_of_member : (g : ℕ) (t : Setting) → Mem t (at g) → Mem t s.settings × (digit (K.hash t.key) (length s.prefix) ≡ g)
  digit_of_member g t m = let r = mem_of_filter (λ u. eqb (digit (K.hash u.key) (length s.prefix)) g) s.settings t m in (r.0, eqb-true _ g r.1)

  -- they are settings of its part
  pub own_within : (t : Setting) → Mem t (own K s) → Mem t s.settings
  own_within t =
      cond_both (ltb (length s.prefix) 8) (picked one (λ q. q) (parts K (length s.prefix) s.settings)) s.settings (λ l. Mem t l → Mem t s.settings)
      (λ e m. let r = from_joined t (λ g. lone (at g)) sixteen (subst (Mem t) (picked_joined at sixteen) m) in (digit_of_member r.0 t (lone_mem (at r.0) t r.1.1)).0)
      (λ e m. m)

  -- and at a digit there is the one alone there
  pub own_at : length s.prefix < 8 → (g : ℕ) → g < 16 → at_digit K (length s.prefix) (own K s) g ≡ cond (one (at g)) (at g) []
  own_at short g small =
      let q : Setting → Bool = λ u. eqb (digit (K.hash u.key) (length s.prefix)) g in
      let is : own K s ≡ flat_map (λ x. lone (at x)) sixteen = cond-true (ltb (length s.prefix) 8) _ _ (lt-ltb (length s.prefix) 8 short) ∙ picked_joined at sixteen in
      ap (filter q) is
      ∙ filter_joined q (λ x. lone (at x)) g sixteen (digit_in g small) digit_once
      (λ t m. eq-eqb _ g (digit_of_member g t (lone_mem (at g) t m)).1)
      (λ k p other t m. ne_eqb _ g (λ z. other (sym (digit_of_member k t (lone_mem (at k) t m)).1 ∙ z)))

-- ---- what lies under a held node

module _ {X Y : Type 0} (K : KeyKind) (kb : X → List ℕ) (vb : Y → List ℕ) (T : Tables X Y) (N : Notes) (R E : List ℕ) (S : Sits K kb vb T N R E) where
  abbrev Held : ℕ → Type 0
  Held i = 0 < (cell T.nodes i).holders

  -- an entry's label has the key of its setting
  pub label_key : (e : ℕ) → 0 < (entry_cell T.entries e).holders → (N.entry e).label.what ≡ (N.entry e).setting.key
  label_key e h = let f = S.means.entry_fits e h in f.label_is ∙ sym (ap (λ (s : Setting). s.key) f.setting_is)

  module _ (i : ℕ) (h : Held i) where
    -- the children
    child_kid : (k : ℕ) → 0 < occ k (branches K (seat (N.node i))) → 0 < occ ((N.node i).child k) (kids (cell T.nodes i))
    child_kid k p = subst (λ l. 0 < occ ((N.node i).child k) l) (sym (S.means.fits i h).children) (to_map (N.node i).child (branches K (seat (N.node i))) k p)

    pub child_held : (k : ℕ) → 0 < occ k (branches K (seat (N.node i))) → 0 < (cell T.nodes ((N.node i).child k)).holders
    child_held k p = kid_held T.nodes T.free T.spare R S.nodes i ((N.node i).child k) (child_kid k p)

    pub child_lower : (k : ℕ) → 0 < occ k (branches K (seat (N.node i))) → (cell T.nodes ((N.node i).child k)).level < (cell T.nodes i).level
    child_lower k p = S.nodes.falls i ((N.node i).child k) (child_kid k p)

    pub child_prefix : (k : ℕ) → 0 < occ k (branches K (seat (N.node i))) → (N.node ((N.node i).child k)).label.what ≡ (N.node i).label.what ++ (k ∷ [])
    child_prefix k p = ap (λ (s : Seat). s.prefix) ((S.means.fits i h).seats k p)

    pub child_settings : (k : ℕ) → 0 < occ k (branches K (seat (N.node i))) → (N.node ((N.node i).child k)).settings ≡ at_digit K (length (N.node i).label.what) (N.node i).settings k
    child_settings k p = ap (λ (s : Seat). s.settings) ((S.means.fits i h).seats k p)

    -- an entry of the node itself has the key of a setting of its part
    own_label : (x : Marked) → Mem x (map (λ e. (N.entry e).label) (singles (cell T.nodes i))) → (s : Setting) × (Mem s (N.node i).settings × (x.what ≡ s.key))
    own_label x m =
        let r = from_labels x (λ e. (N.entry e).label) (singles (cell T.nodes i)) m in
        let e : ℕ = r.0 in
        let held : 0 < (entry_cell T.entries e).holders = single_held T.nodes T.entries T.entry_free T.entry_spare E S.entries i e r.1.0 in (
          (N.entry e).setting,
          (
            own_within K (seat (N.node i)) (N.entry e).setting
                (subst (Mem (N.entry e).setting) (S.means.fits i h).owns (to_labels (λ e. (N.entry e).setting) (singles (cell T.nodes i)) e r.1.0)),
            ap (λ (y : Marked). y.what) (sym r.1.1) ∙ label_key e held,
          ),
        )

  -- what holds of a held node if it holds of its children holds of each
  pub held_each :
      (P : ℕ → Type 0)
      → ((i : ℕ) → 0 < (cell T.nodes i).holders → ((k : ℕ) → 0 < occ k (branches K (seat (N.node i))) → P ((N.node i).child k)) → P i)
      → (n i : ℕ) → (cell T.nodes i).level ≤ n → 0 < (cell T.nodes i).holders → P i
  held_each P step zero i le h = step i h (λ k p. absurd (omega (arith, child_lower i h k p)))
  held_each P step (suc n) i le h = step i h (λ k p. held_each P step n ((N.node i).child k) (omega (arith, child_lower i h k p)) (child_held i h k p))

  -- each node under a node begins with its prefix
  abbrev NodeUnder : ℕ → Type 0
  NodeUnder i = (x : Marked) → Mem x (N.node i).nodes → begins (N.node i).label.what x.what ≡ true

  pub nodes_under : (i : ℕ) → Held i → NodeUnder i
  nodes_under i = held_each NodeUnder step (cell T.nodes i).level i (omega arith)
    where
      step : (i : ℕ) → Held i → ((k : ℕ) → 0 < occ k (branches K (seat (N.node i))) → NodeUnder ((N.node i).child k)) → NodeUnder i
      step i h again x m =
          elim (Memᴰ.cases_cons (subst (Mem x) (S.means.fits i h).nodes_are m)) [
            | inl e ↦ ap (λ (y : Marked). begins (N.node i).label.what y.what) e ∙ begins_same (N.node i).label.what
            | inr q ↦
                let r = from_joined x (λ g. (N.node ((N.node i).child g)).nodes) (branches K (seat (N.node i))) q in
                begins_less (N.node i).label.what r.0 x.what
                (ap (λ (w : List ℕ). begins w x.what) (sym (child_prefix i h r.0 r.1.0)) ∙ again r.0 r.1.0 x r.1.1)
          ]

  -- each entry under a node has the key of a setting of its part
  abbrev EntryUnder : ℕ → Type 0
  EntryUnder i = (x : Marked) → Mem x (N.node i).entries → (s : Setting) × (Mem s (N.node i).settings × (x.what ≡ s.key))

  pub entries_under : (i : ℕ) → Held i → EntryUnder i
  entries_under i = held_each EntryUnder step (cell T.nodes i).level i (omega arith)
    where
      step : (i : ℕ) → Held i → ((k : ℕ) → 0 < occ k (branches K (seat (N.node i))) → EntryUnder ((N.node i).child k)) → EntryUnder i
      step i h again x m =
          elim (Memᴰ.append_cases (map (λ e. (N.entry e).label) (singles (cell T.nodes i))) (subst (Mem x) (S.means.fits i h).entries_are m)) [
            | inl q ↦ own_label i h x q
            | inr q ↦
                let r = from_joined x (λ g. (N.node ((N.node i).child g)).entries) (branches K (seat (N.node i))) q in
                let t = again r.0 r.1.0 x r.1.1 in
                (t.0, ((digit_of_member K (seat (N.node i)) r.0 t.0 (subst (Mem t.0) (child_settings i h r.0 r.1.0) t.1.0)).0, t.1.1))
          ]

  module _ (i : ℕ) (h : Held i) where
    -- by the child that lists them: nodes go on by its digit, and so do keys
    pub child_nodes : (k : ℕ) → 0 < occ k (branches K (seat (N.node i))) → (x : Marked) → Mem x (N.node ((N.node i).child k)).nodes → begins ((N.node i).label.what ++ (k ∷ [])) x.what ≡ true
    child_nodes k p x m =
        ap (λ (w : List ℕ). begins w x.what) (sym (child_prefix i h k p))
        ∙ nodes_under ((N.node i).child k) (child_held i h k p) x m

    pub child_entries : (k : ℕ) → 0 < occ k (branches K (seat (N.node i))) → (x : Marked) → Mem x (N.node ((N.node i).child k)).entries → digit (K.hash x.what) (length (N.node i).label.what) ≡ k
    child_entries k p x m =
        let r = entries_under ((N.node i).child k) (child_held i h k p) x m in
        ap (λ (w : List ℕ). digit (K.hash w) (length (N.node i).label.what)) r.1.1
        ∙ (digit_of_member K (seat (N.node i)) k r.0 (subst (Mem r.0) (child_settings i h k p) r.1.0)).1

-- What stands at a digit of a node is the part below it. Assumes nothing.
use Rattle.std.proofs.Common.{◌≡◌, ℕ, ◌<◌, Bool, true, false, cond, eqb, List, [], ◌∷◌, ◌++◌, map, length, get_or, sym, refl, ap, ◌∙◌, subst, ap₂, inl, inr, arith}
use mathlib.Core.List.Memᴰ
use lib.Count.{ones}
use Rattle.std.specs.List.{flat_map}
use Rattle.std.proofs.lemmas.List.{length-map, append-nil}
use Rattle.std.proofs.lemmas.Bool.{both_ways, cases_Bool, cond-true, cond-false, eqb-true, eq-eqb, ne_eqb, eqb-false, ltb-true, ltb-false}
use Rattle.kinds.specs.Kinds.{KeyKind}
use Rattle.model.specs.Maps.{Setting, Map}
use Rattle.model.specs.Tries.{filter, digit, at_digit, one, many}
use Rattle.model.specs.Sharing.{Marked, Part, begins, below}
use Rattle.model.proofs.Images.Lists.{filter_append}
use Rattle.model.proofs.Marks.Members.{Mem, mem_of_filter, map_filter}
use Rattle.model.proofs.Marks.Prefixes.{begins_short, begins_apart}
use Rattle.tables.specs.declared.cells.NodeCell.{NodeCell}
use Rattle.tables.specs.Chains.{occ}
use Rattle.tables.specs.Cells.{cell, entry_cell, singles}
use Rattle.tables.specs.Notes.{Note, seat, branches, Stands}
use Rattle.tables.specs.Slots.{rank_of}
use Rattle.tables.proofs.Occurrences.{occ_at}
use Rattle.tables.proofs.NodeCounts.{length_listed, listed_at}
use Rattle.tables.proofs.Noting.{single_held}
use Rattle.tables.proofs.Ranks.{entry_inside, entry_slot}
use Rattle.branches.specs.States.{Tables, Notes, Sits}
use Rattle.branches.specs.Branches.{no_part, Single}
use Rattle.branches.proofs.Filters.{filter_joined, filter_joined_none, filter_same, occ_filter, only_one, none_long, branch_once, branch_in, branch_many}
use Rattle.branches.proofs.Under.{own_at, label_key, child_held, child_prefix, child_settings, child_nodes, child_entries}

-- ---- parts

-- the part that a note tells
abbrev pub told : Note → Part
told a = record { settings = a.settings; nodes = a.nodes; entries = a.entries }

pub same_part : (a b : Part) → a.settings ≡ b.settings → a.nodes ≡ b.nodes → a.entries ≡ b.entries → a ≡ b
same_part a b s n e = λ i. record { settings = s i; nodes = n i; entries = e i }

-- what holds of a note holds of what stands by it
pub by_note : (cs : List NodeCell) (note : ℕ → Note) (i : ℕ) (p : List ℕ) (a : Part) → Stands cs note i p a → (P : List ℕ → Part → Type 0) → P (note i).label.what (told (note i)) → P p a
by_note cs note i p a S P h =
    subst (λ (q : List ℕ). P q a) S.prefix
    (subst (P (note i).label.what) (same_part (told (note i)) a S.settings S.nodes S.entries) h)

not_many : (m : Map) → one m ≡ true → many m ≡ false
not_many m e = elim (cases_Bool (many m)) [ inl t ↦ absurd (omega (arith, eqb-true (length m) 1 e, ltb-true 1 (length m) t)) | inr f ↦ f ]

not_one : (m : Map) → many m ≡ true → one m ≡ false
not_one m e = elim (cases_Bool (one m)) [ inl t ↦ absurd (omega (arith, eqb-true (length m) 1 t, ltb-true 1 (length m) e)) | inr f ↦ f ]

-- neither one nor more
pub no_settings : (m : Map) → one m ≡ false → many m ≡ false → m ≡ []
no_settings [] o n = refl
no_settings (s ∷ []) o n = absurd (eqb-false 1 1 o refl)
no_settings (s ∷ t ∷ m) o n = absurd (omega (arith, ltb-false 1 (length (s ∷ t ∷ m)) n))

module _ {X Y : Type 0} (K : KeyKind) (kb : X → List ℕ) (vb : Y → List ℕ) (T : Tables X Y) (N : Notes) (R E : List ℕ) (S : Sits K kb vb T N R E) where
  -- ---- by the notes

  module _ (i : ℕ) (h : 0 < (cell T.nodes i).holders) (short : length (N.node i).label.what < 8) (g : ℕ) (small : g < 16) where
    abbrev prefix : List ℕ
    prefix = (N.node i).label.what

    abbrev at : Map
    at = at_digit K (length prefix) (N.node i).settings g

    abbrev on : Marked → Bool
    on x = begins (prefix ++ (g ∷ [])) x.what

    abbrev keyed : Marked → Bool
    keyed x = eqb (digit (K.hash x.what) (length prefix)) g

    abbrev has : many at ≡ true → 0 < occ g (branches K (seat (N.node i)))
    has e = branch_in K (seat (N.node i)) g short small e

    other : many at ≡ false → (k : ℕ) → 0 < occ k (branches K (seat (N.node i))) → k ≡ g → ⊥
    other e k p z = both_ways (many at) e (ap (λ (j : ℕ). many (at_digit K (length prefix) (N.node i).settings j)) (sym z) ∙ branch_many K (seat (N.node i)) k p)

    -- the nodes below: the child's, or none
    own_node : on (N.node i).label ≡ false
    own_node = elim (cases_Bool (on (N.node i).label)) [ inl e ↦ absurd (begins_short prefix g e) | inr e ↦ e ]

    apart : (k : ℕ) → 0 < occ k (branches K (seat (N.node i))) → (k ≡ g → ⊥) → (x : Marked) → Mem x (N.node ((N.node i).child k)).nodes → on x ≡ false
    apart k p n x m = elim (cases_Bool (on x)) [ inl e ↦ absurd (n (begins_apart prefix k g x.what (child_nodes K kb vb T N R E S i h k p x m) e)) | inr e ↦ e ]

    nodes_there : many at ≡ true → filter on (N.node i).nodes ≡ (N.node ((N.node i).child g)).nodes
    nodes_there e =
        ap (filter on) (S.means.fits i h).nodes_are ∙ cond-false (on (N.node i).label) _ _ own_node
        ∙ filter_joined on (λ k. (N.node ((N.node i).child k)).nodes) g (branches K (seat (N.node i))) (has e) (branch_once K (seat (N.node i)))
        (child_nodes K kb vb T N R E S i h g (has e)) apart

    nodes_none : many at ≡ false → filter on (N.node i).nodes ≡ []
    nodes_none e =
        ap (filter on) (S.means.fits i h).nodes_are ∙ cond-false (on (N.node i).label) _ _ own_node
        ∙ filter_joined_none on (λ k. (N.node ((N.node i).child k)).nodes) (branches K (seat (N.node i))) (λ k p. apart k p (other e k p))

    -- the entries below: of the node itself the one at the digit
    entry_held : (e : ℕ) → 0 < occ e (singles (cell T.nodes i)) → 0 < (entry_cell T.entries e).holders
    entry_held = single_held T.nodes T.entries T.entry_free T.entry_spare E S.entries i

    picked : List ℕ
    picked = filter (λ e. keyed (N.entry e).label) (singles (cell T.nodes i))

    picked_settings : map (λ e. (N.entry e).setting) picked ≡ cond (one at) at []
    unfolding picked
    picked_settings =
        let q : Setting → Bool = λ s. eqb (digit (K.hash s.key) (length prefix)) g in
        ap (map (λ e. (N.entry e).setting)) (filter_same (λ e. keyed (N.entry e).label) (λ e. q (N.entry e).setting) (singles (cell T.nodes i))
        (λ e p. ap (λ (w : List ℕ). eqb (digit (K.hash w) (length prefix)) g) (label_key K kb vb T N R E S e (entry_held e p))))
        ∙ map_filter (λ e. (N.entry e).setting) q (singles (cell T.nodes i))
        ∙ ap (filter q) (S.means.fits i h).owns ∙ own_at K (seat (N.node i)) short g small

    own_entries : filter keyed (map (λ e. (N.entry e).label) (singles (cell T.nodes i))) ≡ map (λ e. (N.entry e).label) picked
    unfolding picked
    own_entries = sym (map_filter (λ e. (N.entry e).label) keyed (singles (cell T.nodes i)))

    own_none : one at ≡ false → filter keyed (map (λ e. (N.entry e).label) (singles (cell T.nodes i))) ≡ []
    own_none e =
        let gone : picked ≡ [] = none_long picked (sym (length-map picked (λ e. (N.entry e).setting)) ∙ ap length (picked_settings ∙ cond-false (one at) at [] e)) in
        own_entries ∙ ap (map (λ e. (N.entry e).label)) gone

    abbrev entry : ℕ
    entry = get_or (cell T.nodes i).entries (rank_of (cell T.nodes i).datamap g) 0

    entry_in : one at ≡ true → 0 < occ entry (singles (cell T.nodes i))
    entry_in o =
        let c : NodeCell = cell T.nodes i in
        let r : ℕ = rank_of c.datamap g in
        let inside : r < ones c.datamap = entry_inside K N.node N.entry c (N.node i) (S.means.fits i h) short g small o in
        subst (λ (e : ℕ). 0 < occ e (singles c)) (listed_at c.datamap c.entries r inside) (occ_at (singles c) r (omega (arith, length_listed c.datamap c.entries)))

    entry_at : one at ≡ true → at ≡ (N.entry entry).setting ∷ []
    entry_at o = entry_slot K N.node N.entry (cell T.nodes i) (N.node i) (S.means.fits i h) short g small o

    entry_keyed : one at ≡ true → keyed (N.entry entry).label ≡ true
    entry_keyed o =
        let m : Mem (N.entry entry).setting at = subst (Mem (N.entry entry).setting) (sym (entry_at o)) (Memᴰ.head refl) in
        ap (λ (w : List ℕ). eqb (digit (K.hash w) (length prefix)) g) (label_key K kb vb T N R E S entry (entry_held entry (entry_in o)))
        ∙ (mem_of_filter (λ s. eqb (digit (K.hash s.key) (length prefix)) g) (N.node i).settings (N.entry entry).setting m).1

    picked_one : one at ≡ true → picked ≡ entry ∷ []
    unfolding picked
    picked_one o =
        only_one picked entry
        (sym (length-map picked (λ e. (N.entry e).setting)) ∙ ap length (picked_settings ∙ cond-true (one at) at [] o) ∙ eqb-true (length at) 1 o)
        (subst (λ (n : ℕ). 0 < n) (sym (occ_filter (λ e. keyed (N.entry e).label) (singles (cell T.nodes i)) entry ∙ cond-true (keyed (N.entry entry).label) _ _ (entry_keyed o))) (entry_in o))

    own_one : one at ≡ true → filter keyed (map (λ e. (N.entry e).label) (singles (cell T.nodes i))) ≡ (N.entry entry).label ∷ []
    own_one o = own_entries ∙ ap (map (λ e. (N.entry e).label)) (picked_one o)

    -- and of the children those of the one at the digit, or none
    other_key : (k : ℕ) → 0 < occ k (branches K (seat (N.node i))) → (k ≡ g → ⊥) → (x : Marked) → Mem x (N.node ((N.node i).child k)).entries → keyed x ≡ false
    other_key k p n x m = ne_eqb _ g (λ z. n (sym (child_entries K kb vb T N R E S i h k p x m) ∙ z))

    entries_split : filter keyed (N.node i).entries ≡ filter keyed (map (λ e. (N.entry e).label) (singles (cell T.nodes i))) ++ filter keyed (flat_map (λ k. (N.node ((N.node i).child k)).entries) (branches K (seat (N.node i))))
    entries_split = ap (filter keyed) (S.means.fits i h).entries_are ∙ filter_append keyed (map (λ e. (N.entry e).label) (singles (cell T.nodes i))) (flat_map (λ k. (N.node ((N.node i).child k)).entries) (branches K (seat (N.node i))))

    entries_there : many at ≡ true → filter keyed (N.node i).entries ≡ (N.node ((N.node i).child g)).entries
    entries_there e =
        entries_split ∙ ap₂ ◌++◌ (own_none (not_one at e))
        (filter_joined keyed (λ k. (N.node ((N.node i).child k)).entries) g (branches K (seat (N.node i))) (has e) (branch_once K (seat (N.node i)))
        (λ x m. eq-eqb _ g (child_entries K kb vb T N R E S i h g (has e) x m)) other_key)

    entries_own : many at ≡ false → filter keyed (N.node i).entries ≡ filter keyed (map (λ e. (N.entry e).label) (singles (cell T.nodes i)))
    entries_own e =
        entries_split
        ∙ ap (λ r. filter keyed (map (λ e. (N.entry e).label) (singles (cell T.nodes i))) ++ r)
        (filter_joined_none keyed (λ k. (N.node ((N.node i).child k)).entries) (branches K (seat (N.node i))) (λ k p. other_key k p (other e k p)))
        ∙ append-nil (filter keyed (map (λ e. (N.entry e).label) (singles (cell T.nodes i))))

    -- ---- the three ways

    note_child_on : many at ≡ true → Stands T.nodes N.node ((N.node i).child g) (prefix ++ (g ∷ [])) (below K prefix g (told (N.node i)))
    note_child_on e = record {
      held = child_held K kb vb T N R E S i h g (has e);
      prefix = child_prefix K kb vb T N R E S i h g (has e);
      settings = child_settings K kb vb T N R E S i h g (has e);
      nodes = sym (nodes_there e);
      entries = sym (entries_there e);
    }

    note_entry_on : one at ≡ true → Single T N entry (below K prefix g (told (N.node i)))
    note_entry_on o = record {
      held = entry_held entry (entry_in o);
      settings = entry_at o;
      nodes = nodes_none (not_many at o);
      entries = entries_own (not_many at o) ∙ own_one o;
    }

    note_nothing_on : one at ≡ false → many at ≡ false → below K prefix g (told (N.node i)) ≡ no_part
    note_nothing_on o m = same_part (below K prefix g (told (N.node i))) no_part (no_settings at o m) (nodes_none m) (entries_own m ∙ own_none o)

  -- ---- of what stands in a cell

  module _ (i : ℕ) (p : List ℕ) (a : Part) (St : Stands T.nodes N.node i p a) (g : ℕ) (small : g < 16) where
    -- two or more settings: the child
    pub child_on : length p < 8 → many (at_digit K (length p) a.settings g) ≡ true → Stands T.nodes N.node ((N.node i).child g) (p ++ (g ∷ [])) (below K p g a)
    child_on =
        by_note T.nodes N.node i p a St
        (λ q b. length q < 8 → many (at_digit K (length q) b.settings g) ≡ true → Stands T.nodes N.node ((N.node i).child g) (q ++ (g ∷ [])) (below K q g b))
        (λ short e. note_child_on i St.held short g small e)

    -- one: the entry in the slot of its rank
    pub entry_on : length p < 8 → one (at_digit K (length p) a.settings g) ≡ true → Single T N (get_or (cell T.nodes i).entries (rank_of (cell T.nodes i).datamap g) 0) (below K p g a)
    entry_on =
        by_note T.nodes N.node i p a St
        (λ q b. length q < 8 → one (at_digit K (length q) b.settings g) ≡ true → Single T N (get_or (cell T.nodes i).entries (rank_of (cell T.nodes i).datamap g) 0) (below K q g b))
        (λ short e. note_entry_on i St.held short g small e)

    -- none: nothing
    pub nothing_on : length p < 8 → one (at_digit K (length p) a.settings g) ≡ false → many (at_digit K (length p) a.settings g) ≡ false → below K p g a ≡ no_part
    nothing_on =
        by_note T.nodes N.node i p a St
        (λ q b. length q < 8 → one (at_digit K (length q) b.settings g) ≡ false → many (at_digit K (length q) b.settings g) ≡ false → below K q g b ≡ no_part)
        (λ short o m. note_nothing_on i St.held short g small o m)

-- What the cells mean, as one is made. Assumes nothing.
use Rattle.std.proofs.Common.{◌≡◌, ℕ, ◌<◌, ◌≤◌, eqb, List, ◌∷◌, ◌++◌, length, set, sym, refl, ap, ◌∙◌, subst, ap₂, inl, inr, arith}
use lib.Count.{ones}
use Rattle.std.proofs.lemmas.List.{get_or_past, get_or-set_same, get_or-set_other}
use Rattle.std.proofs.lemmas.List.Sums.{get_or-le-sum_by}
use Rattle.std.proofs.lemmas.Bool.{cases_eq, cases_lt, eq-eqb, ne_eqb, cond-true, cond-false}
use Rattle.kinds.specs.Kinds.{KeyKind}
use Rattle.model.specs.Sharing.{Marked, Part}
use Rattle.tables.specs.declared.cells.NodeCell.{NodeCell}
use Rattle.tables.specs.declared.cells.EntryCell.{EntryCell}
use Rattle.tables.specs.Chains.{occ}
use Rattle.tables.specs.Cells.{blank, cell, blank_entry, entry_cell, listed, kids, singles}
use Rattle.tables.specs.Heaps.{Nodes, inner_entries, Entries, NodeMade, EntryMade}
use Rattle.tables.specs.Notes.{noted, Note, EntryNote, seat, branches, Fits, EntryFits, Means, Stands}
use Rattle.tables.proofs.Occurrences.{occ_append}
use Rattle.tables.proofs.Rows.{to_map, map_same, joined_same}
use Rattle.tables.proofs.NodeCounts.{inner_ge}

-- ---- what a node refers to is held

pub inner_entries_ge : (cs : List NodeCell) (i e : ℕ) → occ e (singles (cell cs i)) ≤ inner_entries e cs
unfolding inner_entries listed occ ones
inner_entries_ge cs i e =
    elim (cases_lt i (length cs)) [
      | inl p ↦ get_or-le-sum_by (λ (c : NodeCell). occ e (singles c)) cs i blank p
      | inr p ↦ omega (arith, ap (λ (c : NodeCell). occ e (singles c)) (get_or_past cs i blank p))
    ]

pub kid_held : (cs : List NodeCell) (f s : ℕ) (R : List ℕ) → Nodes cs f s R → (i k : ℕ) → 0 < occ k (kids (cell cs i)) → 0 < (cell cs k).holders
kid_held cs f s R H i k p = omega (arith, inner_ge cs i k, H.counted k)

pub single_held :
    {X Y : Type 0} (cs : List NodeCell) (es : List (EntryCell X Y)) (f s : ℕ) (R : List ℕ) → Entries cs es f s R
    → (i e : ℕ) → 0 < occ e (singles (cell cs i)) → 0 < (entry_cell es e).holders
single_held cs es f s R H i e p = omega (arith, inner_entries_ge cs i e, H.counted e)

-- ---- only the notes of what a node refers to matter

pub fits_notes :
    (K : KeyKind) (note next : ℕ → Note) (entry_note entry_next : ℕ → EntryNote) (c : NodeCell) (a : Note)
    → ((k : ℕ) → 0 < occ k (kids c) → next k ≡ note k) → ((e : ℕ) → 0 < occ e (singles c) → entry_next e ≡ entry_note e)
    → Fits K note entry_note c a → Fits K next entry_next c a
fits_notes K note next entry_note entry_next c a same entry_same F =
    let here : (g : ℕ) → 0 < occ g (branches K (seat a)) → next (a.child g) ≡ note (a.child g) =
    λ g p. same (a.child g) (subst (λ l. 0 < occ (a.child g) l) (sym F.children) (to_map a.child (branches K (seat a)) g p)) in
    record {
      children = F.children;
      seats = λ g p. ap seat (here g p) ∙ F.seats g p;
      owns = map_same (λ e. (entry_next e).setting) (λ e. (entry_note e).setting) (singles c) (λ e p. ap (λ (b : EntryNote). b.setting) (entry_same e p)) ∙ F.owns;
      nodes_are =
          F.nodes_are ∙ ap (λ (r : List Marked). a.label ∷ r)
          (joined_same (λ g. (note (a.child g)).nodes) (λ g. (next (a.child g)).nodes) (branches K (seat a)) (λ g p. ap (λ (b : Note). b.nodes) (sym (here g p))));
      entries_are =
          F.entries_are ∙ ap₂ ◌++◌
          (map_same (λ e. (entry_note e).label) (λ e. (entry_next e).label) (singles c) (λ e p. ap (λ (b : EntryNote). b.label) (sym (entry_same e p))))
          (joined_same (λ g. (note (a.child g)).entries) (λ g. (next (a.child g)).entries) (branches K (seat a)) (λ g p. ap (λ (b : Note). b.entries) (sym (here g p))));
      level_is = F.level_is;
      data_bits = F.data_bits;
      node_bits = F.node_bits;
    }

-- ---- one note more

pub noted_same : {A : Type 0} (note : ℕ → A) (j : ℕ) (a : A) → noted note j a j ≡ a
noted_same note j a = cond-true (eqb j j) a (note j) (eq-eqb j j refl)

pub noted_other : {A : Type 0} (note : ℕ → A) (j : ℕ) (a : A) (i : ℕ) → (i ≡ j → ⊥) → noted note j a i ≡ note i
noted_other note j a i n = cond-false (eqb i j) a (note i) (ne_eqb i j n)

-- ---- a table of any cells, where a free one is taken

-- what holds of the new cell with its note, and of each other held cell with its own
module _ {C A : Type 0} (holders : C → ℕ) (was is : ℕ → C) (note next : ℕ → A) (r : ℕ) (new : C) (a : A)
    (here : is r ≡ new) (else : (i : ℕ) → (i ≡ r → ⊥) → is i ≡ was i) (note_here : next r ≡ a) (note_else : (i : ℕ) → (i ≡ r → ⊥) → next i ≡ note i) where
  pub at_made : (P : ℕ → C → A → Type 0) → P r new a → ((i : ℕ) → (i ≡ r → ⊥) → 0 < holders (was i) → P i (was i) (note i)) → (i : ℕ) → 0 < holders (is i) → P i (is i) (next i)
  at_made P this other i h =
      elim (cases_eq i r) [
        | inl e ↦ let Q : ℕ → Type 0 = λ k. P k (is k) (next k) in
            subst Q (sym e) (subst (λ (c : C). P r c (next r)) (sym here) (subst (P r new) (sym note_here) this))
        | inr n ↦
            subst (λ (c : C). P i c (next i)) (sym (else i n))
            (subst (P i (was i)) (sym (note_else i n)) (other i n (omega (arith, ap holders (else i n)))))
      ]

  -- no two have one label
  pub made_once :
      (label : A → Marked) → ((i : ℕ) → 0 < holders (was i) → label (note i) ≡ label a → ⊥)
      → ((i j : ℕ) → 0 < holders (was i) → 0 < holders (was j) → label (note i) ≡ label (note j) → i ≡ j)
      → (i j : ℕ) → 0 < holders (is i) → 0 < holders (is j) → label (next i) ≡ label (next j) → i ≡ j
  made_once label fresh once i j p q =
      let P : ℕ → C → A → Type 0 = λ k c b. label b ≡ label (next j) → k ≡ j in
      let S : ℕ → C → A → Type 0 = λ k c b. label a ≡ label b → r ≡ k in
      at_made P
      (at_made S (λ e. refl) (λ k n h e. absurd (fresh k h (sym e))) j q)
      (λ k n h. let T : ℕ → C → A → Type 0 = λ m c b. label (note k) ≡ label b → k ≡ m in
      at_made T (λ e. absurd (fresh k h e)) (λ m o g e. once k m h g e) j q)
      i p

module _ {X Y : Type 0} (K : KeyKind) (kb : X → List ℕ) (vb : Y → List ℕ) (cs : List NodeCell) (es : List (EntryCell X Y)) (note : ℕ → Note) (entry_note : ℕ → EntryNote)
    (M : Means K kb vb cs es note entry_note) where
  -- a new node
  pub made_means :
      (ds : List NodeCell) (r : ℕ) (new : NodeCell) (a : Note) (next : ℕ → Note)
      → r < length cs → (cell cs r).holders ≡ 0 → ds ≡ set cs r new
      → next r ≡ a → ((i : ℕ) → (i ≡ r → ⊥) → next i ≡ note i)
      → Fits K next entry_note new a
      → ((i : ℕ) → 0 < (cell cs i).holders → (note i).label ≡ a.label → ⊥)
      → ((i k : ℕ) → 0 < occ k (kids (cell cs i)) → 0 < (cell cs k).holders)
      → Means K kb vb ds es next entry_note
  made_means ds r new a next inside free is here else fit fresh held =
      let at_r : cell ds r ≡ new = ap (λ (l : List NodeCell). cell l r) is ∙ get_or-set_same cs r new blank inside in
      let away : (i : ℕ) → (i ≡ r → ⊥) → cell ds i ≡ cell cs i = λ i n. ap (λ (l : List NodeCell). cell l i) is ∙ get_or-set_other cs r i new blank n in
      let other : (k : ℕ) → 0 < (cell cs k).holders → k ≡ r → ⊥ = λ k h e. omega (arith, free, ap (λ (n : ℕ). (cell cs n).holders) e) in
      let P : ℕ → NodeCell → Note → Type 0 = λ i c b. Fits K next entry_note c b in
      record {
        fits = at_made (λ c. c.holders) (cell cs) (cell ds) note next r new a at_r away here else P fit
            (λ i n h. fits_notes K note next entry_note entry_note (cell cs i) (note i) (λ k p. else k (other k (held i k p))) (λ e p. refl) (M.fits i h));
        once = made_once (λ c. c.holders) (cell cs) (cell ds) note next r new a at_r away here else (λ b. b.label) fresh M.once;
        entry_fits = M.entry_fits;
        entry_once = M.entry_once;
      }

  -- a new entry
  pub made_entry_means :
      (fs : List (EntryCell X Y)) (r : ℕ) (new : EntryCell X Y) (a : EntryNote) (next : ℕ → EntryNote)
      → r < length es → (entry_cell es r).holders ≡ 0 → fs ≡ set es r new
      → next r ≡ a → ((e : ℕ) → (e ≡ r → ⊥) → next e ≡ entry_note e)
      → EntryFits kb vb new a
      → ((e : ℕ) → 0 < (entry_cell es e).holders → (entry_note e).label ≡ a.label → ⊥)
      → ((i e : ℕ) → 0 < occ e (singles (cell cs i)) → 0 < (entry_cell es e).holders)
      → Means K kb vb cs fs note next
  made_entry_means fs r new a next inside free is here else fit fresh held =
      let at_r : entry_cell fs r ≡ new = ap (λ (l : List (EntryCell X Y)). entry_cell l r) is ∙ get_or-set_same es r new blank_entry inside in
      let away : (i : ℕ) → (i ≡ r → ⊥) → entry_cell fs i ≡ entry_cell es i = λ i n. ap (λ (l : List (EntryCell X Y)). entry_cell l i) is ∙ get_or-set_other es r i new blank_entry n in
      let other : (k : ℕ) → 0 < (entry_cell es k).holders → k ≡ r → ⊥ = λ k h e. omega (arith, free, ap (λ (n : ℕ). (entry_cell es n).holders) e) in
      let P : ℕ → EntryCell X Y → EntryNote → Type 0 = λ i c b. EntryFits kb vb c b in
      record {
        fits = λ i h. fits_notes K note note entry_note next (cell cs i) (note i) (λ k p. refl) (λ e p. else e (other e (held i e p))) (M.fits i h);
        once = M.once;
        entry_fits = at_made (λ c. c.holders) (entry_cell es) (entry_cell fs) entry_note next r new a at_r away here else P fit (λ i n h. M.entry_fits i h);
        entry_once = made_once (λ c. c.holders) (entry_cell es) (entry_cell fs) entry_note next r new a at_r away here else (λ b. b.label) fresh M.entry_once;
      }

  -- ---- as the tables make them

  pub node_made_means :
      (r : ℕ) (new : NodeCell) (f s : ℕ) (ds : List NodeCell) (g t : ℕ) (R : List ℕ) (a : Note)
      → NodeMade r new cs f s ds g t → Nodes cs f s (kids new ++ R)
      → Fits K note entry_note new a → ((i : ℕ) → 0 < (cell cs i).holders → (note i).label ≡ a.label → ⊥)
      → Means K kb vb ds es (noted note r a) entry_note
  node_made_means r new f s ds g t R a m H fit fresh =
      let other : (k : ℕ) → 0 < (cell cs k).holders → k ≡ r → ⊥ = λ k h e. omega (arith, m.was_free, ap (λ (n : ℕ). (cell cs n).holders) e) in
      let kept : (k : ℕ) → 0 < (cell cs k).holders → noted note r a k ≡ note k = λ k h. noted_other note r a k (other k h) in
      made_means ds r new a (noted note r a) m.inside m.was_free m.is (noted_same note r a) (noted_other note r a)
      (fits_notes K note (noted note r a) entry_note entry_note new a (λ k p. kept k (omega (arith, H.counted k, occ_append k (kids new) R))) (λ e p. refl) fit)
      fresh (kid_held cs f s (kids new ++ R) H)

  pub entry_made_means :
      (r : ℕ) (new : EntryCell X Y) (f s : ℕ) (fs : List (EntryCell X Y)) (g t : ℕ) (R : List ℕ) (a : EntryNote)
      → EntryMade r new es f s fs g t → Entries cs es f s R
      → EntryFits kb vb new a → ((e : ℕ) → 0 < (entry_cell es e).holders → (entry_note e).label ≡ a.label → ⊥)
      → Means K kb vb cs fs note (noted entry_note r a)
  entry_made_means r new f s fs g t R a m H fit fresh =
      made_entry_means fs r new a (noted entry_note r a) m.inside m.was_free m.is (noted_same entry_note r a) (noted_other entry_note r a)
      fit fresh (single_held cs es f s R H)

-- the nodes that stood before stand as they did
pub made_stands :
    (cs ds : List NodeCell) (note next : ℕ → Note) (r : ℕ) (new : NodeCell) → (cell cs r).holders ≡ 0 → ds ≡ set cs r new
    → ((i : ℕ) → (i ≡ r → ⊥) → next i ≡ note i)
    → (i : ℕ) (p : List ℕ) (b : Part) → Stands cs note i p b → Stands ds next i p b
made_stands cs ds note next r new free is else i p b S =
    let n : i ≡ r → ⊥ = λ e. omega (arith, S.held, free, ap (λ (k : ℕ). (cell cs k).holders) e) in
    let c : cell ds i ≡ cell cs i = ap (λ (l : List NodeCell). cell l i) is ∙ get_or-set_other cs r i new blank n in
    record {
      held = omega (arith, S.held, ap (λ (d : NodeCell). d.holders) c);
      prefix = ap (λ (x : Note). x.label.what) (else i n) ∙ S.prefix;
      settings = ap (λ (x : Note). x.settings) (else i n) ∙ S.settings;
      nodes = ap (λ (x : Note). x.nodes) (else i n) ∙ S.nodes;
      entries = ap (λ (x : Note). x.entries) (else i n) ∙ S.entries;
    }

-- and the new one stands for its note
pub new_stands :
    (cs ds : List NodeCell) (next : ℕ → Note) (r : ℕ) (new : NodeCell) (a : Note) → r < length cs → 0 < new.holders → ds ≡ set cs r new → next r ≡ a
    → (p : List ℕ) (b : Part) → a.label.what ≡ p → a.settings ≡ b.settings → a.nodes ≡ b.nodes → a.entries ≡ b.entries
    → Stands ds next r p b
new_stands cs ds next r new a inside h is here p b prefix settings nodes entries =
    let c : cell ds r ≡ new = ap (λ (l : List NodeCell). cell l r) is ∙ get_or-set_same cs r new blank inside in
    record {
      held = omega (arith, ap (λ (d : NodeCell). d.holders) c);
      prefix = ap (λ (x : Note). x.label.what) here ∙ prefix;
      settings = ap (λ (x : Note). x.settings) here ∙ settings;
      nodes = ap (λ (x : Note). x.nodes) here ∙ nodes;
      entries = ap (λ (x : Note). x.entries) here ∙ entries;
    }

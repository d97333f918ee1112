-- A node table begun, one node more held, and a node made. Assumes nothing.
use Rattle.std.proofs.Common.{◌≡◌, ℕ, ◌+◌, ◌-◌, ◌<◌, ◌≤◌, List, [], ◌∷◌, ◌++◌, length, set, replicate, refl, ap, ◌∙◌, inl, inr, arith, length-set}
use lib.Count.{ones}
use Rattle.std.proofs.lemmas.Bool.{cases_lt}
use Rattle.tables.specs.declared.cells.NodeCell.{NodeCell}
use Rattle.tables.specs.Chains.{occ}
use Rattle.tables.specs.Cells.{blank, cell, kids, singles}
use Rattle.tables.specs.Heaps.{inner_entries, inner, Nodes, Entryless, one_more, NodeHeld, NodeMade}
use Rattle.tables.proofs.Occurrences.{hit, hit_same, hit_other, occ_nil, occ_cons, occ_append}
use Rattle.tables.proofs.Chains.{chain_counting, head_free, chain_kept, chain_taken}
use Rattle.tables.proofs.NodeCounts.{listed_none, sum_none, cell_past, inside, inner_ge, at_set, new_cell, other_cell, part_kept, inner_set, narrow_set}

-- ---- a table in which every cell is free

-- a free cell before the cell n in the chain
abbrev pub unused : ℕ → NodeCell
unused n = record { datamap = 0; nodemap = 0; entries = replicate 16 0; children = replicate 16 0; holders = 0; next = n; level = 0 }

-- a cell with no holder, before the cell n in the chain
abbrev pub chained_again : ℕ → NodeCell → NodeCell
chained_again n c = record { datamap = c.datamap; nodemap = c.nodemap; entries = c.entries; children = c.children; holders = 0; next = n; level = c.level }

module _ (cs : List NodeCell) (all : (k : ℕ) → k < length cs → cell cs k ≡ unused (k + 1)) where
  -- past the end too
  everywhere : (P : NodeCell → Type 0) → ((n : ℕ) → P (unused n)) → P blank → (i : ℕ) → P (cell cs i)
  everywhere P a b i =
      elim (cases_lt i (length cs)) [ inl p ↦ rw (all i p) (a (i + 1)) | inr p ↦ rw (cell_past cs i p) b ]

  no_kids : (i : ℕ) → kids (cell cs i) ≡ []
  no_kids = everywhere (λ (c : NodeCell). kids c ≡ []) (λ n. listed_none 0 (replicate 16 0) refl) (listed_none 0 [] refl)

  no_occ : (i k : ℕ) → occ k (kids (cell cs i)) ≡ 0
  no_occ i k = ap (occ k) (no_kids i) ∙ occ_nil k

  no_holders : (i : ℕ) → (cell cs i).holders ≡ 0
  no_holders = everywhere (λ (c : NodeCell). c.holders ≡ 0) (λ n. refl) refl

  pub free_nodes : length cs ≤ 65535 → Nodes cs 0 (length cs) []
  unfolding inner ones
  free_nodes short = record {
    counted = λ i. omega (arith, no_holders i, occ_nil i, sum_none (λ (c : NodeCell). occ i (kids c)) cs (λ k p. no_occ k i));
    childless = λ i z. no_kids i;
    falls = λ i k p. absurd (omega (arith, no_occ i k));
    narrow = everywhere (λ (c : NodeCell). (ones c.datamap ≤ 16) × (ones c.nodemap ≤ 16)) (λ n. (omega arith, omega arith)) (omega arith, omega arith);
    short = short;
    chain = chain_counting (λ i. (cell cs i).next) (λ i. (cell cs i).holders) (length cs) (λ k p. (ap (λ (c : NodeCell). c.next) (all k p), no_holders k));
  }

  no_singles : (i : ℕ) → singles (cell cs i) ≡ []
  no_singles = everywhere (λ (c : NodeCell). singles c ≡ []) (λ n. listed_none 0 (replicate 16 0) refl) (listed_none 0 [] refl)

  pub free_entryless : Entryless cs
  free_entryless i z = no_singles i

  pub free_unreferred : (e : ℕ) → inner_entries e cs ≡ 0
  unfolding inner_entries
  free_unreferred e = sum_none (λ (c : NodeCell). occ e (singles c)) cs (λ k p. ap (occ e) (no_singles k) ∙ occ_nil e)

-- ---- one holder more

module _ (cs : List NodeCell) (f s j : ℕ) (held : 0 < (cell cs j).holders) where
  more_holders : (i : ℕ) → (cell (set cs j (one_more (cell cs j))) i).holders ≡ (cell cs i).holders + hit i j
  more_holders i =
      at_set cs j (one_more (cell cs j)) (inside cs j held) (λ (c : NodeCell). c.holders ≡ (cell cs i).holders + hit i j) i
      (λ e. omega (arith, hit_same i j e, ap (λ (n : ℕ). (cell cs n).holders) e))
      (λ n. omega (arith, hit_other i j n))

  more_same : {X : Type 0} (g : NodeCell → X) → g (one_more (cell cs j)) ≡ g (cell cs j) → (i : ℕ) → g (cell (set cs j (one_more (cell cs j))) i) ≡ g (cell cs i)
  more_same = part_kept cs j (one_more (cell cs j)) (inside cs j held)

  more_zero : (i : ℕ) → (cell (set cs j (one_more (cell cs j))) i).holders ≡ 0 → (cell cs i).holders ≡ 0
  more_zero i z = omega (arith, more_holders i)

  zero_more : (i : ℕ) → (cell cs i).holders ≡ 0 → (cell (set cs j (one_more (cell cs j))) i).holders ≡ 0
  zero_more i z = omega (arith, more_holders i, hit_other i j (λ e. omega (arith, ap (λ (n : ℕ). (cell cs n).holders) e)))

  more_nodes : (R : List ℕ) → Nodes cs f s R → Nodes (set cs j (one_more (cell cs j))) f s (j ∷ R)
  more_nodes R H =
      let y = one_more (cell cs j) in
      record {
        counted = λ i. omega (arith, more_holders i, H.counted i, occ_cons i j R, inner_set cs j y (inside cs j held) i);
        childless = λ i z. more_same kids refl i ∙ H.childless i (more_zero i z);
        falls = λ i k p.
            omega (arith, more_same (λ (c : NodeCell). c.level) refl i, more_same (λ (c : NodeCell). c.level) refl k, H.falls i k (rw (more_same kids refl i) at p));
        narrow = narrow_set cs j y (inside cs j held) H.narrow (H.narrow j).0 (H.narrow j).1;
        short = omega (arith, H.short, length-set cs j y);
        chain = (chain_kept _ _ _ _ _ _ _ _ (length-set cs j y) H.chain (λ i z. (more_same (λ (c : NodeCell). c.next) refl i, zero_more i z)) more_zero).0;
      }

  pub more_held : NodeHeld j cs f s (set cs j (one_more (cell cs j))) f s
  more_held = record { is = refl; free = refl; spare = refl; nodes = more_nodes }

-- ---- a node in the first free cell

module _ (cs : List NodeCell) (f s : ℕ) (y : NodeCell) (some : 0 < s) (one : y.holders ≡ 1)
    (data_narrow : ones y.datamap ≤ 16) (node_narrow : ones y.nodemap ≤ 16)
    (below : (k : ℕ) → 0 < occ k (kids y) → (cell cs k).level < y.level) where
  made_nodes : (R : List ℕ) → Nodes cs f s (kids y ++ R) → Nodes (set cs f y) (cell cs f).next (s - 1) (f ∷ R)
  made_nodes R H =
      let was = head_free _ _ _ f s H.chain some in
      let holders : (i : ℕ) → (cell (set cs f y) i).holders ≡ (cell cs i).holders + hit i f = λ i.
      at_set cs f y was.0 (λ (c : NodeCell). c.holders ≡ (cell cs i).holders + hit i f) i
      (λ e. omega (arith, hit_same i f e, was.1, ap (λ (n : ℕ). (cell cs n).holders) e))
      (λ n. omega (arith, hit_other i f n)) in
      let no_kids : (k : ℕ) → occ k (kids (cell cs f)) ≡ 0 = λ k. ap (occ k) (H.childless f was.1) ∙ occ_nil k in
      let level : (k : ℕ) → 0 < occ k (kids y) + inner k cs → (cell (set cs f y) k).level ≡ (cell cs k).level = λ k p.
      let q : 0 < (cell cs k).holders = omega (arith, H.counted k, occ_append k (kids y) R) in
      ap (λ (c : NodeCell). c.level) (other_cell cs f y was.0 k (λ e. omega (arith, was.1, ap (λ (n : ℕ). (cell cs n).holders) e))) in
      record {
        counted = λ i. omega (arith, holders i, H.counted i, occ_append i (kids y) R, occ_cons i f R, inner_set cs f y was.0 i, no_kids i);
        childless = λ i. at_set cs f y was.0 (λ (c : NodeCell). c.holders ≡ 0 → kids c ≡ []) i (λ e z. absurd (omega arith)) (λ n. H.childless i);
        falls = λ i k. at_set cs f y was.0 (λ (c : NodeCell). 0 < occ k (kids c) → (cell (set cs f y) k).level < c.level) i
            (λ e p. omega (arith, below k p, level k (omega arith)))
            (λ n p. omega (arith, H.falls i k p, level k (omega (arith, inner_ge cs i k))));
        narrow = narrow_set cs f y was.0 H.narrow data_narrow node_narrow;
        short = omega (arith, H.short, length-set cs f y);
        chain = (chain_taken _ _ _ _ _ _ f s (length-set cs f y) H.chain some
            (omega (arith, ap (λ (c : NodeCell). c.holders) (new_cell cs f y was.0)))
            (λ i m. (ap (λ (c : NodeCell). c.next) (other_cell cs f y was.0 i m), ap (λ (c : NodeCell). c.holders) (other_cell cs f y was.0 i m)))).0;
      }

  pub made_node : (R : List ℕ) → Nodes cs f s (kids y ++ R) → NodeMade f y cs f s (set cs f y) (cell cs f).next (s - 1)
  made_node R H = record {
    inside = (head_free _ _ _ f s H.chain some).0;
    was_free = (head_free _ _ _ f s H.chain some).1;
    is = refl;
    less = omega arith;
    nodes = made_nodes;
  }

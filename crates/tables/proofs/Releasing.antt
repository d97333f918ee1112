-- References to nodes given up: one holder fewer, or the cell goes to the chain and its children are given up. Assumes nothing.
use Rattle.std.proofs.Common.{◌≡◌, ℕ, ◌+◌, ◌-◌, ◌<◌, ◌≤◌, List, [], ◌∷◌, ◌++◌, length, get_or, take, drop, set, sym, refl, ap, ◌∙◌, subst, append_assoc, arith, length-set}
use lib.Count.{ones}
use Rattle.std.proofs.lemmas.List.{take_more, take_all}
use Rattle.tables.specs.declared.cells.NodeCell.{NodeCell}
use Rattle.tables.specs.Chains.{occ}
use Rattle.tables.specs.Cells.{cell, kids}
use Rattle.tables.specs.Heaps.{Nodes, NodeLeft, NodesReleased}
use Rattle.tables.proofs.Occurrences.{hit, hit_same, hit_other, occ_nil, occ_cons, occ_append, occ_at, split_at}
use Rattle.tables.proofs.Chains.{chain_kept, chain_pushed}
use Rattle.tables.proofs.NodeCounts.{listed_none, inside, rooted, same_roots, at_set, new_cell, other_cell, part_kept, inner_set, narrow_set}

-- ---- what is left of the cells

left_same : (c : NodeCell) → NodeLeft c c
left_same c = record { fewer = omega arith; level = λ p. refl; datamap = λ p. refl; nodemap = λ p. refl; entries = λ p. refl; children = λ p. refl }

left_then : (a b c : NodeCell) → NodeLeft a b → NodeLeft b c → NodeLeft a c
left_then a b c l m = record {
  fewer = omega (arith, l.fewer, m.fewer);
  level = λ p. m.level p ∙ l.level (omega (arith, m.fewer));
  datamap = λ p. m.datamap p ∙ l.datamap (omega (arith, m.fewer));
  nodemap = λ p. m.nodemap p ∙ l.nodemap (omega (arith, m.fewer));
  entries = λ p. m.entries p ∙ l.entries (omega (arith, m.fewer));
  children = λ p. m.children p ∙ l.children (omega (arith, m.fewer));
}

left_set : (cs : List NodeCell) (j : ℕ) (y : NodeCell) → j < length cs → NodeLeft (cell cs j) y → (i : ℕ) → NodeLeft (cell cs i) (cell (set cs j y) i)
left_set cs j y h l i =
    at_set cs j y h (λ (c : NodeCell). NodeLeft (cell cs i) c) i
    (λ e. let P : ℕ → Type 0 = λ n. NodeLeft (cell cs n) y in subst P (sym e) l)
    (λ n. left_same (cell cs i))

-- ---- nothing, or more and more

pub released_none : (cs : List NodeCell) (f s : ℕ) → NodesReleased [] cs f s cs f s
released_none cs f s = record { long = refl; left = λ i. left_same (cell cs i); data_kept = λ i. (refl, refl); nodes = λ R h. (h, ([], refl)) }

pub released_then :
    (xs ys : List ℕ) (bs cs ds : List NodeCell) (f g h s t u : ℕ)
    → NodesReleased xs bs f s cs g t → NodesReleased ys cs g t ds h u → NodesReleased (xs ++ ys) bs f s ds h u
released_then xs ys bs cs ds f g h s t u p q = record {
  long = q.long ∙ p.long;
  left = λ i. left_then _ _ _ (p.left i) (q.left i);
  data_kept = λ i. ((q.data_kept i).0 ∙ (p.data_kept i).0, (q.data_kept i).1 ∙ (p.data_kept i).1);
  nodes = λ R H.
      let a = same_roots bs f s _ (xs ++ (ys ++ R)) (λ i. ap (occ i) (append_assoc xs ys R)) H in
      let b = p.nodes (ys ++ R) a.0 in
      let c = q.nodes R b.0 in (
        c.0,
        (
          c.1.0 ++ b.1.0,
          c.1.1 ∙ ap (λ (l : List ℕ). c.1.0 ++ l) (b.1.1 ∙ ap (λ (l : List ℕ). b.1.0 ++ l) a.1) ∙ sym (append_assoc c.1.0 b.1.0 H.chain.list),
        ),
      );
}

-- ---- one holder fewer, where there are more

abbrev pub one_fewer : NodeCell → NodeCell
one_fewer c = record { datamap = c.datamap; nodemap = c.nodemap; entries = c.entries; children = c.children; holders = c.holders - 1; next = c.next; level = c.level }

module _ (cs : List NodeCell) (j : ℕ) (y : NodeCell) (h : j < length cs) (fewer : y.holders + 1 ≡ (cell cs j).holders) where
  holders_set : (i : ℕ) → (cell (set cs j y) i).holders + hit i j ≡ (cell cs i).holders
  holders_set i =
      at_set cs j y h (λ (c : NodeCell). c.holders + hit i j ≡ (cell cs i).holders) i
      (λ e. omega (arith, hit_same i j e, ap (λ (n : ℕ). (cell cs n).holders) e))
      (λ n. omega (arith, hit_other i j n))

module _ (cs : List NodeCell) (f s j : ℕ) (more : 1 < (cell cs j).holders) where
  fewer_same : {X : Type 0} (g : NodeCell → X) → g (one_fewer (cell cs j)) ≡ g (cell cs j) → (i : ℕ) → g (cell (set cs j (one_fewer (cell cs j))) i) ≡ g (cell cs i)
  fewer_same = part_kept cs j (one_fewer (cell cs j)) (inside cs j (omega arith))

  fewer_holders : (i : ℕ) → (cell (set cs j (one_fewer (cell cs j))) i).holders + hit i j ≡ (cell cs i).holders
  fewer_holders = holders_set cs j (one_fewer (cell cs j)) (inside cs j (omega arith)) (omega arith)

  -- which cells nobody holds stays
  none_set : (i : ℕ) → (cell cs i).holders ≡ 0 → (cell (set cs j (one_fewer (cell cs j))) i).holders ≡ 0
  none_set i z = omega (arith, fewer_holders i)

  none_was : (i : ℕ) → (cell (set cs j (one_fewer (cell cs j))) i).holders ≡ 0 → (cell cs i).holders ≡ 0
  none_was i =
      at_set cs j (one_fewer (cell cs j)) (inside cs j (omega arith)) (λ (c : NodeCell). c.holders ≡ 0 → (cell cs i).holders ≡ 0) i
      (λ e z. absurd (omega arith)) (λ n z. z)

  pub fewer_released : NodesReleased (j ∷ []) cs f s (set cs j (one_fewer (cell cs j))) f s
  fewer_released =
      let y = one_fewer (cell cs j) in
      let in0 : j < length cs = inside cs j (omega arith) in
      record {
        long = length-set cs j y;
        left = left_set cs j y in0 (record { fewer = omega arith; level = λ p. refl; datamap = λ p. refl; nodemap = λ p. refl; entries = λ p. refl; children = λ p. refl });
        data_kept = λ i. (fewer_same (λ (c : NodeCell). c.datamap) refl i, fewer_same (λ (c : NodeCell). c.entries) refl i);
        nodes = λ R H.
            let C = chain_kept _ _ (λ i. (cell (set cs j y) i).next) (λ i. (cell (set cs j y) i).holders) _ _ _ _ (length-set cs j y) H.chain
            (λ i z. (fewer_same (λ (c : NodeCell). c.next) refl i, none_set i z)) none_was in (
              record {
                counted = λ i. omega (arith, fewer_holders i, H.counted i, occ_cons i j R, inner_set cs j y in0 i);
                childless = λ i z. fewer_same kids refl i ∙ H.childless i (none_was i z);
                falls = λ i k p.
                    omega (arith, fewer_same (λ (c : NodeCell). c.level) refl i, fewer_same (λ (c : NodeCell). c.level) refl k, H.falls i k (rw (fewer_same kids refl i) at p));
                narrow = narrow_set cs j y in0 H.narrow (H.narrow j).0 (H.narrow j).1;
                short = omega (arith, H.short, length-set cs j y);
                chain = C.0;
              },
              ([], C.1),
            );
      }

-- ---- the last holder goes

few_ones_of_none : (m : ℕ) → m ≡ 0 → ones m ≤ 16
unfolding ones
few_ones_of_none m e = omega (arith, ap ones e)

abbrev pub freed : NodeCell → ℕ → NodeCell
freed c f = record { datamap = c.datamap; nodemap = 0; entries = c.entries; children = c.children; holders = 0; next = f; level = c.level }

module _ (cs : List NodeCell) (f s j : ℕ) (held : 0 < (cell cs j).holders) (last : (cell cs j).holders ≤ 1) where
  freed_same : {X : Type 0} (g : NodeCell → X) → g (freed (cell cs j) f) ≡ g (cell cs j) → (i : ℕ) → g (cell (set cs j (freed (cell cs j) f)) i) ≡ g (cell cs i)
  freed_same = part_kept cs j (freed (cell cs j) f) (inside cs j held)

  no_kids : (k : ℕ) → occ k (kids (freed (cell cs j) f)) ≡ 0
  no_kids k = ap (occ k) (listed_none 0 (cell cs j).children refl) ∙ occ_nil k

  freed_kids : (i k : ℕ) → occ k (kids (cell (set cs j (freed (cell cs j) f)) i)) ≤ occ k (kids (cell cs i))
  freed_kids i k =
      at_set cs j (freed (cell cs j) f) (inside cs j held) (λ (c : NodeCell). occ k (kids c) ≤ occ k (kids (cell cs i))) i
      (λ e. omega (arith, no_kids k)) (λ n. omega arith)

  -- the cell is first in the chain, and its children are given up
  pub freed_nodes :
      (R : List ℕ) (H : Nodes cs f s (j ∷ R))
      → (h : Nodes (set cs j (freed (cell cs j) f)) j (s + 1) (kids (cell cs j) ++ R)) × (h.chain.list ≡ j ∷ H.chain.list)
  freed_nodes R H =
      let y = freed (cell cs j) f in
      let in0 : j < length cs = inside cs j held in
      let C = chain_pushed _ _ (λ i. (cell (set cs j y) i).next) (λ i. (cell (set cs j y) i).holders) _ _ _ _ (length-set cs j y) H.chain j in0 held
      (ap (λ (c : NodeCell). c.holders) (new_cell cs j y in0)) (ap (λ (c : NodeCell). c.next) (new_cell cs j y in0))
      (λ i m. (ap (λ (c : NodeCell). c.next) (other_cell cs j y in0 i m), ap (λ (c : NodeCell). c.holders) (other_cell cs j y in0 i m))) in (
        record {
          counted = λ i.
              omega (arith, holders_set cs j y in0 (omega arith) i, no_kids i, occ_append i (kids (cell cs j)) R, H.counted i, occ_cons i j R, inner_set cs j y in0 i);
          childless = λ i.
              at_set cs j y in0 (λ (c : NodeCell). c.holders ≡ 0 → kids c ≡ []) i (λ e z. listed_none 0 (cell cs j).children refl) (λ n. H.childless i);
          falls = λ i k p.
              let q : 0 < occ k (kids (cell cs i)) = omega (arith, freed_kids i k) in
              omega (arith, H.falls i k q, freed_same (λ (c : NodeCell). c.level) refl i, freed_same (λ (c : NodeCell). c.level) refl k);
          narrow = narrow_set cs j y in0 H.narrow (H.narrow j).0 (few_ones_of_none 0 refl);
          short = omega (arith, H.short, length-set cs j y);
          chain = C.0;
        },
        C.1,
      )

  freed_left : (i : ℕ) → NodeLeft (cell cs i) (cell (set cs j (freed (cell cs j) f)) i)
  freed_left =
      left_set cs j (freed (cell cs j) f) (inside cs j held)
      (record { fewer = omega arith; level = λ p. absurd (omega arith); datamap = λ p. absurd (omega arith); nodemap = λ p. absurd (omega arith); entries = λ p. absurd (omega arith); children = λ p. absurd (omega arith) })

  -- so many of the children are given up
  module _ (xs : List ℕ) (is : xs ≡ kids (cell cs j)) (ds : List NodeCell) (g t k : ℕ) (inv : NodesReleased (take k xs) (set cs j (freed (cell cs j) f)) j (s + 1) ds g t) where
    pub kid_nodes : (R : List ℕ) → Nodes cs f s (j ∷ R) → k < length xs → Nodes ds g t (get_or xs k 0 ∷ (drop (k + 1) xs ++ R))
    kid_nodes R H p =
        (inv.nodes _ (same_roots _ _ _ _ _ (λ i. ap (λ (l : List ℕ). occ i (l ++ R)) (sym is) ∙ ap (occ i) (split_at xs k R p)) (freed_nodes R H).0).0).0

    pub kid_level : (R : List ℕ) → Nodes cs f s (j ∷ R) → k < length xs → (cell ds (get_or xs k 0)).level < (cell cs j).level
    kid_level R H p =
        let i = get_or xs k 0 in
        let here : 0 < (cell ds i).holders = rooted ds g t i _ (kid_nodes R H p) in
        omega (arith, (inv.left i).level here, freed_same (λ (c : NodeCell). c.level) refl i, H.falls j i (subst (λ (l : List ℕ). 0 < occ i l) is (occ_at xs k p)))

    pub kid_released :
        (es : List NodeCell) (h u : ℕ) → k < length xs → NodesReleased (get_or xs k 0 ∷ []) ds g t es h u
        → NodesReleased (take (k + 1) xs) (set cs j (freed (cell cs j) f)) j (s + 1) es h u
    kid_released es h u p r = rw (take_more xs k 0 p) (released_then _ _ _ _ _ _ _ _ _ _ _ inv r)

    pub all_released : length xs ≤ k → NodesReleased (j ∷ []) cs f s ds g t
    all_released p = record {
      long = inv.long ∙ length-set cs j (freed (cell cs j) f);
      left = λ i. left_then _ _ _ (freed_left i) (inv.left i);
      data_kept = λ i.
          ((inv.data_kept i).0 ∙ freed_same (λ (c : NodeCell). c.datamap) refl i, (inv.data_kept i).1 ∙ freed_same (λ (c : NodeCell). c.entries) refl i);
      nodes = λ R H.
          let a = freed_nodes R H in
          let b = same_roots _ _ _ _ (take k xs ++ R) (λ i. ap (λ (l : List ℕ). occ i (l ++ R)) (sym is ∙ sym (take_all k xs p))) a.0 in
          let c = inv.nodes R b.0 in (
            c.0,
            (
              c.1.0 ++ (j ∷ []),
              c.1.1 ∙ ap (λ (l : List ℕ). c.1.0 ++ l) (b.1 ∙ a.1) ∙ sym (append_assoc c.1.0 (j ∷ []) H.chain.list),
            ),
          );
    }

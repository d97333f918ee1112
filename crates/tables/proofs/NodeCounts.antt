-- The holders of nodes: counted over the table, and where one cell is written. Assumes nothing.
use Rattle.std.proofs.Common.{◌≡◌, ℕ, suc, ◌+◌, ◌*◌, ◌<◌, ◌≤◌, List, [], ◌∷◌, map, length, get_or, set, sum_by, sym, refl, ap, ◌∙◌, inl, inr, arith}
use lib.Count.{ones}
use Rattle.std.specs.List.{range_with_len}
use Rattle.std.proofs.lemmas.List.{get_or-set_same, get_or-set_other, get_or_past}
use Rattle.std.proofs.lemmas.List.FromFn.{length-map-range_with_len, get_or-map-range_with_len}
use Rattle.std.proofs.lemmas.List.Sums.{sum_by-cons, sum_by-set, get_or-le-sum_by}
use Rattle.std.proofs.lemmas.Bool.{cases_lt}
use Rattle.tables.specs.declared.cells.NodeCell.{NodeCell}
use Rattle.tables.specs.Chains.{occ}
use Rattle.tables.specs.Cells.{blank, cell, listed, kids}
use Rattle.tables.specs.Heaps.{inner, Nodes}
use Rattle.tables.proofs.Occurrences.{occ_nil, occ_head, occ_le_length}
use Rattle.tables.proofs.Written as written

-- ---- what stands in the slots by rank

pub length_listed : (m : ℕ) (l : List ℕ) → length (listed m l) ≡ ones m
unfolding listed
length_listed m l = length-map-range_with_len (λ (k : ℕ). get_or l k 0) 0 (ones m)

pub listed_at : (m : ℕ) (l : List ℕ) (k : ℕ) → k < ones m → get_or (listed m l) k 0 ≡ get_or l k 0
unfolding listed
listed_at m l k p = get_or-map-range_with_len (λ (k : ℕ). get_or l k 0) 0 (ones m) k k 0 p (omega arith)

pub listed_none : (m : ℕ) (l : List ℕ) → m ≡ 0 → listed m l ≡ []
unfolding listed ones
listed_none m l e = ap (λ (x : ℕ). map (λ (k : ℕ). get_or l k 0) (range_with_len 0 (ones x))) e

-- ---- sums over the table

pub sum_none : (g : NodeCell → ℕ) (cs : List NodeCell) → ((k : ℕ) → k < length cs → g (cell cs k) ≡ 0) → sum_by g cs ≡ 0
sum_none g [] h = refl
sum_none g (x ∷ xs) h = omega (arith, sum_by-cons g x xs, h 0 (omega arith), sum_none g xs (λ k p. h (suc k) (omega arith)))

pub sum_le_16 : (g : NodeCell → ℕ) (cs : List NodeCell) → ((k : ℕ) → g (cell cs k) ≤ 16) → sum_by g cs ≤ 16 * length cs
sum_le_16 g [] h = omega arith
sum_le_16 g (x ∷ xs) h = omega (arith, sum_by-cons g x xs, h 0, sum_le_16 g xs (λ k. h (suc k)))

pub sum_same : (g : NodeCell → ℕ) (cs ds : List NodeCell) → length ds ≡ length cs → ((k : ℕ) → g (cell ds k) ≡ g (cell cs k)) → sum_by g ds ≡ sum_by g cs
sum_same g [] [] e h = refl
sum_same g (x ∷ xs) [] e h = absurd (omega (arith, e))
sum_same g [] (y ∷ ys) e h = absurd (omega (arith, e))
sum_same g (x ∷ xs) (y ∷ ys) e h =
    omega (arith, sum_by-cons g x xs, sum_by-cons g y ys, h 0, sum_same g xs ys (omega arith) (λ k. h (suc k)))

-- ---- a cell of the table

pub cell_past : (cs : List NodeCell) (i : ℕ) → length cs ≤ i → cell cs i ≡ blank
cell_past cs i h = get_or_past cs i blank h

-- a cell with a holder is in the table
pub inside : (cs : List NodeCell) (i : ℕ) → 0 < (cell cs i).holders → i < length cs
inside cs i h =
    elim (cases_lt i (length cs)) [ inl l ↦ l | inr l ↦ omega (arith, ap (λ (c : NodeCell). c.holders) (cell_past cs i l)) ]

-- what is referred to from outside is held
pub rooted : (cs : List NodeCell) (f s i : ℕ) (R : List ℕ) → Nodes cs f s (i ∷ R) → 0 < (cell cs i).holders
rooted cs f s i R H = omega (arith, H.counted i, occ_head i R)

-- a child of a node of the table is counted
pub inner_ge : (cs : List NodeCell) (i k : ℕ) → occ k (kids (cell cs i)) ≤ inner k cs
unfolding inner
inner_ge cs i k =
    elim (cases_lt i (length cs)) [
      | inl p ↦ get_or-le-sum_by (λ (c : NodeCell). occ k (kids c)) cs i blank p
      | inr p ↦ omega (arith, ap (λ (c : NodeCell). occ k (kids c)) (cell_past cs i p), ap (occ k) (listed_none 0 [] refl), occ_nil k)
    ]

-- a node has at most the references from outside and 16 for each cell as holders
pub holders_le : (cs : List NodeCell) (f s i : ℕ) (R : List ℕ) → Nodes cs f s R → (cell cs i).holders ≤ length R + 16 * length cs
unfolding inner
holders_le cs f s i R H =
    let few : (k : ℕ) → occ i (kids (cell cs k)) ≤ 16 = λ k.
    omega (arith, occ_le_length i (kids (cell cs k)), length_listed (cell cs k).nodemap (cell cs k).children, (H.narrow k).1) in
    omega (arith, H.counted i, occ_le_length i R, sum_le_16 (λ (c : NodeCell). occ i (kids c)) cs few)

-- the same references from outside, in another row
pub same_roots :
    (cs : List NodeCell) (f s : ℕ) (R S : List ℕ) → ((i : ℕ) → occ i R ≡ occ i S) → (h : Nodes cs f s R)
    → (h' : Nodes cs f s S) × (h'.chain.list ≡ h.chain.list)
same_roots cs f s R S same h = (
  record {
    counted = λ i. omega (arith, h.counted i, same i);
    childless = h.childless;
    falls = h.falls;
    narrow = h.narrow;
    short = h.short;
    chain = h.chain;
  },
  refl,
)

-- ---- one cell is written

module _ (cs : List NodeCell) (j : ℕ) (y : NodeCell) (h : j < length cs) where
  -- what holds of the new cell, and of each other
  pub at_set : (P : NodeCell → Type 0) (i : ℕ) → (i ≡ j → P y) → ((i ≡ j → ⊥) → P (cell cs i)) → P (cell (set cs j y) i)
  at_set = written.at_set blank cs j y h

  pub new_cell : cell (set cs j y) j ≡ y
  new_cell = get_or-set_same cs j y blank h

  pub other_cell : (i : ℕ) → (i ≡ j → ⊥) → cell (set cs j y) i ≡ cell cs i
  other_cell i n = get_or-set_other cs j i y blank n

  -- a part that the new cell has from the old one is as it was in each cell
  pub part_kept : {X : Type 0} (g : NodeCell → X) → g y ≡ g (cell cs j) → (i : ℕ) → g (cell (set cs j y) i) ≡ g (cell cs i)
  part_kept g e i = at_set (λ (c : NodeCell). g c ≡ g (cell cs i)) i (λ q. e ∙ sym (ap (λ (n : ℕ). g (cell cs n)) q)) (λ n. refl)

  pub inner_set : (i : ℕ) → inner i (set cs j y) + occ i (kids (cell cs j)) ≡ inner i cs + occ i (kids y)
  unfolding inner
  inner_set i = sum_by-set (λ (c : NodeCell). occ i (kids c)) cs j y blank h

  pub narrow_set :
      ((i : ℕ) → (ones (cell cs i).datamap ≤ 16) × (ones (cell cs i).nodemap ≤ 16)) → ones y.datamap ≤ 16 → ones y.nodemap ≤ 16
      → (i : ℕ) → (ones (cell (set cs j y) i).datamap ≤ 16) × (ones (cell (set cs j y) i).nodemap ≤ 16)
  narrow_set H d n i = at_set (λ (c : NodeCell). (ones c.datamap ≤ 16) × (ones c.nodemap ≤ 16)) i (λ e. (d, n)) (λ m. H i)

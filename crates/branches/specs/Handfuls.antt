-- What is in hand for a node, as the code keeps it. Assumes nothing.
use Rattle.std.specs.Prelude.{◌≡◌, ℕ, ◌+◌, ◌^◌, ◌<◌, ◌≤◌, Bool, true, false, cond, ◌||◌, List, [], ◌++◌, map, length, take, replicate, count_by, count_ones, nat_lt, slice_index, slice_set}
use Rattle.std.specs.Simd.Lanes.{mask_l}
use Rattle.tables.specs.declared.cells.NodeCell.{NodeCell}
use Rattle.tables.specs.declared.table.Table.{Table}
use Rattle.tables.specs.Chains.{occ}
use Rattle.tables.specs.Cells.{cell, listed}
use Rattle.tables.specs.Heaps.{Nodes, NodeMade}
use Rattle.branches.specs.declared.branch.Branch.{Branch}
use Rattle.branches.specs.declared.branch.Branch.TheVariants.{Nothing, Entry, Child}

abbrev pub nothing_in_hand : NodeCell
nothing_in_hand = record { datamap = 0; nodemap = 0; entries = replicate 16 0; children = replicate 16 0; holders = 0; next = 0; level = 0 }

abbrev pub is_entry : Branch → Bool
is_entry Nothing = false
is_entry (Entry e) = true
is_entry (Child i) = false

abbrev pub is_child : Branch → Bool
is_child Nothing = false
is_child (Entry e) = false
is_child (Child i) = true

-- with the branch of one digit more
abbrev pub with_branch : NodeCell → ℕ → Branch → NodeCell
with_branch h g Nothing = h
with_branch h g (Entry e) = record { datamap = h.datamap + 2 ^ g; nodemap = h.nodemap; entries = slice_set h.entries (count_ones h.datamap) e.0; children = h.children; holders = h.holders; next = h.next; level = h.level }
with_branch h g (Child i) = record { datamap = h.datamap; nodemap = h.nodemap + 2 ^ g; entries = h.entries; children = slice_set h.children (count_ones h.nodemap) i.0; holders = h.holders; next = h.next; level = h.level }

-- the entries xs and the children ks are in hand, at the digits where ds and ns are true
pub record Bundled (hand : NodeCell) (ds ns : List Bool) (xs ks : List ℕ) : Type 0 where
  pub slots : length hand.entries ≡ 16
  pub child_slots : length hand.children ≡ 16
  pub entries_are : take (count_ones hand.datamap) hand.entries ≡ xs
  pub children_are : take (count_ones hand.nodemap) hand.children ≡ ks
  pub singles_are : count_ones hand.datamap ≡ length xs
  pub kids_are : count_ones hand.nodemap ≡ length ks
  pub data_bits : hand.datamap ≡ mask_l ds
  pub node_bits : hand.nodemap ≡ mask_l ns
  pub data_count : count_by (λ b. b) ds ≡ length xs
  pub node_count : count_by (λ b. b) ns ≡ length ks
  pub as_many : length ns ≡ length ds

-- the entries ys are in hand, and no child
pub record Rowful (h : NodeCell) (ys : List ℕ) : Type 0 where
  pub bundled : Bundled h (map (λ y. true) ys) (map (λ y. false) ys) ys []
  pub few : length ys ≤ 16

abbrev pub entries_in : NodeCell → List ℕ
entries_in h = take (count_ones h.datamap) h.entries

-- ---- the node of what is in hand

-- whether what is in hand, with so many levels below, is a node: at the root from one setting on, elsewhere from two
abbrev pub makes_node : NodeCell → ℕ → Bool
makes_node h level = nat_lt 0 (count_ones h.nodemap) || nat_lt (cond (nat_lt level 8) 1 0) (count_ones h.datamap)

abbrev pub node_cell : NodeCell → ℕ → NodeCell
node_cell h level = record { datamap = h.datamap; nodemap = h.nodemap; entries = h.entries; children = h.children; holders = 1; next = 0; level = level }

-- there is a free cell for a node, and its children are held and lower
pub record Assembling (h : NodeCell) (level : ℕ) (cs : List NodeCell) (f s : ℕ) : Type 0 where
  pub room : makes_node h level ≡ true → 0 < s
  pub heap : (R : List ℕ) × Nodes cs f s (listed h.nodemap h.children ++ R)
  pub below : (k : ℕ) → 0 < occ k (listed h.nodemap h.children) → (cell cs k).level < level

-- nothing, the one entry, or a new node
abbrev pub Assembled : NodeCell → ℕ → Branch → List NodeCell → ℕ → ℕ → List NodeCell → ℕ → ℕ → Type 0
Assembled h level Nothing cs f s ds g t = (count_ones h.nodemap ≡ 0) × ((count_ones h.datamap ≡ 0) × ((ds ≡ cs) × ((g ≡ f) × (t ≡ s))))
Assembled h level (Entry e) cs f s ds g t = (level < 8) × ((count_ones h.nodemap ≡ 0) × ((count_ones h.datamap ≡ 1) × ((e.0 ≡ slice_index h.entries 0) × ((ds ≡ cs) × ((g ≡ f) × (t ≡ s))))))
Assembled h level (Child i) cs f s ds g t = (makes_node h level ≡ true) × NodeMade i.0 (node_cell h level) cs f s ds g t

-- the same of the code's node table, as it was and as it is now
abbrev pub MayAssemble : NodeCell → ℕ → Table NodeCell → Type 0
MayAssemble h level t = Assembling h level t.cells.now t.free t.spare

abbrev pub IsAssembled : NodeCell → ℕ → Branch → Table NodeCell → Table NodeCell → Type 0
IsAssembled h level b t u = Assembled h level b t.cells.now t.free t.spare u.cells.now u.free u.spare

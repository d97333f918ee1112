-- Who holds which cell, and how often. Assumes nothing.
use Rattle.std.specs.Prelude.{◌≡◌, ℕ, ◌+◌, ◌<◌, ◌≤◌, true, List, [], ◌∷◌, ◌++◌, length, is_some, None, sum_by, count_ones, slice_set}
use Rattle.model.specs.declared.limits.TheConstants.{MOST_CELLS}
use Rattle.tables.specs.declared.cells.NodeCell.{NodeCell}
use Rattle.tables.specs.declared.cells.EntryCell.{EntryCell}
use Rattle.tables.specs.Chains.{occ, Chain}
use Rattle.tables.specs.Cells.{cell, entry_cell, kids, singles}

-- ---- nodes

-- how often the node i is a child of a node
unfoldable pub inner : ℕ → List NodeCell → ℕ
inner i cs = sum_by (λ c. occ i (kids c)) cs

-- a node table: roots has each reference to a node from outside of it
pub record Nodes (cs : List NodeCell) (head spare : ℕ) (roots : List ℕ) : Type 0 where
  -- a node's holders are the references to it, from outside and from nodes
  pub counted : (i : ℕ) → (cell cs i).holders ≡ occ i roots + inner i cs
  -- a free cell has no child
  pub childless : (i : ℕ) → (cell cs i).holders ≡ 0 → kids (cell cs i) ≡ []
  -- a child has fewer levels below it
  pub falls : (i k : ℕ) → 0 < occ k (kids (cell cs i)) → (cell cs k).level < (cell cs i).level
  -- no map has more than 16 bits
  pub narrow : (i : ℕ) → (count_ones (cell cs i).datamap ≤ 16) × (count_ones (cell cs i).nodemap ≤ 16)
  pub short : length cs ≤ MOST_CELLS
  pub chain : Chain (λ i. (cell cs i).next) (λ i. (cell cs i).holders) (length cs) head spare

-- ---- entries

-- how often the entry e stands in a node
unfoldable pub inner_entries : ℕ → List NodeCell → ℕ
inner_entries e cs = sum_by (λ c. occ e (singles c)) cs

-- an entry table beside the nodes: roots has each reference to an entry from outside of both tables
pub record Entries {K V : Type 0} (cs : List NodeCell) (es : List (EntryCell K V)) (head spare : ℕ) (roots : List ℕ) : Type 0 where
  pub counted : (e : ℕ) → (entry_cell es e).holders ≡ occ e roots + inner_entries e cs
  -- an entry that is held has a key and a value
  pub filled : (e : ℕ) → 0 < (entry_cell es e).holders → is_some (entry_cell es e).held ≡ true
  -- a free cell has nothing
  pub emptied : (e : ℕ) → (entry_cell es e).holders ≡ 0 → (entry_cell es e).held ≡ None
  pub short : length es ≤ MOST_CELLS
  pub chain : Chain (λ e. (entry_cell es e).next) (λ e. (entry_cell es e).holders) (length es) head spare

-- ---- both

-- a free node cell has no entry
abbrev pub Entryless : List NodeCell → Type 0
Entryless cs = (i : ℕ) → (cell cs i).holders ≡ 0 → singles (cell cs i) ≡ []

-- ---- what is left of the cells

-- a node that goes on being held has the content that it had, and no more holders
pub record NodeLeft (c d : NodeCell) : Type 0 where
  pub fewer : d.holders ≤ c.holders
  pub level : 0 < d.holders → d.level ≡ c.level
  pub datamap : 0 < d.holders → d.datamap ≡ c.datamap
  pub nodemap : 0 < d.holders → d.nodemap ≡ c.nodemap
  pub entries : 0 < d.holders → d.entries ≡ c.entries
  pub children : 0 < d.holders → d.children ≡ c.children

pub record EntryLeft {K V : Type 0} (c d : EntryCell K V) : Type 0 where
  pub fewer : d.holders ≤ c.holders
  pub held : 0 < d.holders → d.held ≡ c.held

-- ---- one node more is held, made or given up

abbrev pub one_more : NodeCell → NodeCell
one_more c = record { datamap = c.datamap; nodemap = c.nodemap; entries = c.entries; children = c.children; holders = c.holders + 1; next = c.next; level = c.level }

-- the node i has one holder more, from outside
pub record NodeHeld (i : ℕ) (cs : List NodeCell) (f s : ℕ) (ds : List NodeCell) (g t : ℕ) : Type 0 where
  pub is : ds ≡ slice_set cs i (one_more (cell cs i))
  pub free : g ≡ f
  pub spare : t ≡ s
  pub nodes : (R : List ℕ) → Nodes cs f s R → Nodes ds g t (i ∷ R)

-- the cell r was free, and is now a new node with one holder, which takes over one holder of each of its children
pub record NodeMade (r : ℕ) (new : NodeCell) (cs : List NodeCell) (f s : ℕ) (ds : List NodeCell) (g t : ℕ) : Type 0 where
  pub inside : r < length cs
  pub was_free : (cell cs r).holders ≡ 0
  pub is : ds ≡ slice_set cs r new
  pub less : t + 1 ≡ s
  pub nodes : (R : List ℕ) → Nodes cs f s (kids new ++ R) → Nodes ds g t (r ∷ R)

-- the references xs to nodes are given up; the cells that nobody holds any more come first in the chain, and keep their data map and entries
pub record NodesReleased (xs : List ℕ) (cs : List NodeCell) (f s : ℕ) (ds : List NodeCell) (g t : ℕ) : Type 0 where
  pub long : length ds ≡ length cs
  pub left : (i : ℕ) → NodeLeft (cell cs i) (cell ds i)
  pub data_kept : (i : ℕ) → ((cell ds i).datamap ≡ (cell cs i).datamap) × ((cell ds i).entries ≡ (cell cs i).entries)
  pub nodes : (R : List ℕ) (h : Nodes cs f s (xs ++ R)) → (h' : Nodes ds g t R) × ((new : List ℕ) × (h'.chain.list ≡ new ++ h.chain.list))

-- ---- one entry more is held, made or given up

-- the entry e has one holder more, from outside
pub record EntryHeld {K V : Type 0} (e : ℕ) (es : List (EntryCell K V)) (f s : ℕ) (fs : List (EntryCell K V)) (g t : ℕ) : Type 0 where
  pub is : fs ≡ slice_set es e (record { held = (entry_cell es e).held; holders = (entry_cell es e).holders + 1; next = (entry_cell es e).next })
  pub free : g ≡ f
  pub spare : t ≡ s
  pub entries : (cs : List NodeCell) (R : List ℕ) → Entries cs es f s R → Entries cs fs g t (e ∷ R)

-- the cell r was free, and is now a new entry with one holder
pub record EntryMade {K V : Type 0} (r : ℕ) (new : EntryCell K V) (es : List (EntryCell K V)) (f s : ℕ) (fs : List (EntryCell K V)) (g t : ℕ) : Type 0 where
  pub inside : r < length es
  pub was_free : (entry_cell es r).holders ≡ 0
  pub is : fs ≡ slice_set es r new
  pub less : t + 1 ≡ s
  pub entries : (cs : List NodeCell) (R : List ℕ) → Entries cs es f s R → Entries cs fs g t (r ∷ R)

-- one reference to the entry e is given up
pub record EntryReleased {K V : Type 0} (e : ℕ) (es : List (EntryCell K V)) (f s : ℕ) (fs : List (EntryCell K V)) (g t : ℕ) : Type 0 where
  pub long : length fs ≡ length es
  pub left : (i : ℕ) → EntryLeft (entry_cell es i) (entry_cell fs i)
  pub entries : (cs : List NodeCell) (R : List ℕ) → Entries cs es f s (e ∷ R) → Entries cs fs g t R

-- ---- a version is given up, nodes and entries, down to the deepest level

pub record Released {K V : Type 0} (r : ℕ) (cs : List NodeCell) (f s : ℕ) (es : List (EntryCell K V)) (ef es_spare : ℕ)
    (ds : List NodeCell) (g t : ℕ) (fs : List (EntryCell K V)) (eg et : ℕ) : Type 0 where
  pub nodes_long : length ds ≡ length cs
  pub entries_long : length fs ≡ length es
  pub nodes_left : (i : ℕ) → NodeLeft (cell cs i) (cell ds i)
  pub entries_left : (e : ℕ) → EntryLeft (entry_cell es e) (entry_cell fs e)
  pub tables : (R E : List ℕ) → Nodes cs f s (r ∷ R) → Entries cs es ef es_spare E → Entryless cs → Nodes ds g t R × (Entries ds fs eg et E × Entryless ds)

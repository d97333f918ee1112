-- What the cells mean, as they are held once more or given up. Assumes nothing.
use Rattle.std.proofs.Common.{◌≡◌, ℕ, ◌+◌, ◌<◌, List, ◌∷◌, ◌++◌, map, length, set, sym, refl, ap, ◌∙◌, ap₂, arith}
use Rattle.std.specs.List.{flat_map}
use Rattle.kinds.specs.Kinds.{KeyKind}
use Rattle.model.specs.Sharing.{Part}
use Rattle.tables.specs.declared.cells.NodeCell.{NodeCell}
use Rattle.tables.specs.declared.cells.EntryCell.{EntryCell}
use Rattle.tables.specs.Chains.{occ}
use Rattle.tables.specs.Cells.{blank, cell, blank_entry, entry_cell, listed, singles}
use Rattle.tables.specs.Heaps.{Nodes, Entries, Entryless, NodeLeft, EntryLeft, one_more, Released}
use Rattle.tables.specs.Notes.{Note, EntryNote, seat, branches, Fits, EntryFits, Means, Stands}
use Rattle.tables.proofs.NodeCounts.{inside}
use Rattle.tables.proofs.EntryCounts.{inside_entries}
use Rattle.tables.proofs.Written.{at_each}

-- ---- what is held was held, and has what it had

pub record NodeKept (c d : NodeCell) : Type 0 where
  pub held : 0 < d.holders → 0 < c.holders
  pub level : 0 < d.holders → d.level ≡ c.level
  pub datamap : 0 < d.holders → d.datamap ≡ c.datamap
  pub nodemap : 0 < d.holders → d.nodemap ≡ c.nodemap
  pub entries : 0 < d.holders → d.entries ≡ c.entries
  pub children : 0 < d.holders → d.children ≡ c.children

pub record EntryKept {X Y : Type 0} (c d : EntryCell X Y) : Type 0 where
  pub was : 0 < d.holders → 0 < c.holders
  pub held : 0 < d.holders → d.held ≡ c.held

pub left_kept : (c d : NodeCell) → NodeLeft c d → NodeKept c d
left_kept c d l = record { held = λ p. omega (arith, l.fewer); level = l.level; datamap = l.datamap; nodemap = l.nodemap; entries = l.entries; children = l.children }

pub entry_left_kept : {X Y : Type 0} (c d : EntryCell X Y) → EntryLeft c d → EntryKept c d
entry_left_kept c d l = record { was = λ p. omega (arith, l.fewer); held = l.held }

pub same_kept : (c : NodeCell) → NodeKept c c
same_kept c = record { held = λ p. p; level = λ p. refl; datamap = λ p. refl; nodemap = λ p. refl; entries = λ p. refl; children = λ p. refl }

pub entry_same_kept : {X Y : Type 0} (c : EntryCell X Y) → EntryKept c c
entry_same_kept c = record { was = λ p. p; held = λ p. refl }

-- ---- a cell's note goes by its content

pub fits_kept : (K : KeyKind) (note : ℕ → Note) (entry_note : ℕ → EntryNote) (c d : NodeCell) (a : Note) → NodeKept c d → 0 < d.holders → Fits K note entry_note c a → Fits K note entry_note d a
fits_kept K note entry_note c d a k h F =
    let same : singles d ≡ singles c = ap₂ listed (k.datamap h) (k.entries h) in
    record {
      children = ap₂ listed (k.nodemap h) (k.children h) ∙ F.children;
      seats = F.seats;
      owns = ap (map (λ e. (entry_note e).setting)) same ∙ F.owns;
      nodes_are = F.nodes_are;
      entries_are = F.entries_are ∙ ap (λ (l : List ℕ). map (λ e. (entry_note e).label) l ++ flat_map (λ g. (note (a.child g)).entries) (branches K (seat a))) (sym same);
      level_is = ap (λ (n : ℕ). n + length a.label.what) (k.level h) ∙ F.level_is;
      data_bits = λ p. k.datamap h ∙ F.data_bits p;
      node_bits = λ p. k.nodemap h ∙ F.node_bits p;
    }

module _ {X Y : Type 0} (K : KeyKind) (kb : X → List ℕ) (vb : Y → List ℕ) where
  pub entry_fits_kept : (c d : EntryCell X Y) (a : EntryNote) → EntryKept c d → 0 < d.holders → EntryFits kb vb c a → EntryFits kb vb d a
  entry_fits_kept c d a k h F = record { key = F.key; value = F.value; holds = k.held h ∙ F.holds; setting_is = F.setting_is; label_is = F.label_is }

  -- so it does of all the cells
  pub means_kept :
      (cs ds : List NodeCell) (es fs : List (EntryCell X Y)) (note : ℕ → Note) (entry_note : ℕ → EntryNote)
      → ((i : ℕ) → NodeKept (cell cs i) (cell ds i)) → ((e : ℕ) → EntryKept (entry_cell es e) (entry_cell fs e))
      → Means K kb vb cs es note entry_note → Means K kb vb ds fs note entry_note
  means_kept cs ds es fs note entry_note k l M = record {
    fits = λ i h. fits_kept K note entry_note (cell cs i) (cell ds i) (note i) (k i) h (M.fits i ((k i).held h));
    once = λ i j p q e. M.once i j ((k i).held p) ((k j).held q) e;
    entry_fits = λ e h. entry_fits_kept (entry_cell es e) (entry_cell fs e) (entry_note e) (l e) h (M.entry_fits e ((l e).was h));
    entry_once = λ e d p q x. M.entry_once e d ((l e).was p) ((l d).was q) x;
  }

  -- cells given up
  pub frame :
      (cs ds : List NodeCell) (es fs : List (EntryCell X Y)) (note : ℕ → Note) (entry_note : ℕ → EntryNote)
      → ((i : ℕ) → NodeLeft (cell cs i) (cell ds i)) → ((e : ℕ) → EntryLeft (entry_cell es e) (entry_cell fs e))
      → Means K kb vb cs es note entry_note → Means K kb vb ds fs note entry_note
  frame cs ds es fs note entry_note k l =
      means_kept cs ds es fs note entry_note (λ i. left_kept (cell cs i) (cell ds i) (k i)) (λ e. entry_left_kept (entry_cell es e) (entry_cell fs e) (l e))

-- a node that is still held stands as it did
pub stands_kept : (cs ds : List NodeCell) (note : ℕ → Note) (i : ℕ) (p : List ℕ) (a : Part) → 0 < (cell ds i).holders → Stands cs note i p a → Stands ds note i p a
stands_kept cs ds note i p a h S = record { held = h; prefix = S.prefix; settings = S.settings; nodes = S.nodes; entries = S.entries }

-- ---- one holder more

pub more_kept : (cs ds : List NodeCell) (j : ℕ) → 0 < (cell cs j).holders → ds ≡ set cs j (one_more (cell cs j)) → (i : ℕ) → NodeKept (cell cs i) (cell ds i)
more_kept cs ds j h is i =
    let P : ℕ → NodeCell → Type 0 = λ k c. NodeKept (cell cs k) c in
    rw is (at_each blank cs j (one_more (cell cs j)) (inside cs j h) P
    (record { held = λ p. h; level = λ p. refl; datamap = λ p. refl; nodemap = λ p. refl; entries = λ p. refl; children = λ p. refl })
    (λ k n. same_kept (cell cs k)) i)

pub entry_more_kept :
    {X Y : Type 0} (es fs : List (EntryCell X Y)) (j : ℕ) → 0 < (entry_cell es j).holders
    → fs ≡ set es j (record { held = (entry_cell es j).held; holders = (entry_cell es j).holders + 1; next = (entry_cell es j).next })
    → (e : ℕ) → EntryKept (entry_cell es e) (entry_cell fs e)
entry_more_kept {X} {Y} es fs j h is e =
    let P : ℕ → EntryCell X Y → Type 0 = λ k c. EntryKept (entry_cell es k) c in
    rw is (at_each blank_entry es j (record { held = (entry_cell es j).held; holders = (entry_cell es j).holders + 1; next = (entry_cell es j).next }) (inside_entries es j h) P
    (record { was = λ p. h; held = λ p. refl })
    (λ k n. entry_same_kept (entry_cell es k)) e)

module _ {X Y : Type 0} (K : KeyKind) (kb : X → List ℕ) (vb : Y → List ℕ) where
  -- one node
  pub frame_more :
      (cs ds : List NodeCell) (es : List (EntryCell X Y)) (note : ℕ → Note) (entry_note : ℕ → EntryNote) (j : ℕ)
      → 0 < (cell cs j).holders → ds ≡ set cs j (one_more (cell cs j))
      → Means K kb vb cs es note entry_note → Means K kb vb ds es note entry_note
  frame_more cs ds es note entry_note j h is = means_kept K kb vb cs ds es es note entry_note (more_kept cs ds j h is) (λ e. entry_same_kept (entry_cell es e))

  -- one entry
  pub frame_entry_more :
      (cs : List NodeCell) (es fs : List (EntryCell X Y)) (note : ℕ → Note) (entry_note : ℕ → EntryNote) (j : ℕ)
      → 0 < (entry_cell es j).holders → fs ≡ set es j (record { held = (entry_cell es j).held; holders = (entry_cell es j).holders + 1; next = (entry_cell es j).next })
      → Means K kb vb cs es note entry_note → Means K kb vb cs fs note entry_note
  frame_entry_more cs es fs note entry_note j h is = means_kept K kb vb cs cs es fs note entry_note (λ i. same_kept (cell cs i)) (entry_more_kept es fs j h is)

-- and each node stands as it did
pub stands_more :
    (cs ds : List NodeCell) (note : ℕ → Note) (j : ℕ) → 0 < (cell cs j).holders → ds ≡ set cs j (one_more (cell cs j))
    → (i : ℕ) (p : List ℕ) (a : Part) → Stands cs note i p a → Stands ds note i p a
stands_more cs ds note j h is i p a S =
    let P : ℕ → NodeCell → Type 0 = λ k c. 0 < (cell cs k).holders → 0 < c.holders in
    let held : 0 < (cell ds i).holders = rw is (at_each blank cs j (one_more (cell cs j)) (inside cs j h) P (λ q. omega arith) (λ k n q. q) i S.held) in
    stands_kept cs ds note i p a held S

-- ---- a version is given up

module _ {X Y : Type 0} (K : KeyKind) (kb : X → List ℕ) (vb : Y → List ℕ) (r : ℕ) (cs : List NodeCell) (f s : ℕ) (es : List (EntryCell X Y)) (ef es_spare : ℕ)
    (ds : List NodeCell) (g t : ℕ) (fs : List (EntryCell X Y)) (eg et : ℕ) (note : ℕ → Note) (entry_note : ℕ → EntryNote)
    (gone : Released r cs f s es ef es_spare ds g t fs eg et) where
  pub released_means : Means K kb vb cs es note entry_note → Means K kb vb ds fs note entry_note
  released_means = frame K kb vb cs ds es fs note entry_note gone.nodes_left gone.entries_left

  -- the nodes that are still owned stand as they did
  pub released_stands :
      (R E : List ℕ) → Nodes cs f s (r ∷ R) → Entries cs es ef es_spare E → Entryless cs
      → (i : ℕ) (p : List ℕ) (a : Part) → 0 < occ i R → Stands cs note i p a → Stands ds note i p a
  released_stands R E H G L i p a o = stands_kept cs ds note i p a (omega (arith, (gone.tables R E H G L).0.counted i))

-- The entry table beside the nodes, while a node is held or made. Assumes nothing.
use Rattle.std.proofs.Common.{◌≡◌, ℕ, ◌+◌, ◌<◌, List, [], ◌++◌, length, set, sym, refl, ap, subst, arith}
use Rattle.std.proofs.lemmas.List.Sums.{sum_by-set}
use Rattle.tables.specs.declared.cells.NodeCell.{NodeCell}
use Rattle.tables.specs.declared.cells.EntryCell.{EntryCell}
use Rattle.tables.specs.Chains.{occ}
use Rattle.tables.specs.Cells.{blank, cell, singles}
use Rattle.tables.specs.Heaps.{Entries, Entryless, inner_entries, one_more}
use Rattle.tables.proofs.Occurrences.{occ_nil, occ_append}
use Rattle.tables.proofs.NodeCounts.{inside, at_set}

module _ (cs : List NodeCell) (j : ℕ) (y : NodeCell) (h : j < length cs) where
  -- one cell is written: the references to an entry
  inner_entries_set : (e : ℕ) → inner_entries e (set cs j y) + occ e (singles (cell cs j)) ≡ inner_entries e cs + occ e (singles y)
  unfolding inner_entries
  inner_entries_set e = sum_by-set (λ (c : NodeCell). occ e (singles c)) cs j y blank h

  -- so many references go from outside into the cell
  pub entries_moved : {K V : Type 0} (es : List (EntryCell K V)) (f s : ℕ) (E F : List ℕ) → ((e : ℕ) → occ e E + occ e (singles (cell cs j)) ≡ occ e F + occ e (singles y)) → Entries cs es f s E → Entries (set cs j y) es f s F
  entries_moved es f s E F moved H = record {
    counted = λ e. omega (arith, H.counted e, inner_entries_set e, moved e);
    filled = H.filled;
    emptied = H.emptied;
    short = H.short;
    chain = H.chain;
  }

  pub entryless_set : (y.holders ≡ 0 → singles y ≡ []) → Entryless cs → Entryless (set cs j y)
  entryless_set here none i = at_set cs j y h (λ (c : NodeCell). c.holders ≡ 0 → singles c ≡ []) i (λ e. here) (λ n. none i)

-- a node is held once more
module _ (cs ds : List NodeCell) (j : ℕ) (held : 0 < (cell cs j).holders) (is : ds ≡ set cs j (one_more (cell cs j))) where
  pub held_entries : {K V : Type 0} (es : List (EntryCell K V)) (f s : ℕ) (E : List ℕ) → Entries cs es f s E → Entries ds es f s E
  held_entries es f s E H = subst (λ l. Entries l es f s E) (sym is) (entries_moved cs j _ (inside cs j held) es f s E E (λ e. refl) H)

  pub held_entryless : Entryless cs → Entryless ds
  held_entryless none = subst Entryless (sym is) (entryless_set cs j _ (inside cs j held) (λ z. absurd (omega (arith, z))) none)

-- a node is made: it takes over one holder of each of its entries
module _ (cs ds : List NodeCell) (r : ℕ) (new : NodeCell) (within : r < length cs) (free : (cell cs r).holders ≡ 0) (is : ds ≡ set cs r new) (none : Entryless cs) where
  pub made_entries : {K V : Type 0} (es : List (EntryCell K V)) (f s : ℕ) (E : List ℕ) → Entries cs es f s (singles new ++ E) → Entries ds es f s E
  made_entries es f s E H =
      subst (λ l. Entries l es f s E) (sym is)
      (entries_moved cs r new within es f s (singles new ++ E) E (λ e. omega (arith, occ_append e (singles new) E, ap (occ e) (none r free), occ_nil e)) H)

  pub made_entryless : 0 < new.holders → Entryless ds
  made_entryless h = subst Entryless (sym is) (entryless_set cs r new within (λ z. absurd (omega (arith, h, z))) none)

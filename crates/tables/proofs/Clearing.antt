-- Freed nodes give up their entries, one after another along the chain. Assumes nothing.
use Rattle.std.proofs.Common.{◌≡◌, ℕ, zero, suc, ◌+◌, ◌-◌, ◌<◌, ◌≤◌, ◌⊎◌, List, [], ◌∷◌, ◌++◌, length, get_or, take, drop, set, sym, refl, ap, ◌∙◌, subst, ap₂, inl, inr, arith, length-append, length-set}
use lib.Count.{ones}
use Rattle.std.proofs.lemmas.List.{append_assoc, append-nil, take_more, take_all}
use Rattle.std.proofs.lemmas.List.Sums.{sum_by-set}
use Rattle.std.proofs.lemmas.Bool.{cases_lt}
use Rattle.tables.specs.declared.cells.NodeCell.{NodeCell}
use Rattle.tables.specs.declared.cells.EntryCell.{EntryCell}
use Rattle.tables.specs.Chains.{occ, Linked}
use Rattle.tables.specs.Cells.{blank, cell, entry_cell, listed, kids, singles}
use Rattle.tables.specs.Heaps.{Nodes, Entries, Entryless, inner, inner_entries, NodeLeft, EntryLeft, NodesReleased, EntryReleased, Released}
use Rattle.tables.specs.Walks.{walk, after, cleared, EntriesReleased, Cleared}
use Rattle.tables.proofs.Occurrences.{hit_same, hit_other, occ_nil, occ_cons, occ_append, split_at}
use Rattle.tables.proofs.Chains.{chain_kept}
use Rattle.tables.proofs.NodeCounts.{sum_same, cell_past, at_set}
use Rattle.tables.proofs.Walking.{walk_more, after_more, walk_linked, walk_within, after_walked}

-- ---- one cell is cleared

no_singles : (c : NodeCell) → singles (cleared c) ≡ []
unfolding listed ones
no_singles c = refl

module _ (cs : List NodeCell) (at : ℕ) (inside : at < length cs) where
  abbrev cs0 : List NodeCell
  cs0 = set cs at (cleared (cell cs at))

  counts : (e : ℕ) → inner_entries e cs0 + occ e (singles (cell cs at)) ≡ inner_entries e cs
  unfolding inner_entries
  counts e =
      sum_by-set (λ (c : NodeCell). occ e (singles c)) cs at (cleared (cell cs at)) blank inside
      ∙ ap (λ n. inner_entries e cs + n) (ap (occ e) (no_singles (cell cs at)) ∙ occ_nil e) ∙ omega arith

  -- the references of a cell to its entries, seen from outside
  pub entries_view : {K V : Type 0} (es : List (EntryCell K V)) (f s : ℕ) (E : List ℕ) → Entries cs es f s E → Entries cs0 es f s (singles (cell cs at) ++ E)
  entries_view es f s E h = record {
    counted = λ e. h.counted e ∙ omega (arith, occ_append e (singles (cell cs at)) E, counts e);
    filled = h.filled;
    emptied = h.emptied;
    short = h.short;
    chain = h.chain;
  }

  pub cleared_one : {K V : Type 0} (es : List (EntryCell K V)) (f s : ℕ) (fs : List (EntryCell K V)) (g t : ℕ) → EntriesReleased (singles (cell cs at)) es f s fs g t → Cleared (at ∷ []) cs es f s cs0 fs g t
  cleared_one es f s fs g t r = record {
    nodes_long = length-set cs at (cleared (cell cs at));
    entries_long = r.long;
    here = λ i h.
        at_set cs at (cleared (cell cs at)) inside (λ (c : NodeCell). c ≡ cleared (cell cs i)) i
        (λ e. ap (λ (n : ℕ). cleared (cell cs n)) (sym e))
        (λ n. absurd (omega (arith, occ_cons i at [], occ_nil i, hit_other i at n)));
    other = λ i h.
        at_set cs at (cleared (cell cs at)) inside (λ (c : NodeCell). c ≡ cell cs i) i
        (λ e. absurd (omega (arith, occ_cons i at [], occ_nil i, hit_same i at e)))
        (λ n. refl);
    left = r.left;
    entries = λ E h. r.entries cs0 E (entries_view es f s E h);
  }

-- ---- entries that are given up one after another

pub left_self : {K V : Type 0} (c : EntryCell K V) → EntryLeft c c
left_self c = record { fewer = omega arith; held = λ h. refl }

left_on : {K V : Type 0} (b c d : EntryCell K V) → EntryLeft b c → EntryLeft c d → EntryLeft b d
left_on b c d p q = record { fewer = omega (arith, p.fewer, q.fewer); held = λ h. q.held h ∙ p.held (omega (arith, h, q.fewer)) }

module _ {K V : Type 0} where
  pub none_released : (es : List (EntryCell K V)) (f s : ℕ) → EntriesReleased [] es f s es f s
  none_released es f s = record { long = refl; left = λ e. left_self (entry_cell es e); entries = λ cs R h. h }

  pub one_more_released : (xs : List ℕ) (x : ℕ) (es : List (EntryCell K V)) (f s : ℕ) (fs : List (EntryCell K V)) (g t : ℕ) (gs : List (EntryCell K V)) (h u : ℕ) →
      EntriesReleased xs es f s fs g t → EntriesReleased (x ∷ []) fs g t gs h u → EntriesReleased (xs ++ (x ∷ [])) es f s gs h u
  one_more_released xs x es f s fs g t gs h u p q = record {
    long = q.long ∙ p.long;
    left = λ e. left_on _ _ _ (p.left e) (q.left e);
    entries = λ cs R k. q.entries cs R (p.entries cs ((x ∷ []) ++ R) (subst (λ l. Entries cs es f s l) (append_assoc xs (x ∷ []) R) k));
  }

  -- ---- cells that are cleared one after another

  pub none_cleared : (cs : List NodeCell) (es : List (EntryCell K V)) (f s : ℕ) → Cleared [] cs es f s cs es f s
  none_cleared cs es f s = record {
    nodes_long = refl;
    entries_long = refl;
    here = λ i h. absurd (omega (arith, h, occ_nil i));
    other = λ i h. refl;
    left = λ e. left_self (entry_cell es e);
    entries = λ E h. h;
  }

  pub one_more_cleared : (xs : List ℕ) (x : ℕ) (cs : List NodeCell) (es : List (EntryCell K V)) (f s : ℕ) (ds : List NodeCell) (fs : List (EntryCell K V)) (g t : ℕ) (bs : List NodeCell) (gs : List (EntryCell K V)) (h u : ℕ) →
      Cleared xs cs es f s ds fs g t → Cleared (x ∷ []) ds fs g t bs gs h u → Cleared (xs ++ (x ∷ [])) cs es f s bs gs h u
  one_more_cleared xs x cs es f s ds fs g t bs gs h u p q = record {
    nodes_long = q.nodes_long ∙ p.nodes_long;
    entries_long = q.entries_long ∙ p.entries_long;
    here = here;
    other = λ i e. q.other i (omega (arith, e, occ_append i xs (x ∷ []))) ∙ p.other i (omega (arith, e, occ_append i xs (x ∷ [])));
    left = λ e. left_on _ _ _ (p.left e) (q.left e);
    entries = λ E k. q.entries E (p.entries E k);
  }
    where
      clear_twice : (i : ℕ) → ((0 < occ i xs) ⊎ (occ i xs ≡ 0)) → cleared (cell ds i) ≡ cleared (cell cs i)
      clear_twice i (inl k) = ap cleared (p.here i k)
      clear_twice i (inr k) = ap cleared (p.other i k)

      some_or_none : (n : ℕ) → (0 < n) ⊎ (n ≡ 0)
      some_or_none zero = inr refl
      some_or_none (suc n) = inl (omega arith)

      pick : (i : ℕ) → 0 < occ i (xs ++ (x ∷ [])) → ((0 < occ i (x ∷ [])) ⊎ (occ i (x ∷ []) ≡ 0)) → cell bs i ≡ cleared (cell cs i)
      pick i k (inl e) = q.here i e ∙ clear_twice i (some_or_none (occ i xs))
      pick i k (inr e) = q.other i e ∙ p.here i (omega (arith, k, e, occ_append i xs (x ∷ [])))

      here : (i : ℕ) → 0 < occ i (xs ++ (x ∷ [])) → cell bs i ≡ cleared (cell cs i)
      here i k = pick i k (some_or_none (occ i (x ∷ [])))

-- ---- a row of references to entries is given up, one after another

module _ {K V : Type 0} (xs : List ℕ) (es : List (EntryCell K V)) (f s : ℕ) (fs : List (EntryCell K V)) (g t k : ℕ) (inv : EntriesReleased (take k xs) es f s fs g t) where
  pub entry_due : (cs : List NodeCell) (E : List ℕ) → k < length xs → Entries cs es f s (xs ++ E) → Entries cs fs g t (get_or xs k 0 ∷ (drop (k + 1) xs ++ E))
  entry_due cs E p h = inv.entries cs _ (subst (λ l. Entries cs es f s l) (split_at xs k E p) h)

  pub entry_given_up : (gs : List (EntryCell K V)) (h u : ℕ) → k < length xs → EntryReleased (get_or xs k 0) fs g t gs h u → EntriesReleased (take (k + 1) xs) es f s gs h u
  entry_given_up gs h u p r =
      rw (take_more xs k 0 p) (one_more_released _ _ _ _ _ _ _ _ _ _ _ inv (record { long = r.long; left = r.left; entries = r.entries }))

  pub all_given_up : length xs ≤ k → EntriesReleased xs es f s fs g t
  all_given_up p = subst (λ l. EntriesReleased l es f s fs g t) (take_all k xs p) inv

-- ---- cell by cell along the chain

abbrev pub links : List NodeCell → ℕ → ℕ
links cs i = (cell cs i).next

module _ (cs : List NodeCell) (head s : ℕ) (R : List ℕ) (H : Nodes cs head s R) where
  pub walk_is_chain : walk (links cs) head s ≡ H.chain.list
  walk_is_chain =
      ap (walk (links cs) head) (sym H.chain.many) ∙ walk_linked (links cs) head H.chain.list [] (subst (Linked (links cs) head) (sym (append-nil H.chain.list)) H.chain.linked)

  -- what a walk comes to is free
  pub walked_free : (i k : ℕ) → k ≤ s → 0 < occ i (walk (links cs) head k) → (i < length cs) × ((cell cs i).holders ≡ 0)
  walked_free i k le p = H.chain.free i (omega (arith, walk_within (links cs) head i k s le, ap (occ i) walk_is_chain))

  pub step_inside : (k : ℕ) → k < s → after (links cs) head k < length cs
  step_inside k p = (walked_free _ s (omega arith) (after_walked (links cs) head k s p)).0

-- a cell is as it was, but perhaps without its entries
module _ {K V : Type 0} (xs : List ℕ) (cs : List NodeCell) (es : List (EntryCell K V)) (f s : ℕ) (ds : List NodeCell) (fs : List (EntryCell K V)) (g t : ℕ) (inv : Cleared xs cs es f s ds fs g t) where
  pub cleared_part : {X : Type 0} (h : NodeCell → X) → ((c : NodeCell) → h (cleared c) ≡ h c) → (i : ℕ) → h (cell ds i) ≡ h (cell cs i)
  cleared_part h same i =
      elim (cases_lt 0 (occ i xs)) [
        | inl p ↦ ap h (inv.here i p) ∙ same (cell cs i)
        | inr p ↦ ap h (inv.other i (omega arith))
      ]

  pub cleared_narrow : ((i : ℕ) → ones (cell cs i).datamap ≤ 16) → (i : ℕ) → ones (cell ds i).datamap ≤ 16
  unfolding ones
  cleared_narrow small i =
      elim (cases_lt 0 (occ i xs)) [
        | inl p ↦ subst (λ (c : NodeCell). ones c.datamap ≤ 16) (sym (inv.here i p)) (omega arith)
        | inr p ↦ subst (λ (c : NodeCell). ones c.datamap ≤ 16) (sym (inv.other i (omega arith))) (small i)
      ]

  pub cleared_nodes : (head spare : ℕ) (R : List ℕ) → Nodes cs head spare R → Nodes ds head spare R
  unfolding inner
  cleared_nodes head spare R H =
      let kept = cleared_part (λ (c : NodeCell). c.holders) (λ c. refl) in
      let children = cleared_part kids (λ c. refl) in
      let levels = cleared_part (λ (c : NodeCell). c.level) (λ c. refl) in
      record {
        counted = λ i. kept i ∙ H.counted i ∙ ap (λ (n : ℕ). occ i R + n) (sym (sum_same (λ (c : NodeCell). occ i (kids c)) cs ds inv.nodes_long (λ k. ap (occ i) (children k))));
        childless = λ i z. children i ∙ H.childless i (omega (arith, kept i));
        falls = λ i k p. omega (arith, levels i, levels k, H.falls i k (omega (arith, ap (occ k) (children i))));
        narrow = λ i. (cleared_narrow (λ j. (H.narrow j).0) i, omega (arith, ap (λ (m : ℕ). ones m) (cleared_part (λ (c : NodeCell). c.nodemap) (λ c. refl) i), (H.narrow i).1));
        short = omega (arith, inv.nodes_long, H.short);
        chain = (chain_kept (λ i. (cell cs i).next) (λ i. (cell cs i).holders) (λ i. (cell ds i).next) (λ i. (cell ds i).holders) (length cs) (length ds) head spare inv.nodes_long H.chain
            (λ i z. (cleared_part (λ (c : NodeCell). c.next) (λ c. refl) i, omega (arith, kept i)))
            (λ i z. omega (arith, kept i))).0;
      }

module _ {K V : Type 0} (cs : List NodeCell) (head k at : ℕ) (here : at ≡ after (links cs) head k) (es : List (EntryCell K V)) (f s : ℕ) (ds : List NodeCell) (fs : List (EntryCell K V)) (g t : ℕ) (inv : Cleared (walk (links cs) head k) cs es f s ds fs g t) where
  pub one_step : (bs : List NodeCell) (gs : List (EntryCell K V)) (h u : ℕ) → Cleared (at ∷ []) ds fs g t bs gs h u → Cleared (walk (links cs) head (k + 1)) cs es f s bs gs h u
  one_step bs gs h u r =
      subst (λ l. Cleared l cs es f s bs gs h u) (ap (λ (n : ℕ). walk (links cs) head k ++ (n ∷ [])) here ∙ sym (walk_more (links cs) head k))
      (one_more_cleared _ _ _ _ _ _ _ _ _ _ _ _ _ _ inv r)

  pub step_on : (cell ds at).next ≡ after (links cs) head (k + 1)
  step_on = cleared_part _ _ _ _ _ _ _ _ _ inv (λ (c : NodeCell). c.next) (λ c. refl) at ∙ ap (links cs) here ∙ sym (after_more (links cs) head k)

-- ---- a version is given up

module _ {K V : Type 0} (r : ℕ) (cs : List NodeCell) (f s : ℕ) (es : List (EntryCell K V)) (ef eu : ℕ) (bs : List NodeCell) (g t : ℕ) (gone : NodesReleased (r ∷ []) cs f s bs g t) where
  -- so many cells more are free, and they come first
  new_cells : (R : List ℕ) (h : Nodes cs f s (r ∷ R)) → (new : List ℕ) × (((gone.nodes R h).0.chain.list ≡ new ++ h.chain.list) × (length new + s ≡ t))
  new_cells R h =
      let w = gone.nodes R h in
      (w.1.0, (w.1.1, omega (arith, w.0.chain.many, h.chain.many, ap length w.1.1, length-append w.1.0 h.chain.list)))

  pub more_spare : (R : List ℕ) → Nodes cs f s (r ∷ R) → s ≤ t
  more_spare R h = omega (arith, (new_cells R h).1.1)

  -- the entries stand as before
  pub entries_stay : (E : List ℕ) → Entries cs es ef eu E → Entries bs es ef eu E
  unfolding inner_entries listed
  entries_stay E h = record {
    counted = λ e. h.counted e ∙ ap (λ (n : ℕ). occ e E + n) (sym (sum_same (λ (c : NodeCell). occ e (singles c)) cs bs gone.long (λ k. ap (occ e) (ap₂ listed (gone.data_kept k).0 (gone.data_kept k).1))));
    filled = h.filled;
    emptied = h.emptied;
    short = h.short;
    chain = h.chain;
  }

  module _ (ds : List NodeCell) (fs : List (EntryCell K V)) (eg et : ℕ) (clear : Cleared (walk (λ i. (cell bs i).next) g (t - s)) bs es ef eu ds fs eg et) where
    -- the walk comes to the new cells exactly
    walked : (R : List ℕ) (h : Nodes cs f s (r ∷ R)) → walk (λ i. (cell bs i).next) g (t - s) ≡ (new_cells R h).0
    walked R h =
        let w = new_cells R h in
        ap (walk (λ i. (cell bs i).next) g) (let z : t - s ≡ length w.0 = omega (arith, w.1.1) in z)
        ∙ walk_linked (λ i. (cell bs i).next) g w.0 h.chain.list (subst (Linked (λ i. (cell bs i).next) g) w.1.0 (gone.nodes R h).0.chain.linked)

    empty_singles : (i : ℕ) (R : List ℕ) → Nodes cs f s (r ∷ R) → Entryless cs → (cell ds i).holders ≡ 0 → singles (cell ds i) ≡ []
    unfolding listed ones
    empty_singles i R h none z =
        elim (cases_lt 0 (occ i (walk (λ i. (cell bs i).next) g (t - s)))) [
          | inl p ↦ ap singles (clear.here i p) ∙ no_singles (cell bs i)
          | inr p ↦
              let same = clear.other i (omega arith) in
              let before : singles (cell bs i) ≡ singles (cell cs i) = ap₂ listed (gone.data_kept i).0 (gone.data_kept i).1 in
              elim (cases_lt i (length bs)) [
                | inl q ↦
                    let w = new_cells R h in
                    let on = (gone.nodes R h).0.chain.every i q (sym (ap (λ (c : NodeCell). c.holders) same) ∙ z) in
                    let old : 0 < occ i h.chain.list = omega (arith, on, ap (occ i) w.1.0, occ_append i w.0 h.chain.list, ap (occ i) (walked R h)) in
                    ap singles same ∙ before ∙ none i (h.chain.free i old).1
                | inr q ↦ ap singles same ∙ ap singles (cell_past bs i q)
              ]
        ]

    gone_left : (R : List ℕ) → Nodes cs f s (r ∷ R) → (i : ℕ) → NodeLeft (cell cs i) (cell ds i)
    gone_left R h i =
        elim (cases_lt 0 (occ i (walk (λ i. (cell bs i).next) g (t - s)))) [
          | inl p ↦
              let free = walked_free bs g t R (gone.nodes R h).0 i (t - s) (omega arith) p in
              let z : (cell ds i).holders ≡ 0 = ap (λ (c : NodeCell). c.holders) (clear.here i p) ∙ free.1 in
              record { fewer = omega (arith, z); level = λ q. absurd (omega (arith, z)); datamap = λ q. absurd (omega (arith, z)); nodemap = λ q. absurd (omega (arith, z)); entries = λ q. absurd (omega (arith, z)); children = λ q. absurd (omega (arith, z)) }
          | inr p ↦ subst (NodeLeft (cell cs i)) (sym (clear.other i (omega arith))) (gone.left i)
        ]

    pub given_up : (R : List ℕ) → Nodes cs f s (r ∷ R) → Released r cs f s es ef eu ds g t fs eg et
    given_up R h = record {
      nodes_long = clear.nodes_long ∙ gone.long;
      entries_long = clear.entries_long;
      nodes_left = gone_left R h;
      entries_left = clear.left;
      tables = λ Q E k e none. (
        cleared_nodes _ bs es ef eu ds fs eg et clear g t Q (gone.nodes Q k).0,
        (clear.entries E (entries_stay E e), λ i z. empty_singles i Q k none z),
      );
    }

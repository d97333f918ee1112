-- The entry table as entries are held, made and given up. Assumes nothing.
use Rattle.std.proofs.Common.{◌≡◌, ℕ, ◌+◌, ◌-◌, ◌*◌, ◌<◌, ◌≤◌, Bool, true, false, List, [], ◌∷◌, length, set, is_some as option_is_some, None, Option, sym, refl, ap, ◌∙◌, subst, inl, inr, arith, length-set}
use lib.Count.{ones}
use Rattle.std.proofs.ByRecursion.{All-from_get_or, sum_by_le}
use Rattle.std.proofs.lemmas.List.{get_or-set_same, get_or-set_other, get_or_past}
use Rattle.std.proofs.lemmas.Bool.{cases_eq, cases_lt}
use Rattle.tables.specs.declared.cells.NodeCell.{NodeCell}
use Rattle.tables.specs.declared.cells.EntryCell.{EntryCell}
use Rattle.tables.specs.Chains.{occ}
use Rattle.tables.specs.Cells.{blank, cell, blank_entry, entry_cell, singles}
use Rattle.tables.specs.Heaps.{inner_entries, Entries, EntryLeft, EntryHeld, EntryMade, EntryReleased}
use Rattle.tables.proofs.Occurrences.{hit, hit_same, hit_other, occ_cons, occ_head, occ_le_length}
use Rattle.tables.proofs.Chains.{chain_kept, chain_pushed, chain_taken, chain_counting, head_free}
use Rattle.tables.proofs.NodeCounts.{length_listed}
use Rattle.tables.proofs.Written as written

-- ---- how often an entry stands in nodes

pub inner_entries_le : (e : ℕ) (cs : List NodeCell) → ((i : ℕ) → ones (cell cs i).datamap ≤ 16) → inner_entries e cs ≤ length cs * 16
unfolding inner_entries
inner_entries_le e cs narrow =
    sum_by_le (λ (c : NodeCell). occ e (singles c)) 16 cs
    (All-from_get_or (λ (c : NodeCell). occ e (singles c) ≤ 16) cs blank
    (λ i p. omega (arith, occ_le_length e (singles (cell cs i)), length_listed (cell cs i).datamap (cell cs i).entries, narrow i)))

module _ {K V : Type 0} where
  -- a cell with a holder is in the table
  pub inside_entries : (es : List (EntryCell K V)) (e : ℕ) → 0 < (entry_cell es e).holders → e < length es
  inside_entries es e h =
      elim (cases_lt e (length es)) [
        | inl l ↦ l
        | inr l ↦ omega (arith, ap (λ (c : EntryCell K V). c.holders) (get_or_past es e blank_entry l))
      ]

  pub rooted : (cs : List NodeCell) (es : List (EntryCell K V)) (f s e : ℕ) (R : List ℕ) → Entries cs es f s (e ∷ R) → 0 < (entry_cell es e).holders
  rooted cs es f s e R H = omega (arith, H.counted e, occ_head e R)

  -- a count of holders has room
  pub holders_fit :
      (cs : List NodeCell) (es : List (EntryCell K V)) (f s e : ℕ) (R : List ℕ)
      → Entries cs es f s R → length R ≤ 65535 → length cs ≤ 65535 → ((i : ℕ) → ones (cell cs i).datamap ≤ 16)
      → (entry_cell es e).holders ≤ 1114095
  holders_fit cs es f s e R H short_roots short_nodes narrow =
      omega (arith, H.counted e, occ_le_length e R, inner_entries_le e cs narrow)

  -- ---- one cell is written

  module _ (es : List (EntryCell K V)) (j : ℕ) (y : EntryCell K V) (h : j < length es) where
    -- what holds of the new cell, and of each other
    pub at_set : (P : EntryCell K V → Type 0) (i : ℕ) → (i ≡ j → P y) → ((i ≡ j → ⊥) → P (entry_cell es i)) → P (entry_cell (set es j y) i)
    at_set = written.at_set blank_entry es j y h

    set_same : entry_cell (set es j y) j ≡ y
    set_same = get_or-set_same es j y blank_entry h

    set_other : (i : ℕ) → (i ≡ j → ⊥) → entry_cell (set es j y) i ≡ entry_cell es i
    set_other i n = get_or-set_other es j i y blank_entry n

    others : (i : ℕ) → (i ≡ j → ⊥) → ((entry_cell (set es j y) i).next ≡ (entry_cell es i).next) × ((entry_cell (set es j y) i).holders ≡ (entry_cell es i).holders)
    others i n = (ap (λ (c : EntryCell K V). c.next) (set_other i n), ap (λ (c : EntryCell K V). c.holders) (set_other i n))

    -- how many holders each cell has more, and fewer
    more_set : y.holders ≡ (entry_cell es j).holders + 1 → (i : ℕ) → (entry_cell (set es j y) i).holders ≡ (entry_cell es i).holders + hit i j
    more_set m i =
        at_set (λ (c : EntryCell K V). c.holders ≡ (entry_cell es i).holders + hit i j) i
        (λ e. omega (arith, hit_same i j e, ap (λ (n : ℕ). (entry_cell es n).holders) e))
        (λ n. omega (arith, hit_other i j n))

    fewer_set : y.holders + 1 ≡ (entry_cell es j).holders → (i : ℕ) → (entry_cell (set es j y) i).holders + hit i j ≡ (entry_cell es i).holders
    fewer_set m i =
        at_set (λ (c : EntryCell K V). c.holders + hit i j ≡ (entry_cell es i).holders) i
        (λ e. omega (arith, hit_same i j e, ap (λ (n : ℕ). (entry_cell es n).holders) e))
        (λ n. omega (arith, hit_other i j n))

    next_set : y.next ≡ (entry_cell es j).next → (i : ℕ) → (entry_cell (set es j y) i).next ≡ (entry_cell es i).next
    next_set m i =
        at_set (λ (c : EntryCell K V). c.next ≡ (entry_cell es i).next) i
        (λ e. m ∙ sym (ap (λ (n : ℕ). (entry_cell es n).next) e)) (λ n. refl)

    filled_set :
        (0 < y.holders → option_is_some y.held ≡ true)
        → ((e : ℕ) → 0 < (entry_cell es e).holders → option_is_some (entry_cell es e).held ≡ true)
        → (e : ℕ) → 0 < (entry_cell (set es j y) e).holders → option_is_some (entry_cell (set es j y) e).held ≡ true
    filled_set new old e = at_set (λ (c : EntryCell K V). 0 < c.holders → option_is_some c.held ≡ true) e (λ q. new) (λ n. old e)

    emptied_set :
        (y.holders ≡ 0 → y.held ≡ None)
        → ((e : ℕ) → (entry_cell es e).holders ≡ 0 → (entry_cell es e).held ≡ None)
        → (e : ℕ) → (entry_cell (set es j y) e).holders ≡ 0 → (entry_cell (set es j y) e).held ≡ None
    emptied_set new old e = at_set (λ (c : EntryCell K V). c.holders ≡ 0 → c.held ≡ None) e (λ q. new) (λ n. old e)

    left_set : EntryLeft (entry_cell es j) y → (i : ℕ) → EntryLeft (entry_cell es i) (entry_cell (set es j y) i)
    left_set l i =
        at_set (λ (c : EntryCell K V). EntryLeft (entry_cell es i) c) i
        (λ e. let P : ℕ → Type 0 = λ n. EntryLeft (entry_cell es n) y in subst P (sym e) l)
        (λ n. record { fewer = omega arith; held = λ p. refl })

  -- ---- one holder more

  abbrev pub one_more_entry : EntryCell K V → EntryCell K V
  one_more_entry c = record { held = c.held; holders = c.holders + 1; next = c.next }

  pub entry_held :
      (es : List (EntryCell K V)) (f s e : ℕ) → 0 < (entry_cell es e).holders
      → EntryHeld e es f s (set es e (one_more_entry (entry_cell es e))) f s
  entry_held es f s e held =
      let y = one_more_entry (entry_cell es e) in
      let p = inside_entries es e held in
      let more = more_set es e y p refl in
      record {
        is = refl;
        free = refl;
        spare = refl;
        entries = λ cs R H. record {
          counted = λ i. omega (arith, more i, H.counted i, occ_cons i e R);
          filled = filled_set es e y p (λ q. H.filled e held) H.filled;
          emptied = emptied_set es e y p (λ z. absurd (omega arith)) H.emptied;
          short = rw length-set H.short;
          chain = (chain_kept _ _ _ _ (length es) _ f s (length-set es e y) H.chain
              (λ i z. (next_set es e y p refl i, omega (arith, more i, hit_other i e (λ q. omega (arith, ap (λ (n : ℕ). (entry_cell es n).holders) q)))))
              (λ i z. omega (arith, more i))).0;
        };
      }

  -- ---- a new entry

  pub entry_made :
      (es : List (EntryCell K V)) (f s : ℕ) (y : EntryCell K V) (cs : List NodeCell) (R : List ℕ) → Entries cs es f s R → 0 < s
      → y.holders ≡ 1 → option_is_some y.held ≡ true
      → EntryMade f y es f s (set es f y) (entry_cell es f).next (s - 1)
  entry_made es f s y cs0 R0 H0 some one is_some =
      let was = head_free _ _ _ _ _ H0.chain some in
      record {
        inside = was.0;
        was_free = was.1;
        is = refl;
        less = omega arith;
        entries = λ cs R H. record {
          counted = λ i. omega (arith, more_set es f y was.0 (omega arith) i, H.counted i, occ_cons i f R);
          filled = filled_set es f y was.0 (λ q. is_some) H.filled;
          emptied = emptied_set es f y was.0 (λ z. absurd (omega arith)) H.emptied;
          short = rw length-set H.short;
          chain = (chain_taken _ _ _ _ (length es) _ f s (length-set es f y) H.chain some
              (omega (arith, ap (λ (c : EntryCell K V). c.holders) (set_same es f y was.0)))
              (others es f y was.0)).0;
        };
      }

  -- ---- one holder fewer

  pub fewer_released :
      (es : List (EntryCell K V)) (f s e : ℕ) (y : EntryCell K V) → 0 < y.holders → y.holders + 1 ≡ (entry_cell es e).holders
      → y.held ≡ (entry_cell es e).held → y.next ≡ (entry_cell es e).next
      → EntryReleased e es f s (set es e y) f s
  fewer_released es f s e y some fewer same_held same_next =
      let p : e < length es = inside_entries es e (omega arith) in
      let less = fewer_set es e y p fewer in
      record {
        long = length-set es e y;
        left = left_set es e y p (record { fewer = omega arith; held = λ q. same_held });
        entries = λ cs R H. record {
          counted = λ i. omega (arith, less i, H.counted i, occ_cons i e R);
          filled = filled_set es e y p (λ q. ap (λ (o : Option (K × V)). option_is_some o) same_held ∙ H.filled e (omega arith)) H.filled;
          emptied = emptied_set es e y p (λ z. absurd (omega arith)) H.emptied;
          short = rw length-set H.short;
          chain = (chain_kept _ _ _ _ (length es) _ f s (length-set es e y) H.chain
              (λ i z. (next_set es e y p same_next i, omega (arith, less i)))
              (λ i z. elim (cases_eq i e) [
                | inl q ↦ absurd (omega (arith, less i, hit_same i e q, ap (λ (n : ℕ). (entry_cell es n).holders) q))
                | inr m ↦ omega (arith, less i, hit_other i e m)
              ])).0;
        };
      }

  -- the last one: the cell goes to the chain
  pub last_released :
      (es : List (EntryCell K V)) (f s e : ℕ) (y : EntryCell K V) → y.holders ≡ 0 → y.held ≡ None → y.next ≡ f → (entry_cell es e).holders ≡ 1
      → EntryReleased e es f s (set es e y) e (s + 1)
  last_released es f s e y none nothing first last =
      let p : e < length es = inside_entries es e (omega arith) in
      let less = fewer_set es e y p (omega arith) in
      record {
        long = length-set es e y;
        left = left_set es e y p (record { fewer = omega arith; held = λ q. absurd (omega arith) });
        entries = λ cs R H. record {
          counted = λ i. omega (arith, less i, H.counted i, occ_cons i e R);
          filled = filled_set es e y p (λ q. absurd (omega arith)) H.filled;
          emptied = emptied_set es e y p (λ z. nothing) H.emptied;
          short = rw length-set H.short;
          chain = (chain_pushed _ _ _ _ (length es) _ f s (length-set es e y) H.chain e p (omega arith)
              (ap (λ (c : EntryCell K V). c.holders) (set_same es e y p) ∙ none)
              (ap (λ (c : EntryCell K V). c.next) (set_same es e y p) ∙ first)
              (others es e y p)).0;
        };
      }

  -- ---- a table in which every cell is free

  -- a free cell before the cell n in the chain
  pub record Unheld (c : EntryCell K V) (n : ℕ) : Type 0 where
    pub held : c.held ≡ None
    pub holders : c.holders ≡ 0
    pub next : c.next ≡ n

  pub formatted :
      (es : List (EntryCell K V)) → length es ≤ 65535 → ((k : ℕ) → k < length es → Unheld (entry_cell es k) (k + 1))
      → (cs : List NodeCell) → ((e : ℕ) → inner_entries e cs ≡ 0) → Entries cs es 0 (length es) []
  unfolding occ
  formatted es short all cs none =
      let no_holder : (i : ℕ) → (entry_cell es i).holders ≡ 0 = λ i. elim (cases_lt i (length es)) [
        | inl p ↦ (all i p).holders
        | inr p ↦ ap (λ (c : EntryCell K V). c.holders) (get_or_past es i blank_entry p)
      ] in
      record {
        counted = λ i. omega (arith, no_holder i, none i);
        filled = λ i p. absurd (omega (arith, no_holder i));
        emptied = λ i z. elim (cases_lt i (length es)) [
          | inl p ↦ (all i p).held
          | inr p ↦ ap (λ (c : EntryCell K V). c.held) (get_or_past es i blank_entry p)
        ];
        short = short;
        chain = chain_counting _ _ (length es) (λ i p. ((all i p).next, (all i p).holders));
      }

  -- ---- the same of code that left the cells fs

  module _ (es fs : List (EntryCell K V)) (f s e : ℕ) (held : 0 < (entry_cell es e).holders) where
    pub held_step : fs ≡ set es e (one_more_entry (entry_cell es e)) → EntryHeld e es f s fs f s
    held_step is = subst (λ (x : List (EntryCell K V)). EntryHeld e es f s x f s) (sym is) (entry_held es f s e held)

    -- one holder fewer, or the cell emptied and chained
    pub let_go_step :
        (g t : ℕ) (b : Bool) →
        (b ≡ false → (1 < (entry_cell es e).holders) × ((fs ≡ set es e (record { held = (entry_cell es e).held; holders = (entry_cell es e).holders - 1; next = (entry_cell es e).next })) × ((g ≡ f) × (t ≡ s)))) →
        (b ≡ true → ((entry_cell es e).holders ≤ 1) × ((fs ≡ set es e (record { held = None; holders = 0; next = f })) × ((g ≡ e) × (t ≡ s + 1)))) →
        EntryReleased e es f s fs g t
    let_go_step g t false shared freed =
        let h = shared refl in
        rw (h.1.0, h.1.1.0, h.1.1.1) (fewer_released es f s e _ (omega (arith, h.0)) (omega (arith, h.0)) refl refl)
    let_go_step g t true shared freed =
        let h = freed refl in
        rw (h.1.0, h.1.1.0, h.1.1.1) (last_released es f s e _ refl refl refl (omega (arith, held, h.0)))

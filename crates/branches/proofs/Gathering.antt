-- All of a result's part, digit by digit: one branch more in hand, and what the sixteen make. Assumes nothing.
use Rattle.std.proofs.Common.{◌≡◌, ℕ, suc, ◌+◌, ◌*◌, ◌<◌, ◌≤◌, Bool, true, cond, eqb, ltb, List, [], ◌∷◌, ◌++◌, map, length, None, sum_by, sym, refl, ap, ◌∙◌, subst, ap₂, inl, inr, arith}
use mathlib.Core.List.Memᴰ
use Rattle.std.specs.List.{range_with_len, AllByRecursion}
use Rattle.std.proofs.lemmas.List.{append-nil, length-map}
use Rattle.std.proofs.lemmas.Bool.{cases_lt, cond-true, cond-false, ne_eqb, eqb-true, lt-ltb, ltb-true}
use Rattle.kinds.specs.Kinds.{KeyKind}
use Rattle.model.specs.Maps.{Setting, Map}
use Rattle.model.specs.Tries.{filter, digit, at_digit, one, many, parts}
use Rattle.model.specs.Images.{bits, picked}
use Rattle.model.specs.Sharing.{Part, Shared, no_share, ◌⊕◌, below, begins, new_node, first_same, entry_from, sum, share}
use Rattle.model.proofs.Marks.Prefixes.{begins_less, begins_short, begins_apart}
use Rattle.model.proofs.Marks.Members.{Mem, mem_of_filter}
use Rattle.tables.specs.declared.cells.NodeCell.{NodeCell}
use Rattle.tables.specs.declared.cells.NodeId.{NodeId}
use Rattle.tables.specs.declared.cells.EntryId.{EntryId}
use Rattle.tables.specs.Chains.{occ}
use Rattle.tables.specs.Cells.{kids, singles}
use Rattle.tables.specs.Heaps.{NodeMade}
use Rattle.tables.specs.Notes.{branches, own, Stands}
use Rattle.tables.proofs.Occurrences.{occ_head, occ_append}
use Rattle.plans.specs.Plans.{total, bushy, portion}
use Rattle.plans.proofs.Rows.{sixteen_is}
use Rattle.plans.proofs.Digits.{length_by_digits}
use Rattle.plans.proofs.Sharing.{share_new_form, entry_below, portion_one, portion_bushy}
use Rattle.branches.specs.declared.branch.Branch.{Branch}
use Rattle.branches.specs.declared.branch.Branch.TheVariants.{Nothing, Entry, Child}
use Rattle.branches.specs.States.{Tables, Notes, Sits, Clear, Under, Led}
use Rattle.branches.specs.Branches.{part_of, node_of, entry_of, Built}
use Rattle.branches.specs.Hands.{share_at, Before, BeforeKey, Hand, Gathered}
use Rattle.branches.proofs.Growing.{grown_to, clear_grown, clear_to, EntriesStay}
use Rattle.branches.proofs.Picks.{leads_less, leads_apart, entry_nodes, picked_more, filter_more, sizes_le, sizes_alone, picked_mem, picked_below}
use Rattle.branches.proofs.Hands.{hand_none, hand_same, hand_entry, hand_child, hand_as, hand_node}

-- ---- what a test on a part says

pub bushy_many : (h : ℕ) (m : Map) → h < 8 → bushy h m ≡ true → 1 < length m
bushy_many h m low e = ltb-true 1 (length m) (ap (λ (b : Bool). ltb (cond b 1 0) (length m)) (sym (lt-ltb h 8 low)) ∙ e)

-- what goes on by a digit has it
digit_is : (K : KeyKind) (d g : ℕ) (m : Map) (s : Setting) → at_digit K d m g ≡ s ∷ [] → digit (K.hash s.key) d ≡ g
digit_is K d g m s e =
    eqb-true (digit (K.hash s.key) d) g
    (mem_of_filter (λ s. eqb (digit (K.hash s.key) d) g) m s (subst (λ (l : Map). Mem s l) (sym e) (Memᴰ.head refl))).1

no_length : {A : Type 0} (l : List A) → length l ≡ 0 → l ≡ []
no_length [] e = refl
no_length (x ∷ l) e = absurd (omega (arith, e))

one_member : (m : Map) (s : Setting) → length m ≡ 1 → Mem s m → m ≡ s ∷ []
one_member [] s e i = absurd (omega (arith, e))
one_member (x ∷ []) s e i = elim (Memᴰ.cases_cons i) [ inl z ↦ ap (λ (y : Setting). y ∷ []) (sym z) | inr j ↦ absurd (Memᴰ.not-nil j) ]
one_member (x ∷ (y ∷ m)) s e i = absurd (omega (arith, e))

-- numbers: the entries o and twice the children k are at most all
bound_many : (o k t c a : ℕ) → o + 2 * k ≤ t → t ≡ a → c ≡ k → 0 < c → 2 ≤ a
bound_many o k t c a i e f q = omega arith

bound_all : (o k t c a : ℕ) → o + 2 * k ≤ t → t ≡ a → c ≡ o → c ≤ a
bound_all o k t c a i e f = omega arith

no_more : (u c d t : ℕ) → u + c ≡ t → c ≡ 0 → d ≡ 0 → u + d ≡ t
no_more u c d t e z w = omega arith

same_more : (u c d t : ℕ) → u + c ≡ t → c ≡ d → u + d ≡ t
same_more u c d t e z = omega arith

-- one thing in hand goes to the end
to_end : (i : ℕ) (a b c : List ℕ) → occ i (a ++ (b ++ c)) ≡ occ i ((b ++ a) ++ c)
to_end i a b c = omega (arith, occ_append i a (b ++ c), occ_append i b c, occ_append i (b ++ a) c, occ_append i b a)

module _ {X Y : Type 0} (K : KeyKind) (kb : X → List ℕ) (vb : Y → List ℕ) (n h : ℕ) (p : List ℕ) (sources : List Part) (m : Map)
    (T : Tables X Y) (N : Notes) (R E : List ℕ) (deep : length p + suc h ≡ 8) where
  pub gathered_none : Sits K kb vb T N R E → Gathered K kb vb n h p sources m T N R E 0 [] [] T
  gathered_none H = hand_none K kb vb n h p sources m T N R E (Before p 0) (BeforeKey K p 0) H

  module _ (g : ℕ) (xs ks : List ℕ) (U : Tables X Y) (G : Gathered K kb vb n h p sources m T N R E g xs ks U) where
    -- what the call below may take for granted at the digit
    pub gathered_clear : Clear n (Under p) (Led K p) T N → Clear n (Under (p ++ (g ∷ []))) (Led K (p ++ (g ∷ []))) U G.notes
    gathered_clear C =
        clear_grown n (Before p g) (Under (p ++ (g ∷ []))) (BeforeKey K p g) (Led K (p ++ (g ∷ []))) T U N G.notes G.grown
        (λ q u v. omega (arith, begins_apart p u.0 g q u.1.1 v, u.1.0)) (λ k u v. omega (arith, leads_apart K p u.0 g k u.1.1 v, u.1.0))
        (clear_to n (Under p) (Under (p ++ (g ∷ []))) (Led K p) (Led K (p ++ (g ∷ []))) T N (λ q v. begins_less p g q v) (λ k v. leads_less K p g k v) C)

    abbrev here : Map
    here = at_digit K (length p) m g

    abbrev share_here : Shared
    share_here = portion K n h (p ++ (g ∷ [])) (map (below K p g) sources) here

    abbrev mine : Map
    mine = picked one (λ q. q) (map (at_digit K (length p) m) (range_with_len 0 g))

    abbrev before : List ℕ
    before = filter (λ x. many (at_digit K (length p) m x)) (range_with_len 0 g)

    -- the digit is not there yet
    not_yet : occ g before ≡ 0
    not_yet =
        elim (cases_lt 0 (occ g before)) [
          | inl q ↦
              absurd (omega (arith, picked_below (λ x. many (at_digit K (length p) m x)) g g q))
          | inr q ↦ omega (arith, q)
        ]

    -- all before the digit, and what goes on by it, is before the next one
    to_next : (q : List ℕ) → Before p g q → Before p (suc g) q
    to_next q u = (u.0, (omega (arith, u.1.0), u.1.1))

    key_to_next : (k : List ℕ) → BeforeKey K p g k → BeforeKey K p (suc g) k
    key_to_next k u = (u.0, (omega (arith, u.1.0), u.1.1))

    here_next : (q : List ℕ) → Under (p ++ (g ∷ [])) q → Before p (suc g) q
    here_next q v = (g, (omega arith, v))

    key_next : (k : List ℕ) → Led K (p ++ (g ∷ [])) k → BeforeKey K p (suc g) k
    key_next k v = (g, (omega arith, v))

    -- a branch adds the settings and digits of its part
    step :
        (W : Tables X Y) (more : Map) (gs xs' ks' : List ℕ) → cond (one here) here [] ≡ more
        → cond (many here) (g ∷ []) [] ≡ gs
        → Hand K kb vb n h p sources m T N R E (Before p (suc g)) (BeforeKey K p (suc g))
        (mine ++ more) (before ++ gs) xs' ks' W
        → Gathered K kb vb n h p sources m T N R E (suc g) xs' ks' W
    step W more gs xs' ks' one_is many_is H =
        hand_as K kb vb n h p sources m T N R E (Before p (suc g)) (BeforeKey K p (suc g))
        (mine ++ more) (before ++ gs) xs' ks' W H _ _ _ _
        (sym (picked_more (at_digit K (length p) m) g ∙ ap (λ (r : Map). mine ++ r) one_is))
        (sym (filter_more (at_digit K (length p) m) g
        ∙ ap (λ (r : List ℕ). before ++ r) many_is)) refl refl

    pub gathered_more :
        (b : Branch) (W : Tables X Y) → g < 16 → Built K kb vb n h (p ++ (g ∷ [])) here share_here U G.notes (ks ++ R) (xs ++ E) b W
        → Gathered K kb vb n h p sources m T N R E (suc g) (xs ++ entry_of b) (ks ++ node_of b) W
    gathered_more Nothing W small B =
        let none : here ≡ [] = ap (λ (a : Part). a.settings) B.is in
        let shared : share_here ≡ no_share = ap (portion K n h (p ++ (g ∷ [])) (map (below K p g) sources)) none in
        step W [] [] (xs ++ []) (ks ++ []) (ap (λ (a : Map). cond (one a) a []) none)
        (ap (λ (a : Map). cond (many a) (g ∷ []) []) none)
        (hand_same K kb vb n h p sources m T N R E (Before p g) (BeforeKey K p g) mine before xs ks
        U G _ _ _ _ W B.notes B.grown to_next here_next key_to_next key_next B.sits
        (omega (arith, B.cost, ap (λ (a : Shared). a.new_nodes) shared))
        (omega (arith, B.entry_cost, ap (λ (a : Shared). a.new_entries) shared)))
    gathered_more (Entry e) W small B =
        let s : Setting = (B.notes.entry e.0).setting in
        let alone : here ≡ s ∷ [] = B.is.1.settings in
        let shared : share_here ≡ entry_from n sources s =
        ap (portion K n h (p ++ (g ∷ [])) (map (below K p g) sources)) alone ∙ portion_one K n h (p ++ (g ∷ [])) (map (below K p g) sources) s B.is.0
        ∙ entry_below K n p g s (digit_is K (length p) g m s alone) sources in
        step W (s ∷ []) [] (xs ++ (e.0 ∷ [])) (ks ++ []) (ap (λ (a : Map). cond (one a) a []) alone)
        (ap (λ (a : Map). cond (many a) (g ∷ []) []) alone)
        (hand_entry K kb vb n h p sources m T N R E (Before p g) (BeforeKey K p g) mine before xs ks
        U G _ _ _ _ W B.notes B.grown to_next here_next key_to_next key_next s e.0 B.sits
        refl (sym B.is.1.entries ∙ ap (λ (a : Shared). a.entries) shared)
        (omega (
          arith,
          B.cost,
          ap (λ (a : Shared). a.new_nodes) shared,
          (entry_nodes n sources s).1,
        ))
        (omega (arith, B.entry_cost, ap (λ (a : Shared). a.new_entries) shared)))
    gathered_more (Child i) W small B =
        let several : 1 < length here = bushy_many h here (omega arith) B.is.1 in
        let shared : share_here ≡ share_at K n h p sources m g = portion_bushy K n h (p ++ (g ∷ [])) (map (below K p g) sources) here B.is.1 in
        step W [] (g ∷ []) (xs ++ []) (ks ++ (i.0 ∷ []))
        (cond-false (one here) here []
        (ne_eqb (length here) 1 (λ z. omega (arith, several, z))))
        (cond-true (many here) (g ∷ []) [] (lt-ltb 1 (length here) several))
        (hand_child K kb vb n h p sources m T N R E (Before p g) (BeforeKey K p g) mine before xs ks
        U G _ _ _ _ W B.notes B.grown to_next here_next key_to_next key_next g i.0 not_yet
        B.sits
        (subst (λ (a : Shared). Stands W.nodes B.notes.node i.0 (p ++ (g ∷ [])) (part_of here a))
        shared B.is.0) (omega (arith, B.cost, ap (λ (a : Shared). a.new_nodes) shared))
        (omega (arith, B.entry_cost, ap (λ (a : Shared). a.new_entries) shared)))

  -- ---- the sixteen

  inside : (q : List ℕ) → Before p 16 q → Under p q
  inside q u = begins_less p u.0 q u.1.1

  inside_keys : (k : List ℕ) → BeforeKey K p 16 k → Led K p k
  inside_keys k u = leads_less K p u.0 k u.1.1

  all_digits : total (λ x. length (at_digit K (length p) m x)) (range_with_len 0 16) ≡ length m
  all_digits = ap (total (λ x. length (at_digit K (length p) m x))) (sym sixteen_is) ∙ length_by_digits K (length p) m

  branching_is : branches K (record { prefix = p; settings = m }) ≡ filter (λ x. many (at_digit K (length p) m x)) (range_with_len 0 16)
  branching_is = cond-true (ltb (length p) 8) _ _ (lt-ltb (length p) 8 (omega arith)) ∙ ap (filter (λ x. many (at_digit K (length p) m x))) sixteen_is

  own_is : own K (record { prefix = p; settings = m }) ≡ picked one (λ q. q) (map (at_digit K (length p) m) (range_with_len 0 16))
  own_is = cond-true (ltb (length p) 8) _ _ (lt-ltb (length p) 8 (omega arith)) ∙ ap (λ (l : List ℕ). picked one (λ q. q) (map (at_digit K (length p) m) l)) sixteen_is

  module _ (xs ks : List ℕ) (U : Tables X Y) (G : Gathered K kb vb n h p sources m T N R E 16 xs ks U) where
    xs_long : length xs ≡ length (picked one (λ q. q) (map (at_digit K (length p) m) (range_with_len 0 16)))
    xs_long = sym (length-map xs (λ e. (G.notes.entry e).setting)) ∙ ap length G.settings_are

    ks_long : length ks ≡ length (filter (λ x. many (at_digit K (length p) m x)) (range_with_len 0 16))
    ks_long = ap length G.kids_are ∙ length-map (filter (λ x. many (at_digit K (length p) m x)) (range_with_len 0 16)) G.kid

    no_kids : ks ≡ [] → filter (λ x. many (at_digit K (length p) m x)) (range_with_len 0 16) ≡ []
    no_kids e = no_length (filter (λ x. many (at_digit K (length p) m x)) (range_with_len 0 16)) (sym ks_long ∙ ap length e)

    pub gathered_sizes : (ks ≡ [] → length m ≡ length xs) × ((0 < length ks → 2 ≤ length m) × (length xs ≤ length m))
    gathered_sizes = (
      λ e. sym (xs_long ∙ sizes_alone (at_digit K (length p) m) (range_with_len 0 16) (no_kids e) ∙ all_digits),
      (
        λ q. bound_many (length (picked one (λ q. q) (map (at_digit K (length p) m) (range_with_len 0 16)))) _ _ (length ks) (length m) (sizes_le (at_digit K (length p) m) (range_with_len 0 16)) all_digits ks_long q,
        bound_all _ (length (filter (λ x. many (at_digit K (length p) m x)) (range_with_len 0 16))) _ (length xs) (length m) (sizes_le (at_digit K (length p) m) (range_with_len 0 16)) all_digits xs_long,
      ),
    )

    -- a new node
    pub gathered_node :
        Clear n (Under p) (Led K p) T N → first_same sources m ≡ None → bushy (suc h) m ≡ true
        → (i : NodeId) (new : NodeCell) (W : Tables X Y) → EntriesStay U W → NodeMade i.0 new U.nodes U.free U.spare W.nodes W.free W.spare
        → kids new ≡ ks → singles new ≡ xs → new.datamap ≡ bits one (parts K (length p) m) → new.nodemap ≡ bits many (parts K (length p) m)
        → new.level ≡ suc h → 0 < new.holders
        → Built K kb vb n (suc h) p m (share K n (suc h) p sources m) T N R E (Child i) W
    gathered_node clear none bush i new W stay done kids_are singles_are data_is nodes_are level_is some =
        hand_node K kb vb n h p sources m T N R E (Before p 16) (BeforeKey K p 16) _ _ xs ks U G inside
        (λ q u z. begins_short p u.0 (ap (begins (p ++ (u.0 ∷ []))) (sym z) ∙ u.1.1)) inside_keys clear
        i new W done stay kids_are singles_are some branching_is own_is (omega (arith, level_is)) (λ q. data_is) (λ q. nodes_are)
        (share K n (suc h) p sources m)
        (share_new_form K n p sources m h none
        ∙ ap (λ (l : List ℕ). new_node n p ⊕ (sum (entry_from n sources) (picked one (λ q. q) (map (at_digit K (length p) m) l)) ⊕ sum (share_at K n h p sources m) (filter (λ x. many (at_digit K (length p) m x)) l))) sixteen_is)
        (suc h) bush

  -- no setting at all
  pub gathered_nothing :
      (U : Tables X Y) → Gathered K kb vb n h p sources m T N R E 16 [] [] U
      → (m ≡ []) × Built K kb vb n (suc h) p m (portion K n (suc h) p sources m) T N R E Nothing U
  gathered_nothing U G =
      let none : m ≡ [] = no_length m ((gathered_sizes [] [] U G).0 refl) in
      let shared : portion K n (suc h) p sources m ≡ no_share = ap (portion K n (suc h) p sources) none in
      let kids = no_kids [] [] U G refl in
      let own = no_length (picked one (λ q. q) (map (at_digit K (length p) m) (range_with_len 0 16))) (sym (xs_long [] [] U G)) in (
        none,
        record {
          notes = G.notes;
          sits = G.sits;
          grown = grown_to n (Before p 16) (Under p) (BeforeKey K p 16) (Led K p) T U N G.notes inside inside_keys G.grown;
          is = ap₂ part_of none shared;
          cost =
              no_more U.spare _ _ T.spare G.cost (ap (sum_by (λ g. (share_at K n h p sources m g).new_nodes)) kids) (ap (λ (a : Shared). a.new_nodes) shared);
          entry_cost =
              no_more U.entry_spare _ _ T.entry_spare G.entry_cost
              (ap₂ (λ (a : Map) (b : List ℕ). (sum (entry_from n sources) a).new_entries + sum_by (λ g. (share_at K n h p sources m g).new_entries) b) own kids) (ap (λ (a : Shared). a.new_entries) shared);
        },
      )

  -- one setting
  pub gathered_entry :
      (e : EntryId) (U : Tables X Y) → Gathered K kb vb n h p sources m T N R E 16 (e.0 ∷ []) [] U → suc h < 8
      → ((s : Setting) × (m ≡ s ∷ [])) × Built K kb vb n (suc h) p m (portion K n (suc h) p sources m) T N R E (Entry e) U
  gathered_entry e U G low =
      let s : Setting = (G.notes.entry e.0).setting in
      let alone : m ≡ s ∷ [] = one_member m s ((gathered_sizes (e.0 ∷ []) [] U G).0 refl) (subst (AllByRecursion (λ s. Mem s m)) (sym G.settings_are) (picked_mem K (length p) m (range_with_len 0 16))).0 in
      let shared : portion K n (suc h) p sources m ≡ entry_from n sources s = ap (portion K n (suc h) p sources) alone ∙ portion_one K n (suc h) p sources s low in
      let kids = no_kids (e.0 ∷ []) [] U G refl in
      let own = sym G.settings_are in (
        (s, alone),
        record {
          notes = G.notes;
          sits = G.sits;
          grown = grown_to n (Before p 16) (Under p) (BeforeKey K p 16) (Led K p) T U N G.notes inside inside_keys G.grown;
          is = (
            low,
            record {
              held = omega (arith, G.sits.entries.counted e.0, occ_head e.0 E);
              settings = alone;
              nodes = ap (λ (a : Shared). a.nodes) shared ∙ (entry_nodes n sources s).0;
              entries = ap (λ (a : Shared). a.entries) shared ∙ sym (append-nil (entry_from n sources s).entries) ∙ ap (λ (a : Map). (sum (entry_from n sources) a).entries) (sym own) ∙ sym G.labels_are;
            },
          );
          cost =
              no_more U.spare _ _ T.spare G.cost (ap (sum_by (λ g. (share_at K n h p sources m g).new_nodes)) kids) (ap (λ (a : Shared). a.new_nodes) shared ∙ (entry_nodes n sources s).1);
          entry_cost =
              same_more U.entry_spare _ _ T.entry_spare G.entry_cost
              (ap₂ (λ (a : Map) (b : List ℕ). (sum (entry_from n sources) a).new_entries + sum_by (λ g. (share_at K n h p sources m g).new_entries) b) own kids ∙ omega arith ∙ sym (ap (λ (a : Shared). a.new_entries) shared));
        },
      )

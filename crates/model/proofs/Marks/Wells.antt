-- The marked nodes of a call's result are those of its map's trie, and its marked entries its keys. Assumes nothing.
use Rattle.std.proofs.Common.{◌≡◌, ℕ, zero, suc, ◌+◌, true, false, cond, eqb, leb, ◌⊎◌, List, [], ◌∷◌, ◌++◌, map, length, is_some, Some, Option, sym, refl, ap, ◌∙◌, subst, ap₂, inl, inr, arith}
use mathlib.Core.List.Memᴰ
use Rattle.std.specs.List.{AllByRecursion}
use Rattle.std.proofs.lemmas.Bool.{cond_both, false≢true, and_parts, eqb-true, eq-eqb, ltb-true, lt-ltb}
use Rattle.kinds.specs.Kinds.{KeyKind}
use Rattle.model.specs.Maps.{Setting, Map, keys, look, same_found, same_map, Rises}
use Rattle.model.specs.Tries.{filter, digit, sixteen, leads, at_digit, parts, one, many, branching, has_node}
use Rattle.model.specs.Images.{picked}
use Rattle.model.specs.Sharing.{Marked, Part, begins, below, Shared, ◌⊕◌, sum, new_node, first_same, entry_from, kept_or, share, shared}
use Rattle.model.specs.Runs.{ListsOnce}
use Rattle.model.proofs.Marks.Members.{Mem, all_map, all_to, all_from_mem, mem_filter, mem_of_filter, map_join, map_filter, flat, mem_flat, mem_of_flat, distinct_filter, distinct_join, distinct_flat, lists_like, lists_filter}
use Rattle.model.proofs.Marks.Keys.{found_mem, mem_found, same_map_true, key_at, key_of_at, filter_rises, keys_once}
use Rattle.model.proofs.Marks.Prefixes.{sixteen_once, sixteen_mem, digit_below, length_on, begins_same, begins_short, begins_less, begins_apart, begins_next, begins_length, led_on, node_on, node_short, node_there, node_branch}

-- a part of a map with its marks, whole: marked nodes are the trie's, marked entries the keys
pub record MarkedWell (K : KeyKind) (a : Part) : Type 0 where
  pub trie : ListsOnce (λ p. has_node K a.settings p ≡ true) (map (λ x. x.what) a.nodes)
  pub keys : ListsOnce (λ k. is_some (look a.settings k) ≡ true) (map (λ x. x.what) a.entries)

-- what is marked
abbrev whats : List Marked → List (List ℕ)
whats l = map (λ x. x.what) l

-- ---- what the pieces of a result list

whats_sum_nodes : {A : Type 0} (f : A → Shared) (xs : List A) → whats (sum f xs).nodes ≡ flat (λ x. whats (f x).nodes) xs
whats_sum_nodes f [] = refl
whats_sum_nodes f (x ∷ xs) = map_join (λ y. y.what) (f x).nodes (sum f xs).nodes ∙ ap (λ l. whats (f x).nodes ++ l) (whats_sum_nodes f xs)

whats_sum_entries : {A : Type 0} (f : A → Shared) (xs : List A) → whats (sum f xs).entries ≡ flat (λ x. whats (f x).entries) xs
whats_sum_entries f [] = refl
whats_sum_entries f (x ∷ xs) = map_join (λ y. y.what) (f x).entries (sum f xs).entries ∙ ap (λ l. whats (f x).entries ++ l) (whats_sum_entries f xs)

entry_is : (n : ℕ) (sources : List Part) (s : Setting) → ((entry_from n sources s).nodes ≡ []) × (whats (entry_from n sources s).entries ≡ s.key ∷ [])
entry_is n [] s = (refl, refl)
entry_is n (a ∷ sources) s =
    cond_both (same_found (look a.settings s.key) (Some s.value)) _ (entry_from n sources s) (λ (x : Shared). (x.nodes ≡ []) × (whats x.entries ≡ s.key ∷ []))
    (λ e. (refl, refl)) (λ e. entry_is n sources s)

entries_are : (n : ℕ) (sources : List Part) (m : Map) → ((sum (entry_from n sources) m).nodes ≡ []) × (whats (sum (entry_from n sources) m).entries ≡ keys m)
entries_are n sources [] = (refl, refl)
entries_are n sources (s ∷ m) =
    let e = entry_is n sources s in
    let i = entries_are n sources m in
    (rw (e.0, i.0), map_join (λ y. y.what) (entry_from n sources s).entries (sum (entry_from n sources) m).entries ∙ rw (e.1, i.1))

keys_picked : (f : ℕ → Map) (gs : List ℕ) → keys (picked one (λ q. q) (map f gs)) ≡ flat (λ g. keys (f g)) (filter (λ g. one (f g)) gs)
keys_picked f [] = refl
keys_picked f (g ∷ gs) =
    map_join (λ s. s.key) (cond (one (f g)) (f g) []) (picked one (λ q. q) (map f gs))
    ∙ elim (one (f g)) as (λ b. keys (cond b (f g) []) ++ keys (picked one (λ q. q) (map f gs)) ≡ flat (λ h. keys (f h)) (cond b (g ∷ filter (λ h. one (f h)) gs) (filter (λ h. one (f h)) gs))) [
      | true ↦ ap (λ l. keys (f g) ++ l) (keys_picked f gs)
      | false ↦ keys_picked f gs
    ]

-- ---- sizes

one_or_many : (m : Map) (k : List ℕ) → Mem k (keys m) → (one m ≡ true) ⊎ (many m ≡ true)
one_or_many [] k n = absurd (Memᴰ.not-nil n)
one_or_many (s ∷ []) k n = inl refl
one_or_many (s ∷ (t ∷ m)) k n = inr (lt-ltb 1 _ (omega arith))

not_one_and_many : (m : Map) → one m ≡ true → many m ≡ true → ⊥
not_one_and_many m e f = omega (arith, eqb-true (length m) 1 e, ltb-true 1 (length m) f)

module _ (K : KeyKind) where
  -- a node of a trie, at or below a prefix
  abbrev InTrie : List ℕ → Map → List ℕ → Type 0
  InTrie p m q = (begins p q ≡ true) × (has_node K m q ≡ true)

  -- a part at a prefix with its marks
  abbrev Well : List ℕ → Map → List Marked → List Marked → Type 0
  Well p m nodes entries = ListsOnce (InTrie p m) (whats nodes) × ListsOnce (λ k. Mem k (keys m)) (whats entries)

  abbrev WellPart : List ℕ → Part → Type 0
  WellPart p a = Well p a.settings a.nodes a.entries

  -- so is what goes on by a digit
  well_below : (p : List ℕ) (g : ℕ) (a : Part) → WellPart p a → WellPart (p ++ (g ∷ [])) (below K p g a)
  well_below p g a w =
      let m : Map = a.settings in (
        subst (ListsOnce (InTrie (p ++ (g ∷ [])) (at_digit K (length p) m g))) (sym (map_filter (λ x. x.what) (begins (p ++ (g ∷ []))) a.nodes))
            (lists_like (λ q. InTrie p m q × (begins (p ++ (g ∷ [])) q ≡ true)) (InTrie (p ++ (g ∷ [])) (at_digit K (length p) m g)) _
            (λ q h. (h.1, node_on K m p g q h.1 ∙ h.0.1))
            (λ q h. ((begins_less p g q h.0, sym (node_on K m p g q h.0) ∙ h.1), h.0))
            (lists_filter (InTrie p m) (begins (p ++ (g ∷ []))) (whats a.nodes) w.0)),
        subst (ListsOnce (λ k. Mem k (keys (at_digit K (length p) m g)))) (sym (map_filter (λ x. x.what) (λ k. eqb (digit (K.hash k) (length p)) g) a.entries))
            (lists_like (λ k. Mem k (keys m) × (eqb (digit (K.hash k) (length p)) g ≡ true)) (λ k. Mem k (keys (at_digit K (length p) m g))) _
            (λ k h. key_at K (length p) m g k h.0 (eqb-true _ g h.1))
            (λ k h. let r = key_of_at K (length p) m g k h in (r.0, eq-eqb _ g r.1))
            (lists_filter (λ k. Mem k (keys m)) (λ k. eqb (digit (K.hash k) (length p)) g) (whats a.entries) w.1)),
      )

  -- ---- a new node

  module _ (p : List ℕ) (m : Map) (row : ℕ → List (List ℕ)) where
    -- it and what its children list
    fork_nodes : has_node K m p ≡ true → ((g : ℕ) → Mem g (branching K (length p) m) → ListsOnce (InTrie (p ++ (g ∷ [])) (at_digit K (length p) m g)) (row g)) →
        ListsOnce (InTrie p m) (p ∷ flat row (branching K (length p) m))
    fork_nodes top c = record {
      once = (
        λ n. let r = mem_of_flat row (branching K (length p) m) p n in begins_short p r.0 ((c r.0 r.1.0).each p r.1.1).0,
        distinct_flat row (λ g q. begins (p ++ (g ∷ [])) q ≡ true) (λ g h q. begins_apart p g h q) (branching K (length p) m)
            (distinct_filter (λ g. many (at_digit K (length p) m g)) sixteen sixteen_once) (λ g n. (c g n).once) (λ g n q o. ((c g n).each q o).0),
      );
      each = λ q n. elim (Memᴰ.cases_cons n) [
        | inl e ↦ subst (InTrie p m) (sym e) (begins_same p, top)
        | inr o ↦
            let r = mem_of_flat row (branching K (length p) m) q o in
            let t = (c r.0 r.1.0).each q r.1.1 in
            (begins_less p r.0 q t.0, sym (node_on K m p r.0 q t.0) ∙ t.1)
      ];
      all = λ q h. elim (begins_next p q h.0) [
        | inl e ↦ Memᴰ.head (sym e)
        | inr r ↦
            let n = node_branch K m p r.0 q r.1 h.1 in
            Memᴰ.tail (mem_flat row (branching K (length p) m) r.0 q n ((c r.0 n).all q (r.1, node_on K m p r.0 q r.1 ∙ h.1)))
      ];
    }

    -- its entries and what its children list
    fork_entries : Rises K m → ((g : ℕ) → Mem g (branching K (length p) m) → ListsOnce (λ k. Mem k (keys (at_digit K (length p) m g))) (row g)) →
        ListsOnce (λ k. Mem k (keys m)) (flat (λ g. keys (at_digit K (length p) m g)) (filter (λ g. one (at_digit K (length p) m g)) sixteen) ++ flat row (branching K (length p) m))
    fork_entries rises c =
        let d : ℕ = length p in
        let own : ℕ → List (List ℕ) = λ g. keys (at_digit K d m g) in
        let ones : List ℕ = filter (λ g. one (at_digit K d m g)) sixteen in
        let apart : (g h : ℕ) (k : List ℕ) → digit (K.hash k) d ≡ g → digit (K.hash k) d ≡ h → g ≡ h = λ g h k e f. sym e ∙ f in
        record {
          once = distinct_join (flat own ones) (flat row (branching K d m))
              (distinct_flat own (λ g k. digit (K.hash k) d ≡ g) apart ones (distinct_filter (λ g. one (at_digit K d m g)) sixteen sixteen_once)
              (λ g n. keys_once K (at_digit K d m g) (filter_rises K _ m rises)) (λ g n k o. (key_of_at K d m g k o).1))
              (distinct_flat row (λ g k. digit (K.hash k) d ≡ g) apart (branching K d m) (distinct_filter (λ g. many (at_digit K d m g)) sixteen sixteen_once)
              (λ g n. (c g n).once) (λ g n k o. (key_of_at K d m g k ((c g n).each k o)).1))
              (λ k x y.
              let r = mem_of_flat own ones k x in
              let t = mem_of_flat row (branching K d m) k y in
              let e : r.0 ≡ t.0 = sym (key_of_at K d m r.0 k r.1.1).1 ∙ (key_of_at K d m t.0 k ((c t.0 t.1.0).each k t.1.1)).1 in
              not_one_and_many (at_digit K d m t.0)
              (subst (λ g. one (at_digit K d m g) ≡ true) e (mem_of_filter (λ g. one (at_digit K d m g)) sixteen r.0 r.1.0).1)
              (mem_of_filter (λ g. many (at_digit K d m g)) sixteen t.0 t.1.0).1);
          each = λ k n. elim (Memᴰ.append_cases (flat own ones) n) [
            | inl o ↦ let r = mem_of_flat own ones k o in (key_of_at K d m r.0 k r.1.1).0
            | inr o ↦ let r = mem_of_flat row (branching K d m) k o in (key_of_at K d m r.0 k ((c r.0 r.1.0).each k r.1.1)).0
          ];
          all = λ k n.
              let g : ℕ = digit (K.hash k) d in
              let o : Mem k (own g) = key_at K d m g k n refl in
              let i : Mem g sixteen = sixteen_mem g (digit_below (K.hash k) d) in
              elim (one_or_many (at_digit K d m g) k o) [
                | inl e ↦ Memᴰ.append_left (flat row (branching K d m)) (mem_flat own ones g k (mem_filter (λ j. one (at_digit K d m j)) sixteen g i e) o)
                | inr e ↦
                    let b : Mem g (branching K d m) = mem_filter (λ j. many (at_digit K d m j)) sixteen g i e in
                    Memᴰ.append_right (flat own ones) (mem_flat row (branching K d m) g k b ((c g b).all k o))
              ];
        }

  -- ---- a result

  -- what a source has whole, or something else that is well
  kept_well : (p : List ℕ) (sources : List Part) (m : Map) (s : Shared) → AllByRecursion (WellPart p) sources → Well p m s.nodes s.entries →
      Well p m (kept_or (first_same sources m) s).nodes (kept_or (first_same sources m) s).entries
  kept_well p [] m s a w = w
  kept_well p (b ∷ sources) m s a w =
      cond_both (same_map b.settings m) (Some b) (first_same sources m) (λ (o : Option Part). Well p m (kept_or o s).nodes (kept_or o s).entries)
      (λ e. subst (λ x. Well p x b.nodes b.entries) (same_map_true b.settings m e) a.0) (λ e. kept_well p sources m s a.1 w)

  -- the marks of a result's part at a prefix with h levels below it
  share_well : (n h : ℕ) (p : List ℕ) (sources : List Part) (m : Map) → h + length p ≡ 8 → has_node K m p ≡ true → AllByRecursion (λ s. leads K 0 p s.key ≡ true) m → Rises K m →
      AllByRecursion (WellPart p) sources → Well p m (share K n h p sources m).nodes (share K n h p sources m).entries
  share_well n zero p sources m depth top led rises a =
      let e = entries_are n sources m in
      kept_well p sources m (new_node n p ⊕ sum (entry_from n sources) m) a (
        subst (λ (l : List Marked). ListsOnce (InTrie p m) (p ∷ whats l)) (sym e.0) (record {
          once = (λ x. Memᴰ.not-nil x, tt);
          each = λ q x. elim (Memᴰ.cases_cons x) [ inl i ↦ subst (InTrie p m) (sym i) (begins_same p, top) | inr o ↦ absurd (Memᴰ.not-nil o) ];
          all = λ q x. elim (begins_next p q x.0) [
            | inl i ↦ Memᴰ.head (sym i)
            | inr r ↦ absurd (omega (arith, begins_length (p ++ (r.0 ∷ [])) q r.1, length_on p r.0, node_short K m q x.1))
          ];
        }),
        subst (ListsOnce (λ k. Mem k (keys m))) (sym e.1) (record { once = keys_once K m rises; each = λ k x. x; all = λ k x. x }),
      )
  share_well n (suc h) p sources m depth top led rises a =
      let d : ℕ = length p in
      let bs : List ℕ = branching K d m in
      let es : List Setting = picked one (λ q. q) (parts K d m) in
      let on : ℕ → Shared = λ g. share K n h (p ++ (g ∷ [])) (map (below K p g) sources) (at_digit K d m g) in
      let e = entries_are n sources es in
      let c : (g : ℕ) → Mem g bs → Well (p ++ (g ∷ [])) (at_digit K d m g) (on g).nodes (on g).entries = λ g x.
      let t = length_on p g in
      share_well n h (p ++ (g ∷ [])) (map (below K p g) sources) (at_digit K d m g) (omega arith)
      (node_there K (at_digit K d m g) (p ++ (g ∷ [])) (omega arith) (omega arith) (led_on K m p g led) (mem_of_filter (λ i. many (at_digit K d m i)) sixteen g x).1)
      (led_on K m p g led) (filter_rises K _ m rises) (all_map (WellPart p) (WellPart (p ++ (g ∷ []))) (below K p g) (well_below p g) sources a) in
      kept_well p sources m (new_node n p ⊕ (sum (entry_from n sources) es ⊕ sum on bs)) a (
        subst (λ (l : List Marked). ListsOnce (InTrie p m) (p ∷ whats (l ++ (sum on bs).nodes))) (sym e.0)
            (subst (λ (l : List (List ℕ)). ListsOnce (InTrie p m) (p ∷ l)) (sym (whats_sum_nodes on bs)) (fork_nodes p m (λ g. whats (on g).nodes) top (λ g x. (c g x).0))),
        subst (ListsOnce (λ k. Mem k (keys m)))
            (sym (map_join (λ x. x.what) (sum (entry_from n sources) es).entries (sum on bs).entries
            ∙ ap₂ ◌++◌ (e.1 ∙ keys_picked (at_digit K d m) sixteen) (whats_sum_entries on bs)))
            (fork_entries p m (λ g. whats (on g).entries) rises (λ g x. (c g x).1)),
      )

  -- ---- at the root

  to_well : (a : Part) → MarkedWell K a → WellPart [] a
  to_well a w = (
    lists_like (λ q. has_node K a.settings q ≡ true) (InTrie [] a.settings) (whats a.nodes) (λ q h. (refl, h)) (λ q h. h.1) w.trie,
    lists_like (λ k. is_some (look a.settings k) ≡ true) (λ k. Mem k (keys a.settings)) (whats a.entries) (found_mem a.settings) (mem_found a.settings) w.keys,
  )

  of_well : (a : Part) → WellPart [] a → MarkedWell K a
  of_well a w = record {
    trie = lists_like (InTrie [] a.settings) (λ q. has_node K a.settings q ≡ true) (whats a.nodes) (λ q h. h.1) (λ q h. (refl, h)) w.0;
    keys = lists_like (λ k. Mem k (keys a.settings)) (λ k. is_some (look a.settings k) ≡ true) (whats a.entries) (mem_found a.settings) (found_mem a.settings) w.1;
  }

  none_well : Well [] [] [] []
  none_well = (
    record { once = tt; each = λ q x. absurd (Memᴰ.not-nil x); all = λ q h. absurd (no_node q h.1) },
    record { once = tt; each = λ k x. x; all = λ k x. x },
  )
    where
      no_node : (q : List ℕ) → has_node K [] q ≡ true → ⊥
      no_node [] e = false≢true e
      no_node (h ∷ q) e = false≢true (and_parts (leb (length (h ∷ q)) 8) false e).1

  -- it suffices that the map rises and that the sources' marks are whole
  pub result_well : (n : ℕ) (sources : List Part) (m : Map) → Rises K m → AllByRecursion (MarkedWell K) sources →
      MarkedWell K (record { settings = m; nodes = (shared K n sources m).nodes; entries = (shared K n sources m).entries })
  result_well n sources [] rises a = of_well (record { settings = []; nodes = []; entries = [] }) none_well
  result_well n sources (s ∷ m) rises a =
      of_well (record { settings = s ∷ m; nodes = (shared K n sources (s ∷ m)).nodes; entries = (shared K n sources (s ∷ m)).entries })
      (share_well n 8 [] sources (s ∷ m) refl (lt-ltb 0 _ (omega arith)) (all_from_mem _ (s ∷ m) (λ t x. refl)) rises (all_to (MarkedWell K) (WellPart []) to_well sources a))

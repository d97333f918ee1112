-- All sixteen digits of an edit of one key, made into a branch. Assumes nothing.
use Rattle.std.proofs.Common.{◌≡◌, ℕ, suc, ◌+◌, ◌-◌, ◌<◌, ◌≤◌, Bool, true, false, cond, ◌||◌, ltb, List, [], ◌∷◌, ◌++◌, map, length, get_or, take, is_some, Some, None, Option, sym, refl, ap, ◌∙◌, subst, inl, inr, arith}
use lib.Count.{ones}
use lib.Lanes.{mask_l}
use Rattle.std.specs.List.{range_with_len}
use Rattle.std.proofs.lemmas.List.FromFn.{length-map-range_with_len}
use Rattle.std.proofs.lemmas.List.{length_push}
use Rattle.std.proofs.lemmas.Bool.{or_cases, ltb-true, lt-ltb, cond-true, cond-false}
use Rattle.kinds.specs.Kinds.{KeyKind, ValueKind}
use Rattle.model.specs.Maps.{Map, same_map}
use Rattle.model.specs.Tries.{at_digit, parts, one, many, sixteen}
use Rattle.model.specs.Images.{bits}
use Rattle.model.specs.Sharing.{Part, Shared, first_same}
use Rattle.tables.specs.Chains.{occ}
use Rattle.tables.specs.Cells.{cell, listed}
use Rattle.tables.specs.Heaps.{Nodes}
use Rattle.tables.proofs.Rows.{from_map}
use Rattle.plans.specs.Plans.{portion, total, bushy}
use Rattle.plans.proofs.Rows.{sixteen_is}
use Rattle.plans.proofs.Costs.{portion_nodes}
use Rattle.plans.proofs.Sharing.{portion_bushy}
use Rattle.branches.specs.declared.branch.Branch.{Branch}
use Rattle.branches.specs.declared.branch.Branch.TheVariants.{Nothing, Entry, Child}
use Rattle.tables.specs.declared.cells.NodeCell.{NodeCell}
use Rattle.branches.specs.States.{Tables}
use Rattle.branches.specs.Branches.{Built}
use Rattle.branches.specs.Hands.{Gathered}
use Rattle.branches.specs.Handfuls.{makes_node, node_cell, Assembling, Assembled}
use Rattle.branches.proofs.Growing.{EntriesStay}
use Rattle.branches.proofs.Settings.{edited_same}
use Rattle.branches.proofs.Bundles.{bits_mask, bundled_entries, bundled_children}
use Rattle.branches.proofs.Gathering.{gathered_sizes, gathered_node, gathered_entry, gathered_nothing}
use Rattle.edits.specs.Sets.{Ready, Done}
use Rattle.edits.specs.Turns.{portion_at, result, Progress, Underway}
use Rattle.edits.proofs.Turns.{reads}

no_length : {A : Type 0} (l : List A) → length l ≡ 0 → l ≡ []
no_length [] e = refl
no_length (x ∷ l) e = absurd (omega arith)

one_length : (l : List ℕ) → length l ≡ 1 → l ≡ get_or l 0 0 ∷ []
one_length [] e = absurd (omega arith)
one_length (x ∷ []) e = refl
one_length (x ∷ (y ∷ l)) e = absurd (omega arith)

take_first : (n : ℕ) (l : List ℕ) → 0 < n → get_or (take n l) 0 0 ≡ get_or l 0 0
take_first Prim.Native.Nat.zero l p = absurd (omega arith)
take_first (suc n) [] p = refl
take_first (suc n) (x ∷ l) p = refl

-- a node in hand is a node by the number of its settings
bushy_hand : (kids singles size level : ℕ) → (0 < kids → 2 ≤ size) → singles ≤ size → (ltb 0 kids || ltb (cond (ltb level 8) 1 0) singles) ≡ true → ltb (cond (ltb level 8) 1 0) size ≡ true
bushy_hand kids singles size level two few e =
    elim (or_cases (ltb 0 kids) (ltb (cond (ltb level 8) 1 0) singles) e) [
      | inl y ↦ go (ltb level 8) (two (ltb-true 0 kids y))
      | inr y ↦ more (ltb level 8) y
    ]
  where
    go : (t : Bool) → 2 ≤ size → ltb (cond t 1 0) size ≡ true
    go true l = lt-ltb 1 size (omega arith)
    go false l = lt-ltb 0 size (omega arith)

    more : (t : Bool) → ltb (cond t 1 0) singles ≡ true → ltb (cond t 1 0) size ≡ true
    more true l = lt-ltb 1 size (omega (arith, ltb-true 1 singles l))
    more false l = lt-ltb 0 size (omega (arith, ltb-true 0 singles l))

room_one : (u total_16 share t : ℕ) → u + total_16 ≡ t → share ≡ total_16 + 1 → share ≤ t → 0 < u
room_one u total_16 share t a b c = omega arith

module _ {X Y : Type 0} (K : KeyKind) (V : ValueKind) (kb : X → List ℕ) (vb : Y → List ℕ) (T : Tables X Y) (b : Branch) (k : List ℕ) (x : Option (List ℕ)) (level : ℕ)
    (q : Ready K V kb vb T b k x level) (tall : 0 < level) (hand : NodeCell) (U : Tables X Y) (P : Progress K V kb vb T b k x level q 16 hand U) where
  abbrev n : ℕ
  n = q.call

  abbrev p : List ℕ
  p = q.prefix

  abbrev a : Part
  a = q.source

  abbrev m : Map
  m = result K V kb vb T b k x level q

  abbrev h : ℕ
  h = level - 1

  deep : length p + suc h ≡ 8
  deep = omega (arith, q.deep)

  up : suc h ≡ level
  up = omega arith

  -- the source is another map
  differs : first_same (a ∷ []) m ≡ None
  differs = cond-false (same_map a.settings m) (Some a) None (edited_same K V a.settings k q.sound q.key_reads x (reads V x q.value_reads) ∙ q.changed)

  entries_are : listed hand.datamap hand.entries ≡ P.xs
  entries_are = bundled_entries hand _ _ P.xs P.ks P.bundled (omega (arith, length-map-range_with_len (λ y. one (at_digit K (length p) m y)) 0 16))

  children_are : listed hand.nodemap hand.children ≡ P.ks
  children_are = bundled_children hand _ _ P.xs P.ks P.bundled (omega (arith, length-map-range_with_len (λ y. one (at_digit K (length p) m y)) 0 16))

  map_parts : (t : Map → Bool) → mask_l (map (λ y. t (at_digit K (length p) m y)) (range_with_len 0 16)) ≡ bits t (parts K (length p) m)
  map_parts t = ap mask_l (through (range_with_len 0 16)) ∙ sym (bits_mask t (map (at_digit K (length p) m) (range_with_len 0 16))) ∙ ap (λ (l : List ℕ). bits t (map (at_digit K (length p) m) l)) (sym sixteen_is)
    where
      through : (l : List ℕ) → map (λ y. t (at_digit K (length p) m y)) l ≡ map t (map (at_digit K (length p) m) l)
      through [] = refl
      through (y ∷ l) = ap (λ (r : List Bool). t (at_digit K (length p) m y) ∷ r) (through l)

  sizes : (P.ks ≡ [] → length m ≡ length P.xs) × ((0 < length P.ks → 2 ≤ length m) × (length P.xs ≤ length m))
  sizes = gathered_sizes K kb vb n h p (a ∷ []) m T q.notes q.roots q.in_hand deep P.xs P.ks U P.gathered

  is_bushy : makes_node hand level ≡ true → bushy level m ≡ true
  is_bushy e = bushy_hand (ones hand.nodemap) (ones hand.datamap) (length m) level (λ l. sizes.1.0 (omega (arith, P.bundled.kids_are, l))) (omega (arith, sizes.1.1, P.bundled.singles_are)) e

  room : makes_node hand level ≡ true → 0 < U.spare
  room e =
      let f : bushy (suc h) m ≡ true = ap (λ (l : ℕ). bushy l m) up ∙ is_bushy e in
      room_one U.spare (total (λ y. (portion_at K n h p a m y).new_nodes) sixteen) (portion K n level p (a ∷ []) m).new_nodes T.spare
      (ap (λ (l : List ℕ). U.spare + total (λ y. (portion_at K n h p a m y).new_nodes) l) sixteen_is ∙ P.spent)
      (ap (λ (l : ℕ). (portion K n l p (a ∷ []) m).new_nodes) (sym up) ∙ portion_nodes K n h (omega (arith, q.deep)) p (a ∷ []) m
      ∙ ap (λ (y : ℕ). total (λ y. (portion_at K n h p a m y).new_nodes) sixteen + y) (cond-true (bushy (suc h) m) _ 0 f ∙ ap (λ (o : Option Part). cond (is_some o) 0 1) differs))
      q.room

  -- the children are one level down
  lower : (c : ℕ) → 0 < occ c (listed hand.nodemap hand.children) → (cell U.nodes c).level < level
  lower c o =
      let r = from_map P.gathered.kid _ c (subst (λ (l : List ℕ). 0 < occ c l) (children_are ∙ P.gathered.kids_are) o) in
      let s = P.gathered.stand r.0 r.1.0 in
      let f = (P.gathered.sits.means.fits (P.gathered.kid r.0) s.held).level_is in
      omega (arith, f, ap length s.prefix, length_push p r.0, q.deep, ap (λ (i : ℕ). (cell U.nodes i).level) r.1.1)

  pub assembling : Assembling hand level U.nodes U.free U.spare
  assembling = record {
    room = room;
    heap = (q.roots, subst (λ (l : List ℕ). Nodes U.nodes U.free U.spare (l ++ q.roots)) (sym children_are) P.gathered.sits.nodes);
    below = lower;
  }

  raised : (r : Branch) (W : Tables X Y) → Built K kb vb n (suc h) p m (portion K n (suc h) p (a ∷ []) m) T q.notes q.roots q.in_hand r W → Built K kb vb n level p m (portion K n level p (a ∷ []) m) T q.notes q.roots q.in_hand r W
  raised r W = subst (λ (l : ℕ). Built K kb vb n l p m (portion K n l p (a ∷ []) m) T q.notes q.roots q.in_hand r W) up

  same_tables : (r : Branch) (W : Tables X Y) → W.nodes ≡ U.nodes → W.free ≡ U.free → W.spare ≡ U.spare → EntriesStay U W
      → Built K kb vb n level p m (portion K n level p (a ∷ []) m) T q.notes q.roots q.in_hand r U → Built K kb vb n level p m (portion K n level p (a ∷ []) m) T q.notes q.roots q.in_hand r W
  same_tables r W c f s stay B =
      let e : U ≡ W = λ i. record { nodes = sym c i; free = sym f i; spare = sym s i; entries = sym stay.0 i; entry_free = sym stay.1 i; entry_spare = sym stay.2 i } in
      subst (λ (Z : Tables X Y). Built K kb vb n level p m (portion K n level p (a ∷ []) m) T q.notes q.roots q.in_hand r Z) e B

  pub assembled : (r : Branch) (W : Tables X Y) → EntriesStay U W → Assembled hand level r U.nodes U.free U.spare W.nodes W.free W.spare
      → Built K kb vb n level p m (portion K n level p (a ∷ []) m) T q.notes q.roots q.in_hand r W
  assembled Nothing W stay A =
      let no_xs : P.xs ≡ [] = no_length P.xs (omega (arith, P.bundled.singles_are, A.1.0)) in
      let no_ks : P.ks ≡ [] = no_length P.ks (omega (arith, P.bundled.kids_are, A.0)) in
      let G = subst (λ (l : List ℕ). Gathered K kb vb n h p (a ∷ []) m T q.notes q.roots q.in_hand 16 [] l U) no_ks
      (subst (λ (l : List ℕ). Gathered K kb vb n h p (a ∷ []) m T q.notes q.roots q.in_hand 16 l P.ks U) no_xs P.gathered) in
      same_tables Nothing W A.1.1.0 A.1.1.1.0 A.1.1.1.1 stay
      (raised Nothing U (gathered_nothing K kb vb n h p (a ∷ []) m T q.notes q.roots q.in_hand deep U G).1)
  assembled (Entry e) W stay A =
      let one_x : P.xs ≡ e.0 ∷ [] =
      one_length P.xs (omega (arith, P.bundled.singles_are, A.1.1.0))
      ∙ ap (λ (y : ℕ). y ∷ []) (ap (λ (l : List ℕ). get_or l 0 0) (sym P.bundled.entries_are) ∙ take_first (ones hand.datamap) hand.entries (omega (arith, A.1.1.0)) ∙ sym A.1.1.1.0) in
      let no_ks : P.ks ≡ [] = no_length P.ks (omega (arith, P.bundled.kids_are, A.1.0)) in
      let G = subst (λ (l : List ℕ). Gathered K kb vb n h p (a ∷ []) m T q.notes q.roots q.in_hand 16 (e.0 ∷ []) l U) no_ks
      (subst (λ (l : List ℕ). Gathered K kb vb n h p (a ∷ []) m T q.notes q.roots q.in_hand 16 l P.ks U) one_x P.gathered) in
      same_tables (Entry e) W A.1.1.1.1.0 A.1.1.1.1.1.0 A.1.1.1.1.1.1 stay
      (raised (Entry e) U (gathered_entry K kb vb n h p (a ∷ []) m T q.notes q.roots q.in_hand deep e U G (omega (arith, A.0))).1)
  assembled (Child i) W stay A =
      let f : bushy (suc h) m ≡ true = ap (λ (l : ℕ). bushy l m) up ∙ is_bushy A.0 in
      raised (Child i) W
      (subst (λ (s : Shared). Built K kb vb n (suc h) p m s T q.notes q.roots q.in_hand (Child i) W) (sym (portion_bushy K n (suc h) p (a ∷ []) m f))
      (gathered_node K kb vb n h p (a ∷ []) m T q.notes q.roots q.in_hand deep P.xs P.ks U P.gathered q.clear differs f i (node_cell hand level) W stay A.1
      children_are entries_are (P.bundled.data_bits ∙ map_parts one) (P.bundled.node_bits ∙ map_parts many) (sym up) (omega arith)))

-- ---- whatever the edit is of

module _ {X Y : Type 0} (K : KeyKind) (V : ValueKind) (kb : X → List ℕ) (vb : Y → List ℕ) (T : Tables X Y) (b : Branch) (k : List ℕ) (x : Option (List ℕ)) (level : ℕ)
    (tall : 0 < level) (g : ℕ) (hand : NodeCell) (U : Tables X Y) (I : Underway K V kb vb T b k x level g hand U) (all : g ≡ 16) where
  at_end : (q : Ready K V kb vb T b k x level) → Progress K V kb vb T b k x level q 16 hand U
  at_end q = subst (λ (y : ℕ). Progress K V kb vb T b k x level q y hand U) all (I.so_far q tall)

  pub ready_whole : Ready K V kb vb T b k x level → Assembling hand level U.nodes U.free U.spare
  ready_whole q = assembling K V kb vb T b k x level q tall hand U (at_end q)

  pub done_whole : (r : Branch) (W : Tables X Y) → EntriesStay U W → Assembled hand level r U.nodes U.free U.spare W.nodes W.free W.spare → Done K V kb vb T b k x level r W
  done_whole r W stay A = record { built = λ q. assembled K V kb vb T b k x level q tall hand U (at_end q) r W stay A }

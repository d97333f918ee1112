-- A result of any sources, taken up digit by digit, and made into a branch. Assumes nothing.
use Rattle.std.proofs.Common.{◌≡◌, ℕ, suc, ◌+◌, ◌^◌, ◌<◌, ◌≤◌, Bool, true, false, cond, ◌||◌, ltb, List, [], ◌∷◌, ◌++◌, map, length, get_or, take, is_some, None, Option, sym, refl, ap, ◌∙◌, subst, inl, inr, arith}
use lib.Count.{ones}
use lib.Lanes.{mask_l}
use Rattle.std.specs.List.{range_with_len}
use Rattle.std.proofs.lemmas.List.FromFn.{length-map-range_with_len, map-range_with_len_more}
use Rattle.std.proofs.lemmas.List.{length_push}
use Rattle.std.proofs.lemmas.Bool.{or_cases, ltb-true, lt-ltb, cond-true, ne_eqb}
use Rattle.kinds.specs.Kinds.{KeyKind}
use Rattle.model.specs.Maps.{Map}
use Rattle.model.specs.Tries.{at_digit, parts, one, many, sixteen}
use Rattle.model.specs.Images.{bits}
use Rattle.model.specs.Sharing.{Part, Shared, below, first_same}
use Rattle.tables.specs.declared.cells.NodeCell.{NodeCell}
use Rattle.tables.specs.Chains.{occ}
use Rattle.tables.specs.Cells.{cell, listed}
use Rattle.tables.specs.Heaps.{Nodes}
use Rattle.tables.proofs.Rows.{from_map}
use Rattle.plans.specs.Plans.{portion, total, bushy}
use Rattle.plans.proofs.Rows.{sixteen_is, counting_more, total_more, total_part}
use Rattle.plans.proofs.Costs.{portion_nodes, portion_entries}
use Rattle.plans.proofs.Sharing.{portion_bushy}
use Rattle.branches.specs.declared.branch.Branch.{Branch}
use Rattle.branches.specs.declared.branch.Branch.TheVariants.{Nothing, Entry, Child}
use Rattle.branches.specs.States.{Tables, Notes, Sits, Clear, Under, Led}
use Rattle.branches.specs.Branches.{Is, Built, node_of, entry_of}
use Rattle.branches.specs.Hands.{Gathered}
use Rattle.branches.specs.Handfuls.{Bundled, nothing_in_hand, with_branch, is_entry, is_child, makes_node, node_cell, Assembling, Assembled}
use Rattle.branches.proofs.Growing.{EntriesStay}
use Rattle.branches.proofs.Bundles.{bits_mask, bundled_none, bundled_more, bundled_few, bundled_fits, bundled_entries, bundled_children}
use Rattle.branches.proofs.Gathering.{bushy_many, gathered_none, gathered_more, gathered_sizes, gathered_node, gathered_entry, gathered_nothing}

-- ---- a branch says how many settings a part has

pub sizes_are : {X Y : Type 0} (T : Tables X Y) (N : Notes) (b : Branch) (h : ℕ) (p : List ℕ) (a : Part) → h < 8 → Is T N b h p a → (one a.settings ≡ is_entry b) × (many a.settings ≡ is_child b)
sizes_are T N Nothing h p a low is = (ap (λ (c : Part). one c.settings) is, ap (λ (c : Part). many c.settings) is)
sizes_are T N (Entry e) h p a low is = (ap one is.1.settings, ap many is.1.settings)
sizes_are T N (Child i) h p a low is = several a.settings (bushy_many h a.settings low is.1)
  where
    several : (m : Map) → 1 < length m → (one m ≡ false) × (many m ≡ true)
    several [] l = absurd (omega arith)
    several (s ∷ []) l = absurd (omega arith)
    several (s ∷ (t ∷ m)) l = (ne_eqb (length (s ∷ (t ∷ m))) 1 (λ e. omega arith), lt-ltb 1 (length (s ∷ (t ∷ m))) l)

-- ---- over bare numbers

room_left : (u total_g total_16 extra at_g share t : ℕ) → u + total_g ≡ t → share ≡ total_16 + extra → share ≤ t → total_g + at_g ≤ total_16 → at_g ≤ u
room_left u total_g total_16 extra at_g share t a b c d = omega arith

spend : (w u c t t' s : ℕ) → w + c ≡ u → u + t ≡ s → t' ≡ t + c → w + t' ≡ s
spend w u c t t' s a b e = omega arith

room_one : (u total_16 share t : ℕ) → u + total_16 ≡ t → share ≡ total_16 + 1 → share ≤ t → 0 < u
room_one u total_16 share t a b c = omega arith

total_next : (f : ℕ → ℕ) (g : ℕ) → total f (range_with_len 0 (suc g)) ≡ total f (range_with_len 0 g) + f g
total_next f g = let z : 0 + g ≡ g = omega arith in ap (total f) (counting_more g 0) ∙ total_more f (range_with_len 0 g) (0 + g) ∙ ap (λ (y : ℕ). total f (range_with_len 0 g) + f y) z

total_in : (f : ℕ → ℕ) (g : ℕ) → g < 16 → total f (range_with_len 0 g) + f g ≤ total f sixteen
total_in f g l =
    let e = total_next f g in
    let r = total_part f (suc g) 16 0 (omega arith) in
    omega (arith, e, r, ap (total f) sixteen_is)

no_length : {A : Type 0} (l : List A) → length l ≡ 0 → l ≡ []
no_length [] e = refl
no_length (x ∷ l) e = absurd (omega arith)

one_length : (l : List ℕ) → length l ≡ 1 → l ≡ get_or l 0 0 ∷ []
one_length [] e = absurd (omega arith)
one_length (x ∷ []) e = refl
one_length (x ∷ (y ∷ l)) e = absurd (omega arith)

take_first : (n : ℕ) (l : List ℕ) → 0 < n → get_or (take n l) 0 0 ≡ get_or l 0 0
take_first Prim.Native.Nat.zero l p = absurd (omega arith)
take_first (suc n) [] p = refl
take_first (suc n) (x ∷ l) p = refl

-- what is in hand is a node by the number of its settings
bushy_hand : (kids singles size level : ℕ) → (0 < kids → 2 ≤ size) → singles ≤ size → (ltb 0 kids || ltb (cond (ltb level 8) 1 0) singles) ≡ true → ltb (cond (ltb level 8) 1 0) size ≡ true
bushy_hand kids singles size level two few e =
    elim (or_cases (ltb 0 kids) (ltb (cond (ltb level 8) 1 0) singles) e) [
      | inl y ↦ go (ltb level 8) (two (ltb-true 0 kids y))
      | inr y ↦ more (ltb level 8) y
    ]
  where
    go : (t : Bool) → 2 ≤ size → ltb (cond t 1 0) size ≡ true
    go true l = lt-ltb 1 size (omega arith)
    go false l = lt-ltb 0 size (omega arith)

    more : (t : Bool) → ltb (cond t 1 0) singles ≡ true → ltb (cond t 1 0) size ≡ true
    more true l = lt-ltb 1 size (omega (arith, ltb-true 1 singles l))
    more false l = lt-ltb 0 size (omega (arith, ltb-true 0 singles l))

module _ {X Y : Type 0} (K : KeyKind) (kb : X → List ℕ) (vb : Y → List ℕ) (n h : ℕ) (p : List ℕ) (sources : List Part) (m : Map)
    (T : Tables X Y) (N : Notes) (R E : List ℕ) where
  -- the result's part at a digit, and what it shares
  abbrev pub result_at : ℕ → Map
  result_at g = at_digit K (length p) m g

  abbrev pub portion_at : ℕ → Shared
  portion_at g = portion K n h (p ++ (g ∷ [])) (map (below K p g) sources) (result_at g)

  -- all of the result at the digits before g is in hand, and paid for
  pub record Turned (g : ℕ) (hand : NodeCell) (U : Tables X Y) : Type 0 where
    pub xs : List ℕ
    pub ks : List ℕ
    pub gathered : Gathered K kb vb n h p sources m T N R E g xs ks U
    pub bundled : Bundled hand (map (λ y. one (result_at y)) (range_with_len 0 g)) (map (λ y. many (result_at y)) (range_with_len 0 g)) xs ks
    pub spent : U.spare + total (λ y. (portion_at y).new_nodes) (range_with_len 0 g) ≡ T.spare
    pub entry_spent : U.entry_spare + total (λ y. (portion_at y).new_entries) (range_with_len 0 g) ≡ T.entry_spare

  module _ (deep : length p + suc h ≡ 8) where
    low : h < 8
    low = omega (arith, deep)

    pub turned_none : Sits K kb vb T N R E → Turned 0 nothing_in_hand T
    turned_none S = record {
      xs = [];
      ks = [];
      gathered = gathered_none K kb vb n h p sources m T N R E deep S;
      bundled = bundled_none;
      spent = omega arith;
      entry_spent = omega arith;
    }

    module _ (g : ℕ) (hand : NodeCell) (U : Tables X Y) (P : Turned g hand U) (small : g < 16) where
      as_long : (f : ℕ → Bool) → length (map f (range_with_len 0 g)) ≡ g
      as_long f = length-map-range_with_len f 0 g

      pub slots_left : ((ones hand.datamap) < 16) × ((ones hand.nodemap) < 16)
      slots_left =
          let w = bundled_few hand _ _ P.xs P.ks P.bundled in
          let e = as_long (λ y. one (result_at y)) in
          (omega (arith, w.0, e), omega (arith, w.1, e))

      -- the bits in hand are below the digit's
      pub bits_left : (hand.datamap < 2 ^ g) × (hand.nodemap < 2 ^ g)
      bits_left =
          let w = bundled_fits hand _ _ P.xs P.ks P.bundled in
          let e = as_long (λ y. one (result_at y)) in
          (subst (λ (y : ℕ). hand.datamap < 2 ^ y) e w.0, subst (λ (y : ℕ). hand.nodemap < 2 ^ y) e w.1)

      -- as many things are in hand as digits at most
      pub in_hand_few : (length P.ks ≤ g) × (length P.xs ≤ g)
      in_hand_few =
          let w = bundled_few hand _ _ P.xs P.ks P.bundled in
          let e = as_long (λ y. one (result_at y)) in
          (omega (arith, w.1, e, P.bundled.kids_are), omega (arith, w.0, e, P.bundled.singles_are))

      -- there is room for what the digit takes
      pub node_room : (portion K n (suc h) p sources m).new_nodes ≤ T.spare → (portion_at g).new_nodes ≤ U.spare
      node_room room =
          room_left U.spare _ (total (λ y. (portion_at y).new_nodes) sixteen) _ _ (portion K n (suc h) p sources m).new_nodes T.spare P.spent
          (portion_nodes K n h low p sources m) room (total_in (λ y. (portion_at y).new_nodes) g small)

      pub entry_room : (portion K n (suc h) p sources m).new_entries ≤ T.entry_spare → (portion_at g).new_entries ≤ U.entry_spare
      entry_room room =
          room_left U.entry_spare _ (total (λ y. (portion_at y).new_entries) sixteen) 0 _ (portion K n (suc h) p sources m).new_entries T.entry_spare P.entry_spent
          (portion_entries K n h low p sources m ∙ (let z : (y : ℕ) → y ≡ y + 0 = λ y. omega arith in z _)) room (total_in (λ y. (portion_at y).new_entries) g small)

      -- the branch of the digit in hand
      pub turned_more : (r : Branch) (W : Tables X Y) → Built K kb vb n h (p ++ (g ∷ [])) (result_at g) (portion_at g) U P.gathered.notes (P.ks ++ R) (P.xs ++ E) r W
          → Turned (g + 1) (with_branch hand g r) W
      turned_more r W B =
          let z : suc g ≡ g + 1 = omega arith in
          let s = sizes_are W B.notes r h (p ++ (g ∷ [])) _ low B.is in
          let one_more = map-range_with_len_more (λ y. one (result_at y)) 0 g g (omega arith) ∙ ap (λ (t : Bool). map (λ y. one (result_at y)) (range_with_len 0 g) ++ (t ∷ [])) s.0 in
          let many_more = map-range_with_len_more (λ y. many (result_at y)) 0 g g (omega arith) ∙ ap (λ (t : Bool). map (λ y. many (result_at y)) (range_with_len 0 g) ++ (t ∷ [])) s.1 in
          let w = bundled_more hand _ _ P.xs P.ks P.bundled r slots_left.0 slots_left.1 in
          let v = subst (λ (y : ℕ). Bundled (with_branch hand y r) (map (λ y. one (result_at y)) (range_with_len 0 g) ++ (is_entry r ∷ [])) (map (λ y. many (result_at y)) (range_with_len 0 g) ++ (is_child r ∷ [])) (P.xs ++ entry_of r) (P.ks ++ node_of r)) (as_long (λ y. one (result_at y))) w in
          record {
            xs = P.xs ++ entry_of r;
            ks = P.ks ++ node_of r;
            gathered = subst (λ (y : ℕ). Gathered K kb vb n h p sources m T N R E y (P.xs ++ entry_of r) (P.ks ++ node_of r) W) z
                (gathered_more K kb vb n h p sources m T N R E deep g P.xs P.ks U P.gathered r W small B);
            bundled = subst (λ (l : List Bool). Bundled (with_branch hand g r) l (map (λ y. many (result_at y)) (range_with_len 0 (g + 1))) (P.xs ++ entry_of r) (P.ks ++ node_of r)) (sym one_more)
                (subst (λ (l : List Bool). Bundled (with_branch hand g r) (map (λ y. one (result_at y)) (range_with_len 0 g) ++ (is_entry r ∷ [])) l (P.xs ++ entry_of r) (P.ks ++ node_of r)) (sym many_more) v);
            spent = spend W.spare U.spare _ _ (total (λ y. (portion_at y).new_nodes) (range_with_len 0 (g + 1))) T.spare B.cost P.spent
                (ap (λ (y : ℕ). total (λ y. (portion_at y).new_nodes) (range_with_len 0 y)) (sym z) ∙ total_next (λ y. (portion_at y).new_nodes) g);
            entry_spent = spend W.entry_spare U.entry_spare _ _ (total (λ y. (portion_at y).new_entries) (range_with_len 0 (g + 1))) T.entry_spare B.entry_cost P.entry_spent
                (ap (λ (y : ℕ). total (λ y. (portion_at y).new_entries) (range_with_len 0 y)) (sym z) ∙ total_next (λ y. (portion_at y).new_entries) g);
          }

    -- ---- all sixteen digits, where no source has the part, or it is no node

    module _ (hand : NodeCell) (U : Tables X Y) (P : Turned 16 hand U) (differs : bushy (suc h) m ≡ true → first_same sources m ≡ None) where
      entries_are : listed hand.datamap hand.entries ≡ P.xs
      entries_are = bundled_entries hand _ _ P.xs P.ks P.bundled (omega (arith, length-map-range_with_len (λ y. one (result_at y)) 0 16))

      children_are : listed hand.nodemap hand.children ≡ P.ks
      children_are = bundled_children hand _ _ P.xs P.ks P.bundled (omega (arith, length-map-range_with_len (λ y. one (result_at y)) 0 16))

      map_parts : (t : Map → Bool) → mask_l (map (λ y. t (result_at y)) (range_with_len 0 16)) ≡ bits t (parts K (length p) m)
      map_parts t = ap mask_l (through (range_with_len 0 16)) ∙ sym (bits_mask t (map result_at (range_with_len 0 16))) ∙ ap (λ (l : List ℕ). bits t (map result_at l)) (sym sixteen_is)
        where
          through : (l : List ℕ) → map (λ y. t (result_at y)) l ≡ map t (map result_at l)
          through [] = refl
          through (y ∷ l) = ap (λ (r : List Bool). t (result_at y) ∷ r) (through l)

      sizes : (P.ks ≡ [] → length m ≡ length P.xs) × ((0 < length P.ks → 2 ≤ length m) × (length P.xs ≤ length m))
      sizes = gathered_sizes K kb vb n h p sources m T N R E deep P.xs P.ks U P.gathered

      is_bushy : makes_node hand (suc h) ≡ true → bushy (suc h) m ≡ true
      is_bushy e = bushy_hand (ones hand.nodemap) (ones hand.datamap) (length m) (suc h) (λ l. sizes.1.0 (omega (arith, P.bundled.kids_are, l))) (omega (arith, sizes.1.1, P.bundled.singles_are)) e

      room : (portion K n (suc h) p sources m).new_nodes ≤ T.spare → makes_node hand (suc h) ≡ true → 0 < U.spare
      room enough e =
          room_one U.spare (total (λ y. (portion_at y).new_nodes) sixteen) (portion K n (suc h) p sources m).new_nodes T.spare
          (ap (λ (l : List ℕ). U.spare + total (λ y. (portion_at y).new_nodes) l) sixteen_is ∙ P.spent)
          (portion_nodes K n h low p sources m
          ∙ ap (λ (y : ℕ). total (λ y. (portion_at y).new_nodes) sixteen + y) (cond-true (bushy (suc h) m) _ 0 (is_bushy e) ∙ ap (λ (o : Option Part). cond (is_some o) 0 1) (differs (is_bushy e))))
          enough

      -- the children are one level down
      lower : (c : ℕ) → 0 < occ c (listed hand.nodemap hand.children) → (cell U.nodes c).level < suc h
      lower c o =
          let r = from_map P.gathered.kid _ c (subst (λ (l : List ℕ). 0 < occ c l) (children_are ∙ P.gathered.kids_are) o) in
          let s = P.gathered.stand r.0 r.1.0 in
          let f = (P.gathered.sits.means.fits (P.gathered.kid r.0) s.held).level_is in
          omega (arith, f, ap length s.prefix, length_push p r.0, deep, ap (λ (i : ℕ). (cell U.nodes i).level) r.1.1)

      pub turned_assembles : (portion K n (suc h) p sources m).new_nodes ≤ T.spare → Assembling hand (suc h) U.nodes U.free U.spare
      turned_assembles enough = record {
        room = room enough;
        heap = (R, subst (λ (l : List ℕ). Nodes U.nodes U.free U.spare (l ++ R)) (sym children_are) P.gathered.sits.nodes);
        below = lower;
      }

      same_tables : (r : Branch) (W : Tables X Y) → W.nodes ≡ U.nodes → W.free ≡ U.free → W.spare ≡ U.spare → EntriesStay U W
          → Built K kb vb n (suc h) p m (portion K n (suc h) p sources m) T N R E r U → Built K kb vb n (suc h) p m (portion K n (suc h) p sources m) T N R E r W
      same_tables r W c f s stay B =
          let e : U ≡ W = λ i. record { nodes = sym c i; free = sym f i; spare = sym s i; entries = sym stay.0 i; entry_free = sym stay.1 i; entry_spare = sym stay.2 i } in
          subst (λ (Z : Tables X Y). Built K kb vb n (suc h) p m (portion K n (suc h) p sources m) T N R E r Z) e B

      pub turned_assembled : Clear n (Under p) (Led K p) T N → (r : Branch) (W : Tables X Y) → EntriesStay U W → Assembled hand (suc h) r U.nodes U.free U.spare W.nodes W.free W.spare
          → Built K kb vb n (suc h) p m (portion K n (suc h) p sources m) T N R E r W
      turned_assembled clear Nothing W stay A =
          let no_xs : P.xs ≡ [] = no_length P.xs (omega (arith, P.bundled.singles_are, A.1.0)) in
          let no_ks : P.ks ≡ [] = no_length P.ks (omega (arith, P.bundled.kids_are, A.0)) in
          let G = subst (λ (l : List ℕ). Gathered K kb vb n h p sources m T N R E 16 [] l U) no_ks
          (subst (λ (l : List ℕ). Gathered K kb vb n h p sources m T N R E 16 l P.ks U) no_xs P.gathered) in
          same_tables Nothing W A.1.1.0 A.1.1.1.0 A.1.1.1.1 stay
          (gathered_nothing K kb vb n h p sources m T N R E deep U G).1
      turned_assembled clear (Entry e) W stay A =
          let one_x : P.xs ≡ e.0 ∷ [] =
          one_length P.xs (omega (arith, P.bundled.singles_are, A.1.1.0))
          ∙ ap (λ (y : ℕ). y ∷ []) (ap (λ (l : List ℕ). get_or l 0 0) (sym P.bundled.entries_are) ∙ take_first (ones hand.datamap) hand.entries (omega (arith, A.1.1.0)) ∙ sym A.1.1.1.0) in
          let no_ks : P.ks ≡ [] = no_length P.ks (omega (arith, P.bundled.kids_are, A.1.0)) in
          let G = subst (λ (l : List ℕ). Gathered K kb vb n h p sources m T N R E 16 (e.0 ∷ []) l U) no_ks
          (subst (λ (l : List ℕ). Gathered K kb vb n h p sources m T N R E 16 l P.ks U) one_x P.gathered) in
          same_tables (Entry e) W A.1.1.1.1.0 A.1.1.1.1.1.0 A.1.1.1.1.1.1 stay
          (gathered_entry K kb vb n h p sources m T N R E deep e U G (omega (arith, A.0))).1
      turned_assembled clear (Child i) W stay A =
          let f : bushy (suc h) m ≡ true = is_bushy A.0 in
          subst (λ (s : Shared). Built K kb vb n (suc h) p m s T N R E (Child i) W) (sym (portion_bushy K n (suc h) p sources m f))
          (gathered_node K kb vb n h p sources m T N R E deep P.xs P.ks U P.gathered clear (differs f) f i (node_cell hand (suc h)) W stay A.1
          children_are entries_are (P.bundled.data_bits ∙ map_parts one) (P.bundled.node_bits ∙ map_parts many) refl (omega arith))

-- One digit after another of an edit of one key. Assumes nothing.
use Rattle.std.proofs.Common.{◌≡◌, ℕ, suc, ◌+◌, ◌-◌, ◌*◌, ◌^◌, ◌<◌, ◌≤◌, Bool, true, false, eqb, List, [], ◌∷◌, ◌++◌, map, length, Some, None, Option, sym, ap, ◌∙◌, subst, ap₂, arith, length-append}
use lib.Count.{ones}
use Rattle.std.specs.List.{range_with_len}
use Rattle.std.proofs.lemmas.List.FromFn.{length-map-range_with_len, map-range_with_len_more}
use Rattle.std.proofs.lemmas.List.{length_push}
use Rattle.std.proofs.lemmas.Bool.{eq-eqb, eqb-true, eqb-false, ne_eqb, lt-ltb, cond-true, and_from}
use Rattle.kinds.specs.Kinds.{KeyKind, ValueKind}
use Rattle.model.specs.Maps.{Map, look, same_found}
use Rattle.model.specs.Tries.{digit, leads, at_digit, one, many, sixteen}
use Rattle.model.specs.Sharing.{Part, below}
use Rattle.model.proofs.Images.Gets.{leads_push}
use Rattle.model.proofs.Maps.Order.{Reads}
use Rattle.plans.specs.Plans.{edited, crowd, portion, total}
use Rattle.plans.proofs.Rows.{sixteen_is, counting_more, total_more, total_part}
use Rattle.plans.proofs.Digits.{falls, look_at, sound_at}
use Rattle.plans.proofs.Edits.{at_edited_here, at_edited_other}
use Rattle.plans.proofs.Crowds.{crowd_at}
use Rattle.plans.proofs.Costs.{portion_nodes, portion_entries}
use Rattle.branches.specs.declared.branch.Branch.{Branch}
use Rattle.branches.specs.declared.branch.Branch.TheVariants.{Nothing, Entry, Child}
use Rattle.tables.specs.declared.cells.NodeCell.{NodeCell}
use Rattle.branches.specs.States.{Tables, Notes}
use Rattle.branches.specs.Branches.{Is, Built, GoesOn, SomePart, Stays, Kept, node_of, entry_of}
use Rattle.branches.specs.Hands.{Gathered}
use Rattle.branches.specs.Handfuls.{Bundled, nothing_in_hand, with_branch, is_entry, is_child}
use Rattle.branches.proofs.Growing.{is_grown}
use Rattle.branches.proofs.Kept.{portion_kept}
use Rattle.branches.proofs.Bundles.{bundled_none, bundled_more, bundled_few, bundled_fits}
use Rattle.branches.proofs.Gathering.{bushy_many, gathered_none, gathered_clear, gathered_more}
use Rattle.edits.specs.Sets.{Ready, Done, ValueReads}
use Rattle.edits.specs.Turns.{portion_at, result, Progress, Underway}

-- ---- digits compared

pub same_digit : (g d : ℕ) (r : Bool) → r ≡ eqb g d → r ≡ true → g ≡ d
same_digit g d r e t = eqb-true g d (sym e ∙ t)

pub other_digit : (g d : ℕ) (r : Bool) → r ≡ eqb g d → r ≡ false → g ≡ d → ⊥
other_digit g d r e t = eqb-false g d (sym e ∙ t)

-- ---- a branch says how many settings a part has

pub sizes_are : {X Y : Type 0} (T : Tables X Y) (N : Notes) (b : Branch) (h : ℕ) (p : List ℕ) (a : Part) → h < 8 → Is T N b h p a → (one a.settings ≡ is_entry b) × (many a.settings ≡ is_child b)
sizes_are T N Nothing h p a low is = (ap (λ (c : Part). one c.settings) is, ap (λ (c : Part). many c.settings) is)
sizes_are T N (Entry e) h p a low is = (ap one is.1.settings, ap many is.1.settings)
sizes_are T N (Child i) h p a low is = several a.settings (bushy_many h a.settings low is.1)
  where
    several : (m : Map) → 1 < length m → (one m ≡ false) × (many m ≡ true)
    several [] l = absurd (omega arith)
    several (s ∷ []) l = absurd (omega arith)
    several (s ∷ (t ∷ m)) l = (ne_eqb (length (s ∷ (t ∷ m))) 1 (λ e. omega arith), lt-ltb 1 (length (s ∷ (t ∷ m))) l)

-- what is set reads as the model has it
pub reads : (V : ValueKind) (x : Option (List ℕ)) → ValueReads V x → Reads V x
reads V (Some v) r = r
reads V None r = r

-- ---- over bare numbers

room_left : (u total_g total_16 extra at_g share t : ℕ) → u + total_g ≡ t → share ≡ total_16 + extra → share ≤ t → total_g + at_g ≤ total_16 → at_g ≤ u
room_left u total_g total_16 extra at_g share t a b c d = omega arith

spend : (w u c t t' s : ℕ) → w + c ≡ u → u + t ≡ s → t' ≡ t + c → w + t' ≡ s
spend w u c t t' s a b e = omega arith

few_left : (ks r h l g : ℕ) → ks ≤ g → g < 16 → h + 1 ≡ l → r + 16 * l + 16 ≤ 65535 → (ks + r) + 16 * h + 16 ≤ 65535
few_left ks r h l g a b c d = omega arith

few_enough : (ks r h l g : ℕ) → ks ≤ g → g < 16 → h + 1 ≡ l → r + 16 * l + 16 ≤ 65535 → ks + r ≤ 65535
few_enough ks r h l g a b c d = omega arith

total_next : (f : ℕ → ℕ) (g : ℕ) → total f (range_with_len 0 (suc g)) ≡ total f (range_with_len 0 g) + f g
total_next f g = let z : 0 + g ≡ g = omega arith in ap (total f) (counting_more g 0) ∙ total_more f (range_with_len 0 g) (0 + g) ∙ ap (λ (y : ℕ). total f (range_with_len 0 g) + f y) z

total_in : (f : ℕ → ℕ) (g : ℕ) → g < 16 → total f (range_with_len 0 g) + f g ≤ total f sixteen
total_in f g l =
    let e = total_next f g in
    let r = total_part f (suc g) 16 0 (omega arith) in
    omega (arith, e, r, ap (total f) sixteen_is)

module _ {X Y : Type 0} (K : KeyKind) (V : ValueKind) (kb : X → List ℕ) (vb : Y → List ℕ) (T : Tables X Y) (b : Branch) (k : List ℕ) (x : Option (List ℕ)) (level : ℕ)
    (q : Ready K V kb vb T b k x level) (tall : 0 < level) where
  abbrev n : ℕ
  n = q.call

  abbrev p : List ℕ
  p = q.prefix

  abbrev a : Part
  a = q.source

  abbrev m : Map
  m = result K V kb vb T b k x level q

  abbrev h : ℕ
  h = level - 1

  deep : length p + suc h ≡ 8
  deep = omega (arith, q.deep)

  low : h < 8
  low = omega (arith, q.deep)

  -- ---- no digit yet
  pub progress_none : Progress K V kb vb T b k x level q 0 nothing_in_hand T
  progress_none = record {
    xs = [];
    ks = [];
    gathered = gathered_none K kb vb n h p (a ∷ []) m T q.notes q.roots q.in_hand deep q.sits;
    bundled = bundled_none;
    spent = omega arith;
    entry_spent = omega arith;
  }

  module _ (g : ℕ) (hand : NodeCell) (U : Tables X Y) (P : Progress K V kb vb T b k x level q g hand U) (small : g < 16) where
    as_long : (f : ℕ → Bool) → length (map f (range_with_len 0 g)) ≡ g
    as_long f = length-map-range_with_len f 0 g

    pub slots_left : ((ones hand.datamap) < 16) × ((ones hand.nodemap) < 16)
    slots_left =
        let w = bundled_few hand _ _ P.xs P.ks P.bundled in
        let e = as_long (λ y. one (at_digit K (length p) m y)) in
        (omega (arith, w.0, e), omega (arith, w.1, e))

    pub bits_left : (hand.datamap < 2 ^ g) × (hand.nodemap < 2 ^ g)
    bits_left =
        let w = bundled_fits hand _ _ P.xs P.ks P.bundled in
        let e = as_long (λ y. one (at_digit K (length p) m y)) in
        (subst (λ (y : ℕ). hand.datamap < 2 ^ y) e w.0, subst (λ (y : ℕ). hand.nodemap < 2 ^ y) e w.1)

    kids_few : (length P.ks ≤ g) × (length P.xs ≤ g)
    kids_few =
        let w = bundled_few hand _ _ P.xs P.ks P.bundled in
        let e = as_long (λ y. one (at_digit K (length p) m y)) in
        (omega (arith, w.1, e, P.bundled.kids_are), omega (arith, w.0, e, P.bundled.singles_are))

    -- there is room for what the digit takes
    node_room : (portion_at K n h p a m g).new_nodes ≤ U.spare
    node_room =
        room_left U.spare _ (total (λ y. (portion_at K n h p a m y).new_nodes) sixteen) _ _ (portion K n level p (a ∷ []) m).new_nodes T.spare P.spent
        (ap (λ (l : ℕ). (portion K n l p (a ∷ []) m).new_nodes) (let z : level ≡ suc h = omega arith in z) ∙ portion_nodes K n h low p (a ∷ []) m) q.room (total_in (λ y. (portion_at K n h p a m y).new_nodes) g small)

    entry_room : (portion_at K n h p a m g).new_entries ≤ U.entry_spare
    entry_room =
        room_left U.entry_spare _ (total (λ y. (portion_at K n h p a m y).new_entries) sixteen) 0 _ (portion K n level p (a ∷ []) m).new_entries T.entry_spare P.entry_spent
        (ap (λ (l : ℕ). (portion K n l p (a ∷ []) m).new_entries) (let z : level ≡ suc h = omega arith in z) ∙ portion_entries K n h low p (a ∷ []) m ∙ (let z : (y : ℕ) → y ≡ y + 0 = λ y. omega arith in z _)) q.entry_room (total_in (λ y. (portion_at K n h p a m y).new_entries) g small)

    abbrev N : Notes
    N = P.gathered.notes

    -- the source is as it was
    here : Is U N b level p a
    here = is_grown n _ _ T U q.notes N P.gathered.grown b level p a q.is

    pub some_part : SomePart K kb vb U b level
    some_part = record { notes = N; roots = P.ks ++ q.roots; in_hand = P.xs ++ q.in_hand; sits = P.gathered.sits; prefix = p; part = a; deep = q.deep; is = here }

    module _ (c : Branch) (on : GoesOn K kb vb U b level g c) where
      below_is : Is U N c h (p ++ (g ∷ [])) (below K p g a)
      below_is = on.on N (P.ks ++ q.roots) (P.xs ++ q.in_hand) P.gathered.sits p a q.deep tall here

      pub stays : Stays K kb vb U c
      stays = record {
        notes = N;
        roots = P.ks ++ q.roots;
        in_hand = P.xs ++ q.in_hand;
        level = h;
        prefix = p ++ (g ∷ []);
        part = below K p g a;
        sits = P.gathered.sits;
        is = below_is;
        few = subst (λ (y : ℕ). y ≤ 65535) (sym (length-append P.ks q.roots)) (few_enough (length P.ks) (length q.roots) h level g kids_few.0 small (omega arith) q.few_roots);
        few_entries = subst (λ (y : ℕ). y ≤ 65535) (sym (length-append P.xs q.in_hand)) (few_enough (length P.xs) (length q.in_hand) h level g kids_few.1 small (omega arith) q.few_in_hand);
      }

      -- ---- at the key's digit, the edit goes on
      module _ (falls_here : digit (K.hash k) (length p) ≡ g) where
        at_here : at_digit K (length p) m g ≡ edited K (at_digit K (length p) a.settings g) k x
        at_here = at_edited_here K V a.settings k q.sound q.key_reads (length p) g x (reads V x q.value_reads) falls_here

        pub child_ready : Ready K V kb vb U c k x h
        child_ready = record {
          call = n;
          prefix = p ++ (g ∷ []);
          source = below K p g a;
          notes = N;
          roots = P.ks ++ q.roots;
          in_hand = P.xs ++ q.in_hand;
          sits = P.gathered.sits;
          clear = gathered_clear K kb vb n h p (a ∷ []) m T q.notes q.roots q.in_hand deep g P.xs P.ks U P.gathered q.clear;
          is = below_is;
          deep = omega (arith, length_push p g, q.deep);
          sound = sound_at K V (length p) g a.settings q.sound;
          key_reads = q.key_reads;
          value_reads = q.value_reads;
          led = leads_push K 0 p g k ∙ and_from (leads K 0 p k) (eqb (digit (K.hash k) (0 + length p)) g) q.led (eq-eqb (digit (K.hash k) (0 + length p)) g (ap (digit (K.hash k)) (let z : 0 + length p ≡ length p = omega arith in z) ∙ falls_here));
          changed = ap (λ (y : Option (List ℕ)). same_found y x) (look_at K (length p) g a.settings k ∙ cond-true (falls K (length p) g k) (look a.settings k) None (eq-eqb (digit (K.hash k) (length p)) g falls_here)) ∙ q.changed;
          calm =
              ap₂ (λ (d : ℕ) (w : Map). crowd K h d w) (length_push p g ∙ (let z : length p + 1 ≡ suc (length p) = omega arith in z)) (sym at_here)
              ∙ crowd_at K h (length p) m g (subst (λ (l : ℕ). crowd K l (length p) m ≡ false) (let z : level ≡ suc h = omega arith in z) q.calm) small;
          room = subst (λ (w : Map). (portion K n h (p ++ (g ∷ [])) (below K p g a ∷ []) w).new_nodes ≤ U.spare) at_here node_room;
          entry_room = subst (λ (w : Map). (portion K n h (p ++ (g ∷ [])) (below K p g a ∷ []) w).new_entries ≤ U.entry_spare) at_here entry_room;
          few_roots = subst (λ (y : ℕ). y + 16 * h + 16 ≤ 65535) (sym (length-append P.ks q.roots)) (few_left (length P.ks) (length q.roots) h level g kids_few.0 small (omega arith) q.few_roots);
          few_in_hand = subst (λ (y : ℕ). y + 16 * h + 16 ≤ 65535) (sym (length-append P.xs q.in_hand)) (few_left (length P.xs) (length q.in_hand) h level g kids_few.1 small (omega arith) q.few_in_hand);
        }

        pub done_built : (r : Branch) (W : Tables X Y) → Done K V kb vb U c k x h r W → Built K kb vb n h (p ++ (g ∷ [])) (at_digit K (length p) m g) (portion_at K n h p a m g) U N (P.ks ++ q.roots) (P.xs ++ q.in_hand) r W
        unfolding child_ready
        done_built r W d =
            subst (λ (w : Map). Built K kb vb n h (p ++ (g ∷ [])) w (portion K n h (p ++ (g ∷ [])) (below K p g a ∷ []) w) U N (P.ks ++ q.roots) (P.xs ++ q.in_hand) r W) (sym at_here)
            (d.built child_ready)

      -- ---- elsewhere the branch is kept
      pub kept_built : (digit (K.hash k) (length p) ≡ g → ⊥) → (W : Tables X Y) → Kept K kb vb U c W → Built K kb vb n h (p ++ (g ∷ [])) (at_digit K (length p) m g) (portion_at K n h p a m g) U N (P.ks ++ q.roots) (P.xs ++ q.in_hand) c W
      kept_built away W d =
          let e : at_digit K (length p) m g ≡ at_digit K (length p) a.settings g = at_edited_other K V a.settings k q.sound q.key_reads (length p) g x (reads V x q.value_reads) away in
          let s = portion_kept K kb vb n h (p ++ (g ∷ [])) [] U N (P.ks ++ q.roots) (P.xs ++ q.in_hand) c (below K p g a) P.gathered.sits below_is in
          subst (λ (w : Map). Built K kb vb n h (p ++ (g ∷ [])) w (portion K n h (p ++ (g ∷ [])) (below K p g a ∷ []) w) U N (P.ks ++ q.roots) (P.xs ++ q.in_hand) c W) (sym e)
          (d.built n h (p ++ (g ∷ [])) N (P.ks ++ q.roots) (P.xs ++ q.in_hand) (below K p g a) (below K p g a).settings (portion K n h (p ++ (g ∷ [])) (below K p g a ∷ []) (below K p g a).settings) P.gathered.sits below_is s.0 s.1.0 s.1.1)

    -- ---- the branch of the digit is in hand
    pub progress_more : (r : Branch) (W : Tables X Y) → Built K kb vb n h (p ++ (g ∷ [])) (at_digit K (length p) m g) (portion_at K n h p a m g) U N (P.ks ++ q.roots) (P.xs ++ q.in_hand) r W
        → Progress K V kb vb T b k x level q (g + 1) (with_branch hand g r) W
    progress_more r W B =
        let z : suc g ≡ g + 1 = omega arith in
        let s = sizes_are W B.notes r h (p ++ (g ∷ [])) _ low B.is in
        let one_more = map-range_with_len_more (λ y. one (at_digit K (length p) m y)) 0 g g (omega arith) ∙ ap (λ (t : Bool). map (λ y. one (at_digit K (length p) m y)) (range_with_len 0 g) ++ (t ∷ [])) s.0 in
        let many_more = map-range_with_len_more (λ y. many (at_digit K (length p) m y)) 0 g g (omega arith) ∙ ap (λ (t : Bool). map (λ y. many (at_digit K (length p) m y)) (range_with_len 0 g) ++ (t ∷ [])) s.1 in
        let w = bundled_more hand _ _ P.xs P.ks P.bundled r slots_left.0 slots_left.1 in
        let v = subst (λ (y : ℕ). Bundled (with_branch hand y r) (map (λ y. one (at_digit K (length p) m y)) (range_with_len 0 g) ++ (is_entry r ∷ [])) (map (λ y. many (at_digit K (length p) m y)) (range_with_len 0 g) ++ (is_child r ∷ [])) (P.xs ++ entry_of r) (P.ks ++ node_of r)) (as_long (λ y. one (at_digit K (length p) m y))) w in
        record {
          xs = P.xs ++ entry_of r;
          ks = P.ks ++ node_of r;
          gathered = subst (λ (y : ℕ). Gathered K kb vb n h p (a ∷ []) m T q.notes q.roots q.in_hand y (P.xs ++ entry_of r) (P.ks ++ node_of r) W) z
              (gathered_more K kb vb n h p (a ∷ []) m T q.notes q.roots q.in_hand deep g P.xs P.ks U P.gathered r W small B);
          bundled = subst (λ (l : List Bool). Bundled (with_branch hand g r) l (map (λ y. many (at_digit K (length p) m y)) (range_with_len 0 (g + 1))) (P.xs ++ entry_of r) (P.ks ++ node_of r)) (sym one_more)
              (subst (λ (l : List Bool). Bundled (with_branch hand g r) (map (λ y. one (at_digit K (length p) m y)) (range_with_len 0 g) ++ (is_entry r ∷ [])) l (P.xs ++ entry_of r) (P.ks ++ node_of r)) (sym many_more) v);
          spent = spend W.spare U.spare _ _ (total (λ y. (portion_at K n h p a m y).new_nodes) (range_with_len 0 (g + 1))) T.spare B.cost P.spent
              (ap (λ (y : ℕ). total (λ y. (portion_at K n h p a m y).new_nodes) (range_with_len 0 y)) (sym z) ∙ total_next (λ y. (portion_at K n h p a m y).new_nodes) g);
          entry_spent = spend W.entry_spare U.entry_spare _ _ (total (λ y. (portion_at K n h p a m y).new_entries) (range_with_len 0 (g + 1))) T.entry_spare B.entry_cost P.entry_spent
              (ap (λ (y : ℕ). total (λ y. (portion_at K n h p a m y).new_entries) (range_with_len 0 y)) (sym z) ∙ total_next (λ y. (portion_at K n h p a m y).new_entries) g);
        }

-- ---- whatever the edit is of

module _ {X Y : Type 0} (K : KeyKind) (V : ValueKind) (kb : X → List ℕ) (vb : Y → List ℕ) (T : Tables X Y) (b : Branch) (k : List ℕ) (x : Option (List ℕ)) (level : ℕ) where
  pub underway_none : (hand : NodeCell) → hand ≡ nothing_in_hand → Underway K V kb vb T b k x level 0 hand T
  underway_none hand e = record { so_far = λ q tall. subst (λ (y : NodeCell). Progress K V kb vb T b k x level q 0 y T) (sym e) (progress_none K V kb vb T b k x level q tall) }

  -- the digit of the key at the prefix
  pub digit_at : (q : Ready K V kb vb T b k x level) (hash digit' g : ℕ) → hash ≡ K.hash k → digit' ≡ digit hash (8 - level) → g ≡ digit' → digit (K.hash k) (length q.prefix) ≡ g
  digit_at q hash digit' g e f l =
      ap₂ digit (sym e) (let z : length q.prefix ≡ 8 - level = omega (arith, q.deep) in z) ∙ sym f ∙ sym l

  pub digit_away : (q : Ready K V kb vb T b k x level) (hash digit' g : ℕ) → hash ≡ K.hash k → digit' ≡ digit hash (8 - level) → (g ≡ digit' → ⊥) → digit (K.hash k) (length q.prefix) ≡ g → ⊥
  digit_away q hash digit' g e f n w = n (sym w ∙ ap₂ digit (sym e) (let z : length q.prefix ≡ 8 - level = omega (arith, q.deep) in z) ∙ sym f)

  module _ (g : ℕ) (hand : NodeCell) (U : Tables X Y) (I : Underway K V kb vb T b k x level g hand U) (small : g < 16) (c : Branch) (on : GoesOn K kb vb U b level g c) (next : NodeCell) (hash digit' : ℕ) (is_hash : hash ≡ K.hash k) (is_digit : digit' ≡ digit hash (8 - level)) (W : Tables X Y) where
    pub underway_set : g ≡ digit' → (r s : Branch) → s ≡ r → (Z : Tables X Y) → Z ≡ W → Done K V kb vb U c k x (level - 1) r W → next ≡ with_branch hand g s → Underway K V kb vb T b k x level (g + 1) next Z
    underway_set l r s same Z z d e =
        subst (Underway K V kb vb T b k x level (g + 1) next) (sym z) (record {
          so_far = λ q tall.
              let P = I.so_far q tall in
              subst (λ (y : NodeCell). Progress K V kb vb T b k x level q (g + 1) y W) (sym (e ∙ ap (with_branch hand g) same))
              (progress_more K V kb vb T b k x level q tall g hand U P small r W (done_built K V kb vb T b k x level q tall g hand U P small c on (digit_at q hash digit' g is_hash is_digit l) r W d));
        })

    pub underway_kept : (g ≡ digit' → ⊥) → (s : Branch) → s ≡ c → (Z : Tables X Y) → Z ≡ W → Kept K kb vb U c W → next ≡ with_branch hand g s → Underway K V kb vb T b k x level (g + 1) next Z
    underway_kept l s same Z z d e =
        subst (Underway K V kb vb T b k x level (g + 1) next) (sym z) (record {
          so_far = λ q tall.
              let P = I.so_far q tall in
              subst (λ (y : NodeCell). Progress K V kb vb T b k x level q (g + 1) y W) (sym (e ∙ ap (with_branch hand g) same))
              (progress_more K V kb vb T b k x level q tall g hand U P small c W (kept_built K V kb vb T b k x level q tall g hand U P small c on (digit_away q hash digit' g is_hash is_digit l) W d));
        })

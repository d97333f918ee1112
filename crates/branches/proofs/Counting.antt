-- How many settings a branch has, node by node. Assumes nothing.
use Rattle.std.proofs.Common.{◌≡◌, ℕ, suc, ◌+◌, ◌-◌, ◌<◌, ◌≤◌, Bool, true, false, cond, ltb, List, [], ◌∷◌, ◌++◌, map, length, get_or, take, sum_by, sym, refl, ap, ◌∙◌, subst, ap₂, arith}
use lib.Count.{ones}
use Rattle.std.proofs.lemmas.List.{length-map, length_push, take_all}
use Rattle.std.proofs.lemmas.List.Sums.{sum_by-cons, sum_by_more, sum_by-take-le, get_or-le-sum_by}
use Rattle.std.proofs.lemmas.Bool.{lt-ltb, ne_eqb}
use Rattle.kinds.specs.Kinds.{KeyKind}
use Rattle.model.specs.Maps.{Map}
use Rattle.model.specs.Tries.{filter, sixteen, at_digit, parts, one, many, branching}
use Rattle.model.specs.Images.{picked}
use Rattle.tables.specs.declared.cells.NodeCell.{NodeCell}
use Rattle.tables.specs.declared.cells.NodeId.{NodeId}
use Rattle.tables.specs.Chains.{occ}
use Rattle.tables.specs.Cells.{cell, kids, singles}
use Rattle.tables.specs.Notes.{Seat, Note, EntryNote, seat, branches, own, Fits, Stands}
use Rattle.tables.proofs.Occurrences.{occ_head, occ_later, occ_at}
use Rattle.tables.proofs.Listed.{listed_rank, listed_past}
use Rattle.tables.proofs.NodeCounts.{length_listed, listed_at}
use Rattle.tables.proofs.Noting.{kid_held}
use Rattle.tables.proofs.Rows.{from_map}
use Rattle.plans.specs.Plans.{bushy, total}
use Rattle.plans.proofs.Digits.{length_by_digits}
use Rattle.branches.specs.declared.branch.Branch.{Branch}
use Rattle.branches.specs.declared.branch.Branch.TheVariants.{Child}
use Rattle.branches.specs.States.{Tables, Notes, Sits}
use Rattle.branches.specs.Asked.{FewPart, Counted}
use Rattle.branches.proofs.Filters.{branch_many}
use Rattle.branches.proofs.Under.{child_prefix, child_settings}
use Rattle.branches.proofs.Below.{told}
use Rattle.branches.proofs.Goes.{many_bushy}

-- ---- a part by its digits: those with one setting, and those with more

sizes_all : (f : ℕ → Map) (l : List ℕ) → length (picked one (λ q. q) (map f l)) + sum_by (λ x. length (f x)) (filter (λ x. many (f x)) l) ≡ total (λ x. length (f x)) l
sizes_all f [] = refl
sizes_all f (x ∷ l) = go (f x) refl (sizes_all f l)
  where
    go : (w : Map) → f x ≡ w → length (picked one (λ q. q) (map f l)) + sum_by (λ x. length (f x)) (filter (λ x. many (f x)) l) ≡ total (λ x. length (f x)) l
        → length (cond (one w) w [] ++ picked one (λ q. q) (map f l)) + sum_by (λ x. length (f x)) (cond (many w) (x ∷ filter (λ x. many (f x)) l) (filter (λ x. many (f x)) l)) ≡ length w + total (λ x. length (f x)) l
    go [] e i = omega arith
    go (s ∷ []) e i = omega arith
    go (s ∷ (u ∷ w)) e i =
        let n : sum_by (λ x. length (f x)) (x ∷ filter (λ x. many (f x)) l) ≡ suc (suc (length w)) + sum_by (λ x. length (f x)) (filter (λ x. many (f x)) l) =
        sum_by-cons (λ x. length (f x)) x (filter (λ x. many (f x)) l) ∙ ap (λ (m : Map). length m + sum_by (λ x. length (f x)) (filter (λ x. many (f x)) l)) e in
        rw (ne_eqb (suc (suc (length w))) 1 (λ z. omega arith), lt-ltb 1 (suc (suc (length w))) (omega arith)) (omega (arith, n))

-- what stands in a seat's node itself, and in the children
seat_size : (K : KeyKind) (s : Seat) → length (own K s) + sum_by (λ g. length (at_digit K (length s.prefix) s.settings g)) (branches K s) ≡ length s.settings
seat_size K s = go (ltb (length s.prefix) 8)
  where
    go : (b : Bool) → length (cond b (picked one (λ q. q) (parts K (length s.prefix) s.settings)) s.settings)
        + sum_by (λ g. length (at_digit K (length s.prefix) s.settings g)) (cond b (branching K (length s.prefix) s.settings) []) ≡ length s.settings
    go true = sizes_all (at_digit K (length s.prefix) s.settings) sixteen ∙ length_by_digits K (length s.prefix) s.settings
    go false = omega arith

sum_map : (f h child : ℕ → ℕ) (l : List ℕ) → ((g : ℕ) → 0 < occ g l → h (child g) ≡ f g) → sum_by h (map child l) ≡ sum_by f l
sum_map f h child [] e = refl
sum_map f h child (x ∷ l) e = omega (arith, sum_by-cons h (child x) (map child l), sum_by-cons f x l, e x (occ_head x l), sum_map f h child l (λ g p. e g (occ_later g x l p)))

-- a node that fits: its entries, and the settings of its children
pub node_size : (K : KeyKind) (note : ℕ → Note) (entry_note : ℕ → EntryNote) (c : NodeCell) (a : Note) → Fits K note entry_note c a → ones c.datamap + sum_by (λ x. length (note x).settings) (kids c) ≡ length a.settings
node_size K note entry_note c a fits =
    let own_many : ones c.datamap ≡ length (own K (seat a)) = sym (length_listed c.datamap c.entries) ∙ sym (length-map (singles c) (λ e. (entry_note e).setting)) ∙ ap length fits.owns in
    let below : sum_by (λ x. length (note x).settings) (kids c) ≡ sum_by (λ g. length (at_digit K (length a.label.what) a.settings g)) (branches K (seat a)) =
    ap (sum_by (λ x. length (note x).settings)) fits.children
    ∙ sum_map (λ g. length (at_digit K (length a.label.what) a.settings g)) (λ x. length (note x).settings) a.child (branches K (seat a)) (λ g p. ap (λ (s : Seat). length s.settings) (fits.seats g p)) in
    ap₂ ◌+◌ own_many below ∙ seat_size K (seat a)

module _ {X Y : Type 0} (K : KeyKind) (kb : X → List ℕ) (vb : Y → List ℕ) (T : Tables X Y) where
  -- ---- branches

  pub few_as : (b d : Branch) (level : ℕ) → b ≡ d → FewPart K kb vb T b level → FewPart K kb vb T d level
  few_as b d level e = subst (λ (x : Branch). FewPart K kb vb T x level) e

  pub counted_as : (b d : Branch) (level r : ℕ) → b ≡ d → Counted K kb vb T d level r → Counted K kb vb T b level r
  counted_as b d level r e = subst (λ (x : Branch). Counted K kb vb T x level r) (sym e)

  -- ---- a child of a held node

  module _ (N : Notes) (R E : List ℕ) (S : Sits K kb vb T N R E) (level i : ℕ) (held : 0 < (cell T.nodes i).holders) (deep : length (N.node i).label.what + level ≡ 8) (x : ℕ) (kid : 0 < occ x (kids (cell T.nodes i))) where
    kid_level : 0 < level
    kid_level = omega (arith, S.nodes.falls i x kid, (S.means.fits i held).level_is)

    from_digit : (g : ℕ) × ((0 < occ g (branches K (seat (N.node i)))) × (x ≡ (N.node i).child g))
    from_digit = from_map (N.node i).child (branches K (seat (N.node i))) x (subst (λ (l : List ℕ). 0 < occ x l) (S.means.fits i held).children kid)

    kid_deep : length (N.node x).label.what + (level - 1) ≡ 8
    kid_deep =
        let g : ℕ = from_digit.0 in
        let e : (N.node x).label.what ≡ (N.node i).label.what ++ (g ∷ []) = ap (λ (y : ℕ). (N.node y).label.what) from_digit.1.1 ∙ child_prefix K kb vb T N R E S i held g from_digit.1.0 in
        omega (arith, ap length e, length_push (N.node i).label.what g, kid_level)

    kid_stands : Stands T.nodes N.node x (N.node x).label.what (told (N.node x))
    kid_stands = record { held = kid_held T.nodes T.free T.spare R S.nodes i x kid; prefix = refl; settings = refl; nodes = refl; entries = refl }

    kid_bushy : bushy (level - 1) (N.node x).settings ≡ true
    kid_bushy =
        let g : ℕ = from_digit.0 in
        many_bushy (level - 1) (N.node x).settings (omega (arith, kid_level, deep))
        (ap (λ (y : ℕ). many (N.node y).settings) from_digit.1.1 ∙ ap many (child_settings K kb vb T N R E S i held g from_digit.1.0) ∙ branch_many K (seat (N.node i)) g from_digit.1.0)

  -- ---- the children of a node, one after another

  module _ (node : NodeCell) (level : ℕ) where
    -- the entries of a cell, and the settings of its first so many children
    pub record Counting (rank sum : ℕ) : Type 0 where
      pub so_far : (i : ℕ) → cell T.nodes i ≡ node → (N : Notes) (R E : List ℕ) → Sits K kb vb T N R E → 0 < (cell T.nodes i).holders → length (N.node i).label.what + level ≡ 8
          → sum ≡ ones node.datamap + sum_by (λ x. length (N.node x).settings) (take rank (kids node))

    size_here : (i : ℕ) → cell T.nodes i ≡ node → (N : Notes) (R E : List ℕ) → Sits K kb vb T N R E → 0 < (cell T.nodes i).holders
        → ones node.datamap + sum_by (λ x. length (N.node x).settings) (kids node) ≡ length (N.node i).settings
    size_here i here N R E S h = node_size K N.node N.entry node (N.node i) (subst (λ (c : NodeCell). Fits K N.node N.entry c (N.node i)) here (S.means.fits i h))

    pub counting_end : (rank sum : ℕ) → Counting rank sum → ones node.nodemap ≤ rank → (id : NodeId) → cell T.nodes id.0 ≡ node → Counted K kb vb T (Child id) level sum
    counting_end rank sum C past id here = record {
      number = λ N R E S p a d is.
          let all : take rank (kids node) ≡ kids node = take_all rank (kids node) (omega (arith, length_listed node.nodemap node.children)) in
          C.so_far id.0 here N R E S is.0.held (ap (λ (q : List ℕ). length q + level) is.0.prefix ∙ d)
          ∙ ap (λ (l : List ℕ). ones node.datamap + sum_by (λ x. length (N.node x).settings) l) all
          ∙ size_here id.0 here N R E S is.0.held ∙ ap length is.0.settings;
    }

    module _ (rank : ℕ) (child : NodeId) (some : rank < ones node.nodemap) (at : child.0 ≡ get_or node.children rank 0) where
      within : rank < length (kids node)
      within = omega (arith, length_listed node.nodemap node.children)

      child_is : get_or (kids node) rank 0 ≡ child.0
      child_is = listed_at node.nodemap node.children rank some ∙ sym at

      kid_of : (i : ℕ) → cell T.nodes i ≡ node → 0 < occ child.0 (kids (cell T.nodes i))
      kid_of i here = subst (λ (c : NodeCell). 0 < occ child.0 (kids c)) (sym here) (subst (λ (x : ℕ). 0 < occ x (kids node)) child_is (occ_at (kids node) rank within))

      pub counting_more : (sum r : ℕ) → Counting rank sum → Counted K kb vb T (Child child) (level - 1) r → Counting (rank + 1) (sum + r)
      counting_more sum r C D = record {
        so_far = λ i here N R E S h d.
            let k = kid_of i here in
            let e : r ≡ length (N.node child.0).settings =
            D.number N R E S (N.node child.0).label.what (told (N.node child.0)) (kid_deep N R E S level i h d child.0 k) (kid_stands N R E S level i h d child.0 k, kid_bushy N R E S level i h d child.0 k) in
            omega (arith, C.so_far i here N R E S h d, e, sum_by_more (λ x. length (N.node x).settings) (kids node) rank 0 within, ap (λ (x : ℕ). length (N.node x).settings) child_is);
      }

      -- a child is a part of no more settings than the node
      module _ (id : NodeId) (here : cell T.nodes id.0 ≡ node) (few : FewPart K kb vb T (Child id) level) where
        abbrev notes : Notes
        notes = few.some.notes

        here_deep : length (notes.node id.0).label.what + level ≡ 8
        here_deep = ap (λ (q : List ℕ). length q + level) few.some.is.0.prefix ∙ few.some.deep

        here_few : length (notes.node id.0).settings ≤ 65535
        here_few = omega (arith, few.few, ap length few.some.is.0.settings)

        pub child_level : 1 ≤ level
        child_level = kid_level notes few.some.roots few.some.in_hand few.some.sits level id.0 few.some.is.0.held here_deep child.0 (kid_of id.0 here)

        pub child_few : FewPart K kb vb T (Child child) (level - 1)
        child_few = record {
          some = record {
            notes = notes;
            roots = few.some.roots;
            in_hand = few.some.in_hand;
            sits = few.some.sits;
            prefix = (notes.node child.0).label.what;
            part = told (notes.node child.0);
            deep = kid_deep notes few.some.roots few.some.in_hand few.some.sits level id.0 few.some.is.0.held here_deep child.0 (kid_of id.0 here);
            is = (
              kid_stands notes few.some.roots few.some.in_hand few.some.sits level id.0 few.some.is.0.held here_deep child.0 (kid_of id.0 here),
              kid_bushy notes few.some.roots few.some.in_hand few.some.sits level id.0 few.some.is.0.held here_deep child.0 (kid_of id.0 here),
            );
          };
          few = omega (
            arith,
            here_few,
            size_here id.0 here notes few.some.roots few.some.in_hand few.some.sits few.some.is.0.held,
            get_or-le-sum_by (λ x. length (notes.node x).settings) (kids node) rank 0 within,
            ap (λ (x : ℕ). length (notes.node x).settings) child_is,
          );
        }

        -- the sum with its settings fits
        pub sum_few : (sum r : ℕ) → Counting rank sum → Counted K kb vb T (Child child) (level - 1) r → sum + r ≤ 65535
        sum_few sum r C D =
            omega (
              arith,
              here_few,
              size_here id.0 here notes few.some.roots few.some.in_hand few.some.sits few.some.is.0.held,
              (counting_more sum r C D).so_far id.0 here notes few.some.roots few.some.in_hand few.some.sits few.some.is.0.held here_deep,
              sum_by-take-le (λ x. length (notes.node x).settings) (kids node) (rank + 1),
            )

  -- the loop over the children: of a branch that is a node, the row has the children, and so many are counted
  pub record Midway (b : Branch) (level : ℕ) (row : List ℕ) (rank sum : ℕ) : Type 0 where
    pub id : NodeId
    pub is : b ≡ Child id
    pub children : row ≡ kids (cell T.nodes id.0)
    pub counting : Counting (cell T.nodes id.0) level rank sum

  pub begun : (b : Branch) (level : ℕ) (id : NodeId) (row ss : List ℕ) → b ≡ Child id → row ≡ kids (cell T.nodes id.0) → ss ≡ singles (cell T.nodes id.0) → Midway b level row 0 (length ss)
  begun b level id row ss e k s = record {
    id = id;
    is = e;
    children = k;
    counting = record { so_far = λ i h N R E S p d. omega (arith, ap length s, length_listed (cell T.nodes id.0).datamap (cell T.nodes id.0).entries) };
  }

  module _ (b : Branch) (level : ℕ) (row : List ℕ) (rank sum : ℕ) (M : Midway b level row rank sum) where
    module _ (some : rank < length row) where
      abbrev slot : (rank < ones (cell T.nodes M.id.0).nodemap) × (get_or row rank 0 ≡ get_or (cell T.nodes M.id.0).children rank 0)
      slot = listed_rank (cell T.nodes M.id.0).nodemap (cell T.nodes M.id.0).children row rank M.children some

      module _ (few : FewPart K kb vb T b level) where
        few_here : FewPart K kb vb T (Child M.id) level
        few_here = few_as b (Child M.id) level M.is few

        pub midway_level : 1 ≤ level
        midway_level = child_level (cell T.nodes M.id.0) level rank (record { 0 = get_or row rank 0 }) slot.0 slot.1 M.id refl few_here

        pub midway_few : FewPart K kb vb T (Child (record { 0 = get_or row rank 0 })) (level - 1)
        midway_few = child_few (cell T.nodes M.id.0) level rank (record { 0 = get_or row rank 0 }) slot.0 slot.1 M.id refl few_here

        pub midway_fits : (r : ℕ) → Counted K kb vb T (Child (record { 0 = get_or row rank 0 })) (level - 1) r → sum + r ≤ 65535
        midway_fits r D = sum_few (cell T.nodes M.id.0) level rank (record { 0 = get_or row rank 0 }) slot.0 slot.1 M.id refl few_here sum r M.counting D

      pub midway_more : (r : ℕ) → Counted K kb vb T (Child (record { 0 = get_or row rank 0 })) (level - 1) r → Midway b level row (rank + 1) (sum + r)
      midway_more r D = record {
        id = M.id;
        is = M.is;
        children = M.children;
        counting = counting_more (cell T.nodes M.id.0) level rank (record { 0 = get_or row rank 0 }) slot.0 slot.1 sum r M.counting D;
      }

    pub midway_end : length row ≤ rank → Counted K kb vb T b level sum
    midway_end past =
        counted_as b (Child M.id) level sum M.is
        (counting_end (cell T.nodes M.id.0) level rank sum M.counting
        (listed_past (cell T.nodes M.id.0).nodemap (cell T.nodes M.id.0).children row rank M.children past) M.id refl)

-- A node of an image built: its entries one after another, and then its children. Assumes nothing.
use Rattle.std.proofs.Common.{◌≡◌, ℕ, ◌+◌, ◌-◌, ◌<◌, ◌≤◌, List, [], ◌∷◌, ◌++◌, length, take, set, sym, refl, ap, ◌∙◌, subst, ap₂, append_assoc, arith, length-set}
use lib.Count.{ones}
use mathlib.Core.List.Memᴰ
use Rattle.std.proofs.lemmas.List.{take_more_set, length-take-le}
use Rattle.std.proofs.lemmas.List.Sums.{sum_by-cons}
use Rattle.kinds.specs.Kinds.{KeyKind, ValueKind}
use Rattle.model.specs.Maps.{Setting, Map, Readable}
use Rattle.model.specs.Images.{entry}
use Rattle.model.specs.Sharing.{Shared}
use Rattle.model.proofs.Images.Lists.{flat}
use Rattle.model.proofs.Marks.Members.{all_mem}
use Rattle.model.proofs.Marks.Prefixes.{led_on}
use Rattle.tables.specs.declared.both.Tables.{Tables as Lent}
use Rattle.tables.specs.declared.cells.NodeCell.{NodeCell}
use Rattle.tables.specs.declared.cells.NodeId.{NodeId}
use Rattle.tables.specs.declared.cells.EntryCell.{EntryCell}
use Rattle.tables.specs.declared.table.Table.{Table}
use Rattle.tables.specs.Chains.{occ}
use Rattle.tables.specs.Cells.{cell, kids, singles}
use Rattle.tables.specs.Heaps.{Nodes, NodeMade}
use Rattle.tables.specs.Notes.{branches, own}
use Rattle.tables.proofs.Listed.{listed_take}
use Rattle.tables.proofs.Occurrences.{occ_head}
use Rattle.branches.specs.Handfuls.{nothing_in_hand, node_cell}
use Rattle.branches.specs.States.{Tables, tables_of}
use Rattle.branches.proofs.Filters.{none_long}
use Rattle.branches.proofs.Filling.{NewNode, share, Filled, filled_none, own_many, branches_many, left_own, left_branch, entries_fit, nodes_fit, filled_entry, filled_clear, filled_child, filled_lower, filled_node}
use Rattle.branches.proofs.Growing.{EntriesStay}
use Rattle.image_reader.specs.Cursors.{Cursor}
use Rattle.image_loader.specs.Ahead.{Ahead, EntryAhead, NodeAhead}
use Rattle.image_loader.specs.Loads.{MayMake, EntryRead, MayBuild, NodeBuilt}
use Rattle.image_loader.proofs.Nodes.{HasMaps, seat_of, next, own_reads, child_tall, child_shares, child_ahead, uncons}

-- a node with one slot filled
abbrev pub with_entry : NodeCell → ℕ → ℕ → NodeCell
with_entry c i e = record {
  datamap = c.datamap;
  nodemap = c.nodemap;
  entries = set c.entries i e;
  children = c.children;
  holders = c.holders;
  next = c.next;
  level = c.level;
}

abbrev pub with_child : NodeCell → ℕ → ℕ → NodeCell
with_child c j k = record {
  datamap = c.datamap;
  nodemap = c.nodemap;
  entries = c.entries;
  children = set c.children j k;
  holders = c.holders;
  next = c.next;
  level = c.level;
}

module _ {X Y : Type 0} {K : KeyKind} {V : ValueKind} {kb : X → List ℕ} {vb : Y → List ℕ}
    {T : Tables X Y} {r : Cursor} {height : ℕ} (q : MayBuild K V kb vb T r height) where
  -- the node that is to be built
  abbrev pub new_of : NewNode K kb vb
  new_of = record {
    call = q.call;
    height = height;
    prefix = q.node.prefix;
    part = q.node.part;
    tables = T;
    notes = q.notes;
    roots = q.roots;
    in_hand = q.in_hand;
    deep = q.node.deep;
    several = q.node.several;
    rises = q.node.sound.rises;
    led = q.led;
    clear = q.clear;
  }

  -- a node has the maps d and n, which are those of the part, and its height
  pub record Headed (d n datamap nodemap own : ℕ) : Type 0 where
    pub data_is : datamap ≡ d
    pub nodes_is : nodemap ≡ n
    pub level_is : own ≡ height
    pub maps : HasMaps K (seat_of q.node) d n

  -- all but the settings left and the digits gs is in hand, in the first slots of a node
  abbrev pub InSlots : ℕ → ℕ → NodeCell → Tables X Y → Map → List ℕ → Type 0
  InSlots i j node U left gs =
      Filled new_of left gs (take i node.entries) (take j node.children) U

  -- so many entries and children are, and the others are next
  pub record PartlyBuilt (d n i j : ℕ) (node : NodeCell) (s : Cursor) (U : Tables X Y) : Type 0
    where
      pub left : Map
      pub gs : List ℕ
      pub filled : InSlots i j node U left gs
      pub few : (i ≤ 16) × (j ≤ 16)
      pub slots : (length node.entries ≡ 16) × (length node.children ≡ 16)
      pub head : Headed d n node.datamap node.nodemap node.level
      pub ahead : Ahead s (next q.node left gs)

-- whichever part it is
pub record Building {X Y : Type 0} (K : KeyKind) (V : ValueKind) (kb : X → List ℕ)
    (vb : Y → List ℕ) (T : Tables X Y) (r : Cursor) (height d n i j : ℕ)
    (node : NodeCell) (s : Cursor) (U : Tables X Y) : Type 0 where
  pub so_far : (q : MayBuild K V kb vb T r height) → PartlyBuilt q d n i j node s U

module _ {X Y : Type 0} {K : KeyKind} {V : ValueKind} {kb : X → List ℕ} {vb : Y → List ℕ}
    {T : Tables X Y} {r : Cursor} {height : ℕ} where
  pub building_none : {d n : ℕ} {s : Cursor}
      → ((q : NodeAhead K V r height) → HasMaps K (seat_of q) d n
      × Ahead s (next q (own K (seat_of q)) (branches K (seat_of q))))
      → (blank : NodeCell) → blank ≡ nothing_in_hand
      → Building K V kb vb T r height d n 0 0 (record {
        datamap = d;
        nodemap = n;
        entries = blank.entries;
        children = blank.children;
        holders = blank.holders;
        next = blank.next;
        level = height;
      }) s T
  building_none H blank is = record {
    so_far = λ q. record {
      left = own K (seat_of q.node);
      gs = branches K (seat_of q.node);
      filled = filled_none (new_of q) q.sits;
      few = (omega arith, omega arith);
      slots = (
        ap (λ (c : NodeCell). length c.entries) is,
        ap (λ (c : NodeCell). length c.children) is,
      );
      head = record { data_is = refl; nodes_is = refl; level_is = refl; maps = (H q.node).0 };
      ahead = (H q.node).1;
    };
  }

  module _ {d n i j : ℕ} {node : NodeCell} {s : Cursor} where
    -- what is still to come
    module _ {U : Tables X Y} {q : MayBuild K V kb vb T r height}
        (B : PartlyBuilt q d n i j node s U) where
      entries_left : ones d ≡ i + length B.left
      entries_left =
          let l = length-take-le i node.entries (omega (arith, B.few.0, B.slots.0)) in
          omega (arith, B.head.maps.entries, l, own_many _ B.filled)

      children_left : ones n ≡ j + length B.gs
      children_left =
          let l = length-take-le j node.children (omega (arith, B.few.1, B.slots.1)) in
          omega (arith, B.head.maps.children, l, branches_many _ B.filled)

    -- ---- an entry

    module _ (L : Lent X Y) (I : Building K V kb vb T r height d n i j node s (tables_of L))
        (some : i < ones d) where
      module _ (q : MayBuild K V kb vb T r height) where
        abbrev B : PartlyBuilt q d n i j node s (tables_of L)
        B = I.so_far q

        first : (z : Setting) × ((left : Map) × (B.left ≡ z ∷ left))
        first = uncons B.left (omega (arith, some, entries_left B))

        filled_first : InSlots q i j node (tables_of L) (first.0 ∷ first.1.0) B.gs
        filled_first =
            subst (λ (l : Map). InSlots q i j node (tables_of L) l B.gs) first.1.1 B.filled

        its_entry : EntryAhead K V s
        its_entry = record {
          setting = first.0;
          rest = next q.node first.1.0 B.gs;
          reads =
              all_mem (Readable K V) (own K (seat_of q.node)) first.0 (own_reads q.node)
              (left_own _ filled_first first.0 (Memᴰ.head refl));
          ahead = record {
            within = B.ahead.within;
            is = B.ahead.is ∙ ap (λ (l : Map). next q.node l B.gs) first.1.1
                ∙ append_assoc (entry first.0) (flat entry first.1.0) _;
          };
        }

        pub building_make : MayMake K V s L.entries
        building_make = record {
          entry = its_entry;
          some = omega (arith, entries_fit _ filled_first q.entries_fit);
          heap = (
            L.nodes.cells.now,
            (take i node.entries ++ q.in_hand, B.filled.hand.sits.entries),
          );
        }

      pub building_entry : {e : ℕ} {t : Cursor} {u : Table (EntryCell X Y)}
          → EntryRead K V kb vb s L.entries e t u → i < 16
          → Building K V kb vb T r height d n (i + 1) j (with_entry node i e) t
          (tables_of (record { nodes = L.nodes; entries = u }))
      unfolding its_entry
      building_entry {e} {t} {u} D few = record {
        so_far = λ q.
            let W : Tables X Y = tables_of (record { nodes = L.nodes; entries = u }) in
            record {
              left = (first q).1.0;
              gs = (B q).gs;
              filled =
                  subst (λ (l : List ℕ). Filled (new_of q) (first q).1.0 (B q).gs l
                  (take j node.children) W)
                  (sym (take_more_set node.entries i e (omega (arith, (B q).slots.0))))
                  (filled_entry _ (filled_first q) D.key D.value (D.setting (its_entry q)) e W
                  (refl, refl, refl) D.made);
              few = (omega arith, (B q).few.1);
              slots = (length-set node.entries i e ∙ (B q).slots.0, (B q).slots.1);
              head = (B q).head;
              ahead = D.onward (its_entry q);
            };
      }

    module _ {U : Tables X Y} (I : Building K V kb vb T r height d n i j node s U)
        (all : ones d ≤ i) where
      -- with all the entries
      filled_with : (q : MayBuild K V kb vb T r height) (gs : List ℕ) → (I.so_far q).gs ≡ gs
          → InSlots q i j node U [] gs × Ahead s (next q.node [] gs)
      filled_with q gs e =
          let B = I.so_far q in
          let none : B.left ≡ [] = none_long B.left (omega (arith, all, entries_left B)) in (
            subst (λ (l : Map). InSlots q i j node U l gs) none
                (subst (InSlots q i j node U B.left) e B.filled),
            subst (Ahead s) (ap₂ (next q.node) none e) B.ahead,
          )

      -- ---- a child

      module _ (some : j < ones n) where
        module _ (q : MayBuild K V kb vb T r height) where
          open_child : (g : ℕ) × ((gs : List ℕ) × ((I.so_far q).gs ≡ g ∷ gs))
          open_child = uncons (I.so_far q).gs (omega (arith, some, children_left (I.so_far q)))

          abbrev g : ℕ
          g = open_child.0

          abbrev with_next : InSlots q i j node U [] (g ∷ open_child.1.0)
              × Ahead s (next q.node [] (g ∷ open_child.1.0))
          with_next = filled_with q (g ∷ open_child.1.0) open_child.1.1

          branch : 0 < occ g (branches K (seat_of q.node))
          branch = left_branch _ with_next.0 g (occ_head g open_child.1.0)

          may : MayBuild K V kb vb U s (height - 1)
          unfolding child_ahead
          may =
              let f : (Shared → ℕ) → ℕ → ℕ = λ z x. z (share (new_of q) x) in
              let k = child_shares q.node g branch q.call in
              record {
                node = child_ahead q.node g branch s open_child.1.0 with_next.1;
                call = q.call;
                notes = with_next.0.hand.notes;
                roots = take j node.children ++ q.roots;
                in_hand = take i node.entries ++ q.in_hand;
                sits = with_next.0.hand.sits;
                clear = filled_clear _ with_next.0;
                led = led_on K q.node.part q.node.prefix g q.led;
                nodes_fit =
                    omega (
                      arith,
                      ap (λ (x : Shared). x.new_nodes) k,
                      nodes_fit _ with_next.0 q.nodes_fit,
                      sum_by-cons (f (λ x. x.new_nodes)) g open_child.1.0,
                    );
                entries_fit =
                    omega (
                      arith,
                      ap (λ (x : Shared). x.new_entries) k,
                      entries_fit _ with_next.0 q.entries_fit,
                      sum_by-cons (f (λ x. x.new_entries)) g open_child.1.0,
                    );
              }

          pub building_may : MayBuild K V kb vb U s (height - 1) × (0 < height)
          building_may = (may, child_tall q.node g branch)

        pub building_child : {c : NodeId} {t : Cursor} {W : Tables X Y}
            → NodeBuilt K V kb vb U s (height - 1) c t W → j < 16
            → Building K V kb vb T r height d n i (j + 1) (with_child node j c.0) t W
        unfolding may child_ahead
        building_child {c} {t} {W} D few = record {
          so_far = λ q.
              let B = I.so_far q in
              record {
                left = [];
                gs = (open_child q).1.0;
                filled =
                    subst (λ (l : List ℕ). Filled (new_of q) [] (open_child q).1.0
                    (take i node.entries) l W)
                    (sym (take_more_set node.children j c.0 (omega (arith, B.slots.1))))
                    (filled_child _ (with_next q).0 c W (D.built (may q)));
                few = (B.few.0, omega arith);
                slots = (B.slots.0, length-set node.children j c.0 ∙ B.slots.1);
                head = B.head;
                ahead = D.onward (may q);
              };
        }

      -- ---- the node

      module _ (whole : ones n ≤ j) where
        module _ (q : MayBuild K V kb vb T r height) where
          abbrev C : PartlyBuilt q d n i j node s U
          C = I.so_far q

          all_of : InSlots q i j node U [] [] × Ahead s q.node.rest
          all_of = filled_with q [] (none_long C.gs (omega (arith, whole, children_left C)))

          its_children : kids node ≡ take j node.children
          its_children =
              let e : ones node.nodemap ≡ j = ap ones C.head.nodes_is
              ∙ omega (arith, whole, children_left C) in
              listed_take node.nodemap node.children (omega (arith, e, C.few.1, C.slots.1))
              ∙ ap (λ (k : ℕ). take k node.children) e

          its_entries : singles node ≡ take i node.entries
          its_entries =
              let e : ones node.datamap ≡ i = ap ones C.head.data_is
              ∙ omega (arith, all, entries_left C) in
              listed_take node.datamap node.entries (omega (arith, e, C.few.0, C.slots.0))
              ∙ ap (λ (k : ℕ). take k node.entries) e

          pub building_ready : (0 < U.spare)
              × (((R : List ℕ) × Nodes U.nodes U.free U.spare (kids node ++ R))
              × ((k : ℕ) → 0 < occ k (kids node) → (cell U.nodes k).level < node.level))
          building_ready = (
            omega (arith, nodes_fit _ all_of.0 q.nodes_fit),
            (
              (
                q.roots,
                subst (λ (l : List ℕ). Nodes U.nodes U.free U.spare (l ++ q.roots))
                    (sym its_children) all_of.0.hand.sits.nodes,
              ),
              λ k o. omega (
                arith,
                filled_lower _ all_of.0 k
                    (subst (λ (l : List ℕ). 0 < occ k l) its_children o),
                C.head.level_is,
              ),
            ),
          )

        pub building_done : {c : NodeId} {W : Tables X Y}
            → NodeMade c.0 (node_cell node node.level) U.nodes U.free U.spare W.nodes W.free W.spare
            → EntriesStay U W → NodeBuilt K V kb vb T r height c s W
        building_done {c} {W} made stay = record {
          built = λ q. filled_node _ (all_of q).0 c (node_cell node node.level) W made stay
              (its_children q) (its_entries q) (omega arith) (C q).head.level_is
              (λ short. (C q).head.data_is ∙ (C q).head.maps.data_bits short)
              (λ short. (C q).head.nodes_is ∙ (C q).head.maps.node_bits short);
          onward = λ q. (all_of q).1;
        }

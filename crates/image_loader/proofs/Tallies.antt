-- A node of an image counted: its entries at once, and then each child. Assumes nothing.
use Rattle.std.proofs.Common.{◌≡◌, ℕ, ◌+◌, ◌-◌, ◌*◌, ◌^◌, ◌<◌, ◌≤◌, List, [], ◌∷◌, ◌++◌, length, sum_by, sym, refl, ap, ◌∙◌, subst, ap₂, arith}
use lib.Count.{ones}
use Rattle.std.proofs.Math.Nat.{mul-le-mul_right}
use Rattle.std.proofs.lemmas.List.Sums.{sum_by-cons}
use Rattle.kinds.specs.Kinds.{KeyKind, ValueKind}
use Rattle.model.specs.Maps.{Map}
use Rattle.model.specs.Images.{entry}
use Rattle.model.specs.Sharing.{Shared, ◌⊕◌, new_node, entry_from, sum}
use Rattle.model.proofs.Images.Lists.{flat}
use Rattle.tables.specs.Chains.{occ}
use Rattle.tables.specs.Notes.{branches, own}
use Rattle.tables.proofs.Occurrences.{occ_head, occ_later}
use Rattle.plans.specs.Plans.{portion}
use Rattle.plans.proofs.Bounds.{portion_few}
use Rattle.plans.proofs.Sharing.{portion_bushy}
use Rattle.branches.specs.Hands.{share_at}
use Rattle.branches.proofs.Filters.{none_long}
use Rattle.branches.proofs.Picks.{entries_nodes, sum_new, sum_new_entries}
use Rattle.branches.proofs.Seats.{seat_share}
use Rattle.image_reader.specs.Cursors.{Cursor}
use Rattle.image_loader.specs.declared.counting.Cells.{Cells}
use Rattle.image_loader.specs.Ahead.{Ahead, NodeAhead}
use Rattle.image_loader.specs.Counts.{NodeCounted}
use Rattle.image_loader.proofs.Readers.{ahead_fits, ahead_past}
use Rattle.image_loader.proofs.Entries.{entry_size, entries_long}
use Rattle.image_loader.proofs.Nodes.{HasMaps, seat_of, next, own_reads, below, child_tall, child_shares, child_ahead, uncons}

-- entries that no source has are all new
pub all_new : (n : ℕ) (m : Map) → (sum (entry_from n []) m).new_entries ≡ length m
all_new n [] = refl
all_new n (s ∷ m) = omega (arith, all_new n m)

module _ (K : KeyKind) (V : ValueKind) (r : Cursor) (height : ℕ) where
  -- what the node takes, and what it takes at a digit
  abbrev pub whole : NodeAhead K V r height → ℕ → Shared
  whole q n = portion K n height q.prefix [] q.part

  abbrev pub taken : NodeAhead K V r height → ℕ → ℕ → Shared
  taken q n = share_at K n (height - 1) q.prefix [] q.part

  -- of so many children j are counted, and those at the digits gs are still to come
  pub record Tallied (many j : ℕ) (c : Cells) (s : Cursor) (q : NodeAhead K V r height) : Type 0
    where
      pub gs : List ℕ
      pub left : many ≡ j + length gs
      pub digits : (g : ℕ) → 0 < occ g gs → 0 < occ g (branches K (seat_of q))
      pub nodes : (n : ℕ) →
          c.nodes + sum_by (λ g. (taken q n g).new_nodes) gs ≡ (whole q n).new_nodes
      pub entries : (n : ℕ) →
          c.entries + sum_by (λ g. (taken q n g).new_entries) gs ≡ (whole q n).new_entries
      pub ahead : Ahead s (next q [] gs)

  -- whichever part it is
  pub record Counting (many j : ℕ) (c : Cells) (s : Cursor) : Type 0 where
    pub so_far : (q : NodeAhead K V r height) → Tallied many j c s q

module _ {K : KeyKind} {V : ValueKind} {r : Cursor} {height : ℕ} where
  -- ---- the entries

  module _ {d n : ℕ} {s : Cursor} (H : (q : NodeAhead K V r height)
      → HasMaps K (seat_of q) d n × Ahead s (next q (own K (seat_of q)) (branches K (seat_of q))))
      {z : ℕ} (sized : z ≡ entry_size K V) where
    long : (q : NodeAhead K V r height) → ones d * z ≡ length (flat entry (own K (seat_of q)))
    long q =
        ap₂ (λ (i k : ℕ). i * k) (H q).0.entries sized
        ∙ sym (entries_long K V (own K (seat_of q)) (own_reads q))

    pub entries_inside : NodeAhead K V r height → s.at + ones d * z ≤ length s.image
    entries_inside q =
        omega (arith, ahead_fits s (flat entry (own K (seat_of q))) _ (H q).1, long q)

    pub counting_none : (t : Cursor) → t.image ≡ s.image → t.at ≡ s.at + ones d * z
        → Counting K V r height (ones n) 0 (record { nodes = 1; entries = ones d }) t
    counting_none t image at = record {
      so_far = λ q.
          let own_of : Map = own K (seat_of q) in
          let gs : List ℕ = branches K (seat_of q) in
          let e : (k : ℕ) → whole K V r height q k
          ≡ new_node k q.prefix ⊕ (sum (entry_from k []) own_of ⊕ sum (taken K V r height q k) gs) =
          λ k. portion_bushy K k height q.prefix [] q.part q.several
          ∙ seat_share K (seat_of q) k [] height q.deep refl in
          let f = λ (k : ℕ). ap (λ (x : Shared). x.new_nodes) (e k) in
          let h = λ (k : ℕ). ap (λ (x : Shared). x.new_entries) (e k) in
          let new = λ (k : ℕ). sum_new_entries (taken K V r height q k) gs in
          record {
            gs = gs;
            left = omega (arith, (H q).0.children);
            digits = λ g o. o;
            nodes = λ k. omega
                (arith, f k, (entries_nodes k [] own_of).1, sum_new (taken K V r height q k) gs);
            entries = λ k. omega (arith, h k, (H q).0.entries, all_new k own_of, new k);
            ahead = ahead_past s (flat entry own_of) _ (H q).1 t image (omega (arith, at, long q));
          };
    }

  -- ---- the children

  module _ {many j : ℕ} {c : Cells} {s : Cursor} (I : Counting K V r height many j c s) where
    module _ (some : j < many) where
      module _ (q : NodeAhead K V r height) where
        first : (g : ℕ) × ((gs : List ℕ) × ((I.so_far q).gs ≡ g ∷ gs))
        first = uncons (I.so_far q).gs (omega (arith, some, (I.so_far q).left))

        in_all : (g : ℕ) → 0 < occ g (first.0 ∷ first.1.0) → 0 < occ g (branches K (seat_of q))
        in_all g o = (I.so_far q).digits g (subst (λ (l : List ℕ). 0 < occ g l) (sym first.1.1) o)

        branch : 0 < occ first.0 (branches K (seat_of q))
        branch = in_all first.0 (occ_head first.0 first.1.0)

        its_node : NodeAhead K V s (height - 1)
        its_node =
            child_ahead q first.0 branch s first.1.0
            (subst (λ (l : List ℕ). Ahead s (next q [] l)) first.1.1 (I.so_far q).ahead)

        pub counting_child : NodeAhead K V s (height - 1) × (0 < height)
        counting_child = (its_node, child_tall q first.0 branch)

        -- what the next child takes, and what is left without it
        next_taken : (f : Shared → ℕ) (n : ℕ)
            → sum_by (λ g. f (taken K V r height q n g)) (I.so_far q).gs
            ≡ f (portion K n (height - 1) (q.prefix ++ (first.0 ∷ [])) [] (below q first.0 branch))
            + sum_by (λ g. f (taken K V r height q n g)) first.1.0
        next_taken f n =
            ap (sum_by (λ g. f (taken K V r height q n g))) first.1.1
            ∙ sum_by-cons (λ g. f (taken K V r height q n g)) first.0 first.1.0
            ∙ ap (λ (x : Shared). f x + sum_by (λ g. f (taken K V r height q n g)) first.1.0)
            (sym (child_shares q first.0 branch n))

      module _ {t : Cursor} {x : Cells} (C : NodeCounted K V s (height - 1) t x) where
        pub counting_more :
            Counting K V r height many (j + 1)
            (record { nodes = c.nodes + x.nodes; entries = c.entries + x.entries }) t
        unfolding its_node child_ahead
        counting_more = record {
          so_far = λ q.
              let w = I.so_far q in
              let f = first q in
              let a = λ (n : ℕ). next_taken q (λ (y : Shared). y.new_nodes) n in
              let b = λ (n : ℕ). next_taken q (λ (y : Shared). y.new_entries) n in
              record {
                gs = f.1.0;
                left = omega (arith, w.left, ap length f.1.1);
                digits = λ g o. in_all q g (occ_later g f.0 f.1.0 o);
                nodes = λ n. omega (arith, w.nodes n, C.nodes (its_node q) n, a n);
                entries = λ n. omega (arith, w.entries n, C.entries (its_node q) n, b n);
                ahead = C.onward (its_node q);
              };
        }

        -- never too many to count
        pub counting_fits : NodeAhead K V r height
            → (c.nodes + x.nodes < 2 ^ 64) × (c.entries + x.entries < 2 ^ 64)
        counting_fits q =
            let w = counting_more.so_far q in
            let f = portion_few K 0 height (omega (arith, q.deep)) q.prefix [] q.part in
            let k : (1 + height) * length q.part ≤ 9 * length q.part =
            mul-le-mul_right (length q.part) (omega (arith, q.deep)) in
            (omega (arith, w.nodes 0, f.0, k, q.few), omega (arith, w.entries 0, f.1, q.few))

    pub counting_whole : many ≤ j → NodeCounted K V r height s c
    counting_whole past = record {
      nodes = λ q
          n. omega (
            arith,
            (I.so_far q).nodes n,
            ap (sum_by (λ g. (taken K V r height q n g).new_nodes)) (none q),
          );
      entries =
          λ q n. omega (
            arith,
            (I.so_far q).entries n,
            ap (sum_by (λ g. (taken K V r height q n g).new_entries)) (none q),
          );
      onward = λ q. subst (λ (l : List ℕ). Ahead s (next q [] l)) (none q) (I.so_far q).ahead;
    }
      where
        none : (q : NodeAhead K V r height) → (I.so_far q).gs ≡ []
        none q = none_long (I.so_far q).gs (omega (arith, past, (I.so_far q).left))

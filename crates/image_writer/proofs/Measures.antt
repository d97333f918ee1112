-- The length of a node, child after child. Assumes nothing.
use Rattle.std.proofs.Common.{◌≡◌, ℕ, ◌+◌, ◌-◌, ◌*◌, ◌<◌, ◌≤◌, true, List, length, get_or, take, refl, ap, ◌∙◌, subst, arith, length-append}
use lib.Count.{ones}
use Rattle.std.specs.List.{flat_map}
use Rattle.std.proofs.lemmas.List.{take_all}
use Rattle.std.proofs.lemmas.List.Folds.{length-flat_map-take}
use Rattle.kinds.specs.Kinds.{KeyKind, ValueKind}
use Rattle.model.specs.Images.{node}
use Rattle.tables.specs.declared.cells.NodeCell.{NodeCell}
use Rattle.tables.specs.declared.cells.NodeId.{NodeId}
use Rattle.tables.specs.Chains.{occ}
use Rattle.tables.specs.Cells.{cell, kids, singles}
use Rattle.tables.proofs.Occurrences.{occ_at}
use Rattle.tables.proofs.Listed.{listed_rank}
use Rattle.tables.proofs.NodeCounts.{length_listed}
use Rattle.branches.specs.declared.branch.Branch.TheVariants.{Child}
use Rattle.branches.specs.States.{Tables, Notes}
use Rattle.branches.specs.Asked.{FewPart}
use Rattle.branches.proofs.Below.{told}
use Rattle.branches.proofs.Counting.{child_few}
use Rattle.image_writer.specs.Nodes.{head, Measured}
use Rattle.image_writer.proofs.Writes.{joined_more}
use Rattle.image_writer.proofs.Kids.{Noted, noted_is, noted_some, kid_level, kid_deep, kid_is}
use Rattle.image_writer.proofs.Sizes.{entries_small, node_long, node_bound}

-- a number of a row stands in it
pub of_row : (row ks : List ℕ) (rank : ℕ) → row ≡ ks → rank < length row → 0 < occ (get_or row rank 0) ks
of_row row ks rank e h = subst (λ (l : List ℕ). 0 < occ (get_or row rank 0) l) e (occ_at row rank h)

module _ {X Y : Type 0} (K : KeyKind) (V : ValueKind) (kb : X → List ℕ) (vb : Y → List ℕ) (T : Tables X Y) where
  -- the head and the entries of a node, and its children as far as a rank
  pub record Measuring (level i : ℕ) (row : List ℕ) (rank sum : ℕ) : Type 0 where
    pub children : row ≡ kids (cell T.nodes i)
    pub so_far : (N : Notes) (R E : List ℕ) → Noted K kb vb T level i N R E
        → sum ≡ length (head level (cell T.nodes i)) + (length (singles (cell T.nodes i)) * (1 + (K.width + V.width)) + length (flat_map (λ x. node K (level - 1) (N.node x).settings) (take rank row)))

  -- the entries of a node take few bytes
  pub singles_small : (level : ℕ) (id : NodeId) (ss : List ℕ) (a b : ℕ) → FewPart K kb vb T (Child id) level → ss ≡ singles (cell T.nodes id.0) → a ≡ K.width → b ≡ V.width → length ss * (1 + a + b) ≤ 16 * 129
  singles_small level id ss a b few e =
      let c : NodeCell = cell T.nodes id.0 in
      entries_small K V (length ss) a b (omega (arith, ap length e, length_listed c.datamap c.entries, (few.some.sits.nodes.narrow id.0).0))

  module _ (level : ℕ) (id : NodeId) (row : List ℕ) (rank sum : ℕ) (M : Measuring level id.0 row rank sum) where
    -- a child
    module _ (some : rank < length row) where
      abbrev child : ℕ
      child = get_or row rank 0

      kid : 0 < occ child (kids (cell T.nodes id.0))
      kid = of_row row (kids (cell T.nodes id.0)) rank M.children some

      abbrev slot : (rank < ones (cell T.nodes id.0).nodemap) × (child ≡ get_or (cell T.nodes id.0).children rank 0)
      slot = listed_rank (cell T.nodes id.0).nodemap (cell T.nodes id.0).children row rank M.children some

      child_long : (r : ℕ) → Measured K kb vb T (Child (record { 0 = child })) (level - 1) (node K (level - 1)) r
          → (N : Notes) (R E : List ℕ) → Noted K kb vb T level id.0 N R E → r ≡ length (node K (level - 1) (N.node child).settings)
      child_long r D N R E n =
          D.long N R E n.sits (N.node child).label.what (told (N.node child)) (kid_deep K kb vb T level id.0 N R E n child kid)
          (kid_is K kb vb T level id.0 N R E n child kid (record { 0 = child }) refl)

      pub measuring_more : (r : ℕ) → Measured K kb vb T (Child (record { 0 = child })) (level - 1) (node K (level - 1)) r → Measuring level id.0 row (rank + 1) (sum + r)
      measuring_more r D = record {
        children = M.children;
        so_far = λ N R E n.
            let below : ℕ → List ℕ = λ x. node K (level - 1) (N.node x).settings in
            omega (
              arith,
              M.so_far N R E n,
              child_long r D N R E n,
              ap length (joined_more below row rank some),
              length-append (flat_map below (take rank row)) (below child),
            );
      }

      module _ (few : FewPart K kb vb T (Child id) level) where
        noted : Noted K kb vb T level id.0 few.some.notes few.some.roots few.some.in_hand
        noted = noted_some K kb vb T level id few.some

        pub measuring_level : 1 ≤ level
        measuring_level = kid_level K kb vb T level id.0 few.some.notes few.some.roots few.some.in_hand noted child kid

        pub measuring_few : FewPart K kb vb T (Child (record { 0 = child })) (level - 1)
        measuring_few = child_few K kb vb T (cell T.nodes id.0) level rank (record { 0 = child }) slot.0 slot.1 id refl few

        -- the sum with the child's length fits
        pub measuring_fits : (key_reads : (k : X) → K.readable (kb k) ≡ true) (value_reads : (v : Y) → V.readable (vb v) ≡ true) (r : ℕ)
            → Measured K kb vb T (Child (record { 0 = child })) (level - 1) (node K (level - 1)) r → sum + r ≤ 65535 * 174
        measuring_fits key_reads value_reads r D =
            let N : Notes = few.some.notes in
            let R : List ℕ = few.some.roots in
            let E : List ℕ = few.some.in_hand in
            let below : ℕ → List ℕ = λ x. node K (level - 1) (N.node x).settings in
            let all : length (flat_map below row) ≡ length (flat_map below (kids (cell T.nodes id.0))) = ap (λ (l : List ℕ). length (flat_map below l)) M.children in
            omega (
              arith,
              M.so_far N R E noted,
              child_long r D N R E noted,
              length-flat_map-take below row rank 0 some,
              all,
              node_long K V kb vb key_reads value_reads T level id.0 N R E noted,
              node_bound K V kb vb key_reads value_reads T level id.0 N R E noted (omega (arith, few.few, ap length few.some.is.0.settings)),
            )

    pub measuring_all : (key_reads : (k : X) → K.readable (kb k) ≡ true) (value_reads : (v : Y) → V.readable (vb v) ≡ true) → length row ≤ rank → Measured K kb vb T (Child id) level (node K level) sum
    measuring_all key_reads value_reads past = record {
      long = λ N R E S p a d is.
          let n = noted_is K kb vb T level id N R E S p a d is in
          let below : ℕ → List ℕ = λ x. node K (level - 1) (N.node x).settings in
          omega (
            arith,
            M.so_far N R E n,
            ap (λ (l : List ℕ). length (flat_map below l)) (take_all rank row past ∙ M.children),
            node_long K V kb vb key_reads value_reads T level id.0 N R E n,
            ap (λ m. length (node K level m)) is.0.settings,
          );
    }

  -- the length of a node of few settings fits
  pub long_fits : (key_reads : (k : X) → K.readable (kb k) ≡ true) (value_reads : (v : Y) → V.readable (vb v) ≡ true) (level : ℕ) (id : NodeId) (r : ℕ) → FewPart K kb vb T (Child id) level → Measured K kb vb T (Child id) level (node K level) r → r ≤ 65535 * 174
  long_fits key_reads value_reads level id r few D =
      let n = noted_some K kb vb T level id few.some in
      omega (
        arith,
        D.long few.some.notes few.some.roots few.some.in_hand few.some.sits few.some.prefix few.some.part few.some.deep few.some.is,
        ap (λ m. length (node K level m)) few.some.is.0.settings,
        node_bound K V kb vb key_reads value_reads T level id.0 few.some.notes few.some.roots few.some.in_hand n (omega (arith, few.few, ap length few.some.is.0.settings)),
      )

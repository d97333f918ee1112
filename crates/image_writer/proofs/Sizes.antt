-- How long a node's bytes are: by its cell, and by its settings at most. Assumes nothing.
use Rattle.std.proofs.Common.{◌≡◌, ℕ, zero, suc, ◌+◌, ◌-◌, ◌*◌, ◌<◌, ◌≤◌, true, List, [], ◌∷◌, ◌++◌, length, sum_by, sym, refl, ap, ◌∙◌, subst, arith, length-append}
use Rattle.std.proofs.Math.Nat.{mul-le-mul_left}
use Rattle.std.specs.List.{flat_map}
use Rattle.std.proofs.lemmas.List.Sums.{sum_by-cons}
use Rattle.kinds.specs.Kinds.{KeyKind, ValueKind}
use Rattle.model.specs.Maps.{Setting}
use Rattle.model.specs.Images.{entry, node}
use Rattle.tables.specs.declared.cells.NodeCell.{NodeCell}
use Rattle.tables.specs.Chains.{occ}
use Rattle.tables.specs.Cells.{cell, entry_cell, kids, singles}
use Rattle.tables.proofs.Occurrences.{occ_head, occ_later}
use Rattle.tables.proofs.NodeCounts.{length_listed}
use Rattle.tables.proofs.Noting.{single_held}
use Rattle.branches.specs.States.{Tables, Notes, Sits}
use Rattle.branches.proofs.Counting.{node_size}
use Rattle.image_writer.specs.Nodes.{head}
use Rattle.image_writer.proofs.Cells.{node_bytes}
use Rattle.image_writer.proofs.Kids.{Noted, kid_level, kid_noted}

-- ---- rows of bytes for a row of numbers

joined_wide : (f : ℕ → List ℕ) (w : ℕ) (l : List ℕ) → ((x : ℕ) → 0 < occ x l → length (f x) ≡ w) → length (flat_map f l) ≡ length l * w
joined_wide f w [] h = omega arith
joined_wide f w (x ∷ l) h = omega (arith, length-append (f x) (flat_map f l), h x (occ_head x l), joined_wide f w l (λ y p. h y (occ_later y x l p)))

joined_bound : (f : ℕ → List ℕ) (g : ℕ → ℕ) (c : ℕ) (l : List ℕ) → ((x : ℕ) → 0 < occ x l → length (f x) ≤ g x * c) → length (flat_map f l) ≤ sum_by g l * c
joined_bound f g c [] h = omega arith
joined_bound f g c (x ∷ l) h =
    let e : sum_by g (x ∷ l) * c ≡ (g x + sum_by g l) * c = ap (λ (n : ℕ). n * c) (sum_by-cons g x l) in
    omega (arith, e, length-append (f x) (flat_map f l), h x (occ_head x l), joined_bound f g c l (λ y p. h y (occ_later y x l p)))

-- a head, some entries and what the children take
sum_bound : (s S n w c : ℕ) → s + S ≡ n → 1 ≤ n → w ≤ c → 5 + (s * w + S * c) ≤ n * (c + 5)
sum_bound s S n w c e some h =
    let p : s * w ≤ s * c = mul-le-mul_left s h in
    let q : n * c ≡ (s + S) * c = ap (λ (z : ℕ). z * c) (sym e) in
    omega (arith, p, q)

-- at most 16 entries
pub entries_small : (K : KeyKind) (V : ValueKind) (s a b : ℕ) → s ≤ 16 → a ≡ K.width → b ≡ V.width → s * (1 + a + b) ≤ 16 * 129
entries_small K V s a b few k v =
    let h : s * (1 + a + b) ≤ s * 129 = mul-le-mul_left s (omega (arith, K.width_fits, V.width_fits)) in
    omega (arith, h)

-- ---- what a node begins with

head_small : (level : ℕ) (c : NodeCell) → length (head level c) ≤ 5
head_small zero c = omega arith
head_small (suc h) c = omega arith

module _ {X Y : Type 0} (K : KeyKind) (V : ValueKind) (kb : X → List ℕ) (vb : Y → List ℕ) (key_reads : (k : X) → K.readable (kb k) ≡ true) (value_reads : (v : Y) → V.readable (vb v) ≡ true) (T : Tables X Y) where
  abbrev pub entry_width : ℕ
  entry_width = 1 + (K.width + V.width)

  entry_small : entry_width ≤ 129
  entry_small = omega (arith, K.width_fits, V.width_fits)

  module _ (N : Notes) (R E : List ℕ) (S : Sits K kb vb T N R E) where
    pub entry_long : (e : ℕ) → 0 < (entry_cell T.entries e).holders → length (entry (N.entry e).setting) ≡ entry_width
    entry_long e h =
        let f = S.means.entry_fits e h in
        ap (λ (s : Setting). length (entry s)) f.setting_is ∙ omega (arith, length-append (kb f.key) (vb f.value), K.reads_width (kb f.key) (key_reads f.key), V.reads_width (vb f.value) (value_reads f.value))

    pub entries_long : (l : List ℕ) → ((e : ℕ) → 0 < occ e l → 0 < (entry_cell T.entries e).holders) → length (flat_map (λ e. entry (N.entry e).setting) l) ≡ length l * entry_width
    entries_long l held = joined_wide (λ e. entry (N.entry e).setting) entry_width l (λ e p. entry_long e (held e p))

  -- ---- a node

  module _ (level i : ℕ) (N : Notes) (R E : List ℕ) (n : Noted K kb vb T level i N R E) where
    abbrev here : NodeCell
    here = cell T.nodes i

    abbrev below : ℕ → List ℕ
    below x = node K (level - 1) (N.node x).settings

    pub node_is : node K level (N.node i).settings ≡ head level here ++ (flat_map (λ e. entry (N.entry e).setting) (singles here) ++ flat_map below (kids here))
    node_is = node_bytes K N.node N.entry here (N.node i) (n.sits.means.fits i n.held) level n.deep

    pub node_singles : (e : ℕ) → 0 < occ e (singles here) → 0 < (entry_cell T.entries e).holders
    node_singles e p = single_held T.nodes T.entries T.entry_free T.entry_spare E n.sits.entries i e p

    pub node_long : length (node K level (N.node i).settings) ≡ length (head level here) + (length (singles here) * entry_width + length (flat_map below (kids here)))
    node_long =
        omega (
          arith,
          ap length node_is,
          length-append (head level here) (flat_map (λ e. entry (N.entry e).setting) (singles here) ++ flat_map below (kids here)),
          length-append (flat_map (λ e. entry (N.entry e).setting) (singles here)) (flat_map below (kids here)),
          entries_long N R E n.sits (singles here) node_singles,
        )

  -- by its settings: an entry takes at most 129 bytes, and each setting has at most one node at each level
  abbrev each : ℕ → ℕ
  each level = 129 + 5 * level

  bound_here : (level i : ℕ) (N : Notes) (R E : List ℕ) → Noted K kb vb T level i N R E
      → ((x : ℕ) → 0 < occ x (kids (cell T.nodes i)) → length (node K (level - 1) (N.node x).settings) ≤ length (N.node x).settings * each level)
      → length (node K level (N.node i).settings) ≤ length (N.node i).settings * (each level + 5)
  bound_here level i N R E n kid =
      let c : NodeCell = cell T.nodes i in
      let s : ℕ = length (singles c) in
      let S : ℕ = sum_by (λ x. length (N.node x).settings) (kids c) in
      let counted : s + S ≡ length (N.node i).settings =
      ap (λ (k : ℕ). k + S) (length_listed c.datamap c.entries) ∙ node_size K N.node N.entry c (N.node i) (n.sits.means.fits i n.held) in
      let b : 5 + (s * entry_width + S * each level) ≤ length (N.node i).settings * (each level + 5) =
      sum_bound s S (length (N.node i).settings) entry_width (each level) counted n.some (omega (arith, entry_small)) in
      omega (
        arith,
        b,
        node_long level i N R E n,
        head_small level c,
        joined_bound (λ x. node K (level - 1) (N.node x).settings) (λ x. length (N.node x).settings) (each level) (kids c) kid,
      )

  bound_by : (h level i : ℕ) → level ≡ h → (N : Notes) (R E : List ℕ) → Noted K kb vb T level i N R E → length (node K level (N.node i).settings) ≤ length (N.node i).settings * (each level + 5)
  bound_by zero level i e N R E n = bound_here level i N R E n (λ x p. absurd (omega (arith, kid_level K kb vb T level i N R E n x p)))
  bound_by (suc h) level i e N R E n =
      bound_here level i N R E n λ x p.
      subst (λ (c : ℕ). length (node K (level - 1) (N.node x).settings) ≤ length (N.node x).settings * c) (let same : each (level - 1) + 5 ≡ each level = omega arith in same)
      (bound_by h (level - 1) x (omega arith) N R E (kid_noted K kb vb T level i N R E n x p))

  pub node_bound : (level i : ℕ) (N : Notes) (R E : List ℕ) → Noted K kb vb T level i N R E → length (N.node i).settings ≤ 65535 → length (node K level (N.node i).settings) ≤ 65535 * 174
  node_bound level i N R E n few =
      let b = bound_by level level i refl N R E n in
      let l : level ≤ 8 = omega (arith, n.deep) in
      let m : length (N.node i).settings * (each level + 5) ≤ length (N.node i).settings * 174 = mul-le-mul_left (length (N.node i).settings) (omega arith) in
      omega (arith, b, m)

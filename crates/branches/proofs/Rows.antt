-- A node at the deepest level: its settings in hand as a row of entries. Assumes nothing.
use Rattle.std.proofs.Common.{◌≡◌, ℕ, ◌+◌, ◌<◌, ltb, List, [], ◌∷◌, ◌++◌, length, None, sym, ap, ◌∙◌, ap₂, arith}
use Rattle.std.proofs.lemmas.List.{append-nil}
use Rattle.std.proofs.lemmas.Bool.{cond-false, lt-ltb, le-ltb}
use Rattle.kinds.specs.Kinds.{KeyKind}
use Rattle.model.specs.Maps.{Setting, Map}
use Rattle.model.specs.Sharing.{Marked, Part, Shared, no_share, ◌⊕◌, new_node, first_same, entry_from, sum, share}
use Rattle.tables.specs.declared.cells.NodeCell.{NodeCell}
use Rattle.tables.specs.declared.cells.NodeId.{NodeId}
use Rattle.tables.specs.Cells.{kids, singles}
use Rattle.tables.specs.Heaps.{NodeMade}
use Rattle.plans.proofs.Sharing.{share_new_leaf}
use Rattle.branches.specs.declared.branch.Branch.TheVariants.{Child}
use Rattle.branches.specs.States.{Tables, Notes, Sits, Grown, Clear, Under, Led}
use Rattle.branches.specs.Branches.{Built}
use Rattle.branches.specs.Hands.{Hand}
use Rattle.branches.proofs.Growing.{EntriesStay}
use Rattle.branches.proofs.Hands.{hand_entry, hand_node}

-- nothing more is shared
pub plus_none : (a : Shared) → a ≡ a ⊕ no_share
plus_none a =
    let some : List Marked → List Marked → ℕ → ℕ → Shared = λ x y k l. record { nodes = x; entries = y; new_nodes = k; new_entries = l } in
    let k : a.new_nodes ≡ a.new_nodes + 0 = omega arith in
    let l : a.new_entries ≡ a.new_entries + 0 = omega arith in
    ap₂ (λ (x y : List Marked). some x y a.new_nodes a.new_entries) (sym (append-nil a.nodes)) (sym (append-nil a.entries))
    ∙ ap₂ (λ (x y : ℕ). some (a.nodes ++ []) (a.entries ++ []) x y) k l

module _ {X Y : Type 0} (K : KeyKind) (kb : X → List ℕ) (vb : Y → List ℕ) (n h : ℕ) (p : List ℕ) (sources : List Part) (m : Map)
    (T : Tables X Y) (N : Notes) (R E : List ℕ) (P Q : List ℕ → Type 0) where
  -- one entry more in hand
  pub row_more :
      (mine : Map) (xs : List ℕ) (U : Tables X Y) (G : Hand K kb vb n h p sources m T N R E P Q mine [] xs [] U)
      (P' Q' V V' : List ℕ → Type 0) (s : Setting) (e : ℕ) (W : Tables X Y) (M : Notes) → Grown n P' Q' U G.notes W M
      → ((q : List ℕ) → P q → V q) → ((q : List ℕ) → P' q → V q) → ((k : List ℕ) → Q k → V' k) → ((k : List ℕ) → Q' k → V' k)
      → Sits K kb vb W M R (e ∷ (xs ++ E))
      → (M.entry e).setting ≡ s → (M.entry e).label ∷ [] ≡ (entry_from n sources s).entries
      → W.spare ≡ U.spare → W.entry_spare + (entry_from n sources s).new_entries ≡ U.entry_spare
      → Hand K kb vb n h p sources m T N R E V V' (mine ++ (s ∷ [])) [] (xs ++ (e ∷ [])) [] W
  row_more mine xs U G P' Q' V V' s e W M grown v v' w w' =
      hand_entry K kb vb n h p sources m T N R E P Q mine [] xs [] U G P' Q' V V' W M grown v v' w
      w' s e

  -- the node over the row
  pub row_node :
      (xs : List ℕ) (U : Tables X Y) → Hand K kb vb n h p sources m T N R E P Q m [] xs [] U
      → ((q : List ℕ) → P q → Under p q) → ((q : List ℕ) → P q → q ≡ p → ⊥) → ((k : List ℕ) → Q k → Led K p k) → Clear n (Under p) (Led K p) T N
      → length p ≡ 8 → first_same sources m ≡ None → 1 < length m
      → (i : NodeId) (new : NodeCell) (W : Tables X Y) → EntriesStay U W → NodeMade i.0 new U.nodes U.free U.spare W.nodes W.free W.spare
      → kids new ≡ [] → singles new ≡ xs → new.level ≡ 0 → 0 < new.holders
      → Built K kb vb n 0 p m (share K n 0 p sources m) T N R E (Child i) W
  row_node xs U G inside apart inside_keys clear deep none several i new W stay done kids_are singles_are level_is some =
      hand_node K kb vb n h p sources m T N R E P Q m [] xs [] U G inside apart inside_keys clear i new W done stay kids_are singles_are some
      (cond-false (ltb (length p) 8) _ _ (le-ltb (length p) 8 (omega arith))) (cond-false (ltb (length p) 8) _ _ (le-ltb (length p) 8 (omega arith)))
      (omega (arith, level_is, deep)) (λ q. absurd (omega (arith, q, deep))) (λ q. absurd (omega (arith, q, deep)))
      (share K n 0 p sources m) (share_new_leaf K n p sources m none ∙ ap (λ (a : Shared). new_node n p ⊕ a) (plus_none (sum (entry_from n sources) m)))
      0 (lt-ltb 1 (length m) several)

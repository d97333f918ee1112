-- The bytes of a node by its cell and the notes of what it refers to. Assumes nothing.
use Rattle.std.proofs.Common.{◌≡◌, ℕ, zero, suc, ◌+◌, ◌-◌, ◌<◌, Bool, true, false, cond, ltb, List, [], ◌∷◌, ◌++◌, map, length, sym, refl, ap, ◌∙◌, ap₂, append_assoc, arith}
use Rattle.std.specs.List.{flat_map}
use Rattle.std.proofs.lemmas.List.{append-nil, map-append}
use Rattle.std.proofs.lemmas.Bool.{cond-true, lt-ltb}
use Rattle.byte_rows.specs.Rows.{in_bytes}
use Rattle.kinds.specs.Kinds.{KeyKind}
use Rattle.model.specs.Maps.{Map}
use Rattle.model.specs.Tries.{filter, concat, sixteen, at_digit, parts, one, many, branching}
use Rattle.model.specs.Images.{entry, bits, picked, node}
use Rattle.tables.specs.declared.cells.NodeCell.{NodeCell}
use Rattle.tables.specs.Cells.{kids, singles}
use Rattle.tables.specs.Notes.{Seat, Note, EntryNote, seat, branches, own, Fits}
use Rattle.tables.proofs.Ranks.{no_children, all_own, as_many}
use Rattle.tables.proofs.Rows.{joined_same, joined_map}
use Rattle.image_writer.specs.Nodes.{head}

-- ---- rows of settings, and of parts

settings_joined : (m : Map) → concat (map entry m) ≡ flat_map entry m
settings_joined [] = refl
settings_joined (s ∷ m) = ap (λ (l : List ℕ). entry s ++ l) (settings_joined m)

joined_labels : {A : Type 0} (f : A → List ℕ) (g : ℕ → A) (l : List ℕ) → flat_map f (map g l) ≡ flat_map (λ x. f (g x)) l
joined_labels f g [] = refl
joined_labels f g (x ∷ l) = ap (λ (r : List ℕ). f (g x) ++ r) (joined_labels f g l)

concat_append : {A : Type 0} (a b : List (List A)) → concat (a ++ b) ≡ concat a ++ concat b
concat_append [] b = refl
concat_append {A = A} (x ∷ a) b = ap (λ (l : List A). x ++ l) (concat_append a b) ∙ sym (append_assoc x (concat a) (concat b))

-- the entries of the parts of one setting are those of the settings that stand in the node
entries_picked : (ps : List Map) → picked one (λ p. concat (map entry p)) ps ≡ concat (map entry (picked one (λ q. q) ps))
entries_picked [] = refl
entries_picked (m ∷ ps) = go (one m) (entries_picked ps)
  where
    go : (b : Bool) → picked one (λ p. concat (map entry p)) ps ≡ concat (map entry (picked one (λ q. q) ps))
        → cond b (concat (map entry m)) [] ++ picked one (λ p. concat (map entry p)) ps ≡ concat (map entry (cond b m [] ++ picked one (λ q. q) ps))
    go true e =
        ap (λ (l : List ℕ). concat (map entry m) ++ l) e
        ∙ sym (ap concat (map-append entry m (picked one (λ q. q) ps)) ∙ concat_append (map entry m) (map entry (picked one (λ q. q) ps)))
    go false e = e

-- what the parts of more settings give stands by their digits
many_picked : (r : Map → List ℕ) (f : ℕ → Map) (gs : List ℕ) → picked many r (map f gs) ≡ flat_map (λ g. r (f g)) (filter (λ g. many (f g)) gs)
many_picked r f [] = refl
many_picked r f (g ∷ gs) = go (many (f g)) (many_picked r f gs)
  where
    go : (b : Bool) → picked many r (map f gs) ≡ flat_map (λ x. r (f x)) (filter (λ x. many (f x)) gs)
        → cond b (r (f g)) [] ++ picked many r (map f gs) ≡ flat_map (λ x. r (f x)) (cond b (g ∷ filter (λ x. many (f x)) gs) (filter (λ x. many (f x)) gs))
    go true e = ap (λ (l : List ℕ). r (f g) ++ l) e
    go false e = e

-- ---- a node that fits

module _ (K : KeyKind) (note : ℕ → Note) (entry_note : ℕ → EntryNote) (c : NodeCell) (a : Note) (fits : Fits K note entry_note c a) where
  abbrev entries : List ℕ
  entries = flat_map (λ e. entry (entry_note e).setting) (singles c)

  abbrev children : ℕ → List ℕ
  children h = flat_map (λ x. node K h (note x).settings) (kids c)

  own_joined : concat (map entry (own K (seat a))) ≡ entries
  own_joined =
      settings_joined (own K (seat a)) ∙ ap (flat_map entry) (sym fits.owns) ∙ joined_labels entry (λ e. (entry_note e).setting) (singles c)

  children_joined : (h : ℕ) → flat_map (λ g. node K h (at_digit K (length a.label.what) a.settings g)) (branches K (seat a)) ≡ children h
  children_joined h =
      joined_same (λ g. node K h (at_digit K (length a.label.what) a.settings g)) (λ g. node K h (note (a.child g)).settings) (branches K (seat a))
      (λ g p. ap (λ (s : Seat). node K h s.settings) (sym (fits.seats g p)))
      ∙ sym (joined_map (λ x. node K h (note x).settings) a.child (branches K (seat a))) ∙ ap (flat_map (λ x. node K h (note x).settings)) (sym fits.children)

  deepest : length a.label.what ≡ 8 → node K 0 a.settings ≡ head 0 c ++ (entries ++ children 0)
  deepest deep =
      let none : children 0 ≡ [] = ap (flat_map (λ x. node K 0 (note x).settings)) (no_children K note entry_note c a fits deep) in
      let all : concat (map entry a.settings) ≡ entries =
      settings_joined a.settings ∙ ap (flat_map entry) (sym (all_own K note entry_note c a fits deep)) ∙ joined_labels entry (λ e. (entry_note e).setting) (singles c) in
      ap₂ (λ (n : ℕ) (l : List ℕ). 0x43 ∷ (n ∷ l)) (sym (as_many K note entry_note c a fits deep))
      (all ∙ sym (append-nil entries) ∙ ap (λ (l : List ℕ). entries ++ l) (sym none))

  shallow : (h : ℕ) → length a.label.what ≡ 7 - h → h < 8 → node K (suc h) a.settings ≡ head (suc h) c ++ (entries ++ children h)
  shallow h deep less =
      let short : length a.label.what < 8 = omega arith in
      let test : ltb (length a.label.what) 8 ≡ true = lt-ltb (length a.label.what) 8 short in
      let ps : List Map = parts K (length a.label.what) a.settings in
      let own_is : picked one (λ p. concat (map entry p)) ps ≡ entries =
      entries_picked ps ∙ ap (λ (m : Map). concat (map entry m)) (sym (cond-true (ltb (length a.label.what) 8) (picked one (λ q. q) ps) a.settings test)) ∙ own_joined in
      let kids_are : picked many (node K h) ps ≡ children h =
      many_picked (node K h) (at_digit K (length a.label.what) a.settings) sixteen
      ∙ ap (flat_map (λ g. node K h (at_digit K (length a.label.what) a.settings g)))
      (sym (cond-true (ltb (length a.label.what) 8) (branching K (length a.label.what) a.settings) [] test))
      ∙ children_joined h in
      ap (λ (d : ℕ).
      0x4E ∷ (in_bytes 2 (bits one (parts K d a.settings)) ++ (in_bytes 2 (bits many (parts K d a.settings)) ++
      (picked one (λ p. concat (map entry p)) (parts K d a.settings) ++ picked many (node K h) (parts K d a.settings)))))
      (sym deep)
      ∙ ap₂ (λ (x y : List ℕ). 0x4E ∷ (x ++ (y ++ (picked one (λ p. concat (map entry p)) ps ++ picked many (node K h) ps))))
      (ap (in_bytes 2) (sym (fits.data_bits short))) (ap (in_bytes 2) (sym (fits.node_bits short)))
      ∙ ap₂ (λ (x y : List ℕ). 0x4E ∷ (in_bytes 2 c.datamap ++ (in_bytes 2 c.nodemap ++ (x ++ y)))) own_is kids_are
      ∙ ap (λ (l : List ℕ). 0x4E ∷ l) (sym (append_assoc (in_bytes 2 c.datamap) (in_bytes 2 c.nodemap) (entries ++ children h)))

  -- its head, its entries, and the nodes of its children
  pub node_bytes : (level : ℕ) → length a.label.what + level ≡ 8 → node K level a.settings ≡ head level c ++ (entries ++ children (level - 1))
  node_bytes zero deep = deepest (omega arith)
  node_bytes (suc h) deep =
      let e : suc h - 1 ≡ h = omega arith in
      shallow h (omega arith) (omega arith) ∙ ap (λ (n : ℕ). head (suc h) c ++ (entries ++ children n)) (sym e)

-- Whether rows of entries, and branches, are the same. Assumes nothing.
use Rattle.std.proofs.Common.{◌≡◌, ℕ, ◌+◌, ◌-◌, ◌<◌, ◌≤◌, Bool, true, false, ltb, All, List, [], ◌∷◌, ◌++◌, map, length, get_or, sym, refl, ap, ◌∙◌, subst, inl, inr, arith}
use Rattle.std.specs.Prelude.{Decides}
use Rattle.std.proofs.lemmas.List.{length-map, get_or-map, ext_get_or, length_push}
use Rattle.std.proofs.lemmas.List.Elements.{All-from_get_or}
use Rattle.std.proofs.lemmas.Bool.{both_ways, false≢true, cases_eq, ltb-true, lt-ltb, cond-true}
use Rattle.std.proofs.lemmas.Bool.Decides.{same_from_decides}
use Rattle.kinds.specs.Kinds.{KeyKind}
use Rattle.model.specs.Maps.{Setting, Map, same_map, Rises}
use Rattle.model.specs.Tries.{at_digit}
use Rattle.model.specs.Sharing.{Part, below}
use Rattle.model.proofs.Marks.Keys.{same_map_true, filter_rises}
use Rattle.tables.specs.declared.cells.EntryCell.{EntryCell}
use Rattle.tables.specs.declared.cells.EntryId.{EntryId}
use Rattle.tables.specs.declared.cells.NodeId.{NodeId}
use Rattle.tables.specs.Cells.{cell, singles}
use Rattle.tables.proofs.Occurrences.{occ_at}
use Rattle.plans.proofs.Digits.{same_map_self}
use Rattle.branches.specs.declared.branch.Branch.{Branch}
use Rattle.branches.specs.declared.branch.Branch.TheVariants.{Nothing, Entry, Child}
use Rattle.branches.specs.States.{Tables, Notes, Sits}
use Rattle.branches.specs.Branches.{Is, SomeEntry, GoesOn}
use Rattle.branches.specs.Compared.{TwoParts, Compared, EntriesCompared, RowsCompared}
use Rattle.branches.proofs.Ends.{deep_settings, deep_held}
use Rattle.branches.proofs.Risen.{same_digits}

-- ---- rows of entries

module _ {X Y : Type 0} (K : KeyKind) (kb : X → List ℕ) (vb : Y → List ℕ) (es : List (EntryCell X Y)) (xs ys : List ℕ) where
  -- the first so many entries of two rows have the same settings
  pub record AlikeSoFar (rank : ℕ) : Type 0 where
    pub alike : (T : Tables X Y) (N : Notes) (R E : List ℕ) → Sits K kb vb T N R E → T.entries ≡ es → (k : ℕ) → k < rank → (N.entry (get_or xs k 0)).setting ≡ (N.entry (get_or ys k 0)).setting

  module _ (rank d e : ℕ) (d_is : d ≡ get_or xs rank 0) (e_is : e ≡ get_or ys rank 0) (r : Bool) (c : EntriesCompared K kb vb es d e r) where
    pub alike_more : r ≡ true → AlikeSoFar rank → (next : ℕ) → next ≡ rank + 1 → AlikeSoFar next
    alike_more t so_far next one_more = record {
      alike = λ T N R E S here k h.
          elim (cases_eq k rank) [
            | inl q ↦
                ap (λ (x : ℕ). (N.entry (get_or xs x 0)).setting) q ∙ ap (λ (x : ℕ). (N.entry x).setting) (sym d_is)
                ∙ (c.same T N R E S here).0 t
                ∙ ap (λ (x : ℕ). (N.entry x).setting) e_is ∙ ap (λ (x : ℕ). (N.entry (get_or ys x 0)).setting) (sym q)
            | inr n ↦ so_far.alike T N R E S here k (omega arith)
          ];
    }

    pub rows_differ : r ≡ false → rank < length xs → rank < length ys → RowsCompared K kb vb es xs ys false
    rows_differ f in_one in_other = record {
      same = λ T N R E S here. (
        λ z. absurd (false≢true z),
        λ q.
            let setting : ℕ → Setting = λ x. (N.entry x).setting in
            let none : Setting = record { key = []; value = [] } in
            absurd (both_ways r f ((c.same T N R E S here).1
            (ap setting d_is ∙ sym (get_or-map setting xs rank 0 none in_one) ∙ ap (λ (m : Map). get_or m rank none) q ∙ get_or-map setting ys rank 0 none in_other ∙ ap setting (sym e_is)))),
      );
    }

  pub rows_same : (rank : ℕ) → AlikeSoFar rank → length xs ≡ length ys → length xs ≤ rank → RowsCompared K kb vb es xs ys true
  rows_same rank so_far long past = record {
    same = λ T N R E S here.
        let setting : ℕ → Setting = λ x. (N.entry x).setting in
        let none : Setting = record { key = []; value = [] } in (
          λ z. ext_get_or none (map setting xs) (map setting ys) (length-map xs setting ∙ long ∙ sym (length-map ys setting))
              (λ k h.
              let in_one : k < length xs = omega (arith, length-map xs setting) in
              let in_other : k < length ys = omega arith in
              get_or-map setting xs k 0 none in_one ∙ so_far.alike T N R E S here k (omega arith) ∙ sym (get_or-map setting ys k 0 none in_other)),
          λ q. refl,
        );
  }

-- ---- maps

same_map_decides : (a b : Map) → Decides (same_map a b) (a ≡ b)
same_map_decides a b = (same_map_true a b, λ e. ap (same_map a) (sym e) ∙ same_map_self a)

map_decided : (r : Bool) (a b : Map) → Decides r (a ≡ b) → r ≡ same_map a b
map_decided r a b d = same_from_decides r (same_map a b) d (same_map_decides a b)

maps_same : (a b : Map) → a ≡ b → true ≡ same_map a b
maps_same a b e = map_decided true a b (λ z. e, λ z. refl)

maps_differ : (a b : Map) → (a ≡ b → ⊥) → false ≡ same_map a b
maps_differ a b n = map_decided false a b (λ z. absurd (false≢true z), λ e. absurd (n e))

-- ---- branches

module _ {X Y : Type 0} (K : KeyKind) (kb : X → List ℕ) (vb : Y → List ℕ) (T : Tables X Y) where
  -- what two branches are told to be
  pub two_as : (b d b' d' : Branch) (level : ℕ) → b ≡ b' → d ≡ d' → TwoParts K kb vb T b d level → TwoParts K kb vb T b' d' level
  two_as b d b' d' level e f t = subst (λ (x : Branch). TwoParts K kb vb T x d' level) e (subst (λ (x : Branch). TwoParts K kb vb T b x level) f t)

  pub two_low : (b d : Branch) (level : ℕ) → level ≡ 0 → TwoParts K kb vb T b d level → TwoParts K kb vb T b d 0
  two_low b d level e = subst (TwoParts K kb vb T b d) e

  pub compared_as : (b d b' d' : Branch) (level : ℕ) (r : Bool) → b ≡ b' → d ≡ d' → Compared K kb vb T b' d' level r → Compared K kb vb T b d level r
  compared_as b d b' d' level r e f c = subst (λ (x : Branch). Compared K kb vb T x d level r) (sym e) (subst (λ (x : Branch). Compared K kb vb T b' x level r) (sym f) c)

  -- ---- entries

  pub compared_entries : (i j : EntryId) (level : ℕ) (r : Bool) → EntriesCompared K kb vb T.entries i.0 j.0 r → Compared K kb vb T (Entry i) (Entry j) level r
  compared_entries i j level r c = record {
    same = λ N R E S p x y deep is also up rising.
        let d = c.same T N R E S refl in
        map_decided r x.settings y.settings (
          λ t. is.1.settings ∙ ap (λ (s : Setting). s ∷ []) (d.0 t) ∙ sym also.1.settings,
          λ q. d.1 (ap (λ (m : Map). get_or m 0 (N.entry i.0).setting) (sym is.1.settings ∙ q ∙ also.1.settings)),
        );
  }

  -- ---- nodes

  pub compared_one : (i j : NodeId) (level : ℕ) → i.0 ≡ j.0 → Compared K kb vb T (Child i) (Child j) level true
  compared_one i j level e = record {
    same = λ N R E S p x y deep is also up rising.
        maps_same x.settings y.settings (sym is.0.settings ∙ ap (λ (k : ℕ). (N.node k).settings) e ∙ also.0.settings);
  }

  -- a node is not nothing, and no entry
  pub node_no_part : (i : NodeId) (level : ℕ) → Compared K kb vb T (Child i) Nothing level false
  node_no_part i level = record {
    same = λ N R E S p x y deep is also up rising.
        maps_differ x.settings y.settings
        (λ e. omega (arith, ltb-true _ (length x.settings) is.1, ap length e, ap (λ (a : Part). length a.settings) also));
  }

  pub node_no_entry : (i : NodeId) (d : EntryId) (level : ℕ) → Compared K kb vb T (Child i) (Entry d) level false
  node_no_entry i d level = record {
    same = λ N R E S p x y deep is also up rising.
        let several : 1 < length x.settings = ltb-true 1 (length x.settings) (ap (λ (k : ℕ). ltb k (length x.settings)) (sym (cond-true (ltb level 8) 1 0 (lt-ltb level 8 also.0))) ∙ is.1) in
        maps_differ x.settings y.settings (λ e. omega (arith, several, ap length e, ap length also.1.settings));
  }

  -- ---- collision nodes

  module _ (i j : NodeId) (t : TwoParts K kb vb T (Child i) (Child j) 0) where
    -- what they list is held
    deep : length t.first.prefix ≡ 8
    deep = omega (arith, t.first.deep)

    held_in : (k : NodeId) (a : Part) → Is T t.first.notes (Child k) 0 t.first.prefix a → (xs : List ℕ) → xs ≡ singles (cell T.nodes k.0) → All (SomeEntry K kb vb T.entries) xs
    held_in k a is xs e =
        subst (All (SomeEntry K kb vb T.entries)) (sym e)
        (All-from_get_or (SomeEntry K kb vb T.entries) (singles (cell T.nodes k.0)) 0
        (λ n h. record {
          tables = T;
          notes = t.first.notes;
          roots = t.first.roots;
          in_hand = t.first.in_hand;
          sits = t.first.sits;
          entries_are = refl;
          held = deep_held K kb vb T t.first.notes t.first.roots t.first.in_hand t.first.sits k.0 t.first.prefix a is.0 deep (get_or (singles (cell T.nodes k.0)) n 0) (occ_at (singles (cell T.nodes k.0)) n h);
        }))

    pub held_one : (xs : List ℕ) → xs ≡ singles (cell T.nodes i.0) → All (SomeEntry K kb vb T.entries) xs
    held_one = held_in i t.first.part t.first.is

    pub held_other : (ys : List ℕ) → ys ≡ singles (cell T.nodes j.0) → All (SomeEntry K kb vb T.entries) ys
    held_other = held_in j t.second t.is

  pub compared_rows :
      (i j : NodeId) (level : ℕ) → level ≡ 0 → (xs ys : List ℕ) → xs ≡ singles (cell T.nodes i.0) → ys ≡ singles (cell T.nodes j.0) → (r : Bool)
      → RowsCompared K kb vb T.entries xs ys r → Compared K kb vb T (Child i) (Child j) level r
  compared_rows i j level low xs ys e f r c = record {
    same = λ N R E S p x y deep is also up rising.
        let long : length p ≡ 8 = omega arith in
        let setting : ℕ → Setting = λ k. (N.entry k).setting in
        let d = c.same T N R E S refl in
        let one : map setting xs ≡ x.settings = ap (map setting) e ∙ deep_settings K kb vb T N R E S i.0 p x is.0 long in
        let other : map setting ys ≡ y.settings = ap (map setting) f ∙ deep_settings K kb vb T N R E S j.0 p y also.0 long in
        map_decided r x.settings y.settings (λ t. sym one ∙ d.0 t ∙ other, λ q. d.1 (one ∙ q ∙ sym other));
  }

  -- ---- digit by digit

  module _ (one other : Branch) (level : ℕ) where
    -- both branches go on alike by each digit before g
    pub record AlikeBefore (g : ℕ) : Type 0 where
      pub alike : (N : Notes) (R E : List ℕ) → Sits K kb vb T N R E → (p : List ℕ) (x y : Part) → length p + level ≡ 8 → Is T N one level p x → Is T N other level p y
          → Rises K x.settings → Rises K y.settings → (k : ℕ) → k < g → at_digit K (length p) x.settings k ≡ at_digit K (length p) y.settings k

    pub alike_all : (g : ℕ) → 16 ≤ g → AlikeBefore g → Compared K kb vb T one other level true
    alike_all g past a = record {
      same = λ N R E S p x y deep is also up rising.
          maps_same x.settings y.settings
          (same_digits K (length p) x.settings y.settings up rising (λ k h. a.alike N R E S p x y deep is also up rising k (omega arith)));
    }

    module _ (some_level : 0 < level) (g : ℕ) (c d : Branch) (on : GoesOn K kb vb T one level g c) (other_on : GoesOn K kb vb T other level g d) where
      pub two_below : TwoParts K kb vb T one other level → TwoParts K kb vb T c d (level - 1)
      two_below t =
          let f = t.first in
          record {
            first = record {
              notes = f.notes;
              roots = f.roots;
              in_hand = f.in_hand;
              sits = f.sits;
              prefix = f.prefix ++ (g ∷ []);
              part = below K f.prefix g f.part;
              deep = omega (arith, f.deep, length_push f.prefix g);
              is = on.on f.notes f.roots f.in_hand f.sits f.prefix f.part f.deep some_level f.is;
            };
            second = below K f.prefix g t.second;
            is = other_on.on f.notes f.roots f.in_hand f.sits f.prefix t.second f.deep some_level t.is;
          }

      module _ (r : Bool) (c_d : Compared K kb vb T c d (level - 1) r) where
        at_g : (N : Notes) (R E : List ℕ) → Sits K kb vb T N R E → (p : List ℕ) (x y : Part) → length p + level ≡ 8 → Is T N one level p x → Is T N other level p y
            → Rises K x.settings → Rises K y.settings → r ≡ same_map (at_digit K (length p) x.settings g) (at_digit K (length p) y.settings g)
        at_g N R E S p x y deep is also up rising =
            c_d.same N R E S (p ++ (g ∷ [])) (below K p g x) (below K p g y) (omega (arith, length_push p g))
            (on.on N R E S p x deep some_level is) (other_on.on N R E S p y deep some_level also)
            (filter_rises K _ x.settings up) (filter_rises K _ y.settings rising)

        pub alike_next : r ≡ true → AlikeBefore g → AlikeBefore (g + 1)
        alike_next t a = record {
          alike = λ N R E S p x y deep is also up rising k h.
              elim (cases_eq k g) [
                | inl q ↦
                    ap (at_digit K (length p) x.settings) q
                    ∙ same_map_true _ _ (sym (at_g N R E S p x y deep is also up rising) ∙ t)
                    ∙ ap (at_digit K (length p) y.settings) (sym q)
                | inr n ↦ a.alike N R E S p x y deep is also up rising k (omega arith)
              ];
        }

        pub parts_differ : r ≡ false → Compared K kb vb T one other level false
        parts_differ f = record {
          same = λ N R E S p x y deep is also up rising.
              maps_differ x.settings y.settings
              (λ e. both_ways r f (at_g N R E S p x y deep is also up rising ∙ ap (λ (m : Map). same_map (at_digit K (length p) m g) (at_digit K (length p) y.settings g)) e ∙ same_map_self (at_digit K (length p) y.settings g)));
        }

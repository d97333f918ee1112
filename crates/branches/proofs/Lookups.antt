-- The value of a key in a branch. Assumes nothing.
use Rattle.std.proofs.Common.{◌≡◌, ℕ, ◌+◌, ◌-◌, ◌<◌, ◌≤◌, true, List, [], ◌∷◌, ◌++◌, length, get_or, drop, Some, None, Option, sym, refl, ap, ◌∙◌, subst, arith}
use lib.Count.{ones}
use Rattle.std.proofs.lemmas.List.{length_push, drop_more, drop_all}
use Rattle.std.proofs.lemmas.Bool.{eq-eqb, cond-true}
use Rattle.byte_rows.proofs.Orders.{same_tells}
use Rattle.kinds.specs.Kinds.{KeyKind}
use Rattle.model.specs.Maps.{Setting, Map, look}
use Rattle.model.specs.Tries.{digit}
use Rattle.model.specs.Sharing.{Part, below}
use Rattle.tables.specs.declared.cells.NodeCell.{NodeCell}
use Rattle.tables.specs.declared.cells.NodeId.{NodeId}
use Rattle.tables.specs.declared.cells.EntryId.{EntryId}
use Rattle.tables.specs.Chains.{occ}
use Rattle.tables.specs.Cells.{cell, singles}
use Rattle.tables.specs.Notes.{Fits, Stands}
use Rattle.tables.proofs.Occurrences.{occ_at}
use Rattle.tables.proofs.NodeCounts.{length_listed, listed_at}
use Rattle.tables.proofs.Noting.{single_held}
use Rattle.tables.proofs.Ranks.{as_many, by_key}
use Rattle.plans.proofs.Digits.{falls, look_at}
use Rattle.branches.specs.declared.branch.Branch.{Branch}
use Rattle.branches.specs.declared.branch.Branch.TheVariants.{Entry, Child}
use Rattle.branches.specs.States.{Tables, Notes, Sits}
use Rattle.branches.specs.Branches.{Is, SomePart, SomeEntry, SettingRead, GoesOn}
use Rattle.branches.specs.Asked.{LookedUp}

-- ---- one setting first

abbrev pub setting : List ℕ → List ℕ → Setting
setting k v = record { key = k; value = v }

look_here : (j v : List ℕ) (m : Map) (k : List ℕ) → j ≡ k → look (setting j v ∷ m) k ≡ Some v
look_here j v m k e = grind (arith, same_tells)

look_past : (j v : List ℕ) (m : Map) (k : List ℕ) → (j ≡ k → ⊥) → look (setting j v ∷ m) k ≡ look m k
look_past j v m k n = grind (arith, same_tells)

module _ {X Y : Type 0} (K : KeyKind) (kb : X → List ℕ) (vb : Y → List ℕ) (T : Tables X Y) where
  -- what a branch is told to be has what it has
  pub looked_as : (b d : Branch) (level : ℕ) (k : List ℕ) (r : Option Y) → b ≡ d → LookedUp K kb vb T d level k r → LookedUp K kb vb T b level k r
  looked_as b d level k r e = subst (λ (x : Branch). LookedUp K kb vb T x level k r) (sym e)

  pub part_as : (b d : Branch) (level : ℕ) → b ≡ d → SomePart K kb vb T b level → SomePart K kb vb T d level
  part_as b d level e = subst (λ (x : Branch). SomePart K kb vb T x level) e

  -- ---- an entry

  module _ (level : ℕ) (k : List ℕ) (id : EntryId) (key : X) (value : Y) (read : SettingRead K kb vb T.entries id.0 key value) where
    entry_settings : (N : Notes) (R E : List ℕ) → Sits K kb vb T N R E → (p : List ℕ) (a : Part) → Is T N (Entry id) level p a → a.settings ≡ setting (kb key) (vb value) ∷ []
    entry_settings N R E S p a is = is.1.settings ∙ ap (λ (s : Setting). s ∷ []) (read.setting T N R E S refl)

    pub looked_entry : kb key ≡ k → LookedUp K kb vb T (Entry id) level k (Some value)
    looked_entry e = record {
      found = λ N R E S p a d is. sym (ap (λ (m : Map). look m k) (entry_settings N R E S p a is) ∙ look_here (kb key) (vb value) [] k e);
    }

    pub looked_other : (kb key ≡ k → ⊥) → LookedUp K kb vb T (Entry id) level k None
    looked_other n = record {
      found = λ N R E S p a d is. sym (ap (λ (m : Map). look m k) (entry_settings N R E S p a is) ∙ look_past (kb key) (vb value) [] k n);
    }

  -- ---- by the digit of the key

  module _ (b : Branch) (level g : ℕ) (c : Branch) (on : GoesOn K kb vb T b level g c) (some_level : 0 < level) where
    pub looked_below : (k : List ℕ) (h : ℕ) → h ≡ K.hash k → g ≡ digit h (8 - level) → (r : Option Y) → LookedUp K kb vb T c (level - 1) k r → LookedUp K kb vb T b level k r
    looked_below k h h_is g_is r L = record {
      found = λ N R E S p a d is.
          let deeper : length (p ++ (g ∷ [])) + (level - 1) ≡ 8 = omega (arith, length_push p g) in
          let n : 8 - level ≡ length p = omega arith in
          let t : falls K (length p) g k ≡ true = eq-eqb _ g (sym (g_is ∙ ap (λ (x : ℕ). digit x (8 - level)) h_is ∙ ap (digit (K.hash k)) n)) in
          L.found N R E S (p ++ (g ∷ [])) (below K p g a) deeper (on.on N R E S p a d some_level is)
          ∙ look_at K (length p) g a.settings k ∙ cond-true (falls K (length p) g k) (look a.settings k) None t;
    }

    -- what goes on is some part
    pub part_below : SomePart K kb vb T b level → SomePart K kb vb T c (level - 1)
    part_below s = record {
      notes = s.notes;
      roots = s.roots;
      in_hand = s.in_hand;
      sits = s.sits;
      prefix = s.prefix ++ (g ∷ []);
      part = below K s.prefix g s.part;
      deep = omega (arith, s.deep, length_push s.prefix g);
      is = on.on s.notes s.roots s.in_hand s.sits s.prefix s.part s.deep some_level s.is;
    }

  -- ---- the entries of a collision node, one after another

  module _ (node : NodeCell) where
    -- none of the first so many entries of a cell has the key
    pub record Unfound (k : List ℕ) (rank : ℕ) : Type 0 where
      pub left : (i : ℕ) → cell T.nodes i ≡ node → (N : Notes) (R E : List ℕ) → Sits K kb vb T N R E → (p : List ℕ) (a : Part) → length p ≡ 8 → Stands T.nodes N.node i p a → look a.settings k ≡ look (drop rank a.settings) k

    -- the cell's note
    module _ (i : ℕ) (here : cell T.nodes i ≡ node) (N : Notes) (R E : List ℕ) (S : Sits K kb vb T N R E) (p : List ℕ) (a : Part) (deep : length p ≡ 8) (St : Stands T.nodes N.node i p a) where
      fits_here : Fits K N.node N.entry node (N.node i)
      fits_here = subst (λ (c : NodeCell). Fits K N.node N.entry c (N.node i)) here (S.means.fits i St.held)

      many_here : ones node.datamap ≡ length a.settings
      many_here = as_many K N.node N.entry node (N.node i) fits_here (ap length St.prefix ∙ deep) ∙ ap length St.settings

      setting_here : (rank : ℕ) (s : Setting) → rank < length a.settings → (N.entry (get_or node.entries rank 0)).setting ≡ get_or a.settings rank s
      setting_here rank s h =
          by_key K N.node N.entry node (N.node i) fits_here (ap length St.prefix ∙ deep) rank s (subst (λ (m : Map). rank < length m) (sym St.settings) h)
          ∙ ap (λ (m : Map). get_or m rank s) St.settings

    -- as what a branch has
    module _ (id : NodeId) (here : cell T.nodes id.0 ≡ node) where
      pub unfound_end : (k : List ℕ) (rank : ℕ) → Unfound k rank → ones node.datamap ≤ rank → LookedUp K kb vb T (Child id) 0 k None
      unfound_end k rank U past = record {
        found = λ N R E S p a d is.
            let deep : length p ≡ 8 = omega arith in
            sym (U.left id.0 here N R E S p a deep is.0 ∙ ap (λ (m : Map). look m k) (drop_all rank a.settings (omega (arith, many_here id.0 here N R E S p a deep is.0))));
      }

    module _ (rank : ℕ) (entry : EntryId) (some : rank < ones node.datamap) (at : entry.0 ≡ get_or node.entries rank 0) where
      -- an entry of the node is held
      pub entry_some : (id : NodeId) → cell T.nodes id.0 ≡ node → SomePart K kb vb T (Child id) 0 → SomeEntry K kb vb T.entries entry.0
      entry_some id here s =
          let long : rank < length (singles node) = omega (arith, length_listed node.datamap node.entries) in
          let there : 0 < occ entry.0 (singles node) = subst (λ (e : ℕ). 0 < occ e (singles node)) (listed_at node.datamap node.entries rank some ∙ sym at) (occ_at (singles node) rank long) in
          record {
            tables = T;
            notes = s.notes;
            roots = s.roots;
            in_hand = s.in_hand;
            sits = s.sits;
            entries_are = refl;
            held = single_held T.nodes T.entries T.entry_free T.entry_spare s.in_hand s.sits.entries id.0 entry.0 (subst (λ (c : NodeCell). 0 < occ entry.0 (singles c)) (sym here) there);
          }

      module _ (key : X) (value : Y) (read : SettingRead K kb vb T.entries entry.0 key value) where
        -- it is the setting at its rank
        rest_is : (i : ℕ) → cell T.nodes i ≡ node → (N : Notes) (R E : List ℕ) → Sits K kb vb T N R E → (p : List ℕ) (a : Part) → length p ≡ 8 → Stands T.nodes N.node i p a → drop rank a.settings ≡ setting (kb key) (vb value) ∷ drop (rank + 1) a.settings
        rest_is i here N R E S p a d St =
            let long : rank < length a.settings = omega (arith, many_here i here N R E S p a d St) in
            let none : Setting = setting [] [] in
            drop_more a.settings rank none long
            ∙ ap (λ (s : Setting). s ∷ drop (rank + 1) a.settings)
            (sym (setting_here i here N R E S p a d St rank none long) ∙ ap (λ (e : ℕ). (N.entry e).setting) (sym at) ∙ read.setting T N R E S refl)

        pub unfound_more : (k : List ℕ) → Unfound k rank → (kb key ≡ k → ⊥) → Unfound k (rank + 1)
        unfound_more k U n = record {
          left = λ i here N R E S p a d St.
              U.left i here N R E S p a d St ∙ ap (λ (m : Map). look m k) (rest_is i here N R E S p a d St) ∙ look_past (kb key) (vb value) (drop (rank + 1) a.settings) k n;
        }

        pub found_here : (id : NodeId) → cell T.nodes id.0 ≡ node → (k : List ℕ) → Unfound k rank → kb key ≡ k → LookedUp K kb vb T (Child id) 0 k (Some value)
        found_here id here k U e = record {
          found = λ N R E S p a d is.
              let deep : length p ≡ 8 = omega arith in
              sym (U.left id.0 here N R E S p a deep is.0 ∙ ap (λ (m : Map). look m k) (rest_is id.0 here N R E S p a deep is.0) ∙ look_here (kb key) (vb value) (drop (rank + 1) a.settings) k e);
        }

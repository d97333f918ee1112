-- Tallies that need no digits: of a source's own part, at the deepest level, and of at most one setting. Assumes nothing.
use Rattle.std.proofs.Common.{◌≡◌, ℕ, ◌<◌, Bool, true, false, cond, ltb, List, [], ◌∷◌, length, Some, None, sym, refl, ap, ◌∙◌, inl, inr, arith}
use mathlib.Core.List.Memᴰ
use Rattle.std.proofs.lemmas.Bool.{lt-ltb, cond-true}
use Rattle.byte_rows.specs.Rows.{same}
use Rattle.byte_rows.proofs.Orders.{same_tells}
use Rattle.kinds.specs.Kinds.{KeyKind, ValueKind}
use Rattle.model.specs.Maps.{Setting, Map, look, same_map, Rises, Sound}
use Rattle.model.specs.Sharing.{Part, Shared, ◌⊕◌, sum, new_node, entry_from, kept_or}
use Rattle.model.proofs.Maps.Found.{same_self}
use Rattle.model.proofs.Marks.Members.{Mem, all_mem}
use Rattle.model.proofs.Marks.Keys.{same_map_true}
use Rattle.plans.specs.Plans.{crowd, portion, capped, Told}
use Rattle.plans.proofs.Digits.{same_map_self}
use Rattle.plans.proofs.Sharing.{portion_one}
use Rattle.plans.proofs.Costs.{entry_held, entry_nodes, portion_held}
use Rattle.plans.proofs.Crowds.{crowd_few}

module _ (o t : Part) where
  in_ours : Mem o (o ∷ (t ∷ []))
  in_ours = Memᴰ.head refl

  in_theirs : Mem t (o ∷ (t ∷ []))
  in_theirs = Memᴰ.tail (Memᴰ.head refl)

-- ---- the result is a source's part

module _ (K : KeyKind) (n h : ℕ) (p : List ℕ) (o t : Part) (m : Map) where
  pub told_stays : m ≡ o.settings → crowd K h (length p) o.settings ≡ false →
      Told K n h p o t m (record { size = capped (length o.settings); ours = true; theirs = same_map t.settings o.settings; crowded = false; nodes = 0; entries = 0 })
  told_stays e c =
      let r = portion_held K n h p (o ∷ (t ∷ [])) m o (in_ours o t) (sym e) in
      record {
        size = ap (λ (x : Map). capped (length x)) (sym e);
        ours = sym (ap (same_map o.settings) e ∙ same_map_self o.settings);
        theirs = ap (same_map t.settings) (sym e);
        crowded = sym (ap (crowd K h (length p)) e ∙ c);
        nodes = sym r.0;
        entries = sym r.1;
      }

  pub told_becomes : m ≡ t.settings → crowd K h (length p) t.settings ≡ false →
      Told K n h p o t m (record { size = capped (length t.settings); ours = same_map o.settings t.settings; theirs = true; crowded = false; nodes = 0; entries = 0 })
  told_becomes e c =
      let r = portion_held K n h p (o ∷ (t ∷ [])) m t (in_theirs o t) (sym e) in
      record {
        size = ap (λ (x : Map). capped (length x)) (sym e);
        ours = ap (same_map o.settings) (sym e);
        theirs = sym (ap (same_map t.settings) e ∙ same_map_self t.settings);
        crowded = sym (ap (crowd K h (length p)) e ∙ c);
        nodes = sym r.0;
        entries = sym r.1;
      }

-- ---- at most one setting

module _ (K : KeyKind) (n h : ℕ) (p : List ℕ) (o t : Part) where
  pub told_none : Told K n h p o t [] (record { size = 0; ours = same_map o.settings []; theirs = same_map t.settings []; crowded = false; nodes = 0; entries = 0 })
  told_none = record { size = refl; ours = refl; theirs = refl; crowded = sym (crowd_few K h (length p) [] (omega arith)); nodes = refl; entries = refl }

  pub told_one : (s : Setting) → h < 8 →
      Told K n h p o t (s ∷ []) (record {
        size = 1;
        ours = same_map o.settings (s ∷ []);
        theirs = same_map t.settings (s ∷ []);
        crowded = false;
        nodes = 0;
        entries = (entry_from n (o ∷ (t ∷ [])) s).new_entries;
      })
  told_one s l =
      let e = portion_one K n h p (o ∷ (t ∷ [])) s l in
      record {
        size = refl;
        ours = refl;
        theirs = refl;
        crowded = sym (crowd_few K h (length p) (s ∷ []) (omega arith));
        nodes = sym (ap (λ (r : Shared). r.new_nodes) e ∙ entry_nodes n (o ∷ (t ∷ [])) s);
        entries = sym (ap (λ (r : Shared). r.new_entries) e);
      }

-- ---- the deepest level

-- a map in order finds each of its settings
pub look_in : (K : KeyKind) (m : Map) (s : Setting) → Rises K m → Mem s m → look m s.key ≡ Some s.value
look_in K [] s u i = absurd (Memᴰ.not-nil i)
look_in K (t ∷ m) s u i =
    elim (Memᴰ.cases_cons i) [
      | inl e ↦
          ap (λ (x : Setting). look (t ∷ m) x.key) e ∙ cond-true (same t.key t.key) (Some t.value) (look m t.key) (same_self t.key) ∙ ap (λ (x : Setting). Some x.value) (sym e)
      | inr j ↦
          let b = all_mem (λ x. K.before t.key x.key ≡ true) m s u.0 j in
          let n : t.key ≡ s.key → ⊥ = λ e. (let z : ◌≡◌ {A = ℕ} 0 1 = cc (K.before_not_self t.key) in omega arith) in
          let r = look_in K m s u.1 j in
          grind (arith, same_tells)
    ]

module _ (n : ℕ) (ss : List Part) where
  pub entries_nodes : (m : Map) → (sum (entry_from n ss) m).new_nodes ≡ 0
  entries_nodes [] = refl
  entries_nodes (s ∷ m) = omega (arith, entry_nodes n ss s, entries_nodes m)

  entries_free : (m : Map) → ((s : Setting) → Mem s m → (entry_from n ss s).new_entries ≡ 0) → (sum (entry_from n ss) m).new_entries ≡ 0
  entries_free [] h = refl
  entries_free (s ∷ m) h = omega (arith, h s (Memᴰ.head refl), entries_free m (λ t i. h t (Memᴰ.tail i)))

-- a source's node or a new one, over entries that are free where a source has the part
leaf_cost : (b x y : Bool) (n : ℕ) (p : List ℕ) (o t : Part) (q : Shared) → b ≡ true → q.new_nodes ≡ 0 → (x ≡ true → q.new_entries ≡ 0) → (y ≡ true → q.new_entries ≡ 0) →
    (cond b (cond x 0 (cond y 0 1)) 0 ≡ (kept_or (cond x (Some o) (cond y (Some t) None)) (new_node n p ⊕ q)).new_nodes)
    × (q.new_entries ≡ (kept_or (cond x (Some o) (cond y (Some t) None)) (new_node n p ⊕ q)).new_entries)
leaf_cost b true y n p o t q e z f g = (rw e, f refl)
leaf_cost b false true n p o t q e z f g = (rw e, g refl)
leaf_cost b false false n p o t q e z f g = (rw e (omega arith), omega arith)

module _ (K : KeyKind) (V : ValueKind) (n : ℕ) (p : List ℕ) (o t : Part) where
  leaf_takes : (m : Map) → Sound K V m →
      (cond (ltb 1 (length m)) (cond (same_map o.settings m) 0 (cond (same_map t.settings m) 0 1)) 0 ≡ (portion K n 0 p (o ∷ (t ∷ [])) m).new_nodes)
      × ((sum (entry_from n (o ∷ (t ∷ []))) m).new_entries ≡ (portion K n 0 p (o ∷ (t ∷ [])) m).new_entries)
  leaf_takes [] gm = (refl, refl)
  leaf_takes (s ∷ []) gm = (sym (entry_nodes n (o ∷ (t ∷ [])) s), omega arith)
  leaf_takes (s ∷ (u ∷ w)) gm =
      let m : Map = s ∷ (u ∷ w) in
      let ss : List Part = o ∷ (t ∷ []) in
      let held : (a : Part) → Mem a ss → same_map a.settings m ≡ true → (sum (entry_from n ss) m).new_entries ≡ 0 =
      λ a i e. entries_free n ss m (λ r j. (entry_held n ss r a i (ap (λ (x : Map). look x r.key) (same_map_true a.settings m e) ∙ look_in K m r gm.rises j)).1) in
      leaf_cost (ltb 1 (length m)) (same_map o.settings m) (same_map t.settings m) n p o t (sum (entry_from n ss) m)
      (lt-ltb 1 (length m) (omega arith)) (entries_nodes n ss m) (held o (in_ours o t)) (held t (in_theirs o t))

  pub told_leaf : (m : Map) → Sound K V m →
      Told K n 0 p o t m (record {
        size = capped (length m);
        ours = same_map o.settings m;
        theirs = same_map t.settings m;
        crowded = ltb 16 (length m);
        nodes = cond (ltb 1 (length m)) (cond (same_map o.settings m) 0 (cond (same_map t.settings m) 0 1)) 0;
        entries = (sum (entry_from n (o ∷ (t ∷ []))) m).new_entries;
      })
  told_leaf m gm = record { size = refl; ours = refl; theirs = refl; crowded = refl; nodes = (leaf_takes m gm).0; entries = (leaf_takes m gm).1 }

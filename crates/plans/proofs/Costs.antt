-- What a part takes, from what its digits take; a part that a source has takes nothing. Assumes nothing.
use Rattle.std.proofs.Common.{◌≡◌, ℕ, suc, ◌+◌, ◌*◌, ◌<◌, Bool, true, false, cond, eqb, ltb, List, [], ◌∷◌, ◌++◌, map, length, is_some, Some, None, Option, sym, refl, ap, ◌∙◌, subst, ap₂, inl, inr, arith}
use mathlib.Core.List.Memᴰ
use Rattle.std.proofs.lemmas.Bool.{lt-ltb, ne_eqb, eqb-true, cond-true, cond-false, cond_both}
use Rattle.byte_rows.specs.Rows.{same}
use Rattle.kinds.specs.Kinds.{KeyKind}
use Rattle.model.specs.Maps.{Setting, Map, look, same_found, same_map}
use Rattle.model.specs.Tries.{filter, digit, at_digit, sixteen, one, many}
use Rattle.model.specs.Images.{picked}
use Rattle.model.specs.Sharing.{Part, below, Shared, no_share, ◌⊕◌, sum, new_node, first_same, entry_from, share}
use Rattle.model.proofs.Maps.Found.{same_self}
use Rattle.model.proofs.Marks.Members.{Mem, mem_map}
use Rattle.model.proofs.Marks.Keys.{same_map_true}
use Rattle.model.proofs.Marks.Prefixes.{digit_below}
use Rattle.plans.specs.Plans.{total, bushy, portion}
use Rattle.plans.proofs.Rows.{total_same, total_zero, total_scale, total_once}
use Rattle.plans.proofs.Digits.{falls, same_map_self}
use Rattle.plans.proofs.Sharing.{made, share_new_form, share_first, entry_below, bushy_none, bushy_many, portion_one, portion_many}

abbrev pub Costless : Shared → Type 0
Costless s = (s.new_nodes ≡ 0) × (s.new_entries ≡ 0)

-- ---- what a source has takes nothing

-- a source has the part exactly where one is found
first_found : (ss : List Part) (m : Map) (a : Part) → first_same ss m ≡ Some a → Mem a ss × (a.settings ≡ m)
first_found [] m a e = let z : ◌≡◌ {A = ℕ} 0 1 = cc in absurd (omega arith)
first_found (b ∷ ss) m a e = go (same_map b.settings m) refl e (first_found ss m a)
  where
    go : (x : Bool) → same_map b.settings m ≡ x → cond x (Some b) (first_same ss m) ≡ Some a → (first_same ss m ≡ Some a → Mem a ss × (a.settings ≡ m)) →
        Mem a (b ∷ ss) × (a.settings ≡ m)
    go true f h on =
        let z : a ≡ b = cc in
        (Memᴰ.head z, ap (λ (c : Part). c.settings) z ∙ same_map_true b.settings m f)
    go false f h on = (Memᴰ.tail (on h).0, (on h).1)

first_held : (ss : List Part) (m : Map) (a : Part) → Mem a ss → a.settings ≡ m → (b : Part) × (first_same ss m ≡ Some b)
first_held [] m a i e = absurd (Memᴰ.not-nil i)
first_held (c ∷ ss) m a i e = go (same_map c.settings m) refl (λ j. first_held ss m a j e)
  where
    go : (x : Bool) → same_map c.settings m ≡ x → (Mem a ss → (b : Part) × (first_same ss m ≡ Some b)) → (b : Part) × (cond x (Some c) (first_same ss m) ≡ Some b)
    go true f on = (c, refl)
    go false f on =
        elim (Memᴰ.cases_cons i) [
          | inl z ↦
              let t : same_map c.settings m ≡ true = ap₂ same_map (ap (λ (b : Part). b.settings) (sym z)) (sym e) ∙ same_map_self a.settings in
              let w : ◌≡◌ {A = ℕ} 0 1 = cc in
              absurd (omega arith)
          | inr j ↦ on j
        ]

pub share_held : (K : KeyKind) (n h : ℕ) (p : List ℕ) (ss : List Part) (m : Map) (a : Part) → Mem a ss → a.settings ≡ m → Costless (share K n h p ss m)
share_held K n h p ss m a i e =
    let r = first_held ss m a i e in
    subst Costless (sym (share_first K n p ss m h r.0 r.1)) (refl, refl)

pub entry_held : (n : ℕ) (ss : List Part) (s : Setting) (a : Part) → Mem a ss → look a.settings s.key ≡ Some s.value → Costless (entry_from n ss s)
entry_held n [] s a i e = absurd (Memᴰ.not-nil i)
entry_held n (b ∷ ss) s a i e =
    cond_both (same_found (look b.settings s.key) (Some s.value)) _ (entry_from n ss s) Costless (λ t. (refl, refl))
    (λ f. elim (Memᴰ.cases_cons i) [
      | inl z ↦
          let l : look b.settings s.key ≡ Some s.value = ap (λ (c : Part). look c.settings s.key) (sym z) ∙ e in
          let t : same_found (look b.settings s.key) (Some s.value) ≡ true = ap (λ (x : Option (List ℕ)). same_found x (Some s.value)) l ∙ same_self s.value in
          let w : ◌≡◌ {A = ℕ} 0 1 = cc in
          absurd (omega arith)
      | inr j ↦ entry_held n ss s a j e
    ])

pub entry_nodes : (n : ℕ) (ss : List Part) (s : Setting) → (entry_from n ss s).new_nodes ≡ 0
entry_nodes n [] s = refl
entry_nodes n (a ∷ ss) s = cond_both _ _ (entry_from n ss s) (λ (r : Shared). r.new_nodes ≡ 0) (λ e. refl) (λ e. entry_nodes n ss s)

pub portion_held : (K : KeyKind) (n h : ℕ) (p : List ℕ) (ss : List Part) (m : Map) (a : Part) → Mem a ss → a.settings ≡ m → Costless (portion K n h p ss m)
portion_held K n h p ss [] a i e = (refl, refl)
portion_held K n h p ss (s ∷ []) a i e =
    let l : look a.settings s.key ≡ Some s.value =
    ap (λ (x : Map). look x s.key) e ∙ cond-true (same s.key s.key) (Some s.value) None (same_self s.key) in
    cond_both (ltb h 8) (entry_from n ss s) (share K n h p ss (s ∷ [])) Costless (λ t. entry_held n ss s a i l) (λ t. share_held K n h p ss (s ∷ []) a i e)
portion_held K n h p ss (s ∷ (t ∷ m)) a i e = share_held K n h p ss (s ∷ (t ∷ m)) a i e

-- ---- what the digits take together: of a number that adds up, and is none where nothing is taken

module _ (f : Shared → ℕ) (free : (s : Shared) → Costless s → f s ≡ 0) (plus : (a b : Shared) → f (a ⊕ b) ≡ f a + f b) where
  -- over bare rows: the entries of digits with one setting, and the nodes of those with more
  module _ (E : Setting → Shared) (S P : ℕ → Shared) (w : ℕ → Map)
      (at_none : (g : ℕ) → w g ≡ [] → f (P g) ≡ 0) (at_one : (g : ℕ) (s : Setting) → w g ≡ s ∷ [] → P g ≡ E s) (at_many : (g : ℕ) → 1 < length (w g) → P g ≡ S g) where
    sum_by_digits : (l : List ℕ) → f (sum E (picked one (λ q. q) (map w l))) + f (sum S (filter (λ g. many (w g)) l)) ≡ total (λ g. f (P g)) l
    sum_by_digits [] = let e = free no_share (refl, refl) in omega arith
    sum_by_digits (g ∷ l) = go (w g) refl (picked one (λ q. q) (map w l)) (filter (λ g. many (w g)) l) (sum_by_digits l)
      where
        go : (x : Map) → w g ≡ x → (R : Map) (N : List ℕ) → f (sum E R) + f (sum S N) ≡ total (λ g. f (P g)) l →
            f (sum E (cond (one x) x [] ++ R)) + f (sum S (cond (many x) (g ∷ N) N)) ≡ f (P g) + total (λ g. f (P g)) l
        go [] e R N i = omega (arith, at_none g e)
        go (s ∷ []) e R N i = omega (arith, plus (E s) (sum E R), ap f (at_one g s e))
        go (s ∷ (t ∷ x)) e R N i =
            let a : eqb (suc (suc (length x))) 1 ≡ false = ne_eqb (suc (suc (length x))) 1 (λ z. omega arith) in
            let b : ltb 1 (suc (suc (length x))) ≡ true = lt-ltb 1 (suc (suc (length x))) (omega arith) in
            let c : f (P g) ≡ f (S g) = ap f (at_many g (subst (λ (y : Map). 1 < length y) (sym e) (omega arith))) in
            rw (a, b) (omega (arith, plus (S g) (sum S N)))

  module _ (K : KeyKind) (n h : ℕ) (low : h < 8) (p : List ℕ) (ss : List Part) where
    -- what goes on by a digit, as a branch
    abbrev branch : Map → ℕ → Shared
    branch m g = portion K n h (p ++ (g ∷ [])) (map (below K p g) ss) (at_digit K (length p) m g)

    -- what goes on by a digit has keys that do
    first_falls : (m r : Map) (s : Setting) (g : ℕ) → at_digit K (length p) m g ≡ s ∷ r → digit (K.hash s.key) (length p) ≡ g
    first_falls [] r s g e = cc
    first_falls (u ∷ m) r s g e = go (falls K (length p) g u.key) refl e (first_falls m r s g)
      where
        go : (b : Bool) → falls K (length p) g u.key ≡ b → cond b (u ∷ at_digit K (length p) m g) (at_digit K (length p) m g) ≡ s ∷ r →
            (at_digit K (length p) m g ≡ s ∷ r → digit (K.hash s.key) (length p) ≡ g) → digit (K.hash s.key) (length p) ≡ g
        go true x h on =
            let z : u ≡ s = cc in
            ap (λ (y : Setting). digit (K.hash y.key) (length p)) (sym z) ∙ eqb-true (digit (K.hash u.key) (length p)) g x
        go false x h on = on h

    -- the branches of a new node
    made_takes : (m : Map) → f (made K n p ss m h) ≡ f (new_node n p) + total (λ g. f (branch m g)) sixteen
    made_takes m =
        let S : ℕ → Shared = λ g. share K n h (p ++ (g ∷ [])) (map (below K p g) ss) (at_digit K (length p) m g) in
        let E : Shared = sum (entry_from n ss) (picked one (λ q. q) (map (at_digit K (length p) m) sixteen)) in
        let N : Shared = sum S (filter (λ g. many (at_digit K (length p) m g)) sixteen) in
        plus (new_node n p) (E ⊕ N)
        ∙ ap (λ (x : ℕ). f (new_node n p) + x) (plus E N
        ∙ sum_by_digits (entry_from n ss) S (branch m) (at_digit K (length p) m)
        (λ g e. ap (λ (x : Map). f (portion K n h (p ++ (g ∷ [])) (map (below K p g) ss) x)) e ∙ free no_share (refl, refl))
        (λ g s e. ap (portion K n h (p ++ (g ∷ [])) (map (below K p g) ss)) e ∙ portion_one K n h (p ++ (g ∷ [])) (map (below K p g) ss) s low
        ∙ entry_below K n p g s (first_falls m [] s g e) ss)
        (λ g l. portion_many K n h (p ++ (g ∷ [])) (map (below K p g) ss) (at_digit K (length p) m g) l)
        sixteen)

    -- nothing is taken at any digit of a part that a source has
    held_takes : (m : Map) (a : Part) → Mem a ss → a.settings ≡ m → total (λ g. f (branch m g)) sixteen ≡ 0
    held_takes m a i e =
        total_zero (λ g. f (branch m g)) sixteen
        (λ g. free (branch m g) (portion_held K n h (p ++ (g ∷ [])) (map (below K p g) ss) (at_digit K (length p) m g) (below K p g a)
        (mem_map (below K p g) ss a i) (ap (λ (x : Map). at_digit K (length p) x g) e)))

    -- a node, by its digits
    share_takes : (m : Map) → f (share K n (suc h) p ss m) ≡ total (λ g. f (branch m g)) sixteen + cond (is_some (first_same ss m)) 0 (f (new_node n p))
    share_takes m = go (first_same ss m) refl
      where
        go : (x : Option Part) → first_same ss m ≡ x → f (share K n (suc h) p ss m) ≡ total (λ g. f (branch m g)) sixteen + cond (is_some x) 0 (f (new_node n p))
        go (Some a) e =
            let r = first_found ss m a e in
            let z = held_takes m a r.0 r.1 in
            let s = free (share K n (suc h) p ss m) (share_held K n (suc h) p ss m a r.0 r.1) in
            omega arith
        go None e = let z = ap f (share_new_form K n p ss m h e) ∙ made_takes m in omega arith

    -- one setting goes on by one digit
    one_takes : (s : Setting) → f (entry_from n ss s) ≡ total (λ g. f (branch (s ∷ []) g)) sixteen
    one_takes s =
        let v : ℕ = f (entry_from n ss s) in
        let x : ℕ = digit (K.hash s.key) (length p) in
        let z : v ≡ v * 1 = omega arith in
        sym (total_same (λ g. f (branch (s ∷ []) g)) (λ g. v * cond (eqb x g) 1 0) sixteen (λ g. go g (eqb x g) refl)
        ∙ total_scale v (λ g. cond (eqb x g) 1 0) sixteen ∙ ap (λ (y : ℕ). v * y) (total_once x (digit_below (K.hash s.key) (length p))) ∙ sym z)
      where
        go : (g : ℕ) (b : Bool) → falls K (length p) g s.key ≡ b →
            f (portion K n h (p ++ (g ∷ [])) (map (below K p g) ss) (cond b (s ∷ []) [])) ≡ f (entry_from n ss s) * cond b 1 0
        go g true e =
            let i = ap f (portion_one K n h (p ++ (g ∷ [])) (map (below K p g) ss) s low ∙ entry_below K n p g s (eqb-true (digit (K.hash s.key) (length p)) g e) ss) in
            omega arith
        go g false e = let i = free no_share (refl, refl) in omega arith

    -- a branch, by its digits
    portion_takes : (m : Map) → f (portion K n (suc h) p ss m) ≡ total (λ g. f (branch m g)) sixteen + cond (bushy (suc h) m) (cond (is_some (first_same ss m)) 0 (f (new_node n p))) 0
    portion_takes [] =
        let z = free no_share (refl, refl) in
        let t = total_zero (λ g. f (branch [] g)) sixteen (λ g. z) in
        let b = cond-false (bushy (suc h) []) (cond (is_some (first_same ss [])) 0 (f (new_node n p))) 0 (bushy_none (suc h)) in
        omega arith
    portion_takes (s ∷ []) = go (ltb (suc h) 8)
      where
        go : (b : Bool) →
            f (cond b (entry_from n ss s) (share K n (suc h) p ss (s ∷ []))) ≡ total (λ g. f (branch (s ∷ []) g)) sixteen + cond (ltb (cond b 1 0) 1) (cond (is_some (first_same ss (s ∷ []))) 0 (f (new_node n p))) 0
        go true = let i = one_takes s in omega arith
        go false = share_takes (s ∷ [])
    portion_takes (s ∷ (t ∷ m)) =
        let b = cond-true (bushy (suc h) (s ∷ (t ∷ m))) (cond (is_some (first_same ss (s ∷ (t ∷ m)))) 0 (f (new_node n p))) 0 (bushy_many (suc h) (s ∷ (t ∷ m)) (omega arith)) in
        share_takes (s ∷ (t ∷ m)) ∙ ap (λ (x : ℕ). total (λ g. f (branch (s ∷ (t ∷ m)) g)) sixteen + x) (sym b)

-- ---- nodes and entries

module _ (K : KeyKind) (n h : ℕ) (low : h < 8) (p : List ℕ) (ss : List Part) (m : Map) where
  pub portion_nodes :
      (portion K n (suc h) p ss m).new_nodes
      ≡ total (λ g. (portion K n h (p ++ (g ∷ [])) (map (below K p g) ss) (at_digit K (length p) m g)).new_nodes) sixteen + cond (bushy (suc h) m) (cond (is_some (first_same ss m)) 0 1) 0
  portion_nodes = portion_takes (λ s. s.new_nodes) (λ s c. c.0) (λ a b. refl) K n h low p ss m

  pub portion_entries :
      (portion K n (suc h) p ss m).new_entries ≡ total (λ g. (portion K n h (p ++ (g ∷ [])) (map (below K p g) ss) (at_digit K (length p) m g)).new_entries) sixteen
  portion_entries =
      portion_takes (λ s. s.new_entries) (λ s c. c.1) (λ a b. refl) K n h low p ss m
      ∙ go (bushy (suc h) m) (is_some (first_same ss m)) (total (λ g. (portion K n h (p ++ (g ∷ [])) (map (below K p g) ss) (at_digit K (length p) m g)).new_entries) sixteen)
    where
      go : (b c : Bool) (z : ℕ) → z + cond b (cond c 0 0) 0 ≡ z
      go true true z = omega arith
      go true false z = omega arith
      go false c z = omega arith

-- The own settings of a node and the digits of its children. Assumes nothing.
use Rattle.std.proofs.Common.{◌≡◌, ℕ, zero, suc, ◌+◌, ◌-◌, ◌<◌, ◌≤◌, Bool, true, cond, eqb, ltb, List, [], ◌∷◌, ◌++◌, map, length, None, count_by, sym, refl, ap, ◌∙◌, subst, ap₂, inl, inr, arith, length-append}
use lib.Count.{ones}
use mathlib.Core.List.Memᴰ
use Rattle.std.proofs.lemmas.List.Sums.{sum_by-cons}
use Rattle.std.proofs.lemmas.Bool.{cases_lt, cond_both, cond-true, cond-false, eqb-true, eq-eqb, lt-ltb, le-ltb, ltb-true, and_parts, both_ways}
use Rattle.kinds.specs.Kinds.{KeyKind}
use Rattle.model.specs.Maps.{Setting, Map, Rises}
use Rattle.model.specs.Tries.{filter, leads, digit, at_digit, sixteen, parts, one, many, branching}
use Rattle.model.specs.Images.{bits, picked}
use Rattle.model.specs.Sharing.{Part, ◌⊕◌, new_node, first_same, entry_from, sum, Shared, share}
use Rattle.model.proofs.Images.Gets.{leads_push}
use Rattle.model.proofs.Images.Lists.{filter_append}
use Rattle.model.proofs.Marks.Members.{Mem, all_mem, mem_filter}
use Rattle.model.proofs.Marks.Prefixes.{digit_below}
use Rattle.tables.specs.Chains.{occ}
use Rattle.tables.specs.Notes.{Seat, branches, own}
use Rattle.tables.proofs.Occurrences.{occ_nil}
use Rattle.plans.proofs.Rows.{sixteen_is}
use Rattle.plans.proofs.Sharing.{share_new_form, share_new_leaf}
use Rattle.branches.specs.States.{Led}
use Rattle.branches.specs.Hands.{share_at}
use Rattle.branches.proofs.Bundles.{bits_mask, ones_mask}
use Rattle.branches.proofs.Filters.{branch_many}
use Rattle.branches.proofs.Picks.{picked_below}
use Rattle.branches.proofs.Rows.{plus_none}
use Rattle.branches.proofs.Under.{own_at}

-- ---- rows

mem_some : {A : Type 0} (x : A) (xs : List A) → Mem x xs → 0 < length xs
mem_some x [] m = absurd (Memᴰ.not-nil m)
mem_some x (y ∷ xs) m = omega arith

-- a test that passes a thing and another after it
pass_two : {A : Type 0} (q : A → Bool) (a : List A) (x : A) (b : List A) (y : A) → Mem y b
    → q x ≡ true → q y ≡ true → 2 ≤ length (filter q (a ++ (x ∷ b)))
pass_two q a x b y m e f =
    omega (
      arith,
      ap length (filter_append q a (x ∷ b)),
      length-append (filter q a) (filter q (x ∷ b)),
      ap length (cond-true (q x) (x ∷ filter q b) (filter q b) e),
      mem_some y (filter q b) (mem_filter q b y m f),
    )

rises_back : (K : KeyKind) (a b : Map) → Rises K (a ++ b) → Rises K b
rises_back K [] b r = r
rises_back K (s ∷ a) b r = rises_back K a b r.1

-- ---- so many bits are set as parts pass

ones_own : (ps : List Map) → count_by (λ b. b) (map one ps) ≡ length (picked one (λ q. q) ps)
ones_own [] = refl
ones_own (m ∷ ps) =
    sum_by-cons (λ (b : Bool). cond b 1 0) (one m) (map one ps)
    ∙ cond_both (one m) m []
    (λ (l : Map). cond (one m) 1 0 + count_by (λ b. b) (map one ps)
    ≡ length (l ++ picked one (λ q. q) ps))
    (λ e. omega (
      arith,
      ones_own ps,
      length-append m (picked one (λ q. q) ps),
      eqb-true (length m) 1 e,
      cond-true {A = ℕ} (one m) 1 0 e,
    ))
    (λ e. omega (arith, ones_own ps, cond-false {A = ℕ} (one m) 1 0 e))

ones_branching : (f : ℕ → Map) (l : List ℕ)
    → count_by (λ b. b) (map many (map f l)) ≡ length (filter (λ g. many (f g)) l)
ones_branching f [] = refl
ones_branching f (g ∷ l) =
    sum_by-cons (λ (b : Bool). cond b 1 0) (many (f g)) (map many (map f l))
    ∙ cond_both (many (f g)) (g ∷ filter (λ x. many (f x)) l) (filter (λ x. many (f x)) l)
    (λ (r : List ℕ). cond (many (f g)) 1 0 + count_by (λ b. b) (map many (map f l)) ≡ length r)
    (λ e. omega (arith, ones_branching f l, cond-true {A = ℕ} (many (f g)) 1 0 e))
    (λ e. omega (arith, ones_branching f l, cond-false {A = ℕ} (many (f g)) 1 0 e))

module _ (K : KeyKind) (s : Seat) where
  abbrev at : ℕ → Map
  at g = at_digit K (length s.prefix) s.settings g

  -- ---- above the deepest level, and at it

  module _ (short : length s.prefix < 8) where
    pub own_short : own K s ≡ picked one (λ q. q) (parts K (length s.prefix) s.settings)
    own_short = cond-true (ltb (length s.prefix) 8) _ _ (lt-ltb (length s.prefix) 8 short)

    pub branches_short : branches K s ≡ branching K (length s.prefix) s.settings
    branches_short = cond-true (ltb (length s.prefix) 8) _ _ (lt-ltb (length s.prefix) 8 short)

    pub own_bits : ones (bits one (parts K (length s.prefix) s.settings)) ≡ length (own K s)
    own_bits = ap ones (bits_mask one (parts K (length s.prefix) s.settings))
        ∙ ones_mask (map one (parts K (length s.prefix) s.settings))
        ∙ ones_own (parts K (length s.prefix) s.settings) ∙ ap length (sym own_short)

    pub branches_bits : ones (bits many (parts K (length s.prefix) s.settings))
        ≡ length (branches K s)
    branches_bits = ap ones (bits_mask many (parts K (length s.prefix) s.settings))
        ∙ ones_mask (map many (parts K (length s.prefix) s.settings)) ∙ ones_branching at sixteen
        ∙ ap length (sym branches_short)

  module _ (deep : 8 ≤ length s.prefix) where
    pub own_deep : own K s ≡ s.settings
    own_deep = cond-false (ltb (length s.prefix) 8) _ _ (le-ltb (length s.prefix) 8 deep)

    pub branches_deep : branches K s ≡ []
    branches_deep = cond-false (ltb (length s.prefix) 8) _ _ (le-ltb (length s.prefix) 8 deep)

  -- ---- a digit with a child

  module _ (g : ℕ) (b : 0 < occ g (branches K s)) where
    pub branch_short : length s.prefix < 8
    branch_short =
        elim (cases_lt (length s.prefix) 8)
        [ inl h ↦ h | inr h ↦ absurd (omega (arith, ap (occ g) (branches_deep h), occ_nil g)) ]

    pub branch_small : g < 16
    branch_small =
        picked_below (λ x. many (at x)) 16 g
        (subst (λ (l : List ℕ). 0 < occ g l)
        (branches_short branch_short ∙ ap (filter (λ x. many (at x))) sixteen_is) b)

    -- no own setting goes on by it
    pub own_off : (u : Setting) → Mem u (own K s) → Led K (s.prefix ++ (g ∷ [])) u.key → ⊥
    own_off u m l =
        let e : eqb (digit (K.hash u.key) (length s.prefix)) g ≡ true =
        ap (λ (d : ℕ). eqb (digit (K.hash u.key) d) g)
        (let z : length s.prefix ≡ 0 + length s.prefix = omega arith in z)
        ∙ (and_parts (leads K 0 s.prefix u.key) _ (sym (leads_push K 0 s.prefix g u.key) ∙ l)).1
        in
        cond_both (one (at g)) (at g) [] (λ (r : Map). Mem u r → ⊥)
        (λ o n. omega
        (arith, eqb-true (length (at g)) 1 o, ltb-true 1 (length (at g)) (branch_many K s g b)))
        (λ o n. Memᴰ.not-nil n)
        (subst (Mem u) (own_at K s branch_short g branch_small)
        (mem_filter (λ v. eqb (digit (K.hash v.key) (length s.prefix)) g) (own K s) u m e))

  -- no two own settings have one key
  pub own_apart : Rises K s.settings → (a : Map) (u : Setting) (b : Map) → own K s ≡ a ++ (u ∷ b)
      → (v : Setting) → Mem v b → u.key ≡ v.key → ⊥
  own_apart r a u b is v m e =
      elim (cases_lt (length s.prefix) 8) [
        | inl short ↦
            let d : ℕ = length s.prefix in
            let g : ℕ = digit (K.hash u.key) d in
            let l : 2 ≤ length (at_digit K d (own K s) g) =
            subst (λ (w : Map). 2 ≤ length (at_digit K d w g)) (sym is)
            (pass_two (λ w. eqb (digit (K.hash w.key) d) g) a u b v m (eq-eqb g g refl)
            (eq-eqb (digit (K.hash v.key) d) g
            (ap (λ (k : List ℕ). digit (K.hash k) d) (sym e)))) in
            cond_both (one (at g)) (at g) [] (λ (w : Map). 2 ≤ length w → ⊥)
            (λ o n. omega (arith, eqb-true (length (at g)) 1 o)) (λ o n. omega arith)
            (subst (λ (w : Map). 2 ≤ length w) (own_at K s short g (digit_below (K.hash u.key) d))
            l)
        | inr deep ↦
            let q : Rises K (u ∷ b) =
            rises_back K a (u ∷ b) (subst (Rises K) (sym (own_deep deep) ∙ is) r) in
            both_ways (K.before u.key u.key) (K.before_not_self u.key)
            (subst (λ (k : List ℕ). K.before u.key k ≡ true) (sym e)
            (all_mem (λ t. K.before u.key t.key ≡ true) b v q.0 m))
      ]

  -- ---- what the node shares, where no source has its part

  pub seat_share : (n : ℕ) (sources : List Part) (h : ℕ) → length s.prefix + h ≡ 8
      → first_same sources s.settings ≡ None
      → share K n h s.prefix sources s.settings
      ≡ new_node n s.prefix ⊕
      (sum (entry_from n sources) (own K s) ⊕ sum
      (share_at K n (h - 1) s.prefix sources s.settings) (branches K s))
  seat_share n sources zero e none =
      share_new_leaf K n s.prefix sources s.settings none
      ∙ ap (λ (a : Shared). new_node n s.prefix ⊕ a)
      (plus_none (sum (entry_from n sources) s.settings))
      ∙ sym (ap₂
      (λ (w : Map) (l : List ℕ). new_node n s.prefix ⊕
      (sum (entry_from n sources) w ⊕ sum (share_at K n 0 s.prefix sources s.settings) l))
      (own_deep (omega arith)) (branches_deep (omega arith)))
  seat_share n sources (suc h) e none =
      let z : h ≡ suc h - 1 = omega arith in
      share_new_form K n s.prefix sources s.settings h none
      ∙ ap (λ (i : ℕ). new_node n s.prefix ⊕
      (sum (entry_from n sources) (picked one (λ q. q) (parts K (length s.prefix) s.settings)) ⊕
      sum (share_at K n i s.prefix sources s.settings)
      (branching K (length s.prefix) s.settings))) z
      ∙ sym (ap₂
      (λ (w : Map) (l : List ℕ). new_node n s.prefix ⊕
      (sum (entry_from n sources) w ⊕ sum (share_at K n (suc h - 1) s.prefix sources s.settings)
      l)) (own_short (omega arith)) (branches_short (omega arith)))

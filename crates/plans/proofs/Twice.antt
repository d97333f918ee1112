-- A source given twice shares as once; and the root as a branch. Assumes nothing.
use Rattle.std.proofs.Common.{◌≡◌, ℕ, zero, suc, Bool, true, false, cond, ltb, List, [], ◌∷◌, ◌++◌, map, length, Some, None, Option, refl, ap₂}
use Rattle.kinds.specs.Kinds.{KeyKind}
use Rattle.model.specs.Maps.{Setting, Map, look, same_found, same_map}
use Rattle.model.specs.Tries.{at_digit, one, parts, branching}
use Rattle.model.specs.Images.{picked}
use Rattle.model.specs.Sharing.{Part, below, Shared, ◌⊕◌, sum, new_node, first_same, mark_of, entry_from, kept_or, share, shared}
use Rattle.plans.specs.Plans.{portion}

sum_same : {A : Type 0} (f g : A → Shared) (l : List A) → ((x : A) → f x ≡ g x) → sum f l ≡ sum g l
sum_same f g [] h = refl
sum_same f g (x ∷ l) h = ap₂ ◌⊕◌ (h x) (sum_same f g l h)

cond_twice : {A : Type 0} (b : Bool) (x y : A) → cond b x (cond b x y) ≡ cond b x y
cond_twice true x y = refl
cond_twice false x y = refl

first_twice : (a : Part) (m : Map) → first_same (a ∷ (a ∷ [])) m ≡ first_same (a ∷ []) m
first_twice a m = cond_twice (same_map a.settings m) (Some a) None

pub entry_twice : (n : ℕ) (a : Part) (s : Setting) → entry_from n (a ∷ (a ∷ [])) s ≡ entry_from n (a ∷ []) s
entry_twice n a s =
    cond_twice (same_found (look a.settings s.key) (Some s.value))
    (record { nodes = []; entries = record { what = s.key; mark = mark_of a.entries s.key } ∷ []; new_nodes = 0; new_entries = 0 }) (entry_from n [] s)

pub share_twice : (K : KeyKind) (n h : ℕ) (p : List ℕ) (a : Part) (m : Map) → share K n h p (a ∷ (a ∷ [])) m ≡ share K n h p (a ∷ []) m
share_twice K n zero p a m =
    ap₂ (λ (x : Option Part) (s : Shared). kept_or x (new_node n p ⊕ s)) (first_twice a m) (sum_same (entry_from n (a ∷ (a ∷ []))) (entry_from n (a ∷ [])) m (entry_twice n a))
share_twice K n (suc h) p a m =
    let e = sum_same (entry_from n (a ∷ (a ∷ []))) (entry_from n (a ∷ [])) (picked one (λ q. q) (parts K (length p) m)) (entry_twice n a) in
    let b = sum_same (λ g. share K n h (p ++ (g ∷ [])) (map (below K p g) (a ∷ (a ∷ []))) (at_digit K (length p) m g))
    (λ g. share K n h (p ++ (g ∷ [])) (map (below K p g) (a ∷ [])) (at_digit K (length p) m g))
    (branching K (length p) m) (λ g. share_twice K n h (p ++ (g ∷ [])) (below K p g a) (at_digit K (length p) m g)) in
    ap₂ (λ (x : Option Part) (s : Shared). kept_or x (new_node n p ⊕ s)) (first_twice a m) (ap₂ ◌⊕◌ e b)

pub portion_twice : (K : KeyKind) (n h : ℕ) (p : List ℕ) (a : Part) (m : Map) → portion K n h p (a ∷ (a ∷ [])) m ≡ portion K n h p (a ∷ []) m
portion_twice K n h p a [] = refl
portion_twice K n h p a (s ∷ []) = ap₂ (λ (x y : Shared). cond (ltb h 8) x y) (entry_twice n a s) (share_twice K n h p a (s ∷ []))
portion_twice K n h p a (s ∷ (t ∷ m)) = share_twice K n h p a (s ∷ (t ∷ m))

pub portion_root : (K : KeyKind) (n : ℕ) (sources : List Part) (m : Map) → shared K n sources m ≡ portion K n 8 [] sources m
portion_root K n sources [] = refl
portion_root K n sources (s ∷ []) = refl
portion_root K n sources (s ∷ (t ∷ m)) = refl

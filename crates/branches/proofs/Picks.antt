-- The digits with one setting and those with more, and sums of what is shared. Assumes nothing.
use Rattle.std.proofs.Common.{◌≡◌, ℕ, suc, ◌+◌, ◌*◌, ◌<◌, ◌≤◌, Bool, true, false, cond, eqb, ltb, List, [], ◌∷◌, ◌++◌, map, length, Some, sum_by, sym, refl, ap, ◌∙◌, subst, ap₂, inl, inr, append_assoc, arith}
use Rattle.std.specs.List.{range_with_len, flat_map, AllByRecursion}
use Rattle.std.proofs.lemmas.List.{append-nil}
use Rattle.std.proofs.lemmas.List.Sums.{sum_by-cons}
use Rattle.std.proofs.lemmas.Bool.{cases_eq, cond-true, cond_both, and_parts, eqb-true, ne_eqb, lt-ltb}
use Rattle.kinds.specs.Kinds.{KeyKind}
use Rattle.model.specs.Maps.{Setting, Map, look, same_found}
use Rattle.model.specs.Tries.{filter, leads, digit, at_digit, one, many}
use Rattle.model.specs.Images.{picked}
use Rattle.model.specs.Sharing.{Marked, Part, Shared, entry_from, sum}
use Rattle.model.proofs.Images.Gets.{leads_push}
use Rattle.model.proofs.Marks.Members.{Mem, all_join, all_from_mem, mem_of_filter}
use Rattle.tables.specs.Chains.{occ}
use Rattle.tables.proofs.Occurrences.{occ_rest, occ_head, occ_later, occ_counting}
use Rattle.plans.specs.Plans.{total}
use Rattle.plans.proofs.Rows.{counting_more}

-- ---- keys led by a digit

module _ (K : KeyKind) (p : List ℕ) where
  pub leads_less : (g : ℕ) (k : List ℕ) → leads K 0 (p ++ (g ∷ [])) k ≡ true → leads K 0 p k ≡ true
  leads_less g k e = (and_parts (leads K 0 p k) _ (sym (leads_push K 0 p g k) ∙ e)).0

  pub leads_apart : (g x : ℕ) (k : List ℕ) → leads K 0 (p ++ (g ∷ [])) k ≡ true → leads K 0 (p ++ (x ∷ [])) k ≡ true → g ≡ x
  leads_apart g x k e f =
      let d : ℕ = digit (K.hash k) (0 + length p) in
      sym (eqb-true d g (and_parts (leads K 0 p k) (eqb d g) (sym (leads_push K 0 p g k) ∙ e)).1)
      ∙ eqb-true d x (and_parts (leads K 0 p k) (eqb d x) (sym (leads_push K 0 p x k) ∙ f)).1

-- ---- sums of what is shared

module _ {A : Type 0} (f : A → Shared) where
  pub sum_nodes : (l : List A) → (sum f l).nodes ≡ flat_map (λ x. (f x).nodes) l
  sum_nodes [] = refl
  sum_nodes (x ∷ l) = ap (λ (r : List Marked). (f x).nodes ++ r) (sum_nodes l)

  pub sum_entries : (l : List A) → (sum f l).entries ≡ flat_map (λ x. (f x).entries) l
  sum_entries [] = refl
  sum_entries (x ∷ l) = ap (λ (r : List Marked). (f x).entries ++ r) (sum_entries l)

  pub sum_new : (l : List A) → (sum f l).new_nodes ≡ sum_by (λ x. (f x).new_nodes) l
  sum_new [] = refl
  sum_new (x ∷ l) = omega (arith, sum_new l, sum_by-cons (λ x. (f x).new_nodes) x l)

  pub sum_new_entries : (l : List A) → (sum f l).new_entries ≡ sum_by (λ x. (f x).new_entries) l
  sum_new_entries [] = refl
  sum_new_entries (x ∷ l) = omega (arith, sum_new_entries l, sum_by-cons (λ x. (f x).new_entries) x l)

  pub sum_append : (a b : List A) → ((sum f (a ++ b)).entries ≡ (sum f a).entries ++ (sum f b).entries) × ((sum f (a ++ b)).new_entries ≡ (sum f a).new_entries + (sum f b).new_entries)
  sum_append [] b = (refl, omega arith)
  sum_append (x ∷ a) b = (
    ap (λ (r : List Marked). (f x).entries ++ r) (sum_append a b).0 ∙ sym (append_assoc (f x).entries (sum f a).entries (sum f b).entries),
    omega (arith, (sum_append a b).1),
  )

-- an entry is no node
pub entry_nodes : (n : ℕ) (ss : List Part) (s : Setting) → ((entry_from n ss s).nodes ≡ []) × ((entry_from n ss s).new_nodes ≡ 0)
entry_nodes n [] s = (refl, refl)
entry_nodes n (a ∷ ss) s =
    cond_both (same_found (look a.settings s.key) (Some s.value)) _ (entry_from n ss s) (λ (r : Shared). (r.nodes ≡ []) × (r.new_nodes ≡ 0)) (λ e. (refl, refl)) (λ e. entry_nodes n ss s)

pub entries_nodes : (n : ℕ) (ss : List Part) (l : Map) → ((sum (entry_from n ss) l).nodes ≡ []) × ((sum (entry_from n ss) l).new_nodes ≡ 0)
entries_nodes n ss [] = (refl, refl)
entries_nodes n ss (s ∷ l) = (ap₂ ◌++◌ (entry_nodes n ss s).0 (entries_nodes n ss l).0, omega (arith, (entry_nodes n ss s).1, (entries_nodes n ss l).1))

-- ---- the digits so far, and one more

module _ (f : ℕ → Map) where
  picked_append : (a b : List ℕ) → picked one (λ q. q) (map f (a ++ b)) ≡ picked one (λ q. q) (map f a) ++ picked one (λ q. q) (map f b)
  picked_append [] b = refl
  picked_append (x ∷ a) b =
      ap (λ (r : Map). cond (one (f x)) (f x) [] ++ r) (picked_append a b)
      ∙ sym (append_assoc (cond (one (f x)) (f x) []) (picked one (λ q. q) (map f a)) (picked one (λ q. q) (map f b)))

  filter_append : (a b : List ℕ) → filter (λ x. many (f x)) (a ++ b) ≡ filter (λ x. many (f x)) a ++ filter (λ x. many (f x)) b
  filter_append [] b = refl
  filter_append (x ∷ a) b = go (many (f x)) (filter_append a b)
    where
      go : (t : Bool) → filter (λ x. many (f x)) (a ++ b) ≡ filter (λ x. many (f x)) a ++ filter (λ x. many (f x)) b
          → cond t (x ∷ filter (λ x. many (f x)) (a ++ b)) (filter (λ x. many (f x)) (a ++ b)) ≡ cond t (x ∷ filter (λ x. many (f x)) a) (filter (λ x. many (f x)) a) ++ filter (λ x. many (f x)) b
      go true i = ap (λ (r : List ℕ). x ∷ r) i
      go false i = i

  -- what one digit adds: its setting where it is alone, itself where there are more
  pub picked_more : (g : ℕ) → picked one (λ q. q) (map f (range_with_len 0 (suc g))) ≡ picked one (λ q. q) (map f (range_with_len 0 g)) ++ cond (one (f g)) (f g) []
  picked_more g =
      let z : 0 + g ≡ g = omega arith in
      ap (λ (l : List ℕ). picked one (λ q. q) (map f l)) (counting_more g 0 ∙ ap (λ (x : ℕ). range_with_len 0 g ++ (x ∷ [])) z)
      ∙ picked_append (range_with_len 0 g) (g ∷ [])
      ∙ ap (λ (r : Map). picked one (λ q. q) (map f (range_with_len 0 g)) ++ r) (append-nil (cond (one (f g)) (f g) []))

  pub filter_more : (g : ℕ) → filter (λ x. many (f x)) (range_with_len 0 (suc g)) ≡ filter (λ x. many (f x)) (range_with_len 0 g) ++ cond (many (f g)) (g ∷ []) []
  filter_more g =
      let z : 0 + g ≡ g = omega arith in
      ap (filter (λ x. many (f x))) (counting_more g 0 ∙ ap (λ (x : ℕ). range_with_len 0 g ++ (x ∷ [])) z)
      ∙ filter_append (range_with_len 0 g) (g ∷ [])

  -- ---- how many they are

  pub sizes_le : (l : List ℕ) → length (picked one (λ q. q) (map f l)) + 2 * length (filter (λ x. many (f x)) l) ≤ total (λ x. length (f x)) l
  sizes_le [] = omega arith
  sizes_le (x ∷ l) = go (f x) (picked one (λ q. q) (map f l)) (filter (λ x. many (f x)) l) (total (λ x. length (f x)) l) (sizes_le l)
    where
      go : (w : Map) (o : Map) (k : List ℕ) (t : ℕ) → length o + 2 * length k ≤ t → length (cond (one w) w [] ++ o) + 2 * length (cond (many w) (x ∷ k) k) ≤ length w + t
      go [] o k t i = omega arith
      go (s ∷ []) o k t i = omega arith
      go (s ∷ (u ∷ w)) o k t i = rw (ne_eqb (suc (suc (length w))) 1 (λ z. omega arith), lt-ltb 1 (suc (suc (length w))) (omega arith)) (omega arith)

  pub sizes_alone : (l : List ℕ) → filter (λ x. many (f x)) l ≡ [] → length (picked one (λ q. q) (map f l)) ≡ total (λ x. length (f x)) l
  sizes_alone [] e = refl
  sizes_alone (x ∷ l) e = go (f x) (picked one (λ q. q) (map f l)) (filter (λ x. many (f x)) l) (total (λ x. length (f x)) l) (sizes_alone l) e
    where
      go : (w : Map) (o : Map) (k : List ℕ) (t : ℕ) → (k ≡ [] → length o ≡ t) → cond (many w) (x ∷ k) k ≡ [] → length (cond (one w) w [] ++ o) ≡ length w + t
      go [] o k t i z = omega (arith, i z)
      go (s ∷ []) o k t i z = omega (arith, i z)
      go (s ∷ (u ∷ w)) o k t i z = absurd (omega (arith, ap length (sym (cond-true (ltb 1 (suc (suc (length w)))) (x ∷ k) k (lt-ltb 1 (suc (suc (length w))) (omega arith))) ∙ z)))

-- the settings that are alone are some of all
pub picked_mem : (K : KeyKind) (d : ℕ) (m : Map) (l : List ℕ) → AllByRecursion (λ s. Mem s m) (picked one (λ q. q) (map (at_digit K d m) l))
picked_mem K d m [] = tt
picked_mem K d m (x ∷ l) = all_join (λ s. Mem s m) (cond (one (at_digit K d m x)) (at_digit K d m x) []) (picked one (λ q. q) (map (at_digit K d m) l)) (go (one (at_digit K d m x))) (picked_mem K d m l)
  where
    go : (b : Bool) → AllByRecursion (λ s. Mem s m) (cond b (at_digit K d m x) [])
    go true = all_from_mem (λ s. Mem s m) (at_digit K d m x) (λ s i. (mem_of_filter (λ s. eqb (digit (K.hash s.key) d) x) m s i).0)
    go false = tt

-- a digit among those picked so far is below the next
pub filter_below : (q : ℕ → Bool) (l : List ℕ) (x : ℕ) → 0 < occ x (filter q l) → 0 < occ x l
filter_below q [] x h = h
filter_below q (y ∷ l) x h = go (q y) h (filter_below q l x)
  where
    go : (b : Bool) → 0 < occ x (cond b (y ∷ filter q l) (filter q l)) → (0 < occ x (filter q l) → 0 < occ x l) → 0 < occ x (y ∷ l)
    go true i on =
        elim (cases_eq x y) [
          | inl e ↦ subst (λ (z : ℕ). 0 < occ x (z ∷ l)) e (occ_head x l)
          | inr e ↦ occ_later x y l (on (occ_rest x y (filter q l) i e))
        ]
    go false i on = occ_later x y l (on i)

pub picked_below : (q : ℕ → Bool) (g x : ℕ) → 0 < occ x (filter q (range_with_len 0 g)) → x < g
picked_below q g x h = omega (arith, (occ_counting 0 g x).1.0 (filter_below q (range_with_len 0 g) x h))

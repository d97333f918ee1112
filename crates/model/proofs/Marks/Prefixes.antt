-- Prefixes: what begins with what, which keys lead where, and the nodes below a digit. Assumes nothing.
use Rattle.std.proofs.Common.{◌≡◌, ℕ, suc, ◌+◌, ◌<◌, ◌≤◌, true, ◌&&◌, eqb, leb, ◌⊎◌, List, [], ◌∷◌, ◌++◌, length, sym, refl, ap, ◌∙◌, subst, inl, inr, arith, length-append}
use mathlib.Core.List.Memᴰ
use Rattle.std.specs.List.{AllByRecursion}
use Rattle.std.proofs.lemmas.Bool.{false≢true, and_parts, and_from, eqb-true, eq-eqb, cases_eq, leb-true, le-leb, ltb-true, lt-ltb}
use Rattle.kinds.specs.Kinds.{KeyKind}
use Rattle.model.specs.Maps.{Map}
use Rattle.model.specs.Tries.{digit, sixteen, leads, part, at_digit, many, branching, has_node}
use Rattle.model.specs.Sharing.{begins}
use Rattle.model.specs.Runs.{Distinct}
use Rattle.model.proofs.Marks.Members.{Mem, all_from_mem, all_mem, filter_all, filter_within, filter_short, mem_filter, mem_of_filter}

-- ---- digits

-- a row that counts up by one
abbrev Counts : ℕ → List ℕ → Type 0
Counts k [] = Unit {0}
Counts k (g ∷ gs) = (g ≡ k) × Counts (suc k) gs

counts_low : (k : ℕ) (gs : List ℕ) (j : ℕ) → Counts k gs → Mem j gs → k ≤ j
counts_low k [] j c m = absurd (Memᴰ.not-nil m)
counts_low k (g ∷ gs) j c m = elim (Memᴰ.cases_cons m) [ inl e ↦ omega (arith, c.0) | inr n ↦ omega (arith, counts_low (suc k) gs j c.1 n) ]

counts_once : (k : ℕ) (gs : List ℕ) → Counts k gs → Distinct gs
counts_once k [] c = tt
counts_once k (g ∷ gs) c = (λ m. omega (arith, c.0, counts_low (suc k) gs g c.1 m), counts_once (suc k) gs c.1)

counts_mem : (k : ℕ) (gs : List ℕ) (n : ℕ) → Counts k gs → k ≤ n → n < k + length gs → Mem n gs
counts_mem k [] n c l h = absurd (omega arith)
counts_mem k (g ∷ gs) n c l h =
    elim (cases_eq n k) [ inl e ↦ Memᴰ.head (e ∙ sym c.0) | inr e ↦ Memᴰ.tail (counts_mem (suc k) gs n c.1 (omega arith) (omega arith)) ]

sixteen_counts : Counts 0 sixteen × (length sixteen ≡ 16)
unfolding sixteen
sixteen_counts = ((refl, (refl, (refl, (refl, (refl, (refl, (refl, (refl, (refl, (refl, (refl, (refl, (refl, (refl, (refl, (refl, tt)))))))))))))))), refl)

pub sixteen_once : Distinct sixteen
sixteen_once = counts_once 0 sixteen sixteen_counts.0

pub sixteen_mem : (g : ℕ) → g < 16 → Mem g sixteen
sixteen_mem g h = counts_mem 0 sixteen g sixteen_counts.0 (omega arith) (omega (arith, sixteen_counts.1))

pub digit_below : (h d : ℕ) → digit h d < 16
digit_below h d = omega arith

-- ---- what begins with what

pub length_on : (p : List ℕ) (g : ℕ) → length (p ++ (g ∷ [])) ≡ suc (length p)
length_on p g = omega (arith, length-append p (g ∷ []))

pub begins_same : (p : List ℕ) → begins p p ≡ true
begins_same [] = refl
begins_same (g ∷ p) = and_from (eqb g g) (begins p p) (eq-eqb g g refl) (begins_same p)

-- what goes on by a digit does not begin what stops before it
pub begins_short : (p : List ℕ) (g : ℕ) → begins (p ++ (g ∷ [])) p ≡ true → ⊥
begins_short [] g e = false≢true e
begins_short (h ∷ p) g e = begins_short p g (and_parts (eqb h h) _ e).1

pub begins_less : (p : List ℕ) (g : ℕ) (q : List ℕ) → begins (p ++ (g ∷ [])) q ≡ true → begins p q ≡ true
begins_less [] g q e = refl
begins_less (h ∷ p) g [] e = absurd (false≢true e)
begins_less (h ∷ p) g (k ∷ q) e = let r = and_parts (eqb h k) (begins (p ++ (g ∷ [])) q) e in and_from (eqb h k) (begins p q) r.0 (begins_less p g q r.1)

pub begins_apart : (p : List ℕ) (g h : ℕ) (q : List ℕ) → begins (p ++ (g ∷ [])) q ≡ true → begins (p ++ (h ∷ [])) q ≡ true → g ≡ h
begins_apart [] g h [] e f = absurd (false≢true e)
begins_apart [] g h (k ∷ q) e f = eqb-true g k (and_parts (eqb g k) true e).0 ∙ sym (eqb-true h k (and_parts (eqb h k) true f).0)
begins_apart (j ∷ p) g h [] e f = absurd (false≢true e)
begins_apart (j ∷ p) g h (k ∷ q) e f = begins_apart p g h q (and_parts (eqb j k) _ e).1 (and_parts (eqb j k) _ f).1

-- what begins with a prefix is the prefix or goes on by a digit
pub begins_next : (p q : List ℕ) → begins p q ≡ true → (p ≡ q) ⊎ ((g : ℕ) × (begins (p ++ (g ∷ [])) q ≡ true))
begins_next [] [] e = inl refl
begins_next [] (k ∷ q) e = inr (k, and_from (eqb k k) true (eq-eqb k k refl) refl)
begins_next (h ∷ p) [] e = absurd (false≢true e)
begins_next (h ∷ p) (k ∷ q) e = go (and_parts (eqb h k) (begins p q) e) (begins_next p q (and_parts (eqb h k) (begins p q) e).1)
  where
    go : (eqb h k ≡ true) × (begins p q ≡ true) → (p ≡ q) ⊎ ((g : ℕ) × (begins (p ++ (g ∷ [])) q ≡ true)) → ((h ∷ p) ≡ (k ∷ q)) ⊎ ((g : ℕ) × (begins ((h ∷ p) ++ (g ∷ [])) (k ∷ q) ≡ true))
    go r (inl z) = let y : h ≡ k = eqb-true h k r.0 in inl (λ i. y i ∷ z i)
    go r (inr z) = inr (z.0, and_from (eqb h k) _ r.0 z.1)

pub begins_length : (p q : List ℕ) → begins p q ≡ true → length p ≤ length q
begins_length [] q e = omega arith
begins_length (h ∷ p) [] e = absurd (false≢true e)
begins_length (h ∷ p) (k ∷ q) e = omega (arith, begins_length p q (and_parts (eqb h k) (begins p q) e).1)

module _ (K : KeyKind) where
  -- ---- which keys lead where

  leads_less : (d : ℕ) (p q k : List ℕ) → begins p q ≡ true → leads K d q k ≡ true → leads K d p k ≡ true
  leads_less d [] q k b e = refl
  leads_less d (g ∷ p) [] k b e = absurd (false≢true b)
  leads_less d (g ∷ p) (h ∷ q) k b e =
      let r = and_parts (eqb g h) (begins p q) b in
      let t = and_parts (eqb (digit (K.hash k) d) h) (leads K (d + 1) q k) e in
      and_from (eqb (digit (K.hash k) d) g) (leads K (d + 1) p k) (rw (eqb-true g h r.0) t.0) (leads_less (d + 1) p q k r.1 t.1)

  leads_digit : (d n : ℕ) (p : List ℕ) (g : ℕ) (k : List ℕ) → n ≡ d + length p → leads K d (p ++ (g ∷ [])) k ≡ true → digit (K.hash k) n ≡ g
  leads_digit d n [] g k e l =
      let z : n ≡ d = omega arith in
      ap (digit (K.hash k)) z ∙ eqb-true (digit (K.hash k) d) g (and_parts (eqb (digit (K.hash k) d) g) true l).0
  leads_digit d n (h ∷ p) g k e l = leads_digit (d + 1) n p g k (omega arith) (and_parts (eqb (digit (K.hash k) d) h) (leads K (d + 1) (p ++ (g ∷ [])) k) l).1

  leads_on : (d n : ℕ) (p : List ℕ) (g : ℕ) (k : List ℕ) → n ≡ d + length p → leads K d p k ≡ true → digit (K.hash k) n ≡ g → leads K d (p ++ (g ∷ [])) k ≡ true
  leads_on d n [] g k e l t =
      let z : d ≡ n = omega arith in
      and_from (eqb (digit (K.hash k) d) g) true (eq-eqb _ g (ap (digit (K.hash k)) z ∙ t)) refl
  leads_on d n (h ∷ p) g k e l t =
      let r = and_parts (eqb (digit (K.hash k) d) h) (leads K (d + 1) p k) l in
      and_from (eqb (digit (K.hash k) d) h) (leads K (d + 1) (p ++ (g ∷ [])) k) r.0 (leads_on (d + 1) n p g k (omega arith) r.1 t)

  -- ---- parts below a digit

  -- the settings of a part at p that go on by g lead to p and g
  pub led_on : (m : Map) (p : List ℕ) (g : ℕ) → AllByRecursion (λ s. leads K 0 p s.key ≡ true) m → AllByRecursion (λ s. leads K 0 (p ++ (g ∷ [])) s.key ≡ true) (at_digit K (length p) m g)
  led_on m p g a =
      all_from_mem _ (at_digit K (length p) m g) (λ s n.
      let r = mem_of_filter (λ t. eqb (digit (K.hash t.key) (length p)) g) m s n in
      leads_on 0 (length p) p g s.key (omega arith) (all_mem (λ t. leads K 0 p t.key ≡ true) m s a r.0) (eqb-true _ g r.1))

  part_on : (m : Map) (p : List ℕ) (g : ℕ) (q : List ℕ) → begins (p ++ (g ∷ [])) q ≡ true → part K (at_digit K (length p) m g) q ≡ part K m q
  part_on m p g q b =
      filter_within (λ s. leads K 0 q s.key) (λ s. eqb (digit (K.hash s.key) (length p)) g)
      (λ s e. eq-eqb _ g (leads_digit 0 (length p) p g s.key (omega arith) (leads_less 0 (p ++ (g ∷ [])) q s.key b e))) m

  -- the nodes below a digit are those of what goes on by it
  pub node_on : (m : Map) (p : List ℕ) (g : ℕ) (q : List ℕ) → begins (p ++ (g ∷ [])) q ≡ true → has_node K (at_digit K (length p) m g) q ≡ has_node K m q
  node_on m p g [] b = absurd (omega (arith, begins_length (p ++ (g ∷ [])) [] b, length_on p g))
  node_on m p g (h ∷ q) b = ap (λ x. leb (length (h ∷ q)) 8 && many x) (part_on m p g (h ∷ q) b)

  -- no node is longer than 8 digits
  pub node_short : (m : Map) (q : List ℕ) → has_node K m q ≡ true → length q ≤ 8
  node_short m [] e = omega arith
  node_short m (h ∷ q) e = leb-true (length (h ∷ q)) 8 (and_parts (leb (length (h ∷ q)) 8) (many (part K m (h ∷ q))) e).0

  -- where two or more settings lead there is a node
  pub node_there : (m : Map) (q : List ℕ) → 1 ≤ length q → length q ≤ 8 → AllByRecursion (λ s. leads K 0 q s.key ≡ true) m → many m ≡ true → has_node K m q ≡ true
  node_there m [] l u a e = absurd (omega arith)
  node_there m (h ∷ q) l u a e =
      and_from (leb (length (h ∷ q)) 8) (many (part K m (h ∷ q))) (le-leb _ 8 u) (rw (filter_all (λ s. leads K 0 (h ∷ q) s.key) m a) e)

  some_mem : (d : ℕ) (m : Map) (g : ℕ) (l : Map) → at_digit K d m g ≡ l → 1 ≤ length l → g < 16
  some_mem d m g [] e h = absurd (omega arith)
  some_mem d m g (s ∷ l) e h =
      let r = mem_of_filter (λ t. eqb (digit (K.hash t.key) d) g) m s (subst (Mem s) (sym e) (Memᴰ.head refl)) in
      omega (arith, eqb-true _ g r.1, digit_below (K.hash s.key) d)

  -- a node below a prefix and a digit is below a child
  pub node_branch : (m : Map) (p : List ℕ) (g : ℕ) (q : List ℕ) → begins (p ++ (g ∷ [])) q ≡ true → has_node K m q ≡ true → Mem g (branching K (length p) m)
  node_branch m p g [] b e = absurd (omega (arith, begins_length (p ++ (g ∷ [])) [] b, length_on p g))
  node_branch m p g (h ∷ q) b e =
      let x : Map = at_digit K (length p) m g in
      let t : 1 < length (part K m (h ∷ q)) = ltb-true 1 _ (and_parts (leb (length (h ∷ q)) 8) (many (part K m (h ∷ q))) e).1 in
      let z : length (part K x (h ∷ q)) ≡ length (part K m (h ∷ q)) = ap length (part_on m p g (h ∷ q) b) in
      let y : 1 < length x = omega (arith, filter_short (λ s. leads K 0 (h ∷ q) s.key) x) in
      mem_filter (λ i. many (at_digit K (length p) m i)) sixteen g (sixteen_mem g (some_mem (length p) m g x refl (omega arith))) (lt-ltb 1 _ y)

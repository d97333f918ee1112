-- The tally of a part is the sum of the tallies of its sixteen digits, with its own node. Assumes nothing.
use Rattle.std.proofs.Common.{◌≡◌, ℕ, zero, suc, ◌+◌, ◌<◌, ◌≤◌, Bool, true, false, cond, ltb, List, [], ◌∷◌, ◌++◌, length, is_some, Some, None, sym, refl, ap, ◌∙◌, subst, ap₂, arith}
use Rattle.std.specs.List.{range_with_len}
use Rattle.kinds.specs.Kinds.{KeyKind, ValueKind}
use Rattle.model.specs.Maps.{Map, same_map, Sound}
use Rattle.model.specs.Tries.{at_digit, sixteen}
use Rattle.model.specs.Sharing.{Part, below}
use Rattle.model.proofs.Marks.Prefixes.{length_on}
use Rattle.plans.specs.Plans.{total, bushy, crowd, portion, Tally, capped, Told, nothing_told, add, summed, closed}
use Rattle.plans.proofs.Rows.{sixteen_is, counting_more, every_more, some_same, some_more, total_more}
use Rattle.plans.proofs.Sizes.{capped_left, capped_total, capped_test}
use Rattle.plans.proofs.Digits.{same_by_digits, length_by_digits}
use Rattle.plans.proofs.Costs.{portion_nodes, portion_entries}

-- ---- one digit more

pub summed_none : (c : ℕ → Tally) → summed c [] ≡ nothing_told
summed_none c = refl

pub summed_more : (c : ℕ → Tally) (g : ℕ) → summed c (range_with_len 0 (suc g)) ≡ add (summed c (range_with_len 0 g)) (c g)
summed_more c g =
    let z : 0 + g ≡ g = omega arith in
    ap (summed c) (counting_more g 0 ∙ ap (λ (x : ℕ). range_with_len 0 g ++ (x ∷ [])) z) ∙ at_end (range_with_len 0 g)
  where
    at_end : (l : List ℕ) → summed c (l ++ (g ∷ [])) ≡ add (summed c l) (c g)
    at_end l =
        let s = ap capped (total_more (λ x. (c x).size) l g) ∙ capped_left (total (λ x. (c x).size) l) (c g).size in
        let o = every_more (λ x. (c x).ours) l g in
        let t = every_more (λ x. (c x).theirs) l g in
        let r = some_more (λ x. (c x).crowded) l g in
        let n = total_more (λ x. (c x).nodes) l g in
        let e = total_more (λ x. (c x).entries) l g in
        λ j. record { size = s j; ours = o j; theirs = t j; crowded = r j; nodes = n j; entries = e j }

-- only the digits of the row count
pub summed_same : (c d : ℕ → Tally) (n : ℕ) → ((g : ℕ) → g < n → c g ≡ d g) → summed c (range_with_len 0 n) ≡ summed d (range_with_len 0 n)
summed_same c d zero h = refl
summed_same c d (suc n) h = summed_more c n ∙ ap₂ add (summed_same c d n (λ g l. h g (omega arith))) (h n (omega arith)) ∙ sym (summed_more d n)

-- ---- the tally that the account has

abbrev pub exact : KeyKind → ℕ → ℕ → List ℕ → Part → Part → Map → Tally
exact K n h p o t m = record {
  size = capped (length m);
  ours = same_map o.settings m;
  theirs = same_map t.settings m;
  crowded = crowd K h (length p) m;
  nodes = (portion K n h p (o ∷ (t ∷ [])) m).new_nodes;
  entries = (portion K n h p (o ∷ (t ∷ [])) m).new_entries;
}

pub told_exact : (K : KeyKind) (n h : ℕ) (p : List ℕ) (o t : Part) (m : Map) → Told K n h p o t m (exact K n h p o t m)
told_exact K n h p o t m = record { size = refl; ours = refl; theirs = refl; crowded = refl; nodes = refl; entries = refl }

pub told_is : (K : KeyKind) (n h : ℕ) (p : List ℕ) (o t : Part) (m : Map) (c : Tally) → Told K n h p o t m c → c ≡ exact K n h p o t m
told_is K n h p o t m c w =
    let s = w.size in let u = w.ours in let v = w.theirs in let r = w.crowded in let x = w.nodes in let y = w.entries in
    λ i. record { size = s i; ours = u i; theirs = v i; crowded = r i; nodes = x i; entries = y i }

-- ---- the step

-- whether a node is new, by the two tests
new_by : (x y : Bool) (o t : Part) → ◌≡◌ {A = ℕ} (cond (is_some (cond x (Some o) (cond y (Some t) None))) 0 1) (cond x 0 (cond y 0 1))
new_by true y o t = refl
new_by false true o t = refl
new_by false false o t = refl

module _ (K : KeyKind) (V : ValueKind) (n h : ℕ) (low : suc h ≤ 8) (p : List ℕ) (o t : Part) (go : Sound K V o.settings) (gt : Sound K V t.settings) where
  -- the tally at a digit
  abbrev at : Map → ℕ → Tally
  at m g = exact K n h (p ++ (g ∷ [])) (below K p g o) (below K p g t) (at_digit K (length p) m g)

  told_by_exact : (m : Map) → Sound K V m → Told K n (suc h) p o t m (closed (suc h) (summed (at m) sixteen))
  told_by_exact m gm =
      let c : Tally = summed (at m) sixteen in
      let b : Bool = ltb (suc h) 8 in
      let z : c.size ≡ capped (length m) = capped_total (λ g. length (at_digit K (length p) m g)) sixteen ∙ ap capped (length_by_digits K (length p) m) in
      let x : c.ours ≡ same_map o.settings m = sym (same_by_digits K V (length p) o.settings m go gm) in
      let y : c.theirs ≡ same_map t.settings m = sym (same_by_digits K V (length p) t.settings m gt gm) in
      record {
        size = z;
        ours = x;
        theirs = y;
        crowded =
            some_same (λ g. (at m g).crowded) (λ g. crowd K h (suc (length p)) (at_digit K (length p) m g)) sixteen
            (λ g. ap (λ (d : ℕ). crowd K h d (at_digit K (length p) m g)) (length_on p g));
        nodes =
            ap (λ (q : Bool). c.nodes + cond q (cond c.ours 0 (cond c.theirs 0 1)) 0) (ap (ltb (cond b 1 0)) z ∙ capped_test b (length m))
            ∙ ap₂ (λ (u v : Bool). c.nodes + cond (bushy (suc h) m) (cond u 0 (cond v 0 1)) 0) x y
            ∙ ap (λ (q : ℕ). c.nodes + cond (bushy (suc h) m) q 0) (sym (new_by (same_map o.settings m) (same_map t.settings m) o t))
            ∙ sym (portion_nodes K n h low p (o ∷ (t ∷ [])) m);
        entries = sym (portion_entries K n h low p (o ∷ (t ∷ [])) m);
      }

  pub told_by_digits : (m : Map) → Sound K V m → (c : ℕ → Tally) →
      ((g : ℕ) → g < 16 → Told K n h (p ++ (g ∷ [])) (below K p g o) (below K p g t) (at_digit K (length p) m g) (c g)) →
      Told K n (suc h) p o t m (closed (suc h) (summed c (range_with_len 0 16)))
  told_by_digits m gm c each =
      subst (λ (x : Tally). Told K n (suc h) p o t m (closed (suc h) x))
      (ap (summed (at m)) sixteen_is
      ∙ sym (summed_same c (at m) 16 (λ g l. told_is K n h (p ++ (g ∷ [])) (below K p g o) (below K p g t) (at_digit K (length p) m g) (c g) (each g l))))
      (told_by_exact m gm)

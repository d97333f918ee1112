-- How much a part takes at most: nodes for each level and setting, and an entry for each setting. Assumes nothing.
use Rattle.std.proofs.Common.{◌≡◌, ℕ, zero, suc, ◌+◌, ◌*◌, ◌<◌, ◌≤◌, Bool, true, false, cond, ltb, List, [], ◌∷◌, ◌++◌, map, length, is_some, Some, None, Option, sym, ap, ◌∙◌, subst, suc-mul, arith}
use Rattle.std.specs.List.{range_with_len}
use Rattle.std.proofs.lemmas.Bool.{ltb-true, cond_both}
use Rattle.kinds.specs.Kinds.{KeyKind}
use Rattle.model.specs.Maps.{Setting, Map, look, same_found}
use Rattle.model.specs.Tries.{at_digit, sixteen}
use Rattle.model.specs.Sharing.{Part, below, Shared, ◌⊕◌, sum, new_node, first_same, entry_from, kept_or}
use Rattle.plans.specs.Plans.{total, bushy, portion, Tally, Told, summed}
use Rattle.plans.proofs.Rows.{sixteen_is, total_le, total_scale, total_part}
use Rattle.plans.proofs.Sizes.{capped_few}
use Rattle.plans.proofs.Digits.{length_by_digits}
use Rattle.plans.proofs.Costs.{entry_nodes, portion_nodes, portion_entries}
use Rattle.plans.proofs.Tallies.{exact, summed_same, told_is}
use Rattle.plans.proofs.Leaves.{entries_nodes}

entry_few : (n : ℕ) (ss : List Part) (s : Setting) → (entry_from n ss s).new_entries ≤ 1
entry_few n [] s = omega arith
entry_few n (a ∷ ss) s =
    cond_both (same_found (look a.settings s.key) (Some s.value)) _ (entry_from n ss s) (λ (r : Shared). r.new_entries ≤ 1) (λ e. omega arith) (λ e. entry_few n ss s)

entries_few : (n : ℕ) (ss : List Part) (m : Map) → (sum (entry_from n ss) m).new_entries ≤ length m
entries_few n ss [] = omega arith
entries_few n ss (s ∷ m) = omega (arith, entry_few n ss s, entries_few n ss m)

kept_few : (x : Option Part) (s : Shared) (a b : ℕ) → s.new_nodes ≤ a → s.new_entries ≤ b → ((kept_or x s).new_nodes ≤ a) × ((kept_or x s).new_entries ≤ b)
kept_few (Some v) s a b p q = (omega arith, omega arith)
kept_few None s a b p q = (p, q)

-- over bare numbers
one_node : (N z : ℕ) → N ≡ 0 → 1 + N ≤ 1 * suc (suc z)
one_node N z e = omega arith

none_more : (N z : ℕ) → N ≤ z → 0 + N ≤ z
none_more N z l = omega arith

level_more : (N T z h x : ℕ) → N ≤ T → T ≡ suc h * z → x ≤ z → N + x ≤ suc (suc h) * z
level_more N T z h x p q r = omega (arith, suc-mul (suc h) z)

-- a node more only over some setting
extra_few : (b : Bool) (z : ℕ) (c : Bool) → cond (ltb (cond b 1 0) z) (cond c 0 1) 0 ≤ z
extra_few b z c = cond_both (ltb (cond b 1 0) z) (cond c 0 1) 0 (λ (w : ℕ). w ≤ z) (λ e. go b c (ltb-true (cond b 1 0) z e)) (λ e. omega arith)
  where
    go : (b c : Bool) → cond b 1 0 < z → cond c 0 1 ≤ z
    go true true l = omega arith
    go true false l = omega arith
    go false true l = omega arith
    go false false l = omega arith

pub portion_few : (K : KeyKind) (n h : ℕ) → h ≤ 8 → (p : List ℕ) (ss : List Part) (m : Map) → ((portion K n h p ss m).new_nodes ≤ suc h * length m) × ((portion K n h p ss m).new_entries ≤ length m)
portion_few K n zero low p ss [] = (omega arith, omega arith)
portion_few K n zero low p ss (s ∷ []) = let i = entry_nodes n ss s in (omega arith, entry_few n ss s)
portion_few K n zero low p ss (s ∷ (t ∷ m)) =
    let q : Shared = sum (entry_from n ss) (s ∷ (t ∷ m)) in
    kept_few (first_same ss (s ∷ (t ∷ m))) (new_node n p ⊕ q) (1 * length (s ∷ (t ∷ m))) (length (s ∷ (t ∷ m)))
    (one_node q.new_nodes (length m) (entries_nodes n ss (s ∷ (t ∷ m)))) (none_more q.new_entries (length (s ∷ (t ∷ m))) (entries_few n ss (s ∷ (t ∷ m))))
portion_few K n (suc h) low p ss m =
    let l : h < 8 = omega arith in
    let d : ℕ → Shared = λ g. portion K n h (p ++ (g ∷ [])) (map (below K p g) ss) (at_digit K (length p) m g) in
    let each : (g : ℕ) → ((d g).new_nodes ≤ suc h * length (at_digit K (length p) m g)) × ((d g).new_entries ≤ length (at_digit K (length p) m g)) =
    λ g. portion_few K n h (omega arith) (p ++ (g ∷ [])) (map (below K p g) ss) (at_digit K (length p) m g) in (
      subst (λ (x : ℕ). x ≤ suc (suc h) * length m) (sym (portion_nodes K n h l p ss m))
          (level_more (total (λ g. (d g).new_nodes) sixteen) (total (λ g. suc h * length (at_digit K (length p) m g)) sixteen) (length m) h
          (cond (bushy (suc h) m) (cond (is_some (first_same ss m)) 0 1) 0)
          (total_le (λ g. (d g).new_nodes) (λ g. suc h * length (at_digit K (length p) m g)) sixteen (λ g. (each g).0))
          (total_scale (suc h) (λ g. length (at_digit K (length p) m g)) sixteen ∙ ap (λ (z : ℕ). suc h * z) (length_by_digits K (length p) m))
          (extra_few (ltb (suc h) 8) (length m) (is_some (first_same ss m)))),
      subst (λ (x : ℕ). x ≤ length m) (sym (portion_entries K n h l p ss m))
          (subst (λ (x : ℕ). total (λ g. (d g).new_entries) sixteen ≤ x) (length_by_digits K (length p) m)
          (total_le (λ g. (d g).new_entries) (λ g. length (at_digit K (length p) m g)) sixteen (λ g. (each g).1))),
    )

pub told_few : (K : KeyKind) (n h : ℕ) → h ≤ 8 → (p : List ℕ) (o t : Part) (m : Map) (c : Tally) → Told K n h p o t m c → (c.nodes ≤ suc h * length m) × (c.entries ≤ length m)
told_few K n h low p o t m c w =
    let r = portion_few K n h low p (o ∷ (t ∷ [])) m in
    (subst (λ (x : ℕ). x ≤ suc h * length m) (sym w.nodes) r.0, subst (λ (x : ℕ). x ≤ length m) (sym w.entries) r.1)

-- a sum over the first digits is no more
pub summed_few : (K : KeyKind) (n h : ℕ) → h ≤ 8 → (p : List ℕ) (o t : Part) (m : Map) (c : ℕ → Tally) (i : ℕ) → i ≤ 16 →
    ((g : ℕ) → g < i → Told K n h (p ++ (g ∷ [])) (below K p g o) (below K p g t) (at_digit K (length p) m g) (c g)) →
    ((summed c (range_with_len 0 i)).size ≤ 2) × ((summed c (range_with_len 0 i)).nodes ≤ suc h * length m) × ((summed c (range_with_len 0 i)).entries ≤ length m)
summed_few K n h low p o t m c i most each =
    let z : ℕ → ℕ = λ g. length (at_digit K (length p) m g) in
    let d : ℕ → Tally = λ g. exact K n h (p ++ (g ∷ [])) (below K p g o) (below K p g t) (at_digit K (length p) m g) in
    let few : (g : ℕ) → ((d g).nodes ≤ suc h * z g) × ((d g).entries ≤ z g) =
    λ g. portion_few K n h low (p ++ (g ∷ [])) (below K p g o ∷ (below K p g t ∷ [])) (at_digit K (length p) m g) in
    let all : total z (range_with_len 0 16) ≡ length m = ap (total z) (sym sixteen_is) ∙ length_by_digits K (length p) m in
    let same = summed_same c d i (λ g l. told_is K n h (p ++ (g ∷ [])) (below K p g o) (below K p g t) (at_digit K (length p) m g) (c g) (each g l)) in (
      capped_few (total (λ g. (c g).size) (range_with_len 0 i)),
      part_few (λ g. (d g).nodes) (λ g. suc h * z g) (suc h * length m) i most (λ g. (few g).0) (total_scale (suc h) z (range_with_len 0 16) ∙ ap (λ (x : ℕ). suc h * x) all)
          (summed c (range_with_len 0 i)).nodes (ap (λ (x : Tally). x.nodes) same),
      part_few (λ g. (d g).entries) z (length m) i most (λ g. (few g).1) all (summed c (range_with_len 0 i)).entries (ap (λ (x : Tally). x.entries) same),
    )
  where
    part_few : (f e : ℕ → ℕ) (b i : ℕ) → i ≤ 16 → ((g : ℕ) → f g ≤ e g) → total e (range_with_len 0 16) ≡ b → (x : ℕ) → x ≡ total f (range_with_len 0 i) → x ≤ b
    part_few f e b i l h q x r = omega (arith, total_part f i 16 0 l, total_le f e (range_with_len 0 16) h)

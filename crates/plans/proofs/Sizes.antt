-- None, one or more: sizes that are kept only so far. Assumes nothing.
use Rattle.std.proofs.Common.{◌≡◌, ℕ, ◌+◌, ◌<◌, ◌≤◌, Bool, true, false, cond, ltb, ◌⊎◌, List, [], ◌∷◌, sym, refl, ap, ◌∙◌, inl, inr, arith}
use Rattle.std.proofs.lemmas.Bool.{cases_lt, cond-true, cond-false, lt-ltb, le-ltb}
use Rattle.plans.specs.Plans.{total, capped}

pub capped_tells : (z : ℕ) → ((1 < z) × (capped z ≡ 2)) ⊎ ((z ≤ 1) × (capped z ≡ z))
capped_tells z =
    elim (cases_lt 1 z) [
      | inl l ↦ inl (l, cond-true (ltb 1 z) 2 z (lt-ltb 1 z l))
      | inr l ↦ inr (l, cond-false (ltb 1 z) 2 z (le-ltb 1 z l))
    ]

pub capped_few : (z : ℕ) → capped z ≤ 2
capped_few z = elim (capped_tells z) [ inl p ↦ omega (arith, p.1) | inr p ↦ omega (arith, p.1, p.0) ]

capped_same : (a b : ℕ) → (1 < a → 1 < b) → (1 < b → 1 < a) → (a ≤ 1 → a ≡ b) → capped a ≡ capped b
capped_same a b f g e =
    elim (capped_tells a) [
      | inl p ↦ elim (capped_tells b) [ inl q ↦ p.1 ∙ sym q.1 | inr q ↦ absurd (omega (arith, f p.0, q.0)) ]
      | inr p ↦ elim (capped_tells b) [ inl q ↦ absurd (omega (arith, g q.0, p.0)) | inr q ↦ p.1 ∙ e p.0 ∙ sym q.1 ]
    ]

-- ---- sums

pub capped_left : (a b : ℕ) → capped (a + b) ≡ capped (capped a + b)
capped_left a b =
    elim (capped_tells a) [
      | inl p ↦ capped_same (a + b) (capped a + b) (λ l. omega (arith, p.1)) (λ l. omega (arith, p.0)) (λ l. absurd (omega (arith, p.0)))
      | inr p ↦ ap (λ (z : ℕ). capped (z + b)) (sym p.1)
    ]

capped_right : (a b c : ℕ) → capped b ≡ capped c → capped (a + b) ≡ capped (a + c)
capped_right a b c e =
    let x : b + a ≡ a + b = omega arith in
    let y : c + a ≡ a + c = omega arith in
    ap capped (sym x) ∙ capped_left b a ∙ ap (λ (z : ℕ). capped (z + a)) e ∙ sym (capped_left c a) ∙ ap capped y

pub capped_total : (f : ℕ → ℕ) (l : List ℕ) → capped (total (λ g. capped (f g)) l) ≡ capped (total f l)
capped_total f [] = refl
capped_total f (x ∷ l) = sym (capped_left (f x) (total (λ g. capped (f g)) l)) ∙ capped_right (f x) (total (λ g. capped (f g)) l) (total f l) (capped_total f l)

-- ---- tests: more than none, and more than one

pub capped_test : (b : Bool) (z : ℕ) → ltb (cond b 1 0) (capped z) ≡ ltb (cond b 1 0) z
capped_test true z = elim (capped_tells z) [ inl p ↦ ap (ltb 1) p.1 ∙ sym (lt-ltb 1 z p.0) | inr p ↦ ap (ltb 1) p.1 ]
capped_test false z = elim (capped_tells z) [ inl p ↦ ap (ltb 0) p.1 ∙ sym (lt-ltb 0 z (omega (arith, p.0))) | inr p ↦ ap (ltb 0) p.1 ]

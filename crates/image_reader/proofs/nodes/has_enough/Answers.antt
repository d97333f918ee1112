use Rattle.std.proofs.Common.{◌≡◌, ℕ, ◌+◌, ◌-◌, ◌<◌, Bool, true, false, cond, ◌||◌, eqb, ltb, sym, ap, ◌∙◌, arith}
use lib.Count.{ones}
use Rattle.std.proofs.lemmas.Bool.{eq-eqb, ne_eqb, lt-ltb, le-ltb}
use Rattle.model.specs.Reading.{digits_in, enough}
use Rattle.image_reader.proofs.MapDigits.{ones_digits}
use Rattle.image_reader.proofs.nodes.has_enough.Goals as goal

-- the test by the counts of the bits, at a root and elsewhere
by_counts : (h d n : ℕ) → d < 65536 → n < 65536 → (root : Bool) → eqb h 7 ≡ root →
    cond root (ltb 0 (ones d + ones n)) (ltb 0 (ones n) || ltb 1 (ones d))
    ≡ enough h (digits_in d) (digits_in n)
by_counts h d n hd hn root e = rw (ones_digits d hd, ones_digits n hn, sym e)

pub returns-then-height-eq-ROOT_HEIGHT : goal.returns-then-height-eq-ROOT_HEIGHT
returns-then-height-eq-ROOT_HEIGHT c =
    let root : c.args.height - 1 ≡ 7 = omega arith in
    by_counts _ _ _ (omega arith) (omega arith) true (eq-eqb _ 7 root)

pub returns-then-children-gt0 : goal.returns-then-children-gt0
returns-then-children-gt0 c =
    let some = lt-ltb _ _ c.if-children-gt0.true in
    let other : c.args.height - 1 ≡ 7 → ⊥ = omega arith in
    some ∙ (ap (λ b. b || ltb 1 (ones c.args.datamap)) (sym some)
    ∙ by_counts _ _ _ (omega arith) (omega arith) false (ne_eqb _ 7 other))

pub returns-else-children-gt0 : goal.returns-else-children-gt0
returns-else-children-gt0 c =
    let none = le-ltb _ _ c.if-children-gt0.false in
    let other : c.args.height - 1 ≡ 7 → ⊥ = omega arith in
    ap (λ b. b || ltb 1 (ones c.args.datamap)) (sym none)
    ∙ by_counts _ _ _ (omega arith) (omega arith) false (ne_eqb _ 7 other)

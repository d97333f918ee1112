use Rattle.std.proofs.Common.{◌+◌, ◌*◌, ◌^◌, ◌<◌, ◌≤◌, refl, ap, arith}
use Rattle.image_reader.proofs.Prefixes.{span_small, span_down, number_down, child_digits}
use Rattle.image_reader.proofs.prefix.Prefix.child.Goals as goal

pub overflow_mul-result : goal.overflow_mul-result
overflow_mul-result c =
    let small : c.from.result < 16 = omega arith in
    let span : c.args.self.span ≤ 16 ^ 7 =
    span_small _ c.requires.some_below c.args.self.heights _ c.args.self.spans in
    omega (arith, number_down _ _ _ c.args.self.below small)

pub overflow_add-result : goal.overflow_add-result
overflow_add-result c =
    let small : c.from.result < 16 = omega arith in
    let span : c.args.self.span ≤ 16 ^ 7 =
    span_small _ c.requires.some_below c.args.self.heights _ c.args.self.spans in
    omega (arith, number_down _ _ _ c.args.self.below small)

pub overflow_mul-result-2 : goal.overflow_mul-result-2
overflow_mul-result-2 c =
    omega (arith, span_small _ c.requires.some_below c.args.self.heights _ c.args.self.spans)

pub invariant_of-result : goal.invariant_of-result
invariant_of-result c =
    let small : c.from.result < 16 = omega arith in
    record {
      heights = omega arith;
      spans = span_down _ c.requires.some_below c.args.self.heights _ c.args.self.spans;
      below = number_down _ _ _ c.args.self.below small;
    }

pub returns-clause-digits : goal.returns-clause-digits
returns-clause-digits c =
    child_digits c.args.self _ _ c.requires.some_below c.requires.small refl
    (ap (λ d. c.args.self.number + d * c.args.self.span) c.from.ensures)

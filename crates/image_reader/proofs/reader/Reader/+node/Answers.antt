use Rattle.std.proofs.Common.{◌<◌, refl, sym, arith}
use Rattle.std.proofs.lemmas.Result.{err_from_is_err_and}
use Rattle.image_reader.specs.Prefixes.{prefix_digits}
use Rattle.image_reader.proofs.MapDigits.{digits_end, digit_passed}
use Rattle.image_reader.proofs.NodeReadings.{maps_broken, children_start, turn_command_faults, turn_faults, turn_reaches}
use Rattle.image_reader.proofs.reader.Reader.+node.Goals as goal
use Rattle.image_reader.proofs.reader.Reader.+node.Goals.{then-has_digit+in_ok-command+in_ok-count-2, else-has_digit}

pub returns-then-not-are_maps : goal.returns-then-not-are_maps
returns-then-not-are_maps g t c =
    let deep : 0 < c.args.prefix.height = omega arith in
    maps_broken g.K.Key.kind g.V.Value.kind _ deep (prefix_digits c.args.prefix) _ _ _ _
    c.read_maps-datamap.ensures.data c.read_maps-datamap.ensures.nodes
    _ _ c.broken.ensures (sym c.if-not-are_maps.ensures)

pub loop-digit-init : goal.loop-digit-init
loop-digit-init g t c =
    let deep : 0 < c.args.prefix.height = omega arith in
    children_start g.K.Key.kind g.V.Value.kind _ deep (prefix_digits c.args.prefix) _ _ _ _
    c.read_maps-datamap.ensures.data c.read_maps-datamap.ensures.nodes
    _ (sym c.if-not-are_maps.ensures) (omega arith) _ _ _ refl c.in_ok-count.ensures

pub returns-in_err-command : goal.returns-in_err-command
returns-in_err-command g t c =
    let deep : 0 < c.args.prefix.height = omega arith in
    let p = err_from_is_err_and c.from_residual-in_err-command.result
    c.from_residual-in_err-command.ensures.1 in
    rw (p.1, p.2)
    (turn_command_faults g.K.Key.kind g.V.Value.kind _ deep (prefix_digits c.args.prefix)
    _ _ _ _ _ _ _ c.loop-digit.invariant c.loop-digit-test.true (sym c.if-has_digit.ensures)
    _ c.in_err-command.ensures)

pub returns-in_err-count-2 : goal.returns-in_err-count-2
returns-in_err-count-2 g t c =
    let deep : 0 < c.args.prefix.height = omega arith in
    let p = err_from_is_err_and c.from_residual-in_err-count-2.result
    c.from_residual-in_err-count-2.ensures.1 in
    rw (p.1, p.2)
    (turn_faults g.K.Key.kind g.V.Value.kind _ deep (prefix_digits c.args.prefix)
    _ _ _ _ _ _ _ c.loop-digit.invariant c.loop-digit-test.true (sym c.if-has_digit.ensures)
    _ _ c.in_ok-command.ensures _ c.child.ensures.digits _ c.child.ensures.height
    _ c.in_err-count-2.ensures)

pub loop-digit-preserved : goal.loop-digit-preserved
loop-digit-preserved g t c =
    let deep : 0 < c.args.prefix.height = omega arith in
    elim c.if-has_digit.branch [
      | then-has_digit+in_ok-command+in_ok-count-2 w ↦
          simp (w.self-is, w.count-is, w.children-is)
          (turn_reaches g.K.Key.kind g.V.Value.kind _ deep (prefix_digits c.args.prefix)
          _ _ _ _ _ _ _ c.loop-digit.invariant c.loop-digit-test.true (sym w.if-has_digit.ensures)
          _ _ w.in_ok-command.ensures _ w.child.ensures.digits _ w.child.ensures.height
          _ _ w.in_ok-count-2.ensures)
      | else-has_digit w ↦
          simp (w.self-is, w.count-is, w.children-is)
          (digit_passed _ _ _ _ _ _ _ _ c.loop-digit.invariant c.loop-digit-test.true
          (sym w.if-has_digit.ensures))
    ]

pub returns : goal.returns
returns g t c = digits_end _ _ _ _ _ _ _ _ c.loop-digit.invariant (omega arith)

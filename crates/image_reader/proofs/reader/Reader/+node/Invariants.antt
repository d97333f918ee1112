use Rattle.std.proofs.Common.{◌-◌}
use Rattle.image_reader.specs.Nodes.{below}
use Rattle.image_reader.specs.Prefixes.{prefix_digits}
use Rattle.image_reader.proofs.MapDigits.{DigitsGoing}
use Rattle.image_reader.proofs.NodeReadings.{child_at}
use Rattle.image_reader.proofs.reader.Reader.+node.Given as goal

abbrev pub decreases-node : goal.decreases-node
decreases-node g l = l.prefix.height

abbrev pub invariant-loop-digit : goal.invariant-loop-digit
invariant-loop-digit g l =
    DigitsGoing
    (child_at g.K.Key.kind g.V.Value.kind (l.fn.prefix.height - 1) (prefix_digits l.fn.prefix))
    (below g.K.Key.kind g.V.Value.kind l.fn.prefix.height (prefix_digits l.fn.prefix)
    l.fn.command.at l.fn.command.operands.now)
    l.nodemap l.fn.self l.self l.count l.digit l.children

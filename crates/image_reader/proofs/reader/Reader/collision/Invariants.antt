use Rattle.std.proofs.Common.{◌-◌}
use Rattle.byte_rows.specs.Rows.{number}
use Rattle.model.specs.Reading.{rising, read_crowd}
use Rattle.image_reader.specs.Prefixes.{prefix_digits}
use Rattle.image_reader.specs.Readings.{ReadingReaches}
use Rattle.image_reader.specs.Entries.{follows}
use Rattle.image_reader.proofs.reader.Reader.collision.Given as goal

abbrev pub invariant-loop-read : goal.invariant-loop-read
invariant-loop-read g l =
    ReadingReaches
    (read_crowd g.K.Key.kind g.V.Value.kind (prefix_digits l.fn.prefix) l.fn.command.at
    (number l.fn.command.operands.now))
    (rising g.K.Key.kind g.V.Value.kind (prefix_digits l.fn.prefix) (l.many - l.read)
    (follows g.K.Key.kind g.K.Coded.bytes l.last))
    l.fn.self l.self l.read

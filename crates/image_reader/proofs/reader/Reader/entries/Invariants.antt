use Rattle.image_reader.specs.Prefixes.{prefix_digits}
use Rattle.image_reader.proofs.EntryReadings.{EntriesGoing}
use Rattle.image_reader.proofs.reader.Reader.entries.Given as goal

abbrev pub invariant-loop-digit : goal.invariant-loop-digit
invariant-loop-digit g l = EntriesGoing g.K.Key.kind g.V.Value.kind
    (prefix_digits l.fn.prefix) l.fn.datamap l.fn.self l.self l.digit l.entries

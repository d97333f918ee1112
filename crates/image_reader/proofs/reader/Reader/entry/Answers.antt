use Rattle.std.proofs.Common.{sym, ◌∙◌}
use Rattle.std.proofs.lemmas.Result.{err_from_is_err_and}
use Rattle.image_reader.specs.Prefixes.{prefix_digits}
use Rattle.image_reader.specs.Entries.{follows}
use Rattle.image_reader.proofs.EntryReadings.{entry_command_faults, entry_unread, entry_refused, entry_reached}
use Rattle.image_reader.proofs.reader.Reader.entry.Goals as goal

pub returns-in_err-command : goal.returns-in_err-command
returns-in_err-command g c =
    let p = err_from_is_err_and c.from_residual.result c.from_residual.ensures.1 in
    rw (p.1, p.2)
    (entry_command_faults _ _ (prefix_digits c.args.prefix)
    (follows g.K.Key.kind g.K.Coded.bytes c.args.last) _ c.requires _ _ c.in_err-command.ensures)

pub returns-in_default : goal.returns-in_default
returns-in_default g c =
    entry_unread _ _ (prefix_digits c.args.prefix)
    (follows g.K.Key.kind g.K.Coded.bytes c.args.last) _ c.requires _ _ _ c.in_ok-command.ensures
    _ c.broken.ensures c.in_default.ensures

pub returns-then-not-has_place : goal.returns-then-not-has_place
returns-then-not-has_place g c =
    entry_refused _ _ (prefix_digits c.args.prefix)
    (follows g.K.Key.kind g.K.Coded.bytes c.args.last) _ c.requires _ _ _ c.in_ok-command.ensures
    g.K.Coded.bytes g.V.Coded.bytes _ _ c.in-Some.ensures
    _ c.broken-then-not-has_place.ensures (sym c.has_place.ensures ∙ c.if-not-has_place.true)

pub returns : goal.returns
returns g c =
    entry_reached _ _ (prefix_digits c.args.prefix)
    (follows g.K.Key.kind g.K.Coded.bytes c.args.last) _ c.requires _ _ _ c.in_ok-command.ensures
    g.K.Coded.bytes g.V.Coded.bytes _ _ c.in-Some.ensures
    (sym c.has_place.ensures ∙ c.if-not-has_place.false)

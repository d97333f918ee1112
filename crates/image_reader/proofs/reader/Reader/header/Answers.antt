use Rattle.std.proofs.lemmas.Result.{err_from_is_err_and}
use Rattle.image_reader.proofs.ImageReadings.{header_command_faults, header_foreign, header_passed}
use Rattle.image_reader.proofs.reader.Reader.header.Goals as goal

pub returns-in_err-command : goal.returns-in_err-command
returns-in_err-command g c =
    let p = err_from_is_err_and c.from_residual.result c.from_residual.ensures.1 in
    rw (p.1, p.2) (header_command_faults _ _ _ c.requires _ c.in_err-command.ensures)

pub returns-then-not-same_rows : goal.returns-then-not-same_rows
returns-then-not-same_rows g c =
    header_foreign _ _ _ c.requires _ _ c.in_ok-command.ensures _ c.own_header.ensures
    _ c.same_rows.ensures c.if-not-same_rows.true

pub returns : goal.returns
returns g c =
    header_passed _ _ _ c.requires _ _ c.in_ok-command.ensures _ c.own_header.ensures
    _ c.same_rows.ensures c.if-not-same_rows.false

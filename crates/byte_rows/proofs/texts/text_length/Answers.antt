use Rattle.std.proofs.Common.{take, length, ap, ◌∙◌}
use Rattle.std.specs.Option.{unwrap_or}
use Rattle.byte_rows.proofs.Fillings.{before_zero}
use Rattle.byte_rows.proofs.texts.text_length.Goals as goal

pub returns-clause-text : goal.returns-clause-text
returns-clause-text c =
    ap (λ n. take n c.args.row.now) (c.unwrap_or.ensures ∙ ap (λ o. unwrap_or o (length c.args.row.now)) c.first_zero.ensures) ∙ before_zero c.args.row.now

use Rattle.std.proofs.Common.{◌≡◌, ℕ, List, length, sym, ap, ◌∙◌}
use Rattle.std.proofs.lemmas.Bool.{cond-true, le-leb}
use Rattle.byte_rows.specs.Rows.{written}
use Rattle.byte_rows.specs.Texts.{filled, text_row}
use Rattle.byte_rows.proofs.Fillings.{written_filled, filled_row}
use Rattle.byte_rows.proofs.texts.fill_row.Goals as goal

pub returns-then-text-out : goal.returns-then-text-out
returns-then-text-out c =
    let text : List ℕ = c.args.text.now in
    let w : ℕ = length c.args.out.now in
    let done : c.write_row.new.out ≡ filled w text =
    c.write_row.ensures ∙ ap (written text) (c.fill.ensures.after (λ y e. e)) ∙ written_filled w text c.if-text-out.true in
    record { after = done ∙ sym (cond-true _ _ _ (le-leb _ _ c.if-text-out.true)); reads = λ h. ap (text_row w) done ∙ filled_row w text h }

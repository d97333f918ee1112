use Rattle.std.proofs.Common.{sym, ap, ◌∙◌}
use Rattle.kinds.specs.declared.refusal.Refusal.TheVariants.{Broken}
use Rattle.image_reader.proofs.ImageReadings.{end_miscounts, end_followed, end_passed}
use Rattle.image_reader.proofs.reader.Reader.end.Goals as goal

pub returns-then-read_count-count : goal.returns-then-read_count-count
returns-then-read_count-count c =
    end_miscounts _ _ _ _ _ c.broken.ensures
    (λ e. c.if-read_count-count.true (c.read_count.ensures ∙ e))

pub returns-then-not-is_at_end : goal.returns-then-not-is_at_end
returns-then-not-is_at_end c =
    end_followed _ _ _ _ (sym c.read_count.ensures ∙ c.if-read_count-count.false) _
    (ap Broken c.offset.ensures) (sym c.if-not-is_at_end.ensures)

pub returns : goal.returns
returns c =
    end_passed _ _ _ _ (sym c.read_count.ensures ∙ c.if-read_count-count.false)
    (sym c.if-not-is_at_end.ensures)

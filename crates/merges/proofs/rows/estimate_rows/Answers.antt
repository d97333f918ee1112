use Rattle.merges.proofs.RowEstimates.{met_told}
use Rattle.merges.proofs.rows.estimate_rows.Goals as goal

pub returns : goal.returns
returns g c = record { told = λ q n. met_told _ _ _ _ _ _ _ _ q _ c.choose_rows.ensures _ c.estimate.ensures n }

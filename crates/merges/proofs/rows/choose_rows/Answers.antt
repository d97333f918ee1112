use Rattle.std.proofs.Common.{◌∙◌}
use Rattle.merges.proofs.RowEstimates.{mine_some, common_some, other_some, met_order, met_few, met_chose}
use Rattle.merges.proofs.rows.choose_rows.Goals as goal

pub choose-requires-clause-ours : goal.choose-requires-clause-ours
choose-requires-clause-ours g c = mine_some _ _ _ _ _ _ _ _ c.requires _ (c.singles.ensures ∙ c.as_node-mine.ensures)

pub choose-requires-clause-base : goal.choose-requires-clause-base
choose-requires-clause-base g c = common_some _ _ _ _ _ _ _ _ c.requires _ (c.singles-2.ensures ∙ c.as_node-common.ensures)

pub choose-requires-clause-theirs : goal.choose-requires-clause-theirs
choose-requires-clause-theirs g c = other_some _ _ _ _ _ _ _ _ c.requires _ (c.singles-3.ensures ∙ c.as_node-other.ensures)

pub choose-requires-clause-order : goal.choose-requires-clause-order
choose-requires-clause-order g c =
    met_order _ _ _ _ _ _ _ _ c.requires _ _ _ (c.singles.ensures ∙ c.as_node-mine.ensures) (c.singles-2.ensures ∙ c.as_node-common.ensures) (c.singles-3.ensures ∙ c.as_node-other.ensures)

pub choose-requires-clause-few : goal.choose-requires-clause-few
choose-requires-clause-few g c =
    met_few _ _ _ _ _ _ _ _ c.requires _ _ _ (c.singles.ensures ∙ c.as_node-mine.ensures) (c.singles-2.ensures ∙ c.as_node-common.ensures) (c.singles-3.ensures ∙ c.as_node-other.ensures)

pub returns : goal.returns
returns g c =
    met_chose _ _ _ _ _ _ _ _ c.requires _ _ _ (c.singles.ensures ∙ c.as_node-mine.ensures) (c.singles-2.ensures ∙ c.as_node-common.ensures) (c.singles-3.ensures ∙ c.as_node-other.ensures)
    _ c.choose.ensures

use Rattle.std.proofs.Common.{◌∙◌}
use Rattle.edits.proofs.RowEstimates.{seen_entries, seen_own, seen_told}
use Rattle.edits.proofs.rows.estimate_row.Goals as goal

pub split_row-found-requires : goal.split_row-found-requires
split_row-found-requires g c = seen_entries _ _ _ _ _ _ c.args.key.now c.args.value c.requires _ (c.singles.ensures ∙ c.as_node-node.ensures)

pub same_value-same-requires : goal.same_value-same-requires
same_value-same-requires g c = seen_own _ _ _ _ _ _ c.args.key.now c.args.value c.requires _ (c.singles.ensures ∙ c.as_node-node.ensures) _ _ _ c.split_row-found.ensures

pub returns : goal.returns
returns g c = record {
  told = λ q.
      seen_told _ _ _ _ _ _ c.args.key.now c.args.value q _ (c.singles.ensures ∙ c.as_node-node.ensures) _ _ _ c.split_row-found.ensures
      _ c.same_value-same.ensures _ c.is_some-some.ensures _ c.from.ensures _ c.of_row.ensures;
}

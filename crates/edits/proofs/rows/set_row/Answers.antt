use Rattle.std.proofs.Common.{◌∙◌}
use Rattle.edits.proofs.RowSets.{set_entries, set_keeps, set_adds, set_keeps_rest, set_assembles, set_built}
use Rattle.edits.proofs.rows.set_row.Goals as goal

pub split_row-requires : goal.split_row-requires
split_row-requires g c = set_entries _ _ _ _ _ _ c.args.key.now c.args.value c.requires _ (c.singles.ensures ∙ c.as_node-node.ensures)

pub keep_row-kept-requires : goal.keep_row-kept-requires
keep_row-kept-requires g c = set_keeps _ _ _ _ _ _ c.args.key.now c.args.value c.requires _ (c.singles.ensures ∙ c.as_node-node.ensures) _ _ _ c.split_row.ensures _ c.empty_handed.ensures

pub take_new-put-requires : goal.take_new-put-requires
take_new-put-requires g c =
    set_adds _ _ _ _ _ _ c.args.key.now c.args.value c.requires _ (c.singles.ensures ∙ c.as_node-node.ensures) _ _ _ c.split_row.ensures
    _ c.empty_handed.ensures _ _ _ _ c.keep_row-kept.ensures.kept c.keep_row-kept.ensures.hand

pub keep_row-all-requires : goal.keep_row-all-requires
keep_row-all-requires g c =
    set_keeps_rest _ _ _ _ _ _ c.args.key.now c.args.value c.requires _ (c.singles.ensures ∙ c.as_node-node.ensures) _ _ _ c.split_row.ensures
    _ c.empty_handed.ensures _ _ _ _ c.keep_row-kept.ensures.kept c.keep_row-kept.ensures.hand _ _ _ _ c.take_new-put.ensures

pub assemble-requires : goal.assemble-requires
assemble-requires g c =
    set_assembles _ _ _ _ _ _ c.args.key.now c.args.value c.requires _ (c.singles.ensures ∙ c.as_node-node.ensures) _ _ _ c.split_row.ensures
    _ c.empty_handed.ensures _ _ _ _ c.keep_row-kept.ensures.kept c.keep_row-kept.ensures.hand _ _ _ _ c.take_new-put.ensures
    _ _ _ _ c.keep_row-all.ensures.kept c.keep_row-all.ensures.hand

pub returns : goal.returns
returns g c = record {
  built = λ q.
      set_built _ _ _ _ _ _ c.args.key.now c.args.value q _ (c.singles.ensures ∙ c.as_node-node.ensures) _ _ _ c.split_row.ensures
      _ c.empty_handed.ensures _ _ _ _ c.keep_row-kept.ensures.kept c.keep_row-kept.ensures.hand _ _ _ _ c.take_new-put.ensures
      _ _ _ _ c.keep_row-all.ensures.kept c.keep_row-all.ensures.hand _ _ _ _ c.assemble.ensures;
}

use Rattle.std.proofs.Common.{sym, ap, ◌∙◌}
use lib.Count.{ones}
use Rattle.tables.specs.Cells.{listed, singles}
use Rattle.edits.specs.Rowing.{entries_of}
use Rattle.edits.proofs.rows.as_node.Goals as goal

pub returns-in-Nothing : goal.returns-in-Nothing
unfolding listed ones
returns-in-Nothing c = ap singles c.empty.ensures ∙ ap (entries_of c.args.nodes.now.cells.now) (sym c.in-Nothing.is)

pub returns-in-Entry : goal.returns-in-Entry
unfolding listed ones
returns-in-Entry c = ap (entries_of c.args.nodes.now.cells.now) (sym c.in-Entry.is)

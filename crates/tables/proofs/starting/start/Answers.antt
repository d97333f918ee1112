use Rattle.std.proofs.Common.{arith}
use Rattle.tables.proofs.starting.start.Goals as goal

pub returns : goal.returns
returns g c = (
  omega arith,
  (
    omega arith,
    record {
      nodes_long = c.format_nodes.ensures.long;
      entries_long = c.format_entries.ensures.long;
      nodes = c.format_nodes.ensures.nodes;
      entries = c.format_entries.ensures.entries _ c.format_nodes.ensures.unreferred;
      entryless = c.format_nodes.ensures.entryless;
    },
  ),
)

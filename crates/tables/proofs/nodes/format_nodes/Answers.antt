use Rattle.std.proofs.Common.{ℕ, ◌+◌, ◌<◌, ◌≡◌, length, ◌∙◌, ap, arith}
use Rattle.tables.specs.Cells.{cell}
use Rattle.tables.proofs.Making.{unused, free_nodes, free_entryless, free_unreferred, chained_again}
use Rattle.tables.proofs.nodes.format_nodes.Goals as goal

pub returns : goal.returns
returns c =
    let all : (k : ℕ) → k < length c.format.new.cells → cell c.format.new.cells k ≡ unused (k + 1) = λ k p. c.format.ensures.chained k p ∙ ap (chained_again (k + 1)) c.empty.ensures in
    record {
      long = c.format.ensures.long;
      nodes = free_nodes _ all (omega (arith, c.format.ensures.long));
      entryless = free_entryless _ all;
      unreferred = free_unreferred _ all;
    }

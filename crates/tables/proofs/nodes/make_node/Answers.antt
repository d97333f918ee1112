use Rattle.std.proofs.Common.{refl, rules}
use Rattle.tables.proofs.Chains.{head_free}
use Rattle.tables.proofs.Making.{made_node}
use Rattle.tables.proofs.nodes.make_node.Goals as goal

pub take-requires-clause-inside : goal.take-requires-clause-inside
take-requires-clause-inside c = (head_free _ _ _ _ _ c.requires.heap.1.chain c.requires.some).0

pub returns : goal.returns
returns c =
    rw (c.take.ensures.number, c.take.ensures.cells, c.take.ensures.free, c.take.ensures.spare, c.with.ensures)
    (made_node _ _ _ _ c.requires.some refl (search rules) (search rules) c.requires.below _ c.requires.heap.1)

use Rattle.std.proofs.Common.{◌+◌, length}
use Rattle.merges.proofs.Walks.{Walked}
use Rattle.merges.proofs.chosen.choose.Given as goal

-- what is left of the rows is still to be chosen
abbrev pub invariant-loop-head : goal.invariant-loop-head
invariant-loop-head g l = Walked g.K.Key.kind g.V.Value.kind g.K.Coded.bytes g.V.Coded.bytes l.entries.cells.now l.ours l.base l.theirs l.mine l.other l.chosen

abbrev pub decreases-loop-head : goal.decreases-loop-head
decreases-loop-head g l = length l.mine + length l.other

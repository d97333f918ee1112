use Rattle.std.proofs.Common.{◌≡◌}
use Rattle.tables.specs.Cells.{cell}
use Rattle.tables.specs.Walks.{walk, after, Cleared}
use Rattle.tables.proofs.freeing.clear_freed.Given as goal

abbrev pub invariant-loop : goal.invariant-loop
invariant-loop g l =
    let ns = l.fn.nodes in
    let es = l.fn.entries in
    (l.nodes.free ≡ ns.free)
    × ((l.nodes.spare ≡ ns.spare)
    × ((l.at ≡ after (λ i. (cell ns.cells.now i).next) ns.free l.counter)
    × Cleared (walk (λ i. (cell ns.cells.now i).next) ns.free l.counter) ns.cells.now es.cells.now es.free es.spare
    l.nodes.cells.now l.entries.cells.now l.entries.free l.entries.spare))

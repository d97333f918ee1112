use Rattle.std.proofs.Common.{arith}
use Rattle.tables.proofs.Chains.{spare_le}
use Rattle.tables.proofs.EntryCounts.{inside_entries, rooted, let_go_step}
use Rattle.tables.proofs.entries.release_entry.Goals as goal

pub let_go-requires-clause-inside : goal.let_go-requires-clause-inside
let_go-requires-clause-inside g c = inside_entries _ _ (rooted _ _ _ _ _ _ c.requires.1.1)

pub let_go-requires-clause-few : goal.let_go-requires-clause-few
let_go-requires-clause-few g c = omega (arith, spare_le _ _ _ _ _ c.requires.1.1.chain, c.requires.1.1.short)

pub returns : goal.returns
returns g c =
    let_go_step _ _ _ _ _ (rooted _ _ _ _ _ _ c.requires.1.1) _ _ _ c.let_go.ensures.shared c.let_go.ensures.freed

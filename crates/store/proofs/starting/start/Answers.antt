use Rattle.store.proofs.Fresh.{starts_fresh}
use Rattle.store.proofs.starting.start.Goals as goal

pub returns-in-Ok-clause-store : goal.returns-in-Ok-clause-store
returns-in-Ok-clause-store g c =
    let s = c.in-Ok.ensures in
    record { few_nodes = s.0; few_entries = s.1.0; account = starts_fresh _ _ _ _ c.args.nodes.now c.start.new.nodes c.args.entries.now c.start.new.entries c.over.result s.1.1 c.over.ensures }

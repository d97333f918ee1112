use Rattle.std.proofs.Common.{length}
use Rattle.model.specs.Accounts.{fresh}
use Rattle.store.proofs.Fresh.{fresh_represents}
use Rattle.store.proofs.store.Store.over.Goals as goal

pub invariant_of-result : goal.invariant_of-result
invariant_of-result g c =
    let made = c.requires in
    (fresh (length made.0) (length made.1.0), fresh_represents _ _ _ _ made.0 c.args.nodes.now made.1.0 c.args.entries.now made.1.1)

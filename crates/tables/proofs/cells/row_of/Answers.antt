use Rattle.std.proofs.Common.{◌≤◌, sym, arith, rules}
use lib.Count.{ones}
use Rattle.tables.proofs.Listed.{listed_take}
use Rattle.tables.proofs.cells.row_of.Goals as goal

pub returns : goal.returns
returns c =
    let few : ones c.args.map ≤ 16 = search rules in
    sym (listed_take c.args.map c.args.slots.now (omega (arith, few)))

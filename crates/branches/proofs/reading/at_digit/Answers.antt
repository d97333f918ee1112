use Rattle.branches.proofs.Goes.{goes_as, goes_child, goes_otherwise}
use Rattle.branches.proofs.reading.at_digit.Goals as goal

pub returns-in-Some : goal.returns-in-Some
returns-in-Some g c =
    goes_as _ _ _ _ _ _ _ _ _ c.in-Child.is
    (goes_child _ _ _ _ _ _ c.args.digit.small _ _ c.in-Some.ensures.0 c.in-Some.ensures.1)

pub returns-in-None : goal.returns-in-None
returns-in-None g c =
    goes_as _ _ _ _ _ _ _ _ _ c.in-Child.is
    (goes_otherwise _ _ _ _ _ _ c.args.digit.small _ _ _ c.in-None.ensures c.entry_at.ensures c.map_or.ensures)

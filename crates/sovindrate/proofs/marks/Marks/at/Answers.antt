use Rattle.std.proofs.Common.{rules}
use Rattle.sovindrate.proofs.Marking.{told_here, told_past}
use Rattle.sovindrate.proofs.marks.Marks.at.Goals as goal

pub returns-then-number-lt-PLACES : goal.returns-then-number-lt-PLACES
returns-then-number-lt-PLACES c a told = told_here c.args.self.now.places a c.args.number told

pub returns-else-number-lt-PLACES : goal.returns-else-number-lt-PLACES
returns-else-number-lt-PLACES c a told = told_past c.args.self.now.places a c.args.number told (search rules)

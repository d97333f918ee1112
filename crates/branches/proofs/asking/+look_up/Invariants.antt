use Rattle.branches.proofs.asking.+look_up.Given as goal

abbrev pub decreases-look_up : goal.decreases-look_up
decreases-look_up g l = l.level

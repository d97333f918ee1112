use Rattle.branches.proofs.Rowfuls.{rowful_fits, rowful_more}
use Rattle.branches.proofs.assembling.take_next.Goals as goal

pub take_up-requires : goal.take_up-requires
take_up-requires c = let fits = rowful_fits _ _ c.requires.row in record { data_fits = fits.1.0; node_fits = fits.1.1 }

pub returns : goal.returns
returns c = rowful_more _ _ c.requires.row _ c.requires.room _ c.take_up.ensures

use Rattle.tables.proofs.Clearing.{entries_view, cleared_one}
use Rattle.tables.proofs.freeing.clear_cell.Goals as goal

pub release_entries_of-requires : goal.release_entries_of-requires
release_entries_of-requires g c = (_, (_, entries_view _ _ c.requires.inside _ _ _ _ c.requires.heap.1))

pub returns-clause-cleared : goal.returns-clause-cleared
returns-clause-cleared g c = cleared_one _ _ c.requires.inside _ _ _ _ _ _ c.release_entries_of.ensures

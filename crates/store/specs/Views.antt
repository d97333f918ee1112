-- The tables and the places of a store as one state. Assumes nothing.
use Rattle.std.specs.Prelude.{List}
use Rattle.tables.specs.declared.both.Tables.{Tables}
use Rattle.branches.specs.States.{tables_of}
use Rattle.store.specs.declared.spot.Spot.{Spot}
use Rattle.store.specs.Stores.{State}

abbrev pub state_of : {X Y : Type 0} → Tables X Y → List Spot → State X Y
state_of t ps = record { tables = tables_of t; places = ps }

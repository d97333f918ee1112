-- The plain account of a store: places with their versions, and no cell. Assumes nothing.
use Rattle.std.specs.Prelude.{ℕ, zero, suc, ◌+◌, ◌-◌, Bool, false, cond, ◌&&◌, ◌||◌, List, [], ◌∷◌, map, replicate, Option, ◌==◌}
use Rattle.byte_rows.specs.Rows.{same}
use Rattle.model.specs.declared.limits.TheConstants.{PLACES}
use Rattle.model.specs.Maps.{Map}
use Rattle.model.specs.Tries.{concat}
use Rattle.model.specs.Sharing.{Marked, Part}

-- a map with its marked nodes and entries, and the names that it is gathered from, or none where it is ungathered
pub record Version : Type 0 where
  pub settings : Map
  pub nodes : List Marked
  pub entries : List Marked
  pub names : Option (List ℕ)

pub data Place : Type 0 where
  empty : Place
  draft : Version → Place
  published : Version → Place

pub record Account : Type 0 where
  -- the calls so far, refused ones too
  pub calls : ℕ
  -- the lengths of the two tables
  pub node_cells : ℕ
  pub entry_cells : ℕ
  pub places : List Place

-- a new store, with 64 empty places
abbrev pub fresh : ℕ → ℕ → Account
fresh n e = record { calls = 0; node_cells = n; entry_cells = e; places = replicate PLACES empty }

abbrev pub nth : List Place → ℕ → Place
nth [] i = empty
nth (p ∷ ps) zero = p
nth (p ∷ ps) (suc i) = nth ps i

-- a version as a source of a call
abbrev pub whole : Version → Part
whole v = record { settings = v.settings; nodes = v.nodes; entries = v.entries }

-- ---- what is held, and what is free

abbrev pub in_row : Marked → List Marked → Bool
in_row x [] = false
in_row x (y ∷ ys) = (x.mark == y.mark && same x.what y.what) || in_row x ys

-- how many different ones a row has
abbrev pub distinct : List Marked → ℕ
distinct [] = 0
distinct (x ∷ xs) = cond (in_row x xs) (distinct xs) (1 + distinct xs)

-- the versions at live places
abbrev pub versions : List Place → List Version
versions [] = []
versions (empty ∷ ps) = versions ps
versions (draft v ∷ ps) = v ∷ versions ps
versions (published v ∷ ps) = v ∷ versions ps

abbrev pub held_nodes : List Place → List Marked
held_nodes ps = concat (map (λ v. v.nodes) (versions ps))

abbrev pub held_entries : List Place → List Marked
held_entries ps = concat (map (λ v. v.entries) (versions ps))

abbrev pub free_nodes : Account → ℕ
free_nodes a = a.node_cells - distinct (held_nodes a.places)

abbrev pub free_entries : Account → ℕ
free_entries a = a.entry_cells - distinct (held_entries a.places)

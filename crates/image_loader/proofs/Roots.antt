-- The version of a whole image: no node, or its root and all below it. Assumes nothing.
use Rattle.std.proofs.Common.{◌≡◌, ℕ, List, [], ◌∷◌, get_or, refl}
use Rattle.std.specs.List.{AllByRecursion}
use Rattle.kinds.specs.Kinds.{KeyKind, ValueKind}
use Rattle.model.specs.declared.commands.TheConstants.{END}
use Rattle.model.specs.Maps.{Map}
use Rattle.tables.specs.declared.cells.NodeId.{NodeId}
use Rattle.branches.specs.declared.branch.Branch.TheVariants.{Child}
use Rattle.branches.specs.States.{Tables, Led}
use Rattle.image_reader.specs.Cursors.{Cursor}
use Rattle.image_loader.specs.Loads.{MayBuild, NodeBuilt, MayLoad, Loaded}
use Rattle.image_loader.proofs.Images.{root_node}

all_led : (K : KeyKind) (m : Map) → AllByRecursion (λ s. Led K [] s.key) m
all_led K [] = tt
all_led K (s ∷ m) = (refl, all_led K m)

module _ {X Y : Type 0} {K : KeyKind} {V : ValueKind} {kb : X → List ℕ} {vb : Y → List ℕ}
    {T : Tables X Y} {bs : List ℕ} (r : Cursor) (of : r.image ≡ bs) (at : r.at ≡ 4)
    (e : get_or r.image r.at 0 ≡ END → ⊥) where
  pub root_may : MayLoad K V kb vb T bs → MayBuild K V kb vb T r 8
  unfolding root_node
  root_may q = record {
    node = root_node r of at q.image e;
    call = q.call;
    notes = q.notes;
    roots = q.roots;
    in_hand = q.in_hand;
    sits = q.sits;
    clear = q.clear;
    led = all_led K q.image.settings;
    nodes_fit = q.nodes_fit;
    entries_fit = q.entries_fit;
  }

  pub loaded_some : {i : NodeId} {s : Cursor} {U : Tables X Y} → NodeBuilt K V kb vb T r 8 i s U
      → Loaded K V kb vb T bs (Child i) U
  unfolding root_may root_node
  loaded_some done = record { built = λ q. done.built (root_may q) }

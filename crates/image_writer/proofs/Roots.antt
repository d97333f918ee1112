-- The root of a version as a node, and its image. Assumes nothing.
use Rattle.std.proofs.Common.{◌≡◌, ℕ, ◌+◌, ◌≤◌, List, [], ◌∷◌, length, sym, refl, ap, subst, arith, length-append}
use Rattle.byte_rows.specs.Rows.{in_bytes}
use Rattle.kinds.specs.Kinds.{KeyKind, ValueKind}
use Rattle.model.specs.Maps.{Map}
use Rattle.model.specs.Images.{node, root, image}
use Rattle.model.specs.Sharing.{Part}
use Rattle.tables.specs.declared.cells.NodeId.{NodeId}
use Rattle.branches.specs.declared.branch.Branch.{Branch}
use Rattle.branches.specs.declared.branch.Branch.TheVariants.{Child}
use Rattle.branches.specs.States.{Tables, Notes, Sits}
use Rattle.branches.specs.Branches.{Is}
use Rattle.image_writer.specs.Nodes.{Measured, HasRoom, Written}
use Rattle.image_writer.proofs.Writes.{puts_as}
use Rattle.image_writer.proofs.Kids.{bushy_some}

root_node : (K : KeyKind) (m : Map) → 1 ≤ length m → root K m ≡ node K 8 m
root_node K [] h = absurd (omega arith)
root_node K (s ∷ m) h = refl

pub image_long : (K : KeyKind) (V : ValueKind) (m : Map) → length (image K V m) ≡ 9 + length (root K m)
image_long K V m = omega (arith, length-append (root K m) (0x5A ∷ in_bytes 4 (length m)))

module _ {X Y : Type 0} (K : KeyKind) (kb : X → List ℕ) (vb : Y → List ℕ) (T : Tables X Y) (b : Branch) (id : NodeId) (is : b ≡ Child id) where
  -- a root that is a node has the node's bytes
  as_node : (N : Notes) (R E : List ℕ) → Sits K kb vb T N R E → (p : List ℕ) (a : Part) → Is T N b 8 p a → Is T N (Child id) 8 p a × (root K a.settings ≡ node K 8 a.settings)
  as_node N R E S p a i =
      let j : Is T N (Child id) 8 p a = subst (λ (c : Branch). Is T N c 8 p a) is i in
      (j, root_node K a.settings (bushy_some 8 a.settings j.1))

  pub image_measured : (V : ValueKind) (r : ℕ) → Measured K kb vb T (Child id) 8 (node K 8) r → Measured K kb vb T b 8 (image K V) (9 + r)
  image_measured V r D = record {
    long = λ N R E S p a d i.
        let j = as_node N R E S p a i in
        omega (arith, D.long N R E S p a d j.0, image_long K V a.settings, ap length j.1);
  }

  pub root_fits : (at size : ℕ) → HasRoom K kb vb T b 8 (root K) at size → HasRoom K kb vb T (Child id) 8 (node K 8) at size
  root_fits at size F =
      let s = F.some in
      let j = as_node s.notes s.roots s.in_hand s.sits s.prefix s.part s.is in
      record {
        some = record { notes = s.notes; roots = s.roots; in_hand = s.in_hand; sits = s.sits; prefix = s.prefix; part = s.part; deep = s.deep; is = j.0 };
        room = omega (arith, F.room, ap length j.1);
      }

  pub root_put : (old : List ℕ) (at : ℕ) (new : List ℕ) (to : ℕ) → Written K kb vb T (Child id) 8 (node K 8) old at new to → Written K kb vb T b 8 (root K) old at new to
  root_put old at new to P = record {
    puts = λ N R E S p a d i.
        let j = as_node N R E S p a i in
        puts_as old new at (node K 8 a.settings) (root K a.settings) to (sym j.1) (P.puts N R E S p a d j.0);
  }

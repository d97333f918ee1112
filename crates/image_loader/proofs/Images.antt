-- A whole image: after its header stands the root, if there is one. Assumes nothing.
use Rattle.std.proofs.Common.{◌≡◌, ℕ, true, List, [], ◌∷◌, ◌++◌, length, get_or, drop, sym, refl, ap, ◌∙◌, arith}
use Rattle.std.proofs.lemmas.Bool.{lt-ltb}
use Rattle.byte_rows.specs.Rows.{in_bytes}
use Rattle.kinds.specs.Kinds.{KeyKind, ValueKind}
use Rattle.model.specs.declared.commands.TheConstants.{END}
use Rattle.model.specs.Maps.{Map}
use Rattle.model.specs.Images.{node, root, image}
use Rattle.model.specs.Sharing.{Shared}
use Rattle.plans.specs.Plans.{bushy}
use Rattle.plans.proofs.Crowds.{uncrowded_crowd}
use Rattle.plans.proofs.Twice.{portion_root}
use Rattle.image_reader.specs.Cursors.{Cursor}
use Rattle.image_loader.specs.declared.counting.Cells.{Cells}
use Rattle.image_loader.specs.Ahead.{Ahead, NodeAhead}
use Rattle.image_loader.specs.Counts.{NodeCounted, IsImage, CellsCounted}
use Rattle.image_loader.proofs.Readers.{ahead_byte}

-- the end
abbrev pub tail : Map → List ℕ
tail m = END ∷ in_bytes 4 (length m)

module _ {K : KeyKind} {V : ValueKind} {bs : List ℕ} (r : Cursor) (of : r.image ≡ bs)
    (at : r.at ≡ 4) where
  pub root_ahead : (q : IsImage K V bs) → Ahead r (root K q.settings ++ tail q.settings)
  root_ahead q = record {
    within = omega (arith, at, ap length of, ap length q.is);
    is = ap (drop r.at) (of ∙ q.is) ∙ ap (λ (n : ℕ). drop n (image K V q.settings)) at;
  }

  unfoldable pub root_node : IsImage K V bs → (get_or r.image r.at 0 ≡ END → ⊥)
      → NodeAhead K V r 8
  root_node q e =
      let some = go q.settings (root_ahead q) in
      record {
        prefix = [];
        part = q.settings;
        rest = tail q.settings;
        deep = refl;
        sound = record { rises = q.lawful.rises; reads = q.lawful.reads };
        several = some.0;
        calm = uncrowded_crowd K q.settings q.lawful.uncrowded;
        few = q.lawful.counted;
        ahead = some.1;
      }
    where
      go : (m : Map) → Ahead r (root K m ++ tail m)
          → (bushy 8 m ≡ true) × Ahead r (node K 8 m ++ tail m)
      go [] A = absurd (e (ahead_byte r END _ A))
      go (s ∷ m) A = (lt-ltb 0 (length (s ∷ m)) (omega arith), A)

  -- ---- its cells

  pub cells_some : (get_or r.image r.at 0 ≡ END → ⊥) → {s : Cursor} {c : Cells}
      → NodeCounted K V r 8 s c → CellsCounted K V bs c.nodes c.entries
  unfolding root_node
  cells_some e C = record {
    nodes_are = λ q n. C.nodes (root_node q e) n
        ∙ ap (λ (x : Shared). x.new_nodes) (sym (portion_root K n [] q.settings));
    entries_are = λ q n. C.entries (root_node q e) n
        ∙ ap (λ (x : Shared). x.new_entries) (sym (portion_root K n [] q.settings));
  }

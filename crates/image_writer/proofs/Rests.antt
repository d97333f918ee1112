-- The entries and the children of a node, written one after another. Assumes nothing.
use Rattle.std.proofs.Common.{◌≡◌, ℕ, zero, suc, ◌+◌, ◌-◌, ◌*◌, ◌<◌, ◌≤◌, true, List, [], ◌∷◌, ◌++◌, length, get_or, take, sym, refl, ap, ◌∙◌, subst, append_assoc, arith, length-append}
use lib.Count.{ones}
use Rattle.std.specs.List.{flat_map}
use Rattle.std.proofs.lemmas.List.{take_all, append-nil}
use Rattle.std.proofs.lemmas.List.Folds.{length-flat_map-take}
use Rattle.byte_rows.specs.Rows.{in_bytes}
use Rattle.kinds.specs.Kinds.{KeyKind, ValueKind}
use Rattle.model.specs.Images.{entry, node}
use Rattle.tables.specs.declared.cells.NodeCell.{NodeCell}
use Rattle.tables.specs.declared.cells.NodeId.{NodeId}
use Rattle.tables.specs.Chains.{occ}
use Rattle.tables.specs.Cells.{cell, kids, singles}
use Rattle.tables.proofs.Occurrences.{occ_at}
use Rattle.branches.specs.declared.branch.Branch.TheVariants.{Child}
use Rattle.branches.specs.States.{Tables, Notes, Sits}
use Rattle.branches.specs.Branches.{SomePart, SomeEntry, SettingRead}
use Rattle.branches.proofs.Below.{told}
use Rattle.image_writer.specs.Puts.{Puts}
use Rattle.image_writer.specs.Nodes.{head, EntriesHaveRoom, EntriesWritten, HasRoom, Written}
use Rattle.image_writer.proofs.Writes.{puts_as, puts_more, puts_next, length_puts}
use Rattle.image_writer.proofs.Kids.{Noted, noted_is, noted_some, kid_level, kid_deep, kid_is}
use Rattle.image_writer.proofs.Sizes.{entry_long, entries_long, node_is, node_long, node_singles}
use Rattle.image_writer.proofs.Measures.{of_row}

-- ---- what a node begins with

pub head_deepest : (level : ℕ) (c : NodeCell) → level ≡ 0 → 0x43 ∷ [] ++ (ones c.datamap ∷ []) ≡ head level c
head_deepest zero c e = refl
head_deepest (suc h) c e = absurd (omega arith)

pub head_above : (level : ℕ) (c : NodeCell) → (level ≡ 0 → ⊥) → 0x4E ∷ [] ++ (in_bytes 2 c.datamap ++ in_bytes 2 c.nodemap) ≡ head level c
head_above zero c n = absurd (n refl)
head_above (suc h) c n = refl

module _ {X Y : Type 0} (K : KeyKind) (V : ValueKind) (kb : X → List ℕ) (vb : Y → List ℕ) (T : Tables X Y) where
  -- ---- entries

  -- the entries of a row as far as a rank
  pub record EntriesSoFar (row : List ℕ) (old : List ℕ) (at rank : ℕ) (new : List ℕ) (to : ℕ) : Type 0 where
    pub so_far : (N : Notes) (R E : List ℕ) → Sits K kb vb T N R E → Puts old new at (flat_map (λ e. entry (N.entry e).setting) (take rank row)) to

  module _ (row old : List ℕ) (at rank : ℕ) (new : List ℕ) (to : ℕ) (M : EntriesSoFar row old at rank new to) where
    module _ (some : rank < length row) where
      abbrev at_rank : ℕ
      at_rank = get_or row rank 0

      pub entry_some : (size : ℕ) → EntriesHaveRoom K V kb vb T row at size → SomeEntry K kb vb T.entries at_rank
      entry_some size F = record { tables = T; notes = F.notes; roots = F.roots; in_hand = F.in_hand; sits = F.sits; entries_are = refl; held = F.held at_rank (occ_at row rank some) }

      pub entry_room : (key_reads : (k : X) → K.readable (kb k) ≡ true) (value_reads : (v : Y) → V.readable (vb v) ≡ true) → EntriesHaveRoom K V kb vb T row at (length old) → to + (1 + (K.width + V.width)) ≤ length new
      entry_room key_reads value_reads F =
          let f : ℕ → List ℕ = λ e. entry (F.notes.entry e).setting in
          let p = M.so_far F.notes F.roots F.in_hand F.sits in
          omega (
            arith,
            F.room,
            p.onward,
            length_puts old new at (flat_map f (take rank row)) to p,
            length-flat_map-take f row rank 0 some,
            entries_long K V kb vb key_reads value_reads T F.notes F.roots F.in_hand F.sits row F.held,
            entry_long K V kb vb key_reads value_reads T F.notes F.roots F.in_hand F.sits at_rank (F.held at_rank (occ_at row rank some)),
          )

      pub entries_more : (key : X) (value : Y) → SettingRead K kb vb T.entries at_rank key value → (last : List ℕ) (end : ℕ) → Puts new last to (entry (record { key = kb key; value = vb value })) end → EntriesSoFar row old at (rank + 1) last end
      entries_more key value read last end q = record {
        so_far = λ N R E S.
            let f : ℕ → List ℕ = λ e. entry (N.entry e).setting in
            puts_next f row rank some [] old new last at to end (M.so_far N R E S)
            (puts_as new last to (entry (record { key = kb key; value = vb value })) (f at_rank) end (ap entry (sym (read.setting T N R E S refl))) q);
      }

    pub entries_all : length row ≤ rank → EntriesWritten K kb vb T row old at new to
    entries_all past = record {
      puts = λ N R E S.
          let f : ℕ → List ℕ = λ e. entry (N.entry e).setting in
          puts_as old new at (flat_map f (take rank row)) (flat_map f row) to (ap (flat_map f) (take_all rank row past)) (M.so_far N R E S);
    }

  -- ---- children

  -- the head and the entries of a node, and its children as far as a rank
  pub record ChildrenSoFar (level i : ℕ) (row old : List ℕ) (at rank : ℕ) (new : List ℕ) (to : ℕ) : Type 0 where
    pub children : row ≡ kids (cell T.nodes i)
    pub so_far : (N : Notes) (R E : List ℕ) → Noted K kb vb T level i N R E
        → Puts old new at ((head level (cell T.nodes i) ++ flat_map (λ e. entry (N.entry e).setting) (singles (cell T.nodes i))) ++ flat_map (λ x. node K (level - 1) (N.node x).settings) (take rank row)) to

  -- after the head there is room for the entries
  module _ (key_reads : (k : X) → K.readable (kb k) ≡ true) (value_reads : (v : Y) → V.readable (vb v) ≡ true) (level : ℕ) (id : NodeId) (at size : ℕ) (F : HasRoom K kb vb T (Child id) level (node K level) at size) where
    some_noted : Noted K kb vb T level id.0 F.some.notes F.some.roots F.some.in_hand
    some_noted = noted_some K kb vb T level id F.some

    room_noted : at + length (node K level (F.some.notes.node id.0).settings) ≤ size
    room_noted = omega (arith, F.room, ap (λ m. length (node K level m)) F.some.is.0.settings)

    pub singles_fit : (row old new : List ℕ) (to : ℕ) → row ≡ singles (cell T.nodes id.0) → length old ≡ size → Puts old new at (head level (cell T.nodes id.0)) to → EntriesHaveRoom K V kb vb T row to (length new)
    singles_fit row old new to e z h = record {
      notes = F.some.notes;
      roots = F.some.roots;
      in_hand = F.some.in_hand;
      sits = F.some.sits;
      held = λ x p. node_singles K V kb vb key_reads value_reads T level id.0 F.some.notes F.some.roots F.some.in_hand some_noted x (subst (λ (l : List ℕ). 0 < occ x l) e p);
      room =
          omega (
            arith,
            room_noted,
            z,
            h.onward,
            length_puts old new at (head level (cell T.nodes id.0)) to h,
            node_long K V kb vb key_reads value_reads T level id.0 F.some.notes F.some.roots F.some.in_hand some_noted,
            ap (λ (l : List ℕ). length l * (1 + (K.width + V.width))) e,
          );
    }

  -- the head and the entries were written
  pub children_none : (level i : ℕ) (row ss old : List ℕ) (at : ℕ) (mid : List ℕ) (begin : ℕ) (new : List ℕ) (to : ℕ) → row ≡ kids (cell T.nodes i) → ss ≡ singles (cell T.nodes i)
      → Puts old mid at (head level (cell T.nodes i)) begin → EntriesWritten K kb vb T ss mid begin new to → ChildrenSoFar level i row old at 0 new to
  children_none level i row ss old at mid begin new to e s h p = record {
    children = e;
    so_far = λ N R E n.
        let f : ℕ → List ℕ = λ x. entry (N.entry x).setting in
        puts_as old new at (head level (cell T.nodes i) ++ flat_map f ss) ((head level (cell T.nodes i) ++ flat_map f (singles (cell T.nodes i))) ++ []) to
        (ap (λ (l : List ℕ). head level (cell T.nodes i) ++ flat_map f l) s ∙ sym (append-nil (head level (cell T.nodes i) ++ flat_map f (singles (cell T.nodes i)))))
        (puts_more old mid at (head level (cell T.nodes i)) begin h new (flat_map f ss) to (p.puts N R E n.sits));
  }

  module _ (level : ℕ) (id : NodeId) (row old : List ℕ) (at rank : ℕ) (new : List ℕ) (to : ℕ) (M : ChildrenSoFar level id.0 row old at rank new to) where
    module _ (some : rank < length row) where
      abbrev child : ℕ
      child = get_or row rank 0

      kid : 0 < occ child (kids (cell T.nodes id.0))
      kid = of_row row (kids (cell T.nodes id.0)) rank M.children some

      pub child_level : SomePart K kb vb T (Child id) level → 1 ≤ level
      child_level s = kid_level K kb vb T level id.0 s.notes s.roots s.in_hand (noted_some K kb vb T level id s) child kid

      pub child_fits : (key_reads : (k : X) → K.readable (kb k) ≡ true) (value_reads : (v : Y) → V.readable (vb v) ≡ true) → HasRoom K kb vb T (Child id) level (node K level) at (length old)
          → HasRoom K kb vb T (Child (record { 0 = child })) (level - 1) (node K (level - 1)) to (length new)
      child_fits key_reads value_reads F =
          let N : Notes = F.some.notes in
          let R : List ℕ = F.some.roots in
          let E : List ℕ = F.some.in_hand in
          let n : Noted K kb vb T level id.0 N R E = noted_some K kb vb T level id F.some in
          let below : ℕ → List ℕ = λ x. node K (level - 1) (N.node x).settings in
          let c : NodeCell = cell T.nodes id.0 in
          let begins : List ℕ = head level c ++ flat_map (λ e. entry (N.entry e).setting) (singles c) in
          let p : Puts old new at (begins ++ flat_map below (take rank row)) to = M.so_far N R E n in
          record {
            some = record {
              notes = N;
              roots = R;
              in_hand = E;
              sits = F.some.sits;
              prefix = (N.node child).label.what;
              part = told (N.node child);
              deep = kid_deep K kb vb T level id.0 N R E n child kid;
              is = kid_is K kb vb T level id.0 N R E n child kid (record { 0 = child }) refl;
            };
            room =
                omega (
                  arith,
                  room_noted key_reads value_reads level id at (length old) F,
                  p.onward,
                  length_puts old new at (begins ++ flat_map below (take rank row)) to p,
                  length-append begins (flat_map below (take rank row)),
                  length-append (head level c) (flat_map (λ e. entry (N.entry e).setting) (singles c)),
                  entries_long K V kb vb key_reads value_reads T N R E F.some.sits (singles c) (node_singles K V kb vb key_reads value_reads T level id.0 N R E n),
                  node_long K V kb vb key_reads value_reads T level id.0 N R E n,
                  length-flat_map-take below row rank 0 some,
                  ap (λ (l : List ℕ). length (flat_map below l)) M.children,
                );
          }

      pub children_more : (last : List ℕ) (end : ℕ) → Written K kb vb T (Child (record { 0 = child })) (level - 1) (node K (level - 1)) new to last end → ChildrenSoFar level id.0 row old at (rank + 1) last end
      children_more last end P = record {
        children = M.children;
        so_far = λ N R E n.
            let below : ℕ → List ℕ = λ x. node K (level - 1) (N.node x).settings in
            puts_next below row rank some (head level (cell T.nodes id.0) ++ flat_map (λ e. entry (N.entry e).setting) (singles (cell T.nodes id.0))) old new last at to end (M.so_far N R E n)
            (P.puts N R E n.sits (N.node child).label.what (told (N.node child)) (kid_deep K kb vb T level id.0 N R E n child kid) (kid_is K kb vb T level id.0 N R E n child kid (record { 0 = child }) refl));
      }

    pub children_all : (key_reads : (k : X) → K.readable (kb k) ≡ true) (value_reads : (v : Y) → V.readable (vb v) ≡ true) → length row ≤ rank → Written K kb vb T (Child id) level (node K level) old at new to
    children_all key_reads value_reads past = record {
      puts = λ N R E S p a d is.
          let n : Noted K kb vb T level id.0 N R E = noted_is K kb vb T level id N R E S p a d is in
          let below : ℕ → List ℕ = λ x. node K (level - 1) (N.node x).settings in
          let c : NodeCell = cell T.nodes id.0 in
          let own : List ℕ = flat_map (λ e. entry (N.entry e).setting) (singles c) in
          puts_as old new at ((head level c ++ own) ++ flat_map below (take rank row)) (node K level a.settings) to
          (ap (λ (l : List ℕ). (head level c ++ own) ++ flat_map below l) (take_all rank row past ∙ M.children) ∙ append_assoc (head level c) own (flat_map below (kids c))
          ∙ sym (node_is K V kb vb key_reads value_reads T level id.0 N R E n) ∙ ap (node K level) is.0.settings)
          (M.so_far N R E n);
    }

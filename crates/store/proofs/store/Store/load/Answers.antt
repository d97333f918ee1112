use Rattle.std.proofs.Common.{refl, inl, inr}
use Rattle.byte_rows.proofs.Numbers.{slice_bytes}
use Rattle.model.specs.Calls.{Load}
use Rattle.branches.specs.States.{tables_of}
use Rattle.store.proofs.Answering.{spot_inside, answered_inside, asked_inside, still_started}
use Rattle.store.proofs.Unwanted.{taken}
use Rattle.store.proofs.Loads.{image_refused, is_image, load_refused, load_ready, load_answered}
use Rattle.store.proofs.store.Store.load.Goals as goal
use Rattle.store.proofs.store.Store.load.Goals.{then-nodes-self-via-then-nodes-self, then-nodes-self-via-else-nodes-self+then-entries-self}

pub returns-in_err-empty_at : goal.returns-in_err-empty_at
returns-in_err-empty_at g c =
    taken g.K.Key.kind g.V.Value.kind _ _ _ (Load c.args.place c.args.image.now) (slice_bytes _ c.type_inv.image) c.args.place _ _ _ c.from_residual.ensures.1 _ (λ a _. refl) c.in_err-empty_at.ensures

pub returns-in_err-judge : goal.returns-in_err-judge
returns-in_err-judge g c =
    let h = c.in_ok-empty_at.ensures in
    let j = c.in_err-judge.ensures in
    image_refused g.K.Key.kind g.V.Value.kind _ _ _ _ _ (slice_bytes _ c.type_inv.image) h.0 h.1 _ _ _ c.from_residual-in_err-judge.ensures.1 j.0 j.1.0 j.1.1.0 j.1.1.1

pub count_cells-nodes-requires : goal.count_cells-nodes-requires
count_cells-nodes-requires g c =
    let h = c.in_ok-empty_at.ensures in
    let j = c.in_ok-judge.ensures in
    is_image g.K.Key.kind g.V.Value.kind g.K.Coded.bytes g.V.Coded.bytes c.args.self.now c.args.place _ (slice_bytes _ c.type_inv.image) h.0 h.1 j.0 j.1

pub returns-then-nodes-self : goal.returns-then-nodes-self
returns-then-nodes-self g c =
    let h = c.in_ok-empty_at.ensures in
    let j = c.in_ok-judge.ensures in
    asked_inside c.self.view_is (load_refused g.K.Key.kind g.V.Value.kind _ _ _ _ _ (slice_bytes _ c.type_inv.image) h.0 (spot_inside _ c.self.view_is h.1) j.0 j.1 _ _ c.count_cells-nodes.ensures _ refl
    (elim c.then-nodes-self.branch [
      | then-nodes-self-via-then-nodes-self w ↦ inl w.if-nodes-self.true
      | then-nodes-self-via-else-nodes-self+then-entries-self w ↦ inr w.if-entries-self.true
    ]))

pub load-root-requires : goal.load-root-requires
load-root-requires g c =
    let h = c.in_ok-empty_at.ensures in
    let j = c.in_ok-judge.ensures in
    load_ready g.K.Key.kind g.V.Value.kind _ _ _ _ _ (slice_bytes _ c.type_inv.image) h.0 (spot_inside _ c.self.view_is h.1) j.0 j.1 _ _ c.count_cells-nodes.ensures
    c.if-nodes-self.false c.if-entries-self.false c.self.invariant

pub invariant_of-self : goal.invariant_of-self
invariant_of-self g c =
    let h = c.in_ok-empty_at.ensures in
    let j = c.in_ok-judge.ensures in
    still_started c.self.invariant
    (load_answered g.K.Key.kind g.V.Value.kind _ _ _ _ _ (slice_bytes _ c.type_inv.image) h.0 (spot_inside _ c.self.view_is h.1) j.0 j.1 _ _ c.count_cells-nodes.ensures
    c.if-nodes-self.false c.if-entries-self.false _ (tables_of c.load-root.new.tables) c.load-root.ensures)

pub returns : goal.returns
returns g c =
    let h = c.in_ok-empty_at.ensures in
    let j = c.in_ok-judge.ensures in
    answered_inside c.self.view_is
    (load_answered g.K.Key.kind g.V.Value.kind _ _ _ _ _ (slice_bytes _ c.type_inv.image) h.0 (spot_inside _ c.self.view_is h.1) j.0 j.1 _ _ c.count_cells-nodes.ensures
    c.if-nodes-self.false c.if-entries-self.false _ (tables_of c.load-root.new.tables) c.load-root.ensures)

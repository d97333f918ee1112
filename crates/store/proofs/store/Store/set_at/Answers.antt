use Rattle.std.proofs.Common.{inl, inr}
use Rattle.edits.specs.Sets.{value_bytes}
use Rattle.branches.specs.States.{tables_of}
use Rattle.store.specs.Views.{state_of}
use Rattle.store.proofs.Answering.{asked_inside, answered_inside, still_started}
use Rattle.store.proofs.Sets.{Edits}
use Rattle.store.proofs.Edited.{value_made, edits, edit_undrafted, edit_seen, edit_crowded, edit_no_room, edit_kept, edit_ready, old_root, edit_built}
use Rattle.store.proofs.store.Store.set_at.Given.{Over}
use Rattle.store.proofs.store.Store.set_at.Goals as goal
use Rattle.store.proofs.store.Store.set_at.Goals.{In_ok-root, then-plan-self-via-then-plan-self, then-plan-self-via-else-plan-self+then-plan-self-2}

pub returns-in_err-root : goal.returns-in_err-root
returns-in_err-root g c =
    edit_undrafted _ g.V.Value.kind _ _ _ c.args.place _ _ (g.met.K.Key.readable c.args.key.now) (value_made g.V.Value.kind _ g.met.V.Value.readable c.args.value) _ _ _
    c.from_residual.ensures.1 c.in_err-root.ensures

-- a draft is at the place, and what is set reads
drafted : (g : Over) (c : In_ok-root g)
    → Edits g.K.Key.kind g.V.Value.kind g.K.Coded.bytes g.V.Coded.bytes (state_of c.self.inside.tables c.self.inside.places)
    c.args.place (g.K.Coded.bytes c.args.key.now) (value_bytes g.V.Coded.bytes c.args.value) c.in_ok-root.root
drafted g c = edits _ g.V.Value.kind (g.met.K.Key.readable c.args.key.now) (value_made g.V.Value.kind _ g.met.V.Value.readable c.args.value) c.self.view_is c.in_ok-root.ensures

pub estimate_set-plan-requires : goal.estimate_set-plan-requires
estimate_set-plan-requires g c = edit_seen (drafted g (goal.at.estimate_set-plan-requires g c).In_ok-root) c.self.invariant

pub returns-then-plan : goal.returns-then-plan
returns-then-plan g c = asked_inside c.self.view_is (edit_crowded (drafted g (goal.at.returns-then-plan g c).In_ok-root) _ c.estimate_set-plan.ensures c.if-plan.true)

pub returns-then-plan-self : goal.returns-then-plan-self
returns-then-plan-self g c =
    asked_inside c.self.view_is (edit_no_room (drafted g (goal.at.returns-then-plan-self g c).In_ok-root) _ c.estimate_set-plan.ensures c.if-plan.false
    (elim c.then-plan-self.branch [
      | then-plan-self-via-then-plan-self w ↦ inl w.if-plan-self.true
      | then-plan-self-via-else-plan-self+then-plan-self-2 w ↦ inr w.if-plan-self-2.true
    ]))

pub returns-then-plan-2 : goal.returns-then-plan-2
returns-then-plan-2 g c =
    asked_inside c.self.view_is (edit_kept (drafted g (goal.at.returns-then-plan-2 g c).In_ok-root) _ c.estimate_set-plan.ensures c.if-plan.false c.if-plan-self.false c.if-plan-self-2.false c.if-plan-2.true)

pub set-new-requires : goal.set-new-requires
set-new-requires g c =
    edit_ready (drafted g (goal.at.set-new-requires g c).In_ok-root) _ c.estimate_set-plan.ensures c.if-plan.false c.if-plan-self.false c.if-plan-self-2.false c.if-plan-2.false c.self.invariant

pub give_up-requires : goal.give_up-requires
give_up-requires g c =
    let o = old_root (drafted g (goal.at.give_up-requires g c).In_ok-root) _ c.estimate_set-plan.ensures c.if-plan.false c.if-plan-self.false c.if-plan-self-2.false c.if-plan-2.false
    _ (tables_of c.set-new.new.tables) c.set-new.ensures c.self.invariant in
    record { nodes = o.0; entries = o.1.0; entryless = o.1.1 }

pub invariant_of-self : goal.invariant_of-self
invariant_of-self g c =
    still_started c.self.invariant (edit_built (drafted g (goal.at.invariant_of-self g c).In_ok-root) _ c.estimate_set-plan.ensures c.if-plan.false c.if-plan-self.false c.if-plan-self-2.false c.if-plan-2.false
    _ (tables_of c.set-new.new.tables) c.set-new.ensures (tables_of c.give_up.new.tables) c.give_up.ensures)

pub returns : goal.returns
returns g c =
    answered_inside c.self.view_is (edit_built (drafted g (goal.at.returns g c).In_ok-root) _ c.estimate_set-plan.ensures c.if-plan.false c.if-plan-self.false c.if-plan-self-2.false c.if-plan-2.false
    _ (tables_of c.set-new.new.tables) c.set-new.ensures (tables_of c.give_up.new.tables) c.give_up.ensures)

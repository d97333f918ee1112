use Rattle.std.proofs.Common.{inl, inr}
use Rattle.branches.specs.States.{tables_of}
use Rattle.store.proofs.Merged.{some_inside, refused_inside, merged_inside, merged_started, met_somewhere, roots_crowded, roots_no_room, roots_kept, roots_ready, old_root, roots_merged}
use Rattle.store.proofs.store.Store.merge_roots.Goals as goal
use Rattle.store.proofs.store.Store.merge_roots.Goals.{then-plan-self-via-then-plan-self, then-plan-self-via-else-plan-self+then-plan-self-2}

pub estimate_merge-plan-requires : goal.estimate_merge-plan-requires
estimate_merge-plan-requires g c = met_somewhere c.requires.inside (some_inside c.self.view_is c.requires.some) c.self.invariant

pub returns-then-plan : goal.returns-then-plan
returns-then-plan g c = refused_inside c.self.view_is (roots_crowded c.requires.inside (some_inside c.self.view_is c.requires.some) _ c.estimate_merge-plan.ensures c.if-plan.true)

pub returns-then-plan-self : goal.returns-then-plan-self
returns-then-plan-self g c =
    refused_inside c.self.view_is (roots_no_room c.requires.inside (some_inside c.self.view_is c.requires.some) _ c.estimate_merge-plan.ensures c.if-plan.false
    (elim c.then-plan-self.branch [
      | then-plan-self-via-then-plan-self w ↦ inl w.if-plan-self.true
      | then-plan-self-via-else-plan-self+then-plan-self-2 w ↦ inr w.if-plan-self-2.true
    ]))

pub returns-then-plan-2 : goal.returns-then-plan-2
returns-then-plan-2 g c =
    refused_inside c.self.view_is (roots_kept c.requires.inside (some_inside c.self.view_is c.requires.some) _ c.estimate_merge-plan.ensures c.if-plan.false
    c.if-plan-self.false c.if-plan-self-2.false c.if-plan-2.true)

pub merge-new-requires : goal.merge-new-requires
merge-new-requires g c =
    roots_ready c.requires.inside (some_inside c.self.view_is c.requires.some) _ c.estimate_merge-plan.ensures c.if-plan.false
    c.if-plan-self.false c.if-plan-self-2.false c.self.invariant

pub give_up-requires : goal.give_up-requires
give_up-requires g c =
    let o = old_root c.requires.inside (some_inside c.self.view_is c.requires.some) _ c.estimate_merge-plan.ensures c.if-plan.false
    c.if-plan-self.false c.if-plan-self-2.false c.self.invariant _ (tables_of c.merge-new.new.tables) c.merge-new.ensures in
    record { nodes = o.0; entries = o.1.0; entryless = o.1.1 }

pub invariant_of-self : goal.invariant_of-self
invariant_of-self g c =
    merged_started c.requires.inside (some_inside c.self.view_is c.requires.some) c.self.invariant
    (roots_merged c.requires.inside (some_inside c.self.view_is c.requires.some) _ c.estimate_merge-plan.ensures c.if-plan.false
    c.if-plan-self.false c.if-plan-self-2.false _ (tables_of c.merge-new.new.tables) (tables_of c.give_up.new.tables) c.merge-new.ensures c.give_up.ensures)

pub returns : goal.returns
returns g c =
    merged_inside c.self.view_is (roots_merged c.requires.inside (some_inside c.self.view_is c.requires.some) _ c.estimate_merge-plan.ensures c.if-plan.false
    c.if-plan-self.false c.if-plan-self-2.false _ (tables_of c.merge-new.new.tables) (tables_of c.give_up.new.tables) c.merge-new.ensures c.give_up.ensures)

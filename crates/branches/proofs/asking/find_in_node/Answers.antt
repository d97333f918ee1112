use Rattle.std.proofs.Common.{refl}
use Rattle.std.proofs.lemmas.Bool.{both_ways}
use Rattle.tables.proofs.Listed.{listed_rank, listed_past}
use Rattle.branches.proofs.Lookups.{entry_some, unfound_more, found_here, unfound_end}
use Rattle.branches.proofs.asking.find_in_node.Goals as goal

pub setting_of-other-requires : goal.setting_of-other-requires
setting_of-other-requires g c =
    let at = listed_rank _ _ _ _ c.singles-entry-items.ensures c.loop-entry-test.true in
    entry_some _ _ _ _ _ _ _ at.0 at.1 _ refl c.requires

pub returns-then-same : goal.returns-then-same
returns-then-same g c =
    let at = listed_rank _ _ _ _ c.singles-entry-items.ensures c.loop-entry-test.true in
    found_here _ _ _ _ _ _ _ at.0 at.1 _ _ c.setting_of-other.ensures _ refl _ c.loop-entry.invariant (c.same.ensures.0 c.if-same.true)

pub loop-entry-preserved : goal.loop-entry-preserved
loop-entry-preserved g c =
    let at = listed_rank _ _ _ _ c.singles-entry-items.ensures c.loop-entry-test.true in
    unfound_more _ _ _ _ _ _ _ at.0 at.1 _ _ c.setting_of-other.ensures _ c.loop-entry.invariant (λ e. both_ways _ c.if-same.false (c.same.ensures.1 e))

pub returns : goal.returns
returns g c =
    unfound_end _ _ _ _ _ _ refl _ _ c.loop-entry.invariant (listed_past _ _ _ _ c.singles-entry-items.ensures c.loop-entry-test.false)

use Rattle.std.proofs.Common.{arith}
use Rattle.branches.specs.States.{tables_of}
use Rattle.branches.proofs.Counting.{begun, midway_level, midway_few, midway_fits, midway_more, midway_end}
use Rattle.branches.proofs.asking.+count.Goals as goal

pub loop-child-init : goal.loop-child-init
loop-child-init g t c = begun _ _ _ (tables_of c.args.tables.now) _ _ c.in-Child.id _ _ c.in-Child.is c.kids-child-items.ensures c.singles-total.ensures

pub count-total-requires : goal.count-total-requires
count-total-requires g t c κs within = (
  omega (arith, midway_level _ _ _ _ _ _ _ _ _ c.loop-child.invariant (omega arith) c.requires, c.decreases),
  (within.0, (within.1, midway_few _ _ _ _ _ _ _ _ _ c.loop-child.invariant (omega arith) c.requires)),
)

pub overflow_add-total : goal.overflow_add-total
overflow_add-total g t c = omega (arith, midway_fits _ _ _ _ _ _ _ _ _ c.loop-child.invariant (omega arith) c.requires _ c.count-total.ensures)

pub loop-child-preserved : goal.loop-child-preserved
loop-child-preserved g t c = midway_more _ _ _ _ _ _ _ _ _ c.loop-child.invariant (omega arith) _ c.count-total.ensures

pub returns-after-loop-child : goal.returns-after-loop-child
returns-after-loop-child g t c = midway_end _ _ _ _ _ _ _ _ _ c.loop-child.invariant (omega arith)

use Rattle.std.proofs.Common.{◌<◌, refl, ap, arith}
use Rattle.branches.specs.States.{tables_of}
use Rattle.edits.specs.Sets.{value_bytes}
use Rattle.edits.proofs.Alone.{entry_room, done_some, done_none}
use Rattle.edits.proofs.Turns.{same_digit, other_digit, underway_none, some_part, child_ready, stays, bits_left, digit_at, underway_set, underway_kept}
use Rattle.edits.proofs.Wholes.{ready_whole, done_whole}
use Rattle.edits.proofs.setting.+set.Goals as goal
use Rattle.edits.proofs.setting.+set.Goals.{then-eq, else-eq, in-Some, in-None}

pub make_entry-requires : goal.make_entry-requires
make_entry-requires g t c =
    record {
      some = entry_room _ _ _ _ _ _ _ _ c.if-level-lt8.true _ c.is_alone.ensures c.if-is_alone.true _ _ (ap (value_bytes g.V.Coded.bytes) c.in-Some.is) c.requires;
      heap = (c.args.tables.now.nodes.cells.now, (c.requires.in_hand, c.requires.sits.entries));
    }

pub returns-then-is_alone : goal.returns-then-is_alone
returns-then-is_alone g t c =
    elim c.match-value.branch [
      | in-Some w ↦
          done_some _ _ _ _ _ _ _ _ c.if-level-lt8.true _ c.is_alone.ensures c.if-is_alone.true _ _ (ap (value_bytes g.V.Coded.bytes) w.in-Some.is)
          _ _ refl refl _ _ w.result-is _ _ (ap tables_of w.tables-is) (refl, refl, refl) w.make_entry.ensures
      | in-None w ↦
          done_none _ _ _ _ _ _ _ _ c.if-level-lt8.true _ c.is_alone.ensures c.if-is_alone.true _ (ap (value_bytes g.V.Coded.bytes) w.in-None.is) _ w.result-is _ (ap tables_of w.tables-is)
    ]

pub loop-number-init : goal.loop-number-init
loop-number-init g t c = underway_none _ _ _ _ _ _ _ _ _ _ c.empty_handed-hand.ensures

pub at_digit-old-requires : goal.at_digit-old-requires
at_digit-old-requires g t c =
    let tall : 0 < c.args.level = omega arith in
    record {
      level = (omega arith, omega (arith, c.requires.deep));
      part = some_part _ _ _ _ _ _ _ _ _ c.requires tall _ _ _ (c.loop-number.invariant.so_far c.requires tall) (omega arith);
    }

pub set-new-requires : goal.set-new-requires
set-new-requires g t c κs within =
    let tall : 0 < c.args.level = omega arith in (
      omega arith,
      (
        within.0,
        (
          within.1,
          child_ready _ _ _ _ _ _ _ _ _ c.requires tall _ _ _ (c.loop-number.invariant.so_far c.requires tall) (omega arith) _ c.at_digit-old.ensures
              (digit_at _ _ _ _ _ _ _ _ _ c.requires _ _ _ c.hash.ensures c.digit_of-digit.ensures (same_digit _ _ _ c.eq.ensures c.if-eq.true)),
        ),
      ),
    )

pub keep-requires : goal.keep-requires
keep-requires g t c =
    let tall : 0 < c.args.level = omega arith in
    stays _ _ _ _ _ _ _ _ _ c.requires tall _ _ _ (c.loop-number.invariant.so_far c.requires tall) (omega arith) _ c.at_digit-old.ensures

pub take_up-hand-requires : goal.take_up-hand-requires
take_up-hand-requires g t c =
    let tall : 0 < c.args.level = omega arith in
    let v = bits_left _ _ _ _ _ _ _ _ _ c.requires tall _ _ _ (c.loop-number.invariant.so_far c.requires tall) (omega arith) in
    record { data_fits = v.0; node_fits = v.1 }

pub loop-number-preserved : goal.loop-number-preserved
loop-number-preserved g t c =
    elim c.if-eq.branch [
      | then-eq w ↦
          underway_set _ _ _ _ _ _ _ _ _ _ _ _ c.loop-number.invariant (omega arith) _ c.at_digit-old.ensures _ _ _ c.hash.ensures c.digit_of-digit.ensures _
          (same_digit _ _ _ c.eq.ensures w.if-eq.true) _ _ w.new-is _ (ap tables_of w.tables-is) w.set-new.ensures c.take_up-hand.ensures
      | else-eq w ↦
          underway_kept _ _ _ _ _ _ _ _ _ _ _ _ c.loop-number.invariant (omega arith) _ c.at_digit-old.ensures _ _ _ c.hash.ensures c.digit_of-digit.ensures _
          (other_digit _ _ _ c.eq.ensures w.if-eq.false) _ w.new-is _ (ap tables_of w.tables-is) w.keep.ensures c.take_up-hand.ensures
    ]

pub assemble-requires : goal.assemble-requires
assemble-requires g t c =
    let tall : 0 < c.args.level = omega arith in
    ready_whole _ _ _ _ _ _ _ _ _ tall _ _ _ c.loop-number.invariant (omega arith) c.requires

pub returns : goal.returns
returns g t c =
    let tall : 0 < c.args.level = omega arith in
    done_whole _ _ _ _ _ _ _ _ _ tall _ _ _ c.loop-number.invariant (omega arith) _ _ (refl, refl, refl) c.assemble.ensures

use Rattle.std.proofs.Common.{◌≡◌, [], sym, subst, arith}
use Rattle.std.proofs.lemmas.Result.{err_from_is_err_and}
use Rattle.byte_rows.specs.Rows.{number}
use Rattle.model.specs.Reading.{got, read_crowd}
use Rattle.image_reader.specs.Prefixes.{prefix_digits}
use Rattle.image_reader.specs.Readings.{ReadingReaches}
use Rattle.image_reader.specs.Entries.{follows}
use Rattle.image_reader.proofs.CollisionReadings.{collision_broken, collision_starts, rising_faults, rising_reaches, rising_ends}
use Rattle.image_reader.proofs.reader.Reader.collision.Goals as goal

pub returns-then-not-may_collide : goal.returns-then-not-may_collide
returns-then-not-may_collide g c =
    collision_broken g.K.Key.kind g.V.Value.kind _ _ _ c.requires _ _ c.broken.ensures
    (sym c.if-not-may_collide.ensures)

pub loop-read-init : goal.loop-read-init
loop-read-init g c =
    collision_starts g.K.Key.kind g.V.Value.kind _ _ _ c.requires _
    (sym c.if-not-may_collide.ensures)

pub returns-in_err-entry : goal.returns-in_err-entry
returns-in_err-entry g c =
    let p = err_from_is_err_and c.from_residual.result c.from_residual.ensures.1 in
    rw (p.1, p.2)
    (rising_faults g.K.Key.kind g.V.Value.kind _ _ _ _ c.loop-read-test.true
    (follows g.K.Key.kind g.K.Coded.bytes c.loop-read.last) _ _ c.loop-read.invariant
    _ c.in_err-entry.ensures)

pub loop-read-preserved : goal.loop-read-preserved
loop-read-preserved g c =
    rising_reaches g.K.Key.kind g.V.Value.kind _ _ _ _ c.loop-read-test.true
    (follows g.K.Key.kind g.K.Coded.bytes c.loop-read.last) _ _ c.loop-read.invariant
    _ _ c.in_ok-entry.ensures

pub returns : goal.returns
returns g c =
    let past : c.loop-read.read ≡ c.from.result = omega arith in
    subst
    (ReadingReaches
    (read_crowd g.K.Key.kind g.V.Value.kind (prefix_digits c.args.prefix) c.args.command.at
    (number c.args.command.operands.now)) (got []) c.args.self.now c.loop-read.self)
    past
    (rising_ends g.K.Key.kind g.V.Value.kind _ _ _ _
    (follows g.K.Key.kind g.K.Coded.bytes c.loop-read.last) _ _ c.loop-read-test.false
    c.loop-read.invariant)

use Rattle.std.proofs.Common.{arith, length-set}
use Rattle.sovindrate.proofs.Uniting.{set_united, insert_united}
use Rattle.sovindrate.proofs.unite.unite.Goals as goal

pub returns-in-Ok : goal.returns-in-Ok
returns-in-Ok g c = (
  set_united g.K.Coded.bytes g.V.Coded.bytes g.K.Key.kind g.V.Value.kind c.args.key c.args.value c.args.settings.now.items _ c.in-Ok.i c.as_slice.ensures.value
      c.index.result.now c.join-joined.result c.index.ensures c.join-joined.ensures c.in-Ok.ensures,
  simp length-set (omega arith),
)

pub returns-in_ok-insert-in-Err : goal.returns-in_ok-insert-in-Err
returns-in_ok-insert-in-Err g c =
    insert_united g.K.Coded.bytes g.V.Coded.bytes g.K.Key.kind g.V.Value.kind c.args.key c.args.value c.args.settings.now.items _ c.in-Err.i c.as_slice.ensures.value
    c.insert.new.self.items c.in_ok-insert-in-Err.ensures.items c.in-Err.ensures

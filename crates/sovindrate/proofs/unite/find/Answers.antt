use Rattle.sovindrate.proofs.Uniting.{found_lower, found_same, found_higher}
use Rattle.sovindrate.proofs.unite.find.Goals as goal

pub loop-i-preserved : goal.loop-i-preserved
loop-i-preserved g c =
    found_lower g.K.Coded.bytes g.V.Coded.bytes g.K.Key.kind g.V.Value.kind (g.K.Coded.bytes c.args.key.now) c.args.settings.now c.loop-i.i
    c.index-settings-i.result c.loop-i-test.true c.index-settings-i.is c.loop-i.invariant c.in-Less.ensures

pub returns-in-Equal : goal.returns-in-Equal
returns-in-Equal g c =
    found_same g.K.Coded.bytes g.V.Coded.bytes g.K.Key.kind g.V.Value.kind (g.K.Coded.bytes c.args.key.now) c.args.settings.now c.loop-i.i
    c.index-settings-i.result c.loop-i-test.true c.index-settings-i.is c.loop-i.invariant c.in-Equal.ensures

pub returns-in-Greater : goal.returns-in-Greater
returns-in-Greater g c =
    found_higher g.K.Coded.bytes g.V.Coded.bytes g.K.Key.kind g.V.Value.kind (g.K.Coded.bytes c.args.key.now) c.args.settings.now c.loop-i.i
    c.index-settings-i.result c.loop-i-test.true c.index-settings-i.is c.loop-i.invariant c.in-Greater.ensures

use Rattle.sovindrate.proofs.Marking.{follow_open, follow_publish, follow_end, follow_load, follow_other, follow_edit}
use Rattle.sovindrate.proofs.marks.Marks.note.Goals as goal

pub returns-in-Publish : goal.returns-in-Publish
returns-in-Publish g c a bs told same =
    follow_publish g.K.Key.kind g.V.Value.kind g.K.Coded.bytes g.V.Coded.bytes a bs _ _ _ _ _ c.in-Done.is told same c.in-Publish.is c.set.ensures

pub returns-in-Abandon : goal.returns-in-Abandon
returns-in-Abandon g c a bs told same =
    follow_end g.K.Key.kind g.V.Value.kind g.K.Coded.bytes g.V.Coded.bytes a bs _ _ _ _ _ c.in-Done.is told same c.in-Abandon.is c.set-in-Abandon.ensures

pub returns-in-Open : goal.returns-in-Open
returns-in-Open g c a bs told same =
    follow_open g.K.Key.kind g.V.Value.kind g.K.Coded.bytes g.V.Coded.bytes a bs _ _ _ _ _ c.in-Done.is told same c.in-Open.is c.set-in-Open.ensures

pub returns-in-Load : goal.returns-in-Load
returns-in-Load g c a bs told same =
    follow_load g.K.Key.kind g.V.Value.kind g.K.Coded.bytes g.V.Coded.bytes a bs _ _ _ _ _ _ _ _ c.in-Took.is c.in-Load.is told same c.set-in-Load.ensures

pub returns-in_default : goal.returns-in_default
returns-in_default g c a bs told same =
    follow_other g.K.Key.kind g.V.Value.kind g.K.Coded.bytes g.V.Coded.bytes a bs _ c.args.call.now _ c.in_default.not-Done c.in_default.not-Took told same

pub returns-in_default-call-2 : goal.returns-in_default-call-2
returns-in_default-call-2 g c a bs told same =
    follow_edit g.K.Key.kind g.V.Value.kind g.K.Coded.bytes g.V.Coded.bytes a bs _ c.args.call.now _ _ _ c.in-Took.is c.in_default-call-2.not-Load told same

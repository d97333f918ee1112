use Rattle.std.proofs.Common.{sym, ◌∙◌}
use Rattle.merges.proofs.Decisions.{decide_same, decide_kept, decide_ours, decide_alone, decide_other}
use Rattle.merges.proofs.choices.decide.Goals as goal

pub returns-then-same_held : goal.returns-then-same_held
returns-then-same_held g c = decide_same g.V.Value.kind g.K.Coded.bytes g.V.Coded.bytes _ _ _ _ (sym c.same_held.ensures ∙ c.if-same_held.true) _ c.as_ours.ensures

pub returns-then-same_held-2 : goal.returns-then-same_held-2
returns-then-same_held-2 g c =
    decide_kept g.V.Value.kind g.K.Coded.bytes g.V.Coded.bytes _ _ _ _ (sym c.same_held.ensures ∙ c.if-same_held.false) (sym c.same_held-2.ensures ∙ c.if-same_held-2.true) _ c.as_theirs.ensures

pub returns-then-same_held-3 : goal.returns-then-same_held-3
returns-then-same_held-3 g c =
    decide_ours g.V.Value.kind g.K.Coded.bytes g.V.Coded.bytes _ _ _ _ (sym c.same_held.ensures ∙ c.if-same_held.false) (sym c.same_held-2.ensures ∙ c.if-same_held-2.false)
    (sym c.same_held-3.ensures ∙ c.if-same_held-3.true) _ c.as_ours-then-same_held-3.ensures

pub returns-in_default-None : goal.returns-in_default-None
returns-in_default-None g c =
    decide_alone g.V.Value.kind g.K.Coded.bytes g.V.Coded.bytes _ _ _ _ (sym c.same_held.ensures ∙ c.if-same_held.false) (sym c.same_held-2.ensures ∙ c.if-same_held-2.false)
    (sym c.same_held-3.ensures ∙ c.if-same_held-3.false) c.in_default-None.is-1 _ c.as_ours-in_default-None.ensures

pub returns-in-None-default : goal.returns-in-None-default
returns-in-None-default g c =
    decide_other g.V.Value.kind g.K.Coded.bytes g.V.Coded.bytes _ _ _ _ (sym c.same_held.ensures ∙ c.if-same_held.false) (sym c.same_held-2.ensures ∙ c.if-same_held-2.false)
    (sym c.same_held-3.ensures ∙ c.if-same_held-3.false) c.in-None-default.is-0 _ c.as_theirs-in-None-default.ensures

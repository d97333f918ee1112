use Rattle.store.proofs.Runs.{MadeTo}
use Rattle.store.proofs.store.Store.make_calls.Given as goal

-- the calls so far are made
abbrev pub invariant-loop-i : goal.invariant-loop-i
invariant-loop-i g l =
    MadeTo g.K.Key.kind g.V.Value.kind g.K.Coded.bytes g.V.Coded.bytes l.initial.self l.self l.calls l.initial.answers l.answers l.initial.out l.out l.i l.at

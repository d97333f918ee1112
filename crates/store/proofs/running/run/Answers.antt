use Rattle.store.specs.Starts.{SameSlices}
use Rattle.store.proofs.Promises.{completed, turned_away, handed_on_if}
use Rattle.store.proofs.running.run.Goals as goal

pub returns-in_err-store-clause-ran : goal.returns-in_err-store-clause-ran
returns-in_err-store-clause-ran g c =
    turned_away g.K.Key.kind g.V.Value.kind _ _ c.args.nodes.now c.args.entries.now c.in_err-store.field-0.0 c.in_err-store.ensures.store c.args.calls.now c.args.answers.now c.args.out.now c.from_residual.result c.from_residual.ensures.1

pub returns-in_err-store-clause-same_slices : goal.returns-in_err-store-clause-same_slices
returns-in_err-store-clause-same_slices g c = handed_on_if (SameSlices c.args.nodes c.args.entries) c.in_err-store.field-0.0 c.from_residual.result c.from_residual.ensures.1 c.in_err-store.ensures.same_slices

pub returns-clause-ran : goal.returns-clause-ran
returns-clause-ran g c =
    completed g.K.Key.kind g.V.Value.kind _ _ c.args.nodes.now c.args.entries.now c.in_ok-store.store c.in_ok-store.ensures.store
    c.make_calls-made.new.self c.into_cells-nodes.result.0.now c.into_cells-nodes.result.1.now c.into_cells-nodes.ensures.nodes c.into_cells-nodes.ensures.entries
    c.args.calls.now c.args.answers.now c.make_calls-made.new.answers c.args.out.now c.make_calls-made.new.out c.make_calls-made.result c.make_calls-made.ensures

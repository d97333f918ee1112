use Rattle.std.proofs.lemmas.Result.{err_from_is_err_and}
use Rattle.kinds.specs.Kinds.{KeyKind, ValueKind}
use Rattle.image_reader.proofs.Readings.{faults_after, reaches_after}
use Rattle.image_reader.proofs.ImageReadings.{root_command_faults, root_end, root_faults, root_reaches, end_command_faults, end_command_reaches, judged_fault, judged_whole}
use Rattle.image_reader.proofs.judging.judge.Goals as goal

pub returns-in_err-command : goal.returns-in_err-command
returns-in_err-command g c =
    let K : KeyKind = g.K.Key.kind in
    let V : ValueKind = g.V.Value.kind in
    let p = err_from_is_err_and c.from_residual-in_err-command.result
    c.from_residual-in_err-command.ensures.1 in
    rw (p.1, p.2)
    (judged_fault K V _ _ c.new-reader.ensures.start c.new-reader.ensures.image _
    (faults_after _ _ _ _ _ c.in_ok-header.ensures _
    (root_command_faults K V _ _ c.in_err-command.ensures)))

pub returns-then-command-eq-END : goal.returns-then-command-eq-END
returns-then-command-eq-END g c =
    let K : KeyKind = g.K.Key.kind in
    let V : ValueKind = g.V.Value.kind in
    judged_whole K V _ _ c.new-reader.ensures.start c.new-reader.ensures.image _ _ _
    (reaches_after _ _ _ _ _ c.in_ok-header.ensures _ _ _
    (root_end K V _ _ _ c.in_ok-command.ensures c.if-command-eq-END.true))
    _ c.end.ensures

pub returns-in_err-count : goal.returns-in_err-count
returns-in_err-count g c =
    let K : KeyKind = g.K.Key.kind in
    let V : ValueKind = g.V.Value.kind in
    let p = err_from_is_err_and c.from_residual-in_err-count.result
    c.from_residual-in_err-count.ensures.1 in
    rw (p.1, p.2)
    (judged_fault K V _ _ c.new-reader.ensures.start c.new-reader.ensures.image _
    (faults_after _ _ _ _ _ c.in_ok-header.ensures _
    (root_faults K V _ _ _ c.in_ok-command.ensures c.if-command-eq-END.false _
    c.root.ensures.height c.root.ensures.digits _ c.in_err-count.ensures)))

pub returns-in_err-end : goal.returns-in_err-end
returns-in_err-end g c =
    let K : KeyKind = g.K.Key.kind in
    let V : ValueKind = g.V.Value.kind in
    let p = err_from_is_err_and c.from_residual-in_err-end.result
    c.from_residual-in_err-end.ensures.1 in
    rw (p.1, p.2)
    (judged_fault K V _ _ c.new-reader.ensures.start c.new-reader.ensures.image _
    (faults_after _ _ _ _ _
    (reaches_after _ _ _ _ _ c.in_ok-header.ensures _ _ _
    (root_reaches K V _ _ _ c.in_ok-command.ensures c.if-command-eq-END.false _
    c.root.ensures.height c.root.ensures.digits _ _ c.in_ok-count.ensures))
    _ (end_command_faults K V _ _ _ c.in_err-end.ensures)))

pub returns : goal.returns
returns g c =
    let K : KeyKind = g.K.Key.kind in
    let V : ValueKind = g.V.Value.kind in
    judged_whole K V _ _ c.new-reader.ensures.start c.new-reader.ensures.image _ _ _
    (reaches_after _ _ _ _ _
    (reaches_after _ _ _ _ _ c.in_ok-header.ensures _ _ _
    (root_reaches K V _ _ _ c.in_ok-command.ensures c.if-command-eq-END.false _
    c.root.ensures.height c.root.ensures.digits _ _ c.in_ok-count.ensures))
    _ _ _ (end_command_reaches K V _ _ _ _ c.in_ok-end.ensures))
    _ c.end-2.ensures

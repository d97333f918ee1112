use Rattle.std.proofs.Common.{ap, ap₂, ◌∙◌, ◌+◌, take}
use Rattle.sovindrate.proofs.Splitting.{unread}
use Rattle.sovindrate.proofs.commands.split_entry.Goals as goal

pub returns-in_err-key : goal.returns-in_err-key
returns-in_err-key g c =
    let wide = ap₂ (λ m n. m + n) (c.WIDTH.ensures ∙ g.met.K.Key.coded.1) (c.WIDTH-2.ensures ∙ g.met.V.Value.coded.1) in
    let row = c.in_ok-setting.ensures.cases.1 ∙ ap (λ n. take n c.args.bytes.now) wide in
    rw c.from_residual-in_err-key.ensures
    (unread g.K.Key.kind g.V.Value.kind g.K.Coded.bytes g.V.Coded.bytes g.met.K.Key.readable g.met.V.Value.readable c.args.bytes.now c.in_ok-setting.setting.now row c.in_err-key.ensures)

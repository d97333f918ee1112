use Rattle.std.proofs.Common.{◌∙◌}
use Rattle.image_loader.proofs.Roots.{root_may, loaded_some}
use Rattle.image_loader.proofs.loading.load.Goals as goal

pub build_node-requires : goal.build_node-requires
build_node-requires g c =
    let h = c.past_header-reader.ensures in
    root_may _ h.image h.at (λ e. c.if-next_byte-eq-END.false (c.next_byte.ensures ∙ e)) c.requires

pub returns : goal.returns
returns g c =
    let h = c.past_header-reader.ensures in
    loaded_some c.past_header-reader.result h.image h.at
    (λ e. c.if-next_byte-eq-END.false (c.next_byte.ensures ∙ e)) c.build_node.ensures

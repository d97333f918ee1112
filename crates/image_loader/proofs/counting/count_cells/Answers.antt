use Rattle.std.proofs.Common.{◌∙◌}
use Rattle.image_loader.proofs.Images.{root_node, cells_some}
use Rattle.image_loader.proofs.counting.count_cells.Goals as goal

pub count_node-root-requires : goal.count_node-root-requires
count_node-root-requires g c =
    let h = c.past_header-reader.ensures in
    root_node _ h.image h.at c.requires (λ e. c.if-next_byte-eq-END.false (c.next_byte.ensures ∙ e))

pub returns : goal.returns
returns g c =
    let h = c.past_header-reader.ensures in
    cells_some c.past_header-reader.result h.image h.at
    (λ e. c.if-next_byte-eq-END.false (c.next_byte.ensures ∙ e)) c.count_node-root.ensures

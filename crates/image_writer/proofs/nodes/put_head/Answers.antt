use Rattle.image_writer.proofs.Writes.{puts_as, puts_more}
use Rattle.image_writer.proofs.Rests.{head_deepest, head_above}
use Rattle.image_writer.proofs.nodes.put_head.Goals as goal

pub returns-then-level-eq0 : goal.returns-then-level-eq0
returns-then-level-eq0 c =
    puts_as _ _ _ _ _ _ (head_deepest _ _ c.if-level-eq0.true)
    (puts_more _ _ _ _ _ c.put_byte-next.ensures _ _ _ c.put_byte.ensures)

pub returns : goal.returns
returns c =
    puts_as _ _ _ _ _ _ (head_above _ _ c.if-level-eq0.false)
    (puts_more _ _ _ _ _ c.put_byte-data_at.ensures _ _ _ (puts_more _ _ _ _ _ c.put_u16-nodes_at.ensures _ _ _ c.put_u16.ensures))

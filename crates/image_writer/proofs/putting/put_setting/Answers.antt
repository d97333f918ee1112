use Rattle.image_writer.proofs.Writes.{puts_more}
use Rattle.image_writer.proofs.putting.put_setting.Goals as goal

pub returns : goal.returns
returns g c =
    puts_more _ _ _ _ _ c.put_byte-key_at.ensures _ _ _ (puts_more _ _ _ _ _ c.put_coded-value_at.ensures _ _ _ c.put_coded.ensures)

use Rattle.std.proofs.Common.{refl, ◌∙◌, arith}
use Rattle.image_writer.proofs.Saves.{saved_short, some_long, count_small, nodes_fit, end_fits, saved_whole}
use Rattle.image_writer.proofs.Writes.{length_puts}
use Rattle.image_writer.proofs.saving.save.Goals as goal

pub returns-then-out-image_length : goal.returns-then-out-image_length
returns-then-out-image_length g c = saved_short _ _ _ _ _ _ _ c.image_length.ensures _ c.if-out-image_length.true

pub put_row-root_at-requires : goal.put_row-root_at-requires
put_row-root_at-requires g c = omega (arith, some_long _ g.V.Value.kind _ _ _ _ _ c.image_length.ensures c.requires)

pub put_root-end_at-requires : goal.put_root-end_at-requires
put_root-end_at-requires g c = nodes_fit _ g.V.Value.kind _ _ _ _ _ c.image_length.ensures c.requires _ _ _ _ c.if-out-image_length.false refl c.put_row-root_at.ensures

pub put_byte-number_at-requires : goal.put_byte-number_at-requires
put_byte-number_at-requires g c =
    omega (arith, end_fits _ g.V.Value.kind _ _ _ _ _ c.image_length.ensures c.requires _ _ _ _ c.if-out-image_length.false refl c.put_row-root_at.ensures _ _ c.put_root-end_at.ensures)

pub overflow_cast-number : goal.overflow_cast-number
overflow_cast-number g c = omega (arith, count_small _ g.V.Value.kind _ _ _ _ _ c.requires c.count-number.ensures)

pub put_u32-requires : goal.put_u32-requires
put_u32-requires g c =
    omega (
      arith,
      end_fits _ g.V.Value.kind _ _ _ _ _ c.image_length.ensures c.requires _ _ _ _ c.if-out-image_length.false refl c.put_row-root_at.ensures _ _ c.put_root-end_at.ensures,
      c.put_byte-number_at.ensures.onward,
      length_puts _ _ _ _ _ c.put_byte-number_at.ensures,
    )

pub returns : goal.returns
returns g c =
    saved_whole _ _ _ _ _ _ _ _ _ _ _ _ _ _ _ _ _ _
    (c.CODE.ensures ∙ g.met.K.Key.coded.0) (c.CODE-2.ensures ∙ g.met.V.Value.coded.0) c.count-number.ensures
    c.put_row-root_at.ensures c.put_root-end_at.ensures c.put_byte-number_at.ensures c.put_u32.ensures

use Rattle.std.proofs.Common.{rules}
use Rattle.byte_rows.proofs.Stamps.{reads_stamped}
use Rattle.byte_rows.proofs.reads.read_stamped.Goals as goal

pub returns : goal.returns
returns c =
    reads_stamped c.args.row.now c.from_be_bytes-stamp.result c.from_be_bytes-offset.result (search rules) c.type_inv.row
    c.from_be_bytes-offset.type_inv c.from_be_bytes-stamp.ensures c.from_be_bytes-offset.ensures

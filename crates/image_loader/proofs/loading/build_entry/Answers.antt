use Rattle.std.proofs.Common.{◌∙◌, arith}
use Rattle.image_loader.proofs.Entries.{entry_fits, entry_past, row_wide, read_some, read_is}
use Rattle.image_loader.proofs.loading.build_entry.Goals as goal

pub take-operands-requires : goal.take-operands-requires
take-operands-requires g c =
    let key = c.WIDTH.ensures ∙ g.met.K.Key.coded.1 in
    let value = c.WIDTH-2.ensures ∙ g.met.V.Value.coded.1 in
    entry_fits c.requires.entry (omega (arith, key, value))

pub read_setting-requires : goal.read_setting-requires
read_setting-requires g c =
    let key = c.WIDTH.ensures ∙ g.met.K.Key.coded.1 in
    let value = c.WIDTH-2.ensures ∙ g.met.V.Value.coded.1 in
    row_wide c.requires.entry (omega (arith, key, value)) c.take-operands.ensures.operands

pub unwrap-key-requires : goal.unwrap-key-requires
unwrap-key-requires g c =
    let key = c.WIDTH.ensures ∙ g.met.K.Key.coded.1 in
    let value = c.WIDTH-2.ensures ∙ g.met.V.Value.coded.1 in
    read_some c.requires.entry (omega (arith, key, value)) c.take-operands.ensures.operands
    g.K.Coded.bytes g.V.Coded.bytes _ c.read_setting.ensures

pub returns : goal.returns
returns g c =
    let key = c.WIDTH.ensures ∙ g.met.K.Key.coded.1 in
    let value = c.WIDTH-2.ensures ∙ g.met.V.Value.coded.1 in
    let h = c.take-operands.ensures in
    record {
      key = c.unwrap-key.result.0;
      value = c.unwrap-key.result.1;
      made = c.make_entry.ensures;
      setting = λ q.
          read_is q (omega (arith, key, value)) h.operands
          g.K.Coded.bytes g.V.Coded.bytes _ _ c.read_setting.ensures c.unwrap-key.ensures;
      onward = λ q. entry_past q (omega (arith, key, value)) _ h.image h.onward;
    }

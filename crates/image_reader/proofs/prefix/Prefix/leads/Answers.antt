use Rattle.std.proofs.Common.{◌∙◌}
use Rattle.image_reader.proofs.Prefixes.{leads_hash}
use Rattle.image_reader.proofs.prefix.Prefix.leads.Goals as goal

pub returns : goal.returns
returns g c =
    leads_hash g.K.Key.kind c.args.self (g.K.Coded.bytes c.args.key.now) c.from.result
    (c.from.ensures ∙ c.hash.ensures)

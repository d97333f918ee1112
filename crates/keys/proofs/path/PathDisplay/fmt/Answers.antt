use Rattle.std.proofs.Common.{sym, subst, rules}
use Rattle.std.specs.Str.{IsUtf8}
use Rattle.byte_rows.proofs.Fillings.{text_is_utf8}
use Rattle.keys.proofs.path.PathDisplay.fmt.Goals as goal

pub unwrap-requires : goal.unwrap-requires
unwrap-requires g c =
    let utf8 : IsUtf8 c.text.result.now = subst IsUtf8 (sym c.text.ensures) (text_is_utf8 24 c.args.self.now.filled c.args.self.now.text_and_filling) in
    search rules

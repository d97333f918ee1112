use Rattle.std.proofs.Common.{refl}
use Rattle.image_reader.proofs.Prefixes.{root_digits}
use Rattle.image_reader.proofs.prefix.Prefix.root.Goals as goal

pub returns-clause-digits : goal.returns-clause-digits
returns-clause-digits c = root_digits _ refl

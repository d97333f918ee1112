use Rattle.std.proofs.Common.{◌≡◌, ℕ, ◌-◌, ◌^◌, ◌<◌, count_ones, subst, sym, arith, rules}
use Rattle.std.specs.Int.Bits.{bit_and, mask_lt}
use Rattle.std.proofs.lemmas.Nat.{ones-le}
use Rattle.tables.proofs.slots.rank.Goals as goal

few : (m d s : ℕ) → d < 16 → s ≡ 2 ^ d → count_ones (bit_and m (s - 1)) < 16
few m d s small e = subst (λ (x : ℕ). count_ones (bit_and m (x - 1)) < 16) (sym e) (omega (arith, ones-le d (bit_and m (2 ^ d - 1)) (mask_lt m d)))

pub returns-clause-small : goal.returns-clause-small
returns-clause-small c = few c.from.result c.args.digit.number _ c.args.digit.small (search rules)

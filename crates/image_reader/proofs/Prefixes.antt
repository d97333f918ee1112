-- Prefixes in code: the root's, one digit more, and the hashes that they lead. Assumes nothing.
use Rattle.std.proofs.Common.{◌≡◌, ℕ, suc, ◌+◌, ◌-◌, ◌*◌, ◌%◌, ◌^◌, ◌<◌, ◌≤◌, eqb, List, [], ◌∷◌, ◌++◌, sym, ap, ◌∙◌, subst, ap₂, pow-suc, arith}
use Rattle.std.proofs.lemmas.Nat.{mul-add-lt}
use Rattle.kinds.specs.Kinds.{KeyKind}
use Rattle.model.specs.Tries.{leads}
use Rattle.image_reader.specs.declared.prefix.TheConstants.{ROOT_HEIGHT}
use Rattle.image_reader.specs.declared.prefix.Prefix.{Prefix}
use Rattle.image_reader.specs.Prefixes.{first_digits, prefix_digits}
use Rattle.image_reader.proofs.HashDigits.{leads_is, digits_push, span_fits}

pub root_digits : (p : Prefix) → p.height ≡ ROOT_HEIGHT → prefix_digits p ≡ []
unfolding prefix_digits
root_digits p e = ap (λ n. first_digits p.number (ROOT_HEIGHT - n)) e

pub leads_hash : (K : KeyKind) (p : Prefix) (k : List ℕ) (h : ℕ) → h ≡ K.hash k →
    eqb (h % p.span) p.number ≡ leads K 0 (prefix_digits p) k
unfolding prefix_digits
leads_hash K p k h e =
    ap₂ (λ a b. eqb (a % b) p.number) e p.spans
    ∙ sym (leads_is K p.number (ROOT_HEIGHT - p.height) k
    (subst (λ n. p.number < n) p.spans p.below))

-- one digit further down
module _ (height : ℕ) (some_below : 0 < height) (heights : height ≤ ROOT_HEIGHT) where
  pub digits_down : ROOT_HEIGHT - (height - 1) ≡ suc (ROOT_HEIGHT - height)
  digits_down = omega arith

  pub span_down : (span : ℕ) → span ≡ 16 ^ (ROOT_HEIGHT - height) →
      span * 16 ≡ 16 ^ (ROOT_HEIGHT - (height - 1))
  span_down span e =
      ap (λ n. n * 16) e
      ∙ (sym (pow-suc 16 (ROOT_HEIGHT - height)) ∙ ap (λ n. 16 ^ n) (sym digits_down))

  pub span_small : (span : ℕ) → span ≡ 16 ^ (ROOT_HEIGHT - height) → span ≤ 16 ^ 7
  span_small span e =
      subst (λ n. n ≤ 16 ^ 7) (sym e) (span_fits (ROOT_HEIGHT - height) (omega arith))

pub number_down : (x g span : ℕ) → x < span → g < 16 → x + g * span < span * 16
number_down x g span h k = omega (arith, mul-add-lt g span x 16 k h)

pub child_digits : (p q : Prefix) (g : ℕ) → 0 < p.height → g < 16 → q.height ≡ p.height - 1 →
    q.number ≡ p.number + g * p.span → prefix_digits q ≡ prefix_digits p ++ (g ∷ [])
unfolding prefix_digits
child_digits p q g some_below small e f =
    ap₂ first_digits (f ∙ ap (λ n. p.number + g * n) p.spans)
    (ap (λ n. ROOT_HEIGHT - n) e ∙ digits_down p.height some_below p.heights)
    ∙ digits_push p.number g (ROOT_HEIGHT - p.height)
    (subst (λ n. p.number < n) p.spans p.below) small

-- The lowest digits of a hash, and prefixes as numbers. Assumes nothing.
use Rattle.std.proofs.Common.{◌≡◌, ℕ, zero, suc, ◌+◌, ◌*◌, ◌/◌, ◌%◌, ◌^◌, ◌<◌, ◌≤◌, ◌&&◌, eqb, List, [], ◌∷◌, ◌++◌, length, sym, refl, ap, ◌∙◌, ap₂, pow-suc, mod-eq_of_lt, arith}
use lib.Arith.{mod-mul}
use Rattle.std.proofs.Math.Nat.{add-mul-div_right, add-mul-mod_self_right, one-le-pow, pow-le-pow_right}
use Rattle.std.proofs.lemmas.Bool.{eq-eqb}
use Rattle.std.proofs.lemmas.Bool.Decides.{same_from_decides, Decides-eqb, Decides-and, Decides-like}
use Rattle.std.proofs.lemmas.List.{length-append}
use Rattle.std.proofs.lemmas.Nat.{mod_below, div-mul-add, same_from_place}
use Rattle.kinds.specs.Kinds.{KeyKind}
use Rattle.model.specs.Tries.{digit, leads}
use Rattle.model.proofs.Images.Gets.{leads_push}
use Rattle.image_reader.specs.Prefixes.{first_digits}

sixteens_pos : (d : ℕ) → 0 < 16 ^ d
sixteens_pos d = one-le-pow d 16 (omega arith)

length_digits : (x d : ℕ) → length (first_digits x d) ≡ d
length_digits x zero = refl
length_digits x (suc d) =
    length-append (first_digits x d) (digit x d ∷ []) ∙ omega (arith, length_digits x d)

-- the lower places and the place above them agree where all of them do
same_places : (a b c d w : ℕ) → b < w → d < w → (eqb b d && eqb a c) ≡ eqb (a * w + b) (c * w + d)
same_places a b c d w h k =
    same_from_decides {P = (b ≡ d) × (a ≡ c)} _ _
    (Decides-and (eqb b d) (eqb a c) (Decides-eqb b d) (Decides-eqb a c))
    (Decides-like (eqb (a * w + b) (c * w + d))
    (λ e. let s = same_from_place a b c d w h k e in (s.1, s.0))
    (λ e. ap₂ (λ x y. x * w + y) e.1 e.0)
    (Decides-eqb _ _))

low_digits : (x d : ℕ) → x % 16 ^ suc d ≡ digit x d * 16 ^ d + x % 16 ^ d
low_digits x d =
    ap (λ w. x % w) (pow-suc 16 d ∙ omega arith) ∙ mod-mul x (omega arith) (sixteens_pos d)

leads_low : (K : KeyKind) (x d : ℕ) (k : List ℕ) →
    leads K 0 (first_digits x d) k ≡ eqb (K.hash k % 16 ^ d) (x % 16 ^ d)
leads_low K x zero k = sym (eq-eqb _ _ (omega arith))
leads_low K x (suc d) k =
    leads_push K 0 (first_digits x d) (digit x d) k
    ∙ (ap (λ n. leads K 0 (first_digits x d) k && eqb (digit (K.hash k) n) (digit x d))
    (omega (arith, length_digits x d))
    ∙ (ap (λ b. b && eqb (digit (K.hash k) d) (digit x d)) (leads_low K x d k)
    ∙ (same_places (digit (K.hash k) d) (K.hash k % 16 ^ d) (digit x d) (x % 16 ^ d) (16 ^ d)
    (mod_below (K.hash k) (16 ^ d) (sixteens_pos d)) (mod_below x (16 ^ d) (sixteens_pos d))
    ∙ ap₂ eqb (sym (low_digits (K.hash k) d)) (sym (low_digits x d)))))

-- a hash begins with the digits of a number where what it leaves by the span is that number
pub leads_is : (K : KeyKind) (x d : ℕ) (k : List ℕ) → x < 16 ^ d →
    leads K 0 (first_digits x d) k ≡ eqb (K.hash k % 16 ^ d) x
leads_is K x d k h = leads_low K x d k ∙ ap (eqb (K.hash k % 16 ^ d)) (mod-eq_of_lt h)

digits_above : (x m d : ℕ) → first_digits (x + m * 16 ^ d) d ≡ first_digits x d
digits_above x m zero = refl
digits_above x m (suc d) =
    let shift : x + m * 16 ^ suc d ≡ x + (m * 16) * 16 ^ d =
    omega (arith, ap (λ n. m * n) (pow-suc 16 d)) in
    let high : (x + m * 16 * 16 ^ d) / 16 ^ d % 16 ≡ x / 16 ^ d % 16 =
    ap (λ n. n % 16) (add-mul-div_right x (m * 16) (sixteens_pos d))
    ∙ add-mul-mod_self_right (x / 16 ^ d) m 16 in
    ap (λ y. first_digits y (suc d)) shift
    ∙ ap₂ (λ l t. l ++ (t ∷ [])) (digits_above x (m * 16) d) high

-- one digit more
pub digits_push : (x g d : ℕ) → x < 16 ^ d → g < 16 →
    first_digits (x + g * 16 ^ d) (suc d) ≡ first_digits x d ++ (g ∷ [])
digits_push x g d h k =
    let top : (x + g * 16 ^ d) / 16 ^ d % 16 ≡ g =
    ap (λ n. n % 16) (ap (λ n. n / 16 ^ d) (omega arith) ∙ div-mul-add g (16 ^ d) x h)
    ∙ mod-eq_of_lt k in
    ap₂ (λ l t. l ++ (t ∷ [])) (digits_above x g d) top

-- the span of fewer than eight digits
pub span_fits : (d : ℕ) → d < 8 → 16 ^ d ≤ 16 ^ 7
span_fits d h = pow-le-pow_right (omega arith) {i = d} {j = 7} (omega arith)

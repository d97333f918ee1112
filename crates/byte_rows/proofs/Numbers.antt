-- Numbers in rows of bytes. Assumes nothing.
use Rattle.std.proofs.Common.{◌≡◌, ℕ, zero, suc, ◌+◌, ◌*◌, ◌/◌, ◌%◌, ◌^◌, ◌<◌, true, false, eqb, ltb, List, [], ◌∷◌, length, get_or, take, drop, sym, refl, ap, ◌∙◌, subst, mod-eq_of_lt, mul_comm, pow-suc, arith, w8, Fits}
use lib.Arith.{mod-mul, digits_lt, digits_div, digits_mod}
use Rattle.std.proofs.lemmas.Bool.{and_parts, and_from, eqb-true, eq-eqb, ltb-true, lt-ltb}
use Rattle.std.proofs.lemmas.Bool.Decides.{nat_tests}
use Rattle.byte_rows.specs.Rows.{byte_row, row_of, in_bytes, number, lower}

pub span_some : (w : ℕ) → 0 < 256 ^ w
span_some zero = omega arith
span_some (suc w) = rw pow-suc (omega (arith, span_some w))

pub length_in_bytes : (w n : ℕ) → length (in_bytes w n) ≡ w
length_in_bytes zero n = refl
length_in_bytes (suc w) n = ap suc (length_in_bytes w n)

pub in_bytes_row : (w n : ℕ) → byte_row (in_bytes w n) ≡ true
in_bytes_row zero n = refl
in_bytes_row (suc w) n = and_from _ _ (lt-ltb _ _ (omega arith)) (in_bytes_row w n)

pub in_bytes_fills : (w n : ℕ) → row_of w (in_bytes w n) ≡ true
in_bytes_fills w n = and_from _ _ (eq-eqb _ _ (length_in_bytes w n)) (in_bytes_row w n)

pub byte_row_take : (n : ℕ) (bs : List ℕ) → byte_row bs ≡ true → byte_row (take n bs) ≡ true
byte_row_take zero bs h = refl
byte_row_take (suc n) [] h = refl
byte_row_take (suc n) (b ∷ bs) h = let both = and_parts (ltb b 256) _ h in and_from _ _ both.0 (byte_row_take n bs both.1)

pub byte_row_drop : (n : ℕ) (bs : List ℕ) → byte_row bs ≡ true → byte_row (drop n bs) ≡ true
byte_row_drop zero bs h = h
byte_row_drop (suc n) [] h = refl
byte_row_drop (suc n) (b ∷ bs) h = byte_row_drop n bs (and_parts (ltb b 256) _ h).1

pub number_fits : (bs : List ℕ) → byte_row bs ≡ true → number bs < 256 ^ length bs
number_fits [] h = omega arith
number_fits (b ∷ bs) h =
    let both = and_parts (ltb b 256) _ h in
    rw pow-suc (omega (arith, digits_lt (ltb-true b 256 both.0) (number_fits bs both.1)))

pub number_in_bytes : (w n : ℕ) → number (in_bytes w n) ≡ n % 256 ^ w
number_in_bytes zero n = omega arith
number_in_bytes (suc w) n =
    rw (length_in_bytes w n, number_in_bytes w n, pow-suc, mul_comm (256 ^ w) 256) (sym (mod-mul n (omega arith) (span_some w)))

pub in_bytes_number : (w n : ℕ) → n < 256 ^ w → number (in_bytes w n) ≡ n
in_bytes_number w n h = number_in_bytes w n ∙ mod-eq_of_lt h

-- rows of one length that stand for one number are one row
pub number_tells : (a b : List ℕ) → byte_row a ≡ true → byte_row b ≡ true → length a ≡ length b → number a ≡ number b → a ≡ b
number_tells [] [] ra rb l e = refl
number_tells [] (y ∷ b) ra rb l e = absurd (omega arith)
number_tells (x ∷ a) [] ra rb l e = absurd (omega arith)
number_tells (x ∷ a) (y ∷ b) ra rb l e =
    let fa = number_fits a (and_parts (ltb x 256) _ ra).1 in
    let fb = number_fits b (and_parts (ltb y 256) _ rb).1 in
    let la : length a ≡ length b = omega arith in
    let fc : number b < 256 ^ length a = rw la fb in
    let ed : x * 256 ^ length a + number a ≡ y * 256 ^ length a + number b = e ∙ ap (λ n. y * 256 ^ n + number b) (sym la) in
    let heads : x ≡ y = sym (digits_div x fa) ∙ ap (λ n. n / 256 ^ length a) ed ∙ digits_div y fc in
    let tails : number a ≡ number b = sym (digits_mod x fa) ∙ ap (λ n. n % 256 ^ length a) ed ∙ digits_mod y fc in
    let rest = number_tells a b (and_parts (ltb x 256) _ ra).1 (and_parts (ltb y 256) _ rb).1 la tails in
    cc

-- a row of w bytes is its number in w bytes
pub row_number : (w : ℕ) (bs : List ℕ) → row_of w bs ≡ true → in_bytes w (number bs) ≡ bs
row_number w bs h =
    let both = and_parts (eqb (length bs) w) _ h in
    let long : length bs ≡ w = eqb-true _ _ both.0 in
    let fits : number bs < 256 ^ w = rw (← long) (number_fits bs both.1) in
    number_tells _ _ (in_bytes_row w (number bs)) both.1 (length_in_bytes w (number bs) ∙ sym long) (in_bytes_number w (number bs) fits)

pub row_parts : (w : ℕ) (bs : List ℕ) → row_of w bs ≡ true → (length bs ≡ w) × (byte_row bs ≡ true)
row_parts w bs h = let both = and_parts (eqb (length bs) w) _ h in (eqb-true _ _ both.0, both.1)

-- rows of w bytes that stand for one number are one row
pub number_one : (w : ℕ) (a b : List ℕ) → row_of w a ≡ true → row_of w b ≡ true → number a ≡ number b → a ≡ b
number_one w a b ra rb e =
    let pa = row_parts w a ra in
    let pb = row_parts w b rb in
    number_tells a b pa.1 pb.1 (pa.0 ∙ sym pb.0) e

pub number_below : (w : ℕ) (bs : List ℕ) → row_of w bs ≡ true → number bs < 256 ^ w
number_below w bs h = let p = row_parts w bs h in subst (λ n. number bs < 256 ^ n) p.0 (number_fits bs p.1)

pub row_width : (w : ℕ) (bs : List ℕ) → row_of w bs ≡ true → length bs ≡ w
row_width w bs h = (row_parts w bs h).0

pub row_bytes : (w : ℕ) (bs : List ℕ) → row_of w bs ≡ true → byte_row bs ≡ true
row_bytes w bs h = (row_parts w bs h).1

-- one row in w bytes is one number
pub in_bytes_one : (w m n : ℕ) → m < 256 ^ w → n < 256 ^ w → in_bytes w m ≡ in_bytes w n → m ≡ n
in_bytes_one w m n hm hn e = sym (in_bytes_number w m hm) ∙ ap number e ∙ in_bytes_number w n hn

-- the elements of a slice of bytes are bytes
pub slice_bytes : (l : List ℕ) → ((i : ℕ) → Fits w8 (get_or l i 0)) → byte_row l ≡ true
slice_bytes [] f = refl
slice_bytes (b ∷ l) f = and_from _ _ (lt-ltb b 256 (f 0).fits) (slice_bytes l (λ i. f (suc i)))

-- w bytes that were read as a number
pub read_bytes : (w : ℕ) (l : List ℕ) (n : ℕ) → length l ≡ w → byte_row l ≡ true → n ≡ number l → (row_of w l ≡ true) × (in_bytes w n ≡ l)
read_bytes w l n e h is =
    let row : row_of w l ≡ true = and_from _ _ (eq-eqb _ _ e) h in
    (row, ap (in_bytes w) is ∙ row_number w l row)

-- the numbers of one, two and four bytes
pub number_1 : (l : List ℕ) → length l ≡ 1 → number l ≡ get_or l 0 0
number_1 [] e = absurd (omega arith)
number_1 (a ∷ []) e = omega arith
number_1 (a ∷ b ∷ l) e = absurd (omega arith)

pub number_2 : (l : List ℕ) → length l ≡ 2 → number l ≡ get_or l 0 0 * 256 + get_or l 1 0
number_2 [] e = absurd (omega arith)
number_2 (a ∷ l) e = let n : length l ≡ 1 = omega arith in rw n (omega (arith, number_1 l n))

pub number_4 : (l : List ℕ) → length l ≡ 4 → number l ≡ get_or l 0 0 * 16777216 + get_or l 1 0 * 65536 + get_or l 2 0 * 256 + get_or l 3 0
number_4 [] e = absurd (omega arith)
number_4 (a ∷ []) e = absurd (omega arith)
number_4 (a ∷ b ∷ l) e = let n : length l ≡ 2 = omega arith in rw n (omega (arith, number_2 l n))

-- ---- the order of numbers

pub lower_not_self : (a : List ℕ) → lower a a ≡ false
lower_not_self a = grind (arith, nat_tests)

pub lower_onward : (a b c : List ℕ) → lower a b ≡ true → lower b c ≡ true → lower a c ≡ true
lower_onward a b c h k = grind (arith, nat_tests)

pub lower_or_same : (w : ℕ) (a b : List ℕ) → row_of w a ≡ true → row_of w b ≡ true → lower a b ≡ false → lower b a ≡ false → a ≡ b
lower_or_same w a b ra rb h k = number_one w a b ra rb (grind (arith, nat_tests))

-- ---- hashes

-- a number modulo 2^32 has 32 bits, and so has one modulo 4
pub modulo_2_32_fits : (n : ℕ) → n % 2 ^ 32 < 2 ^ 32
modulo_2_32_fits n = omega arith

pub modulo_4_fits : (n : ℕ) → n % 4 < 2 ^ 32
modulo_4_fits n = omega arith

-- Bit maps of sixteen digits, and the digits whose bits are set. Assumes nothing.
use Rattle.std.proofs.Common.{◌≡◌, ℕ, suc, ◌+◌, ◌*◌, ◌/◌, ◌%◌, ◌^◌, ◌<◌, Bool, true, false, cond, eqb, List, [], ◌∷◌, ◌++◌, map, length, sym, refl, ap, ◌∙◌, pow-suc, arith}
use native.Mathlib.Nat.{div-div-eq-div-mul}
use lib.Bits.{bit_and}
use Rattle.std.specs.List.{AllByRecursion}
use Rattle.std.proofs.lemmas.Bool.{eqb-true, eqb-false, eq-eqb, ne_eqb}
use Rattle.std.proofs.lemmas.Nat.{and_shr, and_mod, and_le_l, and_le_r}
use Rattle.model.specs.Maps.{Map}
use Rattle.model.specs.Tries.{filter, digit, sixteen}
use Rattle.model.specs.Images.{bits, picked}
use Rattle.model.specs.Reading.{digits_in}
use Rattle.model.proofs.Images.Lists.{flat, Counts, all_both, filter_like, Mem, Apart, counts_apart, counts_mem}

-- the bit of a digit
abbrev pub flag : ℕ → ℕ → Bool
flag n g = eqb ((n / 2 ^ g) % 2) 1

abbrev pub bits_of : (ℕ → Bool) → List ℕ → ℕ
bits_of q [] = 0
bits_of q (g ∷ gs) = cond (q g) 1 0 + 2 * bits_of q gs

pub bits_is : (p : Map → Bool) (f : ℕ → Map) (gs : List ℕ) → bits p (map f gs) ≡ bits_of (λ g. p (f g)) gs
bits_is p f [] = refl
bits_is p f (g ∷ gs) = ap (λ n. cond (p (f g)) 1 0 + 2 * n) (bits_is p f gs)

pub picked_is : {A : Type 0} (p : Map → Bool) (f : ℕ → Map) (r : Map → List A) (gs : List ℕ) →
    picked p r (map f gs) ≡ flat (λ g. r (f g)) (filter (λ g. p (f g)) gs)
picked_is p f r [] = refl
picked_is {A} p f r (g ∷ gs) =
    elim (p (f g)) as (λ b. cond b (r (f g)) [] ++ picked p r (map f gs) ≡ flat (λ x. r (f x)) (cond b (g ∷ filter (λ x. p (f x)) gs) (filter (λ x. p (f x)) gs))) [
      | true ↦ ap (λ l. r (f g) ++ l) (picked_is p f r gs)
      | false ↦ picked_is p f r gs
    ]

pub sixteen_counts : Counts 0 sixteen
unfolding sixteen
sixteen_counts = (refl, (refl, (refl, (refl, (refl, (refl, (refl, (refl, (refl, (refl, (refl, (refl, (refl, (refl, (refl, (refl, tt))))))))))))))))

pub sixteen_length : length sixteen ≡ 16
unfolding sixteen
sixteen_length = refl

pub sixteen_apart : Apart sixteen
sixteen_apart = counts_apart 0 sixteen sixteen_counts

pub digit_in : (v d : ℕ) → Mem (digit v d) sixteen
digit_in v d = counts_mem 0 sixteen (digit v d) sixteen_counts (omega arith) (rw sixteen_length (omega arith))

bit_value : (x : ℕ) → cond (eqb (x % 2) 1) 1 0 ≡ x % 2
bit_value x = go (eqb (x % 2) 1) refl
  where
    go : (b : Bool) → eqb (x % 2) 1 ≡ b → cond b 1 0 ≡ x % 2
    go true e = omega (arith, eqb-true (x % 2) 1 e)
    go false e = omega (arith, eqb-false (x % 2) 1 e)

halve : (n k : ℕ) → n / 2 ^ suc k ≡ n / 2 ^ k / 2
halve n k = ap (λ x. n / x) (pow-suc 2 k) ∙ sym (div-div-eq-div-mul n (2 ^ k) 2)

low_bit : (c : Bool) (b n : ℕ) → n ≡ cond c 1 0 + 2 * b → eqb (n % 2) 1 ≡ c
low_bit true b n e = eq-eqb (n % 2) 1 (omega arith)
low_bit false b n e = ne_eqb (n % 2) 1 (omega arith)

high_bits : (c : Bool) (b n : ℕ) → n ≡ cond c 1 0 + 2 * b → n / 2 ≡ b
high_bits true b n e = omega arith
high_bits false b n e = omega arith

flags_from : (q : ℕ → Bool) (n k : ℕ) (gs : List ℕ) → Counts k gs → n / 2 ^ k ≡ bits_of q gs → AllByRecursion (λ g. flag n g ≡ q g) gs
flags_from q n k [] c e = tt
flags_from q n k (g ∷ gs) c e = (
  rw c.0 (low_bit (q k) (bits_of q gs) (n / 2 ^ k) (rw c.0 at e)),
  flags_from q n (suc k) gs c.1 (halve n k ∙ high_bits (q g) (bits_of q gs) (n / 2 ^ k) e),
)

bits_from : (q : ℕ → Bool) (n k : ℕ) (gs : List ℕ) → Counts k gs → AllByRecursion (λ g. flag n g ≡ q g) gs → n / 2 ^ k < 2 ^ length gs → bits_of q gs ≡ n / 2 ^ k
bits_from q n k [] c a h = omega arith
bits_from q n k (g ∷ gs) c a h =
    let rest : bits_of q gs ≡ n / 2 ^ suc k = bits_from q n (suc k) gs c.1 a.1 (rw (halve n k) (omega (arith, pow-suc 2 (length gs)))) in
    let first : cond (q g) 1 0 ≡ n / 2 ^ k % 2 =
    ap (λ b. cond b 1 0) (sym a.0) ∙ (ap (λ x. cond (flag n x) 1 0) c.0 ∙ bit_value (n / 2 ^ k)) in
    omega (arith, rest, first, halve n k)

-- the bits of the digits that pass
pub flags_of_bits : (q : ℕ → Bool) → AllByRecursion (λ g. flag (bits_of q sixteen) g ≡ q g) sixteen
flags_of_bits q = flags_from q (bits_of q sixteen) 0 sixteen sixteen_counts (omega arith)

pub digits_of_bits : (q : ℕ → Bool) → digits_in (bits_of q sixteen) ≡ filter q sixteen
digits_of_bits q = filter_like (flag (bits_of q sixteen)) q sixteen (flags_of_bits q)

pub bits_of_flags : (q : ℕ → Bool) (n : ℕ) → AllByRecursion (λ g. flag n g ≡ q g) sixteen → n < 256 ^ 2 → bits_of q sixteen ≡ n
bits_of_flags q n a h = bits_from q n 0 sixteen sixteen_counts a (rw sixteen_length (omega arith)) ∙ omega arith

bit_below : (c : Bool) (b n : ℕ) → b < n → cond c 1 0 + 2 * b < n * 2
bit_below true b n h = omega arith
bit_below false b n h = omega arith

bits_below : (q : ℕ → Bool) (gs : List ℕ) → bits_of q gs < 2 ^ length gs
bits_below q [] = omega arith
bits_below q (g ∷ gs) = rw (pow-suc 2 (length gs)) (bit_below (q g) (bits_of q gs) (2 ^ length gs) (bits_below q gs))

pub bits_fit : (q : ℕ → Bool) → bits_of q sixteen < 256 ^ 2
bits_fit q = rw sixteen_length at (bits_below q sixteen)

-- bits that are nowhere both set
flag_and : (a b g : ℕ) → bit_and a b / 2 ^ g % 2 ≡ bit_and (a / 2 ^ g % 2) (b / 2 ^ g % 2)
flag_and a b g = ap (λ x. x % 2) (and_shr a b g) ∙ and_mod (a / 2 ^ g) (b / 2 ^ g) 1

pub flags_apart : (a b g : ℕ) → bit_and a b ≡ 0 → flag a g ≡ true → flag b g ≡ false
flags_apart a b g e fa = go (flag b g) refl
  where
    go : (c : Bool) → flag b g ≡ c → c ≡ false
    go false fb = refl
    go true fb =
        let one : bit_and a b / 2 ^ g % 2 ≡ 1 = flag_and a b g ∙ (rw (eqb-true _ _ fa, eqb-true _ _ fb)) in
        let none : 0 / 2 ^ g % 2 ≡ 1 = rw e at one in
        absurd (omega arith)

bit_apart : (a b g : ℕ) (x y : Bool) → (x ≡ true → y ≡ false) → flag a g ≡ x → flag b g ≡ y → flag (bit_and a b) g ≡ false
bit_apart a b g true y h fa fb = ne_eqb _ 1 (λ e. eqb-false _ 1 (fb ∙ h refl)
    (omega (arith, flag_and a b g, and_le_r (a / 2 ^ g % 2) (b / 2 ^ g % 2))))
bit_apart a b g false y h fa fb = ne_eqb _ 1 (λ e. eqb-false _ 1 fa
    (omega (arith, flag_and a b g, and_le_l (a / 2 ^ g % 2) (b / 2 ^ g % 2))))

no_bits : (gs : List ℕ) → bits_of (λ g. false) gs ≡ 0
no_bits [] = refl
no_bits (g ∷ gs) = omega (arith, no_bits gs)

pub apart_flags : (p q : ℕ → Bool) → ((g : ℕ) → p g ≡ true → q g ≡ false) → bit_and (bits_of p sixteen) (bits_of q sixteen) ≡ 0
apart_flags p q h =
    sym (bits_of_flags (λ g. false) (bit_and (bits_of p sixteen) (bits_of q sixteen))
    (all_both (λ g. flag (bits_of p sixteen) g ≡ p g) (λ g. flag (bits_of q sixteen) g ≡ q g) _
    (λ g a b. bit_apart (bits_of p sixteen) (bits_of q sixteen) g (p g) (q g) (h g) a b) sixteen (flags_of_bits p) (flags_of_bits q))
    (omega (arith, and_le_l (bits_of p sixteen) (bits_of q sixteen), bits_fit p)))
    ∙ no_bits sixteen

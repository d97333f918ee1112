-- The digits of a map whose bits are set: one after another, and how many. Assumes nothing.
use Rattle.std.proofs.Common.{◌≡◌, ℕ, zero, suc, ◌+◌, ◌-◌, ◌/◌, ◌%◌, ◌^◌, ◌<◌, true, false, cond, eqb, List, [], ◌∷◌, length, refl, ap, ◌∙◌, subst, arith}
use lib.Count.{ones, ones_step}
use Rattle.std.specs.List.{range_with_len}
use Rattle.std.proofs.lemmas.Nat.{shr-shr}
use Rattle.kinds.specs.declared.refusal.Refusal.{Refusal}
use Rattle.model.specs.Tries.{filter, sixteen}
use Rattle.model.specs.Reading.{Read, got, then, each, digits_in}
use Rattle.model.proofs.Images.Bits.{flag}
use Rattle.image_reader.specs.Cursors.{Cursor}
use Rattle.image_reader.specs.Readings.{ReadingReaches, ReadingFaults}
use Rattle.image_reader.proofs.Readings.{faults_after, reaches_after, then_reaches, then_faults}

-- the digits from i on whose bits are set
unfoldable pub still_in : ℕ → ℕ → List ℕ
still_in map i = filter (flag map) (range_with_len i (16 - i))

pub all_still : (map : ℕ) → digits_in map ≡ still_in map 0
unfolding sixteen still_in
all_still map = refl

one_more : (i : ℕ) → i < 16 → range_with_len i (16 - i) ≡ i ∷ range_with_len (i + 1) (16 - (i + 1))
one_more i h = ap (range_with_len i) (let e : 16 - i ≡ suc (16 - (i + 1)) = omega arith in e)

pub still_here : (map i : ℕ) → i < 16 → flag map i ≡ true →
    still_in map i ≡ i ∷ still_in map (i + 1)
unfolding still_in
still_here map i h e = rw (one_more i h, e)

pub not_here : (map i : ℕ) → i < 16 → flag map i ≡ false → still_in map i ≡ still_in map (i + 1)
unfolding still_in
not_here map i h e = rw (one_more i h, e)

pub none_still : (map i : ℕ) → i ≡ 16 → still_in map i ≡ []
unfolding still_in
none_still map i e = rw e refl

-- ---- how many

one_or_none : (b i : ℕ) (rest : List ℕ) → b < 2 →
    b + length rest ≡ length (cond (eqb b 1) (i ∷ rest) rest)
one_or_none zero i rest h = omega arith
one_or_none (suc zero) i rest h = omega arith
one_or_none (suc (suc b)) i rest h = absurd (omega arith)

ones_from : (m : ℕ) → m < 65536 → (k i : ℕ) → i + k ≡ 16 →
    ones (m / 2 ^ i) ≡ length (filter (flag m) (range_with_len i k))
unfolding ones
ones_from m h zero i e =
    let at_end : i ≡ 16 = omega arith in
    let none : m / 2 ^ 16 ≡ 0 = omega arith in
    ap (λ n. ones (m / 2 ^ n)) at_end ∙ ap ones none
ones_from m h (suc k) i e =
    ones_step (m / 2 ^ i)
    ∙ (ap (λ n. (m / 2 ^ i) % 2 + ones n) (shr-shr m i 1)
    ∙ (ap (λ n. (m / 2 ^ i) % 2 + n) (ones_from m h k (i + 1) (omega arith))
    ∙ one_or_none ((m / 2 ^ i) % 2) i (filter (flag m) (range_with_len (i + 1) k)) (omega arith)))

-- as many as `count_ones` answers
pub ones_digits : (m : ℕ) → m < 65536 → ones m ≡ length (digits_in m)
unfolding sixteen
ones_digits m h = ap ones (let e : m ≡ m / 1 = omega arith in e) ∙ ones_from m h 16 0 refl

-- ---- a reading for each of them

-- the reading `whole` from r has come to s with n settings, and goes on with the digits from i on,
-- of which so many are due
pub record DigitsGoing (f : ℕ → ℕ → List ℕ → Read) (whole : ℕ → List ℕ → Read) (map : ℕ)
    (r s : Cursor) (n i due : ℕ) : Type 0 where
  pub still : due ≡ length (still_in map i)
  pub reaches : ReadingReaches whole (each f (still_in map i)) r s n

module _ (f : ℕ → ℕ → List ℕ → Read) (whole : ℕ → List ℕ → Read) (map : ℕ) (r s : Cursor)
    (n : ℕ) where
  -- it goes on with some digits
  abbrev With : List ℕ → Type 0
  With gs = ReadingReaches whole (each f gs) r s n

  pub digits_start : (due : ℕ) → map < 65536 → due ≡ ones map → With (digits_in map) →
      DigitsGoing f whole map r s n 0 due
  digits_start due fits e o = record {
    still = e ∙ (ones_digits map fits ∙ ap length (all_still map));
    reaches = subst With (all_still map) o;
  }

  module _ (i due : ℕ) (o : DigitsGoing f whole map r s n i due) where
    pub none_due : i ≡ 16 → due ≡ 0
    none_due e = o.still ∙ ap length (none_still map i e)

    pub digits_end : i ≡ 16 → ReadingReaches whole (got []) r s n
    digits_end e = subst With (none_still map i e) o.reaches

    module _ (h : i < 16) where
      pub digit_passed : flag map i ≡ false → DigitsGoing f whole map r s n (i + 1) due
      digit_passed e = record {
        still = o.still ∙ ap length (not_here map i h e);
        reaches = subst With (not_here map i h e) o.reaches;
      }

      module _ (set : flag map i ≡ true) where
        -- the reading at the digit, and then those at the others
        abbrev others : ℕ → List ℕ → Read
        others = each f (still_in map (i + 1))

        here : ReadingReaches whole (λ at bs. then (f i at bs) others) r s n
        here = subst With (still_here map i h set) o.reaches

        counted : due ≡ suc (length (still_in map (i + 1)))
        counted = o.still ∙ ap length (still_here map i h set)

        pub some_due : 0 < due
        some_due = omega (arith, counted)

        pub digit_reaches : (t : Cursor) (m : ℕ) → ReadingReaches (f i) (got []) s t m →
            DigitsGoing f whole map r t (n + m) (i + 1) (due - 1)
        digit_reaches t m w = record {
          still = omega (arith, counted);
          reaches = reaches_after whole r s n _ here others t m (then_reaches (f i) others s t m w);
        }

        pub digit_faults : (x : Refusal) → ReadingFaults (f i) s x → ReadingFaults whole r x
        digit_faults x w = faults_after whole r s n _ here x (then_faults (f i) others s x w)

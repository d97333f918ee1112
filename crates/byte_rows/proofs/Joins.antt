-- The joins of rows are joins: closed, associative, commutative, idempotent. Assumes nothing.
use Rattle.std.proofs.Common.{◌≡◌, ℕ, zero, suc, ◌+◌, ◌*◌, ◌/◌, ◌%◌, ◌^◌, ◌<◌, max, Bool, true, false, cond, ◌&&◌, ◌||◌, eqb, ltb, List, ◌++◌, take, drop, sym, refl, ap, ◌∙◌, ap₂, arith, length-drop, take-append-drop, length-take, w16, to_z}
use lib.Bits.{bit_or, or_step, or_comm, or_self, or_lt}
use lib.Signed.{lt_z}
use Rattle.std.proofs.lemmas.Int.{ints}
use Rattle.std.proofs.lemmas.Bool.{and_from, eq-eqb}
use Rattle.std.proofs.lemmas.Bool.Decides.{nat_tests}
use Rattle.byte_rows.specs.Rows.{row_of, in_bytes, number}
use Rattle.byte_rows.specs.Joins.{larger, either_flags, stamp, gives_way, later}
use Rattle.byte_rows.proofs.Numbers.{byte_row_take, byte_row_drop, number_one, number_below, in_bytes_number, in_bytes_fills, row_number, row_parts}

-- the one of higher rank, the first where neither is higher
module _ (rank : List ℕ → ℕ) where
  abbrev by : List ℕ → List ℕ → List ℕ
  by a b = cond (ltb (rank a) (rank b)) b a

  by_assoc : (a b c : List ℕ) → by (by a b) c ≡ by a (by b c)
  by_assoc a b c = grind (arith, nat_tests)

  by_comm : (a b : List ℕ) → (rank a ≡ rank b → a ≡ b) → by a b ≡ by b a
  by_comm a b one = grind (arith, nat_tests)

  by_self : (a : List ℕ) → by a a ≡ a
  by_self a = grind (arith, nat_tests)

-- one of two
pick : (t : Bool) (P : List ℕ → Bool) (a b : List ℕ) → P a ≡ true → P b ≡ true → P (cond t b a) ≡ true
pick true P a b ha hb = hb
pick false P a b ha hb = ha

-- ---- the larger number

pub larger_reads : (w : ℕ) (a b : List ℕ) → row_of w a ≡ true → row_of w b ≡ true → row_of w (larger a b) ≡ true
larger_reads w a b = pick (ltb (number a) (number b)) (row_of w) a b

pub larger_assoc : (a b c : List ℕ) → larger (larger a b) c ≡ larger a (larger b c)
larger_assoc = by_assoc number

pub larger_comm : (w : ℕ) (a b : List ℕ) → row_of w a ≡ true → row_of w b ≡ true → larger a b ≡ larger b a
larger_comm w a b ra rb = by_comm number a b (number_one w a b ra rb)

pub larger_self : (a : List ℕ) → larger a a ≡ a
larger_self = by_self number

-- ---- the flags of either

-- associativity below 2 ^ k, a bit at a time
or_assoc_below : (k a b c : ℕ) → a < 2 ^ k → b < 2 ^ k → c < 2 ^ k → bit_or (bit_or a b) c ≡ bit_or a (bit_or b c)
or_assoc_below zero a b c ha hb hc =
    let ea : a ≡ 0 = omega arith in
    let eb : b ≡ 0 = omega arith in
    let ec : c ≡ 0 = omega arith in
    rw (ea, eb, ec) refl
or_assoc_below (suc k) a b c ha hb hc =
    let half : (n : ℕ) → n < 2 ^ suc k → n / 2 < 2 ^ k = λ n h. omega arith in
    let ih = or_assoc_below k (a / 2) (b / 2) (c / 2) (half a ha) (half b hb) (half c hc) in
    let ab = or_step a b in
    let bc = or_step b c in
    let abh : bit_or a b / 2 ≡ bit_or (a / 2) (b / 2) = omega arith in
    let bch : bit_or b c / 2 ≡ bit_or (b / 2) (c / 2) = omega arith in
    let left : bit_or (bit_or a b) c ≡ bit_or (bit_or (a / 2) (b / 2)) (c / 2) * 2 + max (bit_or a b % 2) (c % 2) =
    or_step (bit_or a b) c ∙ ap (λ n. bit_or n (c / 2) * 2 + max (bit_or a b % 2) (c % 2)) abh in
    let right : bit_or a (bit_or b c) ≡ bit_or (a / 2) (bit_or (b / 2) (c / 2)) * 2 + max (a % 2) (bit_or b c % 2) =
    or_step a (bit_or b c) ∙ ap (λ n. bit_or (a / 2) n * 2 + max (a % 2) (bit_or b c % 2)) bch in
    omega arith

module _ (a b : List ℕ) (ra : row_of 4 a ≡ true) (rb : row_of 4 b ≡ true) where
  -- the number of the flags of either
  number_either : number (either_flags 4 a b) ≡ bit_or (number a) (number b)
  number_either = in_bytes_number 4 _ (or_lt 32 (number a) (number b) (number_below 4 a ra) (number_below 4 b rb))

  pub either_comm : either_flags 4 a b ≡ either_flags 4 b a
  either_comm = ap (in_bytes 4) (or_comm (number a) (number b))

pub either_reads : (a b : List ℕ) → row_of 4 a ≡ true → row_of 4 b ≡ true → row_of 4 (either_flags 4 a b) ≡ true
either_reads a b _ _ = in_bytes_fills 4 (bit_or (number a) (number b))

pub either_assoc : (a b c : List ℕ) → row_of 4 a ≡ true → row_of 4 b ≡ true → row_of 4 c ≡ true → either_flags 4 (either_flags 4 a b) c ≡ either_flags 4 a (either_flags 4 b c)
either_assoc a b c ra rb rc =
    ap (λ n. in_bytes 4 (bit_or n (number c))) (number_either a b ra rb)
    ∙ ap (in_bytes 4) (or_assoc_below 32 (number a) (number b) (number c) (number_below 4 a ra) (number_below 4 b rb) (number_below 4 c rc))
    ∙ sym (ap (λ n. in_bytes 4 (bit_or (number a) n)) (number_either b c rb rc))

pub either_self : (a : List ℕ) → row_of 4 a ≡ true → either_flags 4 a a ≡ a
either_self a ra = ap (in_bytes 4) (or_self (number a)) ∙ row_number 4 a ra

-- ---- the later of two stamped offsets

-- an order on offsets as one on numbers
signed_order : (m n : ℕ) → m < 65536 → n < 65536 → lt_z (to_z w16 m) (to_z w16 n) ≡ ltb ((m + 32768) % 65536) ((n + 32768) % 65536)
signed_order m n hm hn = grind (arith, nat_tests, ints)

abbrev rank : List ℕ → ℕ
rank a = stamp a * 65536 + (number (drop 4 a) + 32768) % 65536

module _ (a : List ℕ) (ra : row_of 6 a ≡ true) where
  stamp_row : row_of 4 (take 4 a) ≡ true
  stamp_row = let p = row_parts 6 a ra in and_from _ _ (eq-eqb _ _ (rw (length-take, p.0) refl)) (byte_row_take 4 a p.1)

  offset_row : row_of 2 (drop 4 a) ≡ true
  offset_row = let p = row_parts 6 a ra in and_from _ _ (eq-eqb _ _ (rw (length-drop, p.0) refl)) (byte_row_drop 4 a p.1)

  offset_below : number (drop 4 a) < 65536
  offset_below = number_below 2 (drop 4 a) offset_row

module _ (a b : List ℕ) (ra : row_of 6 a ≡ true) (rb : row_of 6 b ≡ true) where
  way_by_rank : gives_way a b ≡ ltb (rank a) (rank b)
  way_by_rank =
      let oa = offset_below a ra in
      let ob = offset_below b rb in
      ap (λ t. ltb (stamp a) (stamp b) || (eqb (stamp a) (stamp b) && t)) (signed_order _ _ oa ob)
      ∙ by_digits (stamp a) (stamp b) ((number (drop 4 a) + 32768) % 65536) ((number (drop 4 b) + 32768) % 65536) (omega arith) (omega arith)
    where
      by_digits : (s t x y : ℕ) → x < 65536 → y < 65536 → (ltb s t || (eqb s t && ltb x y)) ≡ ltb (s * 65536 + x) (t * 65536 + y)
      by_digits s t x y hx hy = grind (arith, nat_tests)

  later_by_rank : later a b ≡ by rank a b
  later_by_rank = ap (λ t. cond t b a) way_by_rank

  rank_one : rank a ≡ rank b → a ≡ b
  rank_one e =
      let oa = offset_below a ra in
      let ob = offset_below b rb in
      let stamps : stamp a ≡ stamp b = omega arith in
      let offsets : number (drop 4 a) ≡ number (drop 4 b) = omega arith in
      sym (take-append-drop 4 a)
      ∙ ap₂ ◌++◌ (number_one 4 _ _ (stamp_row a ra) (stamp_row b rb) stamps) (number_one 2 _ _ (offset_row a ra) (offset_row b rb) offsets)
      ∙ take-append-drop 4 b

  pub later_reads : row_of 6 (later a b) ≡ true
  later_reads = pick (gives_way a b) (row_of 6) a b ra rb

pub later_assoc : (a b c : List ℕ) → row_of 6 a ≡ true → row_of 6 b ≡ true → row_of 6 c ≡ true → later (later a b) c ≡ later a (later b c)
later_assoc a b c ra rb rc =
    later_by_rank (later a b) c (later_reads a b ra rb) rc
    ∙ ap (λ x. by rank x c) (later_by_rank a b ra rb)
    ∙ by_assoc rank a b c
    ∙ sym (ap (by rank a) (later_by_rank b c rb rc))
    ∙ sym (later_by_rank a (later b c) ra (later_reads b c rb rc))

pub later_comm : (a b : List ℕ) → row_of 6 a ≡ true → row_of 6 b ≡ true → later a b ≡ later b a
later_comm a b ra rb = later_by_rank a b ra rb ∙ by_comm rank a b (rank_one a b ra rb) ∙ sym (later_by_rank b a rb ra)

pub later_self : (a : List ℕ) → row_of 6 a ≡ true → later a a ≡ a
later_self a ra = later_by_rank a a ra ra ∙ by_self rank a

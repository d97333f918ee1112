-- The bytes of a stamp and an offset. Assumes nothing.
use Rattle.std.proofs.Common.{◌≡◌, ℕ, ◌+◌, ◌*◌, ◌^◌, ◌<◌, true, List, [], ◌∷◌, ◌++◌, length, get_or, take, drop, ℤ, pos, negsuc, sym, refl, ap, ◌∙◌, ap₂, arith, w8, w16, Fits, to_z, of_z}
use lib.Signed.{mag}
use Rattle.std.proofs.lemmas.Int.{to_z-of_z, of_z-to_z}
use Rattle.std.proofs.lemmas.Bool.{and_from, eq-eqb}
use Rattle.byte_rows.specs.Rows.{row_of, in_bytes}
use Rattle.byte_rows.proofs.Numbers.{in_bytes_one, slice_bytes, read_bytes, byte_row_take, byte_row_drop, number_2, number_4}
use Rattle.byte_rows.specs.Joins.{stamped}
use Rattle.byte_rows.proofs.Ones.{one_made}

bits_fit : (z : ℤ) → mag z < 2 ^ 15 → of_z w16 z < 256 ^ 2
bits_fit (pos n) h = omega arith
bits_fit (negsuc n) h = omega arith

back : (z : ℤ) → mag z < 2 ^ 15 → to_z w16 (of_z w16 z) ≡ z
back z h = to_z-of_z w16 z (record { sfits = h })

pub stamps_one : (s t : ℕ) (x y : ℤ) → s < 2 ^ 32 → t < 2 ^ 32 → stamped s x ≡ stamped t y → s ≡ t
stamps_one s t x y hs ht e = in_bytes_one 4 s t hs ht (ap (take 4) e)

pub offsets_one : (s t : ℕ) (x y : ℤ) → mag x < 2 ^ 15 → mag y < 2 ^ 15 → stamped s x ≡ stamped t y → x ≡ y
offsets_one s t x y hx hy e =
    let bits : of_z w16 x ≡ of_z w16 y = in_bytes_one 2 (of_z w16 x) (of_z w16 y) (bits_fit x hx) (bits_fit y hy) (ap (drop 4) e) in
    sym (back x hx) ∙ ap (to_z w16) bits ∙ back y hy

-- what is made of a stamp and an offset is one where their bytes are
pub stamped_made : {X : Type 0} (make : (s : ℕ) (o : ℤ) → s < 2 ^ 32 → mag o < 2 ^ 15 → X) (s t : ℕ) (x y : ℤ) (hs : s < 2 ^ 32) (ht : t < 2 ^ 32) (hx : mag x < 2 ^ 15) (hy : mag y < 2 ^ 15) →
    stamped s x ≡ stamped t y → make s x hs hx ≡ make t y ht hy
stamped_made make s t x y hs ht hx hy e =
    one_made (λ n. n) (λ n h. make n x h hx) s t hs ht (stamps_one s t x y hs ht e) ∙ one_made mag (λ o h. make t o ht h) x y hx hy (offsets_one s t x y hx hy e)

-- six bytes that were read as a stamp and an offset
pub reads_stamped : (l : List ℕ) (s : ℕ) (z : ℤ) → length l ≡ 6 → ((i : ℕ) → Fits w8 (get_or l i 0)) → mag z < 2 ^ 15 →
    s ≡ get_or l 0 0 * 16777216 + get_or l 1 0 * 65536 + get_or l 2 0 * 256 + get_or l 3 0 → z ≡ to_z w16 (get_or l 4 0 * 256 + get_or l 5 0) →
    (row_of 6 l ≡ true) × (stamped s (to_z w16 (of_z w16 z)) ≡ l)
reads_stamped [] s z e f fits hs hz = absurd (omega arith)
reads_stamped (a ∷ []) s z e f fits hs hz = absurd (omega arith)
reads_stamped (a ∷ b ∷ []) s z e f fits hs hz = absurd (omega arith)
reads_stamped (a ∷ b ∷ c ∷ []) s z e f fits hs hz = absurd (omega arith)
reads_stamped (a ∷ b ∷ c ∷ d ∷ l) s z e f fits hs hz =
    let two : length l ≡ 2 = omega arith in
    let row = slice_bytes (a ∷ b ∷ c ∷ d ∷ l) f in
    let low : get_or l 0 0 < 256 = (f 4).fits in
    let high : get_or l 1 0 < 256 = (f 5).fits in
    let bits : of_z w16 z ≡ get_or l 0 0 * 256 + get_or l 1 0 = ap (of_z w16) hz ∙ of_z-to_z w16 _ (omega arith) in
    let front = read_bytes 4 (a ∷ b ∷ c ∷ d ∷ []) s refl (byte_row_take 4 (a ∷ b ∷ c ∷ d ∷ l) row) (hs ∙ sym (number_4 (a ∷ b ∷ c ∷ d ∷ []) refl)) in
    let rest = read_bytes 2 l (of_z w16 z) two (byte_row_drop 4 (a ∷ b ∷ c ∷ d ∷ l) row) (bits ∙ sym (number_2 l two)) in
    (and_from _ _ (eq-eqb _ _ e) row, ap₂ ◌++◌ front.1 (ap (λ y. in_bytes 2 (of_z w16 y)) (back z fits) ∙ rest.1))

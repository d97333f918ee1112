-- How often a number stands in a row. Assumes nothing.
use Rattle.std.proofs.Common.{◌≡◌, ℕ, zero, suc, ◌+◌, ◌<◌, ◌≤◌, cond, eqb, List, [], ◌∷◌, ◌++◌, length, get_or, take, drop, sym, refl, ap, ◌∙◌, inl, inr, append_assoc, arith}
use Rattle.std.specs.List.{range_with_len}
use Rattle.std.proofs.lemmas.List.{take-append-drop, drop_more}
use Rattle.std.proofs.lemmas.Bool.{cases_eq, eq-eqb, ne_eqb, cond-true, cond-false}
use Rattle.tables.specs.Chains.{occ}

-- 1 where the numbers are the same
unfoldable pub hit : ℕ → ℕ → ℕ
hit i j = cond (eqb i j) 1 0

pub hit_same : (i j : ℕ) → i ≡ j → hit i j ≡ 1
unfolding hit
hit_same i j e = cond-true (eqb i j) 1 0 (eq-eqb i j e)

pub hit_other : (i j : ℕ) → (i ≡ j → ⊥) → hit i j ≡ 0
unfolding hit
hit_other i j n = cond-false (eqb i j) 1 0 (ne_eqb i j n)

pub hit_le : (i j : ℕ) → hit i j ≤ 1
hit_le i j = elim (cases_eq i j) [ inl e ↦ omega (arith, hit_same i j e) | inr n ↦ omega (arith, hit_other i j n) ]

pub occ_nil : (i : ℕ) → occ i [] ≡ 0
unfolding occ
occ_nil i = refl

pub occ_cons : (i x : ℕ) (xs : List ℕ) → occ i (x ∷ xs) ≡ hit i x + occ i xs
unfolding occ hit
occ_cons i x xs = refl

pub occ_head : (x : ℕ) (xs : List ℕ) → 0 < occ x (x ∷ xs)
occ_head x xs = omega (arith, occ_cons x x xs, hit_same x x refl)

pub occ_later : (i x : ℕ) (xs : List ℕ) → 0 < occ i xs → 0 < occ i (x ∷ xs)
occ_later i x xs p = omega (arith, occ_cons i x xs)

pub occ_rest : (i x : ℕ) (xs : List ℕ) → 0 < occ i (x ∷ xs) → (i ≡ x → ⊥) → 0 < occ i xs
occ_rest i x xs p n = omega (arith, occ_cons i x xs, hit_other i x n)

pub occ_append : (i : ℕ) (xs ys : List ℕ) → occ i (xs ++ ys) ≡ occ i xs + occ i ys
unfolding occ
occ_append i [] ys = omega arith
occ_append i (x ∷ xs) ys = omega (arith, occ_append i xs ys)

pub occ_le_length : (i : ℕ) (xs : List ℕ) → occ i xs ≤ length xs
occ_le_length i [] = omega (arith, occ_nil i)
occ_le_length i (x ∷ xs) = omega (arith, occ_cons i x xs, hit_le i x, occ_le_length i xs)

-- what stands at a place of a row, and the row around it
pub occ_at : (l : List ℕ) (k : ℕ) → k < length l → 0 < occ (get_or l k 0) l
occ_at [] k p = absurd (omega arith)
occ_at (x ∷ xs) zero p = occ_head x xs
occ_at (x ∷ xs) (suc k) p = omega (arith, occ_cons (get_or xs k 0) x xs, occ_at xs k (omega arith))

pub split_at : (l : List ℕ) (k : ℕ) (R : List ℕ) → k < length l → l ++ R ≡ take k l ++ (get_or l k 0 ∷ (drop (k + 1) l ++ R))
split_at l k R p =
    ap (λ (x : List ℕ). x ++ R) (sym (take-append-drop k l)) ∙ append_assoc (take k l) (drop k l) R
    ∙ ap (λ (x : List ℕ). take k l ++ (x ++ R)) (drop_more l k 0 p)

-- among a, a + 1, ..
pub occ_below : (a n i : ℕ) → i < a → occ i (range_with_len a n) ≡ 0
unfolding occ
occ_below a zero i p = refl
occ_below a (suc n) i p = omega (arith, occ_cons i a (range_with_len (a + 1) n), hit_other i a (λ e. omega arith), occ_below (a + 1) n i (omega arith))

pub occ_counting : (a n i : ℕ) → (occ i (range_with_len a n) ≤ 1) × ((0 < occ i (range_with_len a n) → i < a + n) × (a ≤ i → i < a + n → 0 < occ i (range_with_len a n)))
unfolding occ
occ_counting a zero i = (omega arith, (λ p. omega arith, λ p q. omega arith))
occ_counting a (suc n) i =
    let r = occ_counting (a + 1) n i in
    elim (cases_eq i a) [
      | inl e ↦ let z : occ i (range_with_len (a + 1) n) ≡ 0 = occ_below (a + 1) n i (omega arith) in
          (omega (arith, occ_cons i a (range_with_len (a + 1) n), hit_same i a e), (λ p. omega arith, λ p q. omega (arith, occ_cons i a (range_with_len (a + 1) n), hit_same i a e)))
      | inr m ↦ let o : occ i (range_with_len a (suc n)) ≡ occ i (range_with_len (a + 1) n) = omega (arith, occ_cons i a (range_with_len (a + 1) n), hit_other i a m) in
          (omega (arith, r.0), (λ p. omega (arith, r.1.0 (omega arith)), λ p q. omega (arith, r.1.1 (omega arith) (omega arith))))
    ]

-- ---- a row of different numbers below n has no more than n

unfoldable total : (ℕ → ℕ) → ℕ → ℕ
total f zero = 0
total f (suc n) = total f n + f n

total_le : (f : ℕ → ℕ) (n : ℕ) → ((i : ℕ) → f i ≤ 1) → total f n ≤ n
unfolding total
total_le f zero h = omega arith
total_le f (suc n) h = omega (arith, total_le f n h, h n)

total_more : (x n : ℕ) (xs : List ℕ) → total (λ i. occ i xs) n ≤ total (λ i. occ i (x ∷ xs)) n
unfolding total
total_more x zero xs = omega arith
total_more x (suc n) xs = omega (arith, total_more x n xs, occ_cons n x xs)

total_hit : (x n : ℕ) (xs : List ℕ) → x < n → total (λ i. occ i xs) n + 1 ≤ total (λ i. occ i (x ∷ xs)) n
unfolding total
total_hit x zero xs p = absurd (omega arith)
total_hit x (suc n) xs p =
    elim (cases_eq x n) [
      | inl e ↦ omega (arith, total_more x n xs, occ_cons n x xs, hit_same n x (sym e))
      | inr m ↦ omega (arith, total_hit x n xs (omega arith), occ_cons n x xs)
    ]

length_le_total : (n : ℕ) (l : List ℕ) → ((i : ℕ) → 0 < occ i l → i < n) → length l ≤ total (λ i. occ i l) n
length_le_total n [] h = omega arith
length_le_total n (x ∷ xs) h =
    omega (arith, total_hit x n xs (h x (occ_head x xs)), length_le_total n xs (λ i p. h i (omega (arith, occ_cons i x xs))))

pub length_le_bound : (n : ℕ) (l : List ℕ) → ((i : ℕ) → occ i l ≤ 1) → ((i : ℕ) → 0 < occ i l → i < n) → length l ≤ n
length_le_bound n l once h = omega (arith, length_le_total n l h, total_le (λ i. occ i l) n once)

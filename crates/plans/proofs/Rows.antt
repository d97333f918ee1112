-- Tests and sums over a row of numbers, and over the sixteen digits. Assumes nothing.
use Rattle.std.proofs.Common.{◌≡◌, ℕ, zero, suc, ◌+◌, ◌*◌, ◌<◌, ◌≤◌, Bool, true, false, cond, ◌&&◌, ◌||◌, eqb, List, [], ◌∷◌, ◌++◌, sym, refl, ap, ◌∙◌, ap₂, inl, inr, mul-add, arith}
use Rattle.std.specs.List.{range_with_len}
use Rattle.std.proofs.lemmas.Bool.{cases_eq, and_parts, and_from, or_cases, or_left, or_right, or_from, eq-eqb, ne_eqb}
use Rattle.model.specs.Tries.{sixteen}
use Rattle.plans.specs.Plans.{every, some, total}

pub sixteen_is : sixteen ≡ range_with_len 0 16
unfolding sixteen
sixteen_is = refl

-- a row that counts on
pub counting_more : (n a : ℕ) → range_with_len a (suc n) ≡ range_with_len a n ++ ((a + n) ∷ [])
counting_more zero a = let e : a ≡ a + 0 = omega arith in ap (λ (x : ℕ). x ∷ []) e
counting_more (suc n) a =
    let e : (a + 1) + n ≡ a + suc n = omega arith in
    ap (λ (l : List ℕ). a ∷ l) (counting_more n (a + 1) ∙ ap (λ (x : ℕ). range_with_len (a + 1) n ++ (x ∷ [])) e)

-- ---- a test at every number

pub every_from : (q : ℕ → Bool) (l : List ℕ) → ((g : ℕ) → q g ≡ true) → every q l ≡ true
every_from q [] h = refl
every_from q (x ∷ l) h = and_from (q x) (every q l) (h x) (every_from q l h)

every_counted : (q : ℕ → Bool) (n a g : ℕ) → every q (range_with_len a n) ≡ true → a ≤ g → g < a + n → q g ≡ true
every_counted q zero a g e lo hi = absurd (omega arith)
every_counted q (suc n) a g e lo hi =
    let h = and_parts (q a) (every q (range_with_len (a + 1) n)) e in
    elim (cases_eq a g) [
      | inl z ↦ ap q (sym z) ∙ h.0
      | inr z ↦ every_counted q n (a + 1) g h.1 (omega arith) (omega arith)
    ]

pub every_at : (q : ℕ → Bool) (g : ℕ) → every q sixteen ≡ true → g < 16 → q g ≡ true
every_at q g e h = every_counted q 16 0 g (ap (every q) (sym sixteen_is) ∙ e) (omega arith) (omega arith)

pub every_more : (q : ℕ → Bool) (l : List ℕ) (x : ℕ) → every q (l ++ (x ∷ [])) ≡ (every q l && q x)
every_more q [] x = go (q x)
  where
    go : (b : Bool) → (b && true) ≡ b
    go true = refl
    go false = refl
every_more q (y ∷ l) x = go (q y) (every_more q l x)
  where
    go : (b : Bool) → every q (l ++ (x ∷ [])) ≡ (every q l && q x) → (b && every q (l ++ (x ∷ []))) ≡ ((b && every q l) && q x)
    go true i = i
    go false i = refl

-- ---- a test at some number

pub some_same : (q r : ℕ → Bool) (l : List ℕ) → ((g : ℕ) → q g ≡ r g) → some q l ≡ some r l
some_same q r [] h = refl
some_same q r (x ∷ l) h = ap₂ ◌||◌ (h x) (some_same q r l h)

pub some_none : (q : ℕ → Bool) (l : List ℕ) → ((g : ℕ) → q g ≡ false) → some q l ≡ false
some_none q [] h = refl
some_none q (x ∷ l) h = or_from (q x) (some q l) (h x) (some_none q l h)

pub some_one : (q : ℕ → Bool) (l : List ℕ) → some q l ≡ true → (g : ℕ) × (q g ≡ true)
some_one q [] e = let z : ◌≡◌ {A = ℕ} 0 1 = cc in absurd (omega arith)
some_one q (x ∷ l) e = elim (or_cases (q x) (some q l) e) [ inl h ↦ (x, h) | inr h ↦ some_one q l h ]

some_counted : (q : ℕ → Bool) (n a g : ℕ) → q g ≡ true → a ≤ g → g < a + n → some q (range_with_len a n) ≡ true
some_counted q zero a g e lo hi = absurd (omega arith)
some_counted q (suc n) a g e lo hi =
    elim (cases_eq a g) [
      | inl z ↦ or_left (q a) (some q (range_with_len (a + 1) n)) (ap q z ∙ e)
      | inr z ↦ or_right (q a) (some q (range_with_len (a + 1) n)) (some_counted q n (a + 1) g e (omega arith) (omega arith))
    ]

pub some_at : (q : ℕ → Bool) (g : ℕ) → q g ≡ true → g < 16 → some q sixteen ≡ true
some_at q g e h = ap (some q) sixteen_is ∙ some_counted q 16 0 g e (omega arith) (omega arith)

pub some_more : (q : ℕ → Bool) (l : List ℕ) (x : ℕ) → some q (l ++ (x ∷ [])) ≡ (some q l || q x)
some_more q [] x = go (q x)
  where
    go : (b : Bool) → (b || false) ≡ b
    go true = refl
    go false = refl
some_more q (y ∷ l) x = go (q y) (some_more q l x)
  where
    go : (b : Bool) → some q (l ++ (x ∷ [])) ≡ (some q l || q x) → (b || some q (l ++ (x ∷ []))) ≡ ((b || some q l) || q x)
    go true i = refl
    go false i = i

-- ---- sums

pub total_same : (f g : ℕ → ℕ) (l : List ℕ) → ((x : ℕ) → f x ≡ g x) → total f l ≡ total g l
total_same f g [] h = refl
total_same f g (x ∷ l) h = ap₂ ◌+◌ (h x) (total_same f g l h)

pub total_plus : (f g : ℕ → ℕ) (l : List ℕ) → total (λ x. f x + g x) l ≡ total f l + total g l
total_plus f g [] = refl
total_plus f g (x ∷ l) = omega (arith, total_plus f g l)

pub total_zero : (f : ℕ → ℕ) (l : List ℕ) → ((g : ℕ) → f g ≡ 0) → total f l ≡ 0
total_zero f [] h = refl
total_zero f (x ∷ l) h = omega (arith, h x, total_zero f l h)

pub total_le : (f g : ℕ → ℕ) (l : List ℕ) → ((x : ℕ) → f x ≤ g x) → total f l ≤ total g l
total_le f g [] h = omega arith
total_le f g (x ∷ l) h = omega (arith, h x, total_le f g l h)

pub total_scale : (k : ℕ) (f : ℕ → ℕ) (l : List ℕ) → total (λ x. k * f x) l ≡ k * total f l
total_scale k f [] = omega arith
total_scale k f (x ∷ l) = ap (λ (z : ℕ). k * f x + z) (total_scale k f l) ∙ sym (mul-add k (f x) (total f l))

pub total_more : (f : ℕ → ℕ) (l : List ℕ) (x : ℕ) → total f (l ++ (x ∷ [])) ≡ total f l + f x
total_more f [] x = omega arith
total_more f (y ∷ l) x = omega (arith, total_more f l x)

-- part of a sum is no more than the sum
pub total_part : (f : ℕ → ℕ) (i n a : ℕ) → i ≤ n → total f (range_with_len a i) ≤ total f (range_with_len a n)
total_part f zero n a l = omega arith
total_part f (suc i) zero a l = absurd (omega arith)
total_part f (suc i) (suc n) a l = omega (arith, total_part f i n (a + 1) (omega arith))

-- one number of a row counts
total_before : (x n a : ℕ) → x < a → total (λ g. cond (eqb x g) 1 0) (range_with_len a n) ≡ 0
total_before x zero a h = refl
total_before x (suc n) a h = let e = ne_eqb x a (λ z. omega arith) in let i = total_before x n (a + 1) (omega arith) in grind arith

total_counted : (x n a : ℕ) → a ≤ x → x < a + n → total (λ g. cond (eqb x g) 1 0) (range_with_len a n) ≡ 1
total_counted x zero a lo hi = absurd (omega arith)
total_counted x (suc n) a lo hi =
    elim (cases_eq x a) [
      | inl z ↦ let e = eq-eqb x a z in let i = total_before x n (a + 1) (omega arith) in grind arith
      | inr z ↦ let e = ne_eqb x a z in let i = total_counted x n (a + 1) (omega arith) (omega arith) in grind arith
    ]

pub total_once : (x : ℕ) → x < 16 → total (λ g. cond (eqb x g) 1 0) sixteen ≡ 1
total_once x h = ap (total (λ g. cond (eqb x g) 1 0)) sixteen_is ∙ total_counted x 16 0 (omega arith) (omega arith)

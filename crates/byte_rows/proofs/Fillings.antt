-- Texts and their filling. Assumes nothing.
use Rattle.std.proofs.Common.{◌≡◌, ℕ, zero, suc, ◌+◌, ◌-◌, ◌^◌, ◌<◌, ◌≤◌, Bool, true, false, not, cond, ◌&&◌, eqb, leb, ltb, List, [], ◌∷◌, ◌++◌, length, get_or, take, drop, replicate, Decides, Some, None, fold, sym, refl, ap, ◌∙◌, ap₂, arith, length-append}
use Rattle.std.specs.List.{position, position_or_len}
use Rattle.std.specs.Option.{unwrap_or}
use Rattle.std.proofs.Math.Numerals.{one-add}
use lib.ListN.{length-replicate}
use Rattle.std.proofs.lemmas.List.{take_all, take-append-drop, drop_at, length-drop, length-take-le, drop-replicate}
use Rattle.std.proofs.lemmas.Bool.{and_parts, and_from, eqb-true, eq-eqb, lt-ltb, leb-true, le-leb, cond-true, cond-false, ne_eqb}
use Rattle.std.proofs.lemmas.Bool.Decides.{nat_tests, same_from_decides}
use Rattle.std.specs.Str.{IsUtf8}
use Rattle.std.proofs.lemmas.Str.{IsUtf8-from_ascii}
use Rattle.byte_rows.specs.Rows.{byte_row, written}
use Rattle.byte_rows.specs.Texts.{printable, is_all_printable, text_of, filled, unfilled, text_row, fnv_step, fnv}
use Rattle.byte_rows.proofs.Orders.{same_decides}

unfilled_zeros : (n : ℕ) → unfilled (replicate n 0) ≡ []
unfilled_zeros zero = refl
unfilled_zeros (suc n) = refl

-- the text before its filling is the text
unfilled_text : (t : List ℕ) (n : ℕ) → is_all_printable t ≡ true → unfilled (t ++ replicate n 0) ≡ t
unfilled_text [] n h = unfilled_zeros n
unfilled_text (b ∷ t) n h =
    let both = and_parts (printable b) _ h in
    let low = leb-true 0x21 b (and_parts (leb 0x21 b) _ both.0).0 in
    cond-false (eqb b 0) _ _ (ne_eqb b 0 (λ e. omega arith)) ∙ ap (λ l. b ∷ l) (unfilled_text t n both.1)

length_filled : (w : ℕ) (t : List ℕ) → length t ≤ w → length (filled w t) ≡ w
length_filled w t h = length-append t _ ∙ ap (λ n. length t + n) (length-replicate (w - length t) 0) ∙ omega arith

zeros_row : (n : ℕ) → byte_row (replicate n 0) ≡ true
zeros_row zero = refl
zeros_row (suc n) = zeros_row n

text_bytes : (t : List ℕ) (n : ℕ) → is_all_printable t ≡ true → byte_row (t ++ replicate n 0) ≡ true
text_bytes [] n h = zeros_row n
text_bytes (b ∷ t) n h =
    let both = and_parts (printable b) _ h in
    let high = leb-true b 0x7E (and_parts (leb 0x21 b) _ both.0).1 in
    and_from _ _ (lt-ltb b 256 (omega arith)) (text_bytes t n both.1)

pub record Text (w : ℕ) (t : List ℕ) : Type 0 where
  pub some : 1 ≤ length t
  pub fits : length t ≤ w
  pub prints : is_all_printable t ≡ true

pub text_parts : (w : ℕ) (t : List ℕ) → text_of w t ≡ true → Text w t
text_parts w t h =
    let one = and_parts (leb 1 (length t)) _ h in
    let two = and_parts (leb (length t) w) _ one.1 in
    record { some = leb-true _ _ one.0; fits = leb-true _ _ two.0; prints = two.1 }

-- a text and its filling are a row of a text
pub filled_row : (w : ℕ) (t : List ℕ) → text_of w t ≡ true → text_row w (filled w t) ≡ true
filled_row w t h =
    let e : unfilled (filled w t) ≡ t = unfilled_text t _ (text_parts w t h).prints in
    and_from _ _ (rw e h) ((same_decides _ _).1 (ap (filled w) (sym e)))

-- the text of a filled text
pub unfilled_filled : (w : ℕ) (t : List ℕ) → text_of w t ≡ true → unfilled (filled w t) ≡ t
unfilled_filled w t h = unfilled_text t _ (text_parts w t h).prints

pub row_parts : (w : ℕ) (bs : List ℕ) → text_row w bs ≡ true → Text w (unfilled bs) × (bs ≡ filled w (unfilled bs))
row_parts w bs h =
    let both = and_parts (text_of w (unfilled bs)) _ h in
    (text_parts w _ both.0, (same_decides _ _).0 both.1)

pub row_length : (w : ℕ) (bs : List ℕ) → text_row w bs ≡ true → length bs ≡ w
row_length w bs h = let p = row_parts w bs h in ap length p.1 ∙ length_filled w _ p.0.fits

pub row_bytes : (w : ℕ) (bs : List ℕ) → text_row w bs ≡ true → byte_row bs ≡ true
row_bytes w bs h = let p = row_parts w bs h in ap byte_row p.1 ∙ text_bytes (unfilled bs) (w - length (unfilled bs)) p.0.prints

pub fnv_fits : (bs : List ℕ) → fnv bs < 2 ^ 32
fnv_fits bs = go bs 0x811C9DC5 (omega arith)
  where
    go : (l : List ℕ) (h : ℕ) → h < 2 ^ 32 → fold fnv_step h l < 2 ^ 32
    go [] h f = f
    go (b ∷ l) h f = go l (fnv_step h b) (omega arith)

-- ---- what the chains over a row find

before_first_zero : (bs : List ℕ) → take (position_or_len (λ b. eqb b 0) bs) bs ≡ unfilled bs
before_first_zero [] = refl
before_first_zero (b ∷ bs) = here (eqb b 0) (before_first_zero bs)
  where
    here : (t : Bool) → take (position_or_len (λ b. eqb b 0) bs) bs ≡ unfilled bs → take (cond (not t) (1 + position_or_len (λ b. eqb b 0) bs) 0) (b ∷ bs) ≡ cond t [] (b ∷ unfilled bs)
    here true rest = refl
    here false rest = ap (λ n. take n (b ∷ bs)) (one-add _) ∙ ap (λ r. b ∷ r) rest

-- the text ends at the first 00, or with the row
pub before_zero : (bs : List ℕ) → take (unwrap_or (position (λ b. eqb b 0) bs) (length bs)) bs ≡ unfilled bs
before_zero bs = within (ltb first (length bs)) refl ∙ before_first_zero bs
  where
    first : ℕ
    first = position_or_len (λ b. eqb b 0) bs

    within : (t : Bool) → ltb first (length bs) ≡ t → take (unwrap_or (cond t (Some first) None) (length bs)) bs ≡ take first bs
    within true e = refl
    within false e = take_all (length bs) bs (omega arith) ∙ sym (take_all first bs (grind (arith, nat_tests)))

-- what is written over a row of 00 is filled
pub written_filled : (w : ℕ) (t : List ℕ) → length t ≤ w → written t (replicate w 0) ≡ filled w t
written_filled w t h =
    let fits : leb (length t) (length (replicate w 0)) ≡ true = rw (length-replicate {A = ℕ} w 0) (le-leb _ _ h) in
    cond-true _ _ _ fits ∙ ap (λ r. t ++ r) (drop-replicate (length t) w 0)

-- what a text row tells
abbrev Told : ℕ → List ℕ → Type 0
Told w bs = (text_of w (unfilled bs) ≡ true) × (bs ≡ filled w (unfilled bs))

text_row_tells : (w : ℕ) (bs : List ℕ) → Decides (text_row w bs) (Told w bs)
text_row_tells w bs = (
  λ h. let both = and_parts (text_of w (unfilled bs)) _ h in (both.0, (same_decides _ _).0 both.1),
  λ h. and_from _ _ h.0 ((same_decides _ _).1 h.1),
)

-- a row is a text and its filling exactly if the n bytes before its first 00 are a text, it has the width, and the rest is 00
pub text_row_is : (w n : ℕ) (bs : List ℕ) (z : Bool) → n ≤ length bs → take n bs ≡ unfilled bs → Decides z (drop n bs ≡ replicate (length (drop n bs)) 0) →
    ((text_of w (take n bs) && eqb (length bs) w) && z) ≡ text_row w bs
text_row_is w n bs z within text zeros = same_from_decides _ _ (there, back) (text_row_tells w bs)
  where
    long : length (unfilled bs) ≡ n
    long = ap length (sym text) ∙ length-take-le n bs within

    there : ((text_of w (take n bs) && eqb (length bs) w) && z) ≡ true → Told w bs
    there h =
        let both = and_parts (text_of w (take n bs) && eqb (length bs) w) z h in
        let front = and_parts (text_of w (take n bs)) _ both.0 in
        let wide : length bs ≡ w = eqb-true _ _ front.1 in
        let rest : length (drop n bs) ≡ w - length (unfilled bs) = length-drop n bs ∙ omega (arith, long) in (
          ap (text_of w) (sym text) ∙ front.0,
          sym (take-append-drop n bs) ∙ ap₂ ◌++◌ text (zeros.0 both.1 ∙ ap (λ m. replicate m 0) rest),
        )

    back : Told w bs → ((text_of w (take n bs) && eqb (length bs) w) && z) ≡ true
    back h =
        let parts = text_parts w (unfilled bs) h.0 in
        let rest : drop n bs ≡ replicate (w - length (unfilled bs)) 0 = ap (drop n) h.1 ∙ drop_at (unfilled bs) _ n long in
        let size : length (drop n bs) ≡ w - length (unfilled bs) = ap length rest ∙ length-replicate {A = ℕ} _ 0 in
        and_from _ _ (and_from _ _ (ap (text_of w) text ∙ h.0) (eq-eqb _ _ (ap length h.1 ∙ length_filled w _ parts.fits)))
        (zeros.1 (rest ∙ ap (λ m. replicate m 0) (sym size)))

-- ---- what a text prints

printable_ascii : (t : List ℕ) → is_all_printable t ≡ true → (i : ℕ) → get_or t i 0 < 128
printable_ascii [] h i = omega arith
printable_ascii (b ∷ t) h zero = let high = leb-true b 0x7E (and_parts (leb 0x21 b) _ (and_parts (printable b) _ h).0).1 in omega arith
printable_ascii (b ∷ t) h (suc i) = printable_ascii t (and_parts (printable b) _ h).1 i

pub text_is_utf8 : (w : ℕ) (bs : List ℕ) → text_row w bs ≡ true → IsUtf8 (unfilled bs)
text_is_utf8 w bs h = IsUtf8-from_ascii (unfilled bs) (printable_ascii (unfilled bs) (row_parts w bs h).0.prints)

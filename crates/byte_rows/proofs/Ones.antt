-- Things that are made of a part and its bound are one where their parts are. Assumes nothing.
use Rattle.std.proofs.Common.{◌≡◌, ℕ, ◌^◌, ◌<◌, Bool, true, List, ap, subst}
use mathlib.Core.Bool.{Bool-set}
use native.Mathlib.Bridge.{le_prop}
use Rattle.byte_rows.specs.Rows.{in_bytes}
use Rattle.byte_rows.proofs.Numbers.{in_bytes_one}

pub one_made : {X Y : Type 0} {b : ℕ} (size : Y → ℕ) (make : (y : Y) → size y < b → X) (y z : Y) (p : size y < b) (q : size z < b) → y ≡ z → make y p ≡ make z q
one_made {Y = Y} {b = b} size make y z p q e = subst (λ (x : Y). (h : size x < b) → make y p ≡ make x h) e (λ h. ap (make y) (le_prop p h)) q

-- what is made of a number that fits w bytes is one where the bytes are
pub number_made : {X : Type 0} (w : ℕ) (make : (n : ℕ) → n < 256 ^ w → X) (m n : ℕ) (p : m < 256 ^ w) (q : n < 256 ^ w) → in_bytes w m ≡ in_bytes w n → make m p ≡ make n q
number_made w make m n p q e = one_made (λ k. k) make m n p q (in_bytes_one w m n p q e)

-- the same of a row and a test that it passes
pub row_made : {X : Type 0} (test : List ℕ → Bool) (make : (r : List ℕ) → test r ≡ true → X) (x y : List ℕ) (p : test x ≡ true) (q : test y ≡ true) → x ≡ y → make x p ≡ make y q
row_made test make x y p q e = subst (λ (r : List ℕ). (h : test r ≡ true) → make x p ≡ make r h) e (λ h. ap (make x) (Bool-set _ _ p h)) q

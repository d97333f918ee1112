-- Readings one after another, one for each digit: what was read falls to the digits, and spells what was read. Assumes nothing.
use Rattle.std.proofs.Common.{◌≡◌, ℕ, ◌*◌, ◌≤◌, true, false, eqb, List, [], ◌∷◌, ◌++◌, length, sym, refl, ap, ◌∙◌, subst, ap₂, arith}
use Rattle.std.specs.List.{AllByRecursion}
use Rattle.std.proofs.lemmas.Bool.{eqb-false, ne_eqb}
use Rattle.std.proofs.lemmas.List.{append-nil, length-append, append_assoc}
use Rattle.byte_rows.specs.Rows.{byte_row}
use Rattle.model.specs.Maps.{Setting}
use Rattle.model.specs.Reading.{Read, got, each}
use Rattle.model.proofs.Images.Lists.{flat, all_both, all_to, all_join, filter_append, Apart, flat_like, falls, falls_here, falls_elsewhere}
use Rattle.model.proofs.Images.Readings.{then_split, byte_row_parts}

-- zs, read from bs, fall to the digits gs, and spell bs up to rest
pub record Spread (dig : Setting → ℕ) (P : Setting → Type 0) (spell : List Setting → List ℕ) (Q : ℕ → List Setting → Type 0) (c : ℕ)
    (gs : List ℕ) (zs : List Setting) (bs rest : List ℕ) : Type 0 where
  pub spelt : bs ≡ flat (λ g. spell (falls dig zs g)) gs ++ rest
  pub holds : AllByRecursion (λ g. Q g (falls dig zs g)) gs
  pub misses : (h : ℕ) → AllByRecursion (λ g. eqb h g ≡ false) gs → falls dig zs h ≡ []
  pub all : AllByRecursion P zs
  pub long : c * length gs ≤ length zs

module _ (dig : Setting → ℕ) (P : Setting → Type 0) (spell : List Setting → List ℕ) (Q : ℕ → List Setting → Type 0) (c : ℕ) where
  -- one digit more
  spread_more : (g : ℕ) (gs : List ℕ) (xs ys : List Setting) (bs mid rest : List ℕ) → AllByRecursion (λ x. eqb g x ≡ false) gs →
      bs ≡ spell xs ++ mid → Q g xs → AllByRecursion (λ s. dig s ≡ g) xs → AllByRecursion P xs → c ≤ length xs →
      Spread dig P spell Q c gs ys mid rest → Spread dig P spell Q c (g ∷ gs) (xs ++ ys) bs rest
  spread_more g gs xs ys bs mid rest n e q d a l s =
      let here : falls dig (xs ++ ys) g ≡ xs =
      filter_append (λ x. eqb (dig x) g) xs ys ∙ (ap₂ (λ u v. u ++ v) (falls_here dig xs g d) (s.misses g n) ∙ append-nil xs) in
      let there : (h : ℕ) → eqb g h ≡ false → falls dig (xs ++ ys) h ≡ falls dig ys h =
      λ h z. filter_append (λ x. eqb (dig x) h) xs ys ∙ ap (λ u. u ++ falls dig ys h) (falls_elsewhere dig xs g h z d) in
      let codes : flat (λ h. spell (falls dig ys h)) gs ≡ flat (λ h. spell (falls dig (xs ++ ys) h)) gs =
      flat_like _ _ gs (all_to (λ x. eqb g x ≡ false) _ (λ h z. ap spell (sym (there h z))) gs n) in
      record {
        spelt = e ∙ (ap₂ (λ u v. spell u ++ v) (sym here) (s.spelt ∙ ap (λ u. u ++ rest) codes)
            ∙ sym (append_assoc (spell (falls dig (xs ++ ys) g)) (flat (λ h. spell (falls dig (xs ++ ys) h)) gs) rest));
        holds = (
          subst (Q g) (sym here) q,
          all_both (λ x. eqb g x ≡ false) (λ h. Q h (falls dig ys h)) (λ h. Q h (falls dig (xs ++ ys) h)) (λ h z k. subst (Q h) (sym (there h z)) k) gs n s.holds,
        );
        misses = λ h z. there h (ne_eqb g h (λ w. eqb-false h g z.0 (sym w))) ∙ s.misses h z.1;
        all = all_join P xs ys a s.all;
        long = rw (length-append xs ys) (omega (arith, s.long));
      }

  module _ (f : ℕ → ℕ → List ℕ → Read)
      (inv : (g at : ℕ) (bs : List ℕ) (xs : List Setting) (to : ℕ) (rest : List ℕ) → byte_row bs ≡ true → f g at bs ≡ got xs to rest → (bs ≡ spell xs ++ rest) × Q g xs)
      (q_dig : (g : ℕ) (xs : List Setting) → Q g xs → AllByRecursion (λ s. dig s ≡ g) xs)
      (q_all : (g : ℕ) (xs : List Setting) → Q g xs → AllByRecursion P xs)
      (q_low : (g : ℕ) (xs : List Setting) → Q g xs → c ≤ length xs) where
    pub each_spread : (gs : List ℕ) → Apart gs → (at : ℕ) (bs : List ℕ) (zs : List Setting) (to : ℕ) (rest : List ℕ) → byte_row bs ≡ true →
        each f gs at bs ≡ got zs to rest → Spread dig P spell Q c gs zs bs rest
    each_spread [] d at bs zs to rest b e =
        let none : [] ≡ zs = cc in
        let left : bs ≡ rest = cc in
        subst (λ l. Spread dig P spell Q c [] l bs rest) none (record { spelt = left; holds = tt; misses = λ h z. refl; all = tt; long = omega arith })
    each_spread (g ∷ gs) d at bs zs to rest b e =
        let s = then_split (f g at bs) (each f gs) zs to rest e in
        let i = inv g at bs s.before s.mid_at s.mid b s.first in
        let b' : byte_row s.mid ≡ true = (byte_row_parts (spell s.before) s.mid (ap byte_row (sym i.0) ∙ b)).1 in
        subst (λ l. Spread dig P spell Q c (g ∷ gs) l bs rest) (sym s.joined)
        (spread_more g gs s.before s.after bs s.mid rest d.0 i.0 i.1 (q_dig g s.before i.1) (q_all g s.before i.1) (q_low g s.before i.1)
        (each_spread gs d.1 s.mid_at s.mid s.after to rest b' s.second))

-- Maps in rising key order by their members: one map is another where it has the same at each digit. Assumes nothing.
use Rattle.std.proofs.Common.{◌≡◌, ℕ, ◌<◌, true, List, [], ◌∷◌, sym, refl, subst, ap₂, inl, inr}
use mathlib.Core.List.Memᴰ
use Rattle.std.proofs.lemmas.Bool.{both_ways, eq-eqb}
use Rattle.kinds.specs.Kinds.{KeyKind}
use Rattle.model.specs.Maps.{Setting, Map, Rises}
use Rattle.model.specs.Tries.{digit, at_digit}
use Rattle.model.proofs.Marks.Members.{Mem, all_mem, mem_filter, mem_of_filter}
use Rattle.model.proofs.Marks.Prefixes.{digit_below}

module _ (K : KeyKind) where
  -- no setting comes before itself, and none stands twice
  not_before : (k : List ℕ) → K.before k k ≡ true → ⊥
  not_before k e = both_ways (K.before k k) (K.before_not_self k) e

  first_once : (s : Setting) (m : Map) → Rises K (s ∷ m) → Mem s m → ⊥
  first_once s m r n = not_before s.key (all_mem (λ t. K.before s.key t.key ≡ true) m s r.0 n)

  within_rest : (s : Setting) (a b : Map) → Rises K (s ∷ a) → ((x : Setting) → Mem x (s ∷ a) → Mem x (s ∷ b)) → (x : Setting) → Mem x a → Mem x b
  within_rest s a b r f x n = elim (Memᴰ.cases_cons (f x (Memᴰ.tail n))) [ inl e ↦ absurd (first_once s a r (subst (λ (y : Setting). Mem y a) e n)) | inr o ↦ o ]

  same_first : (s t : Setting) (a b : Map) → Rises K (s ∷ a) → Rises K (t ∷ b) → Mem s (t ∷ b) → Mem t (s ∷ a) → s ≡ t
  same_first s t a b r q m n =
      elim (Memᴰ.cases_cons m) [
        | inl e ↦ e
        | inr o ↦
            elim (Memᴰ.cases_cons n) [
              | inl e ↦ sym e
              | inr u ↦
                  absurd (not_before s.key
                  (K.before_onward s.key t.key s.key (all_mem (λ x. K.before s.key x.key ≡ true) a t r.0 u) (all_mem (λ x. K.before t.key x.key ≡ true) b s q.0 o)))
            ]
      ]

  -- rising maps with the same members are one
  pub same_members : (a b : Map) → Rises K a → Rises K b → ((s : Setting) → Mem s a → Mem s b) → ((s : Setting) → Mem s b → Mem s a) → a ≡ b
  same_members [] [] r q f g = refl
  same_members [] (t ∷ b) r q f g = absurd (Memᴰ.not-nil (g t (Memᴰ.head refl)))
  same_members (s ∷ a) [] r q f g = absurd (Memᴰ.not-nil (f s (Memᴰ.head refl)))
  same_members (s ∷ a) (t ∷ b) r q f g =
      let e : s ≡ t = same_first s t a b r q (f s (Memᴰ.head refl)) (g t (Memᴰ.head refl)) in
      ap₂ ◌∷◌ e
      (same_members a b r.1 q.1
      (within_rest s a b r (λ x n. subst (λ (y : Setting). Mem x (y ∷ b)) (sym e) (f x n)))
      (within_rest t b a q (λ x n. subst (λ (y : Setting). Mem x (y ∷ a)) e (g x n))))

  module _ (d : ℕ) (a b : Map) (same : (g : ℕ) → g < 16 → at_digit K d a g ≡ at_digit K d b g) where
    within_digit : (s : Setting) → Mem s a → Mem s b
    within_digit s m =
        let g : ℕ = digit (K.hash s.key) d in
        let at : Mem s (at_digit K d a g) = mem_filter _ a s m (eq-eqb g g refl) in
        (mem_of_filter _ b s (subst (Mem s) (same g (digit_below (K.hash s.key) d)) at)).0

  pub same_digits : (d : ℕ) (a b : Map) → Rises K a → Rises K b → ((g : ℕ) → g < 16 → at_digit K d a g ≡ at_digit K d b g) → a ≡ b
  same_digits d a b r q same = same_members a b r q (within_digit d a b same) (within_digit d b a (λ g h. sym (same g h)))

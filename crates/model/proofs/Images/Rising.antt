-- Rising maps: what insertion and gathering keep, and that a rising map is its set of settings. Assumes nothing.
use Rattle.std.proofs.Common.{◌≡◌, ℕ, Bool, true, false, cond, eqb, List, [], ◌∷◌, sym, refl, ap, ◌∙◌, subst, inl, inr, arith}
use Rattle.std.specs.List.{AllByRecursion}
use Rattle.std.proofs.lemmas.Bool.{eq-eqb, both_ways, cond_both}
use Rattle.kinds.specs.Kinds.{KeyKind}
use Rattle.model.specs.Maps.{Setting, Map, insert, Rises}
use Rattle.model.specs.Tries.{filter}
use Rattle.model.specs.Reading.{gather}
use Rattle.model.proofs.Images.Lists.{Mem, all_to, all_mem, all_filter, mem_filter, mem_of_filter, falls}

module _ (K : KeyKind) where
  abbrev pub KeyReads : Setting → Type 0
  KeyReads s = K.readable s.key ≡ true

  abbrev pub After : Setting → Setting → Type 0
  After s t = K.before s.key t.key ≡ true

  insert_cases : (P : Map → Type 0) (s t : Setting) (m : Map) →
      (K.before s.key t.key ≡ true → P (s ∷ (t ∷ m))) →
      (K.before s.key t.key ≡ false → K.before t.key s.key ≡ true → P (t ∷ insert K s m)) →
      (K.before s.key t.key ≡ false → K.before t.key s.key ≡ false → P (s ∷ m)) → P (insert K s (t ∷ m))
  insert_cases P s t m f g h =
      cond_both (K.before s.key t.key) _ _ P f
      (λ e. cond_both (K.before t.key s.key) _ _ P (g e) (h e))

  pub insert_all : (P : Setting → Type 0) (s : Setting) (m : Map) → P s → AllByRecursion P m → AllByRecursion P (insert K s m)
  insert_all P s [] h a = (h, tt)
  insert_all P s (t ∷ m) h a = insert_cases (AllByRecursion P) s t m (λ e. (h, a)) (λ e f. (a.0, insert_all P s m h a.1)) (λ e f. (h, a.1))

  pub insert_rises : (s : Setting) (m : Map) → KeyReads s → AllByRecursion KeyReads m → Rises K m → Rises K (insert K s m)
  insert_rises s [] k a r = (tt, tt)
  insert_rises s (t ∷ m) k a r =
      insert_cases (Rises K) s t m
      (λ e. ((e, all_to (After t) (After s) (λ u f. K.before_onward s.key t.key u.key e f) m r.0), r))
      (λ e f. (insert_all (After t) s m f r.0, insert_rises s m k a.1 r.1))
      (λ e f. (subst (λ x. AllByRecursion (λ u. K.before x u.key ≡ true) m) (sym (K.before_or_after s.key t.key k a.0 e f)) r.0, r.1))

  pub insert_front : (s : Setting) (m : Map) → AllByRecursion (After s) m → insert K s m ≡ s ∷ m
  insert_front s [] a = refl
  insert_front s (t ∷ m) a = rw a.0

  module _ (q : List ℕ → Bool) where
    abbrev passes : Setting → Bool
    passes s = q s.key

    further : (s t : Setting) (B : Map) (x y : Bool) → K.before s.key t.key ≡ false → K.before t.key s.key ≡ true →
        cond x (t ∷ cond y (insert K s B) B) (cond y (insert K s B) B) ≡ cond y (insert K s (cond x (t ∷ B) B)) (cond x (t ∷ B) B)
    further s t B true true e f = rw (e, f)
    further s t B true false e f = refl
    further s t B false true e f = refl
    further s t B false false e f = refl

    replaced : (s t : Setting) (B : Map) (x y : Bool) → y ≡ x → K.before s.key t.key ≡ false → K.before t.key s.key ≡ false →
        cond y (s ∷ B) B ≡ cond y (insert K s (cond x (t ∷ B) B)) (cond x (t ∷ B) B)
    replaced s t B true true z e f = rw (e, f)
    replaced s t B true false z e f = let o : ◌≡◌ {A = ℕ} 0 1 = cc in absurd (omega arith)
    replaced s t B false true z e f = let o : ◌≡◌ {A = ℕ} 0 1 = cc in absurd (omega arith)
    replaced s t B false false z e f = refl

    pub filter_insert : (s : Setting) (m : Map) → KeyReads s → AllByRecursion KeyReads m → Rises K m →
        filter passes (insert K s m) ≡ cond (passes s) (insert K s (filter passes m)) (filter passes m)
    filter_insert s [] k a r = refl
    filter_insert s (t ∷ m) k a r =
        insert_cases (λ l. filter passes l ≡ cond (passes s) (insert K s (filter passes (t ∷ m))) (filter passes (t ∷ m))) s t m
        (λ e. ap (λ l. cond (passes s) l (filter passes (t ∷ m))) (sym (insert_front s (filter passes (t ∷ m))
        (all_filter (After s) passes (t ∷ m) (e, all_to (After t) (After s) (λ u f. K.before_onward s.key t.key u.key e f) m r.0)))))
        (λ e f. ap (λ l. cond (passes t) (t ∷ l) l) (filter_insert s m k a.1 r.1) ∙ further s t (filter passes m) (passes t) (passes s) e f)
        (λ e f. replaced s t (filter passes m) (passes t) (passes s) (ap q (K.before_or_after s.key t.key k a.0 e f)) e f)

  pub gather_all : (P : Setting → Type 0) (xs : List Setting) → AllByRecursion P xs → AllByRecursion P (gather K xs)
  gather_all P [] a = tt
  gather_all P (x ∷ xs) a = insert_all P x (gather K xs) a.0 (gather_all P xs a.1)

  pub gather_rises : (xs : List Setting) → AllByRecursion KeyReads xs → Rises K (gather K xs)
  gather_rises [] a = tt
  gather_rises (x ∷ xs) a = insert_rises x (gather K xs) a.0 (gather_all KeyReads xs a.1) (gather_rises xs a.1)

  pub gather_rising : (xs : List Setting) → Rises K xs → gather K xs ≡ xs
  gather_rising [] r = refl
  gather_rising (x ∷ xs) r = rw (gather_rising xs r.1) (insert_front x xs r.0)

  pub filter_gather : (q : List ℕ → Bool) (xs : List Setting) → AllByRecursion KeyReads xs → filter (λ s. q s.key) (gather K xs) ≡ gather K (filter (λ s. q s.key) xs)
  filter_gather q [] a = refl
  filter_gather q (x ∷ xs) a =
      filter_insert q x (gather K xs) a.0 (gather_all KeyReads xs a.1) (gather_rises xs a.1)
      ∙ (rw (filter_gather q xs a.1)
      (elim (q x.key) as (λ b. cond b (insert K x (gather K (filter (λ s. q s.key) xs))) (gather K (filter (λ s. q s.key) xs)) ≡ gather K (cond b (x ∷ filter (λ s. q s.key) xs) (filter (λ s. q s.key) xs))) [
        | true ↦ refl
        | false ↦ refl
      ]))

  pub filter_rises : (p : Setting → Bool) (m : Map) → Rises K m → Rises K (filter p m)
  filter_rises p [] r = tt
  filter_rises p (s ∷ m) r =
      elim (p s) as (λ b. Rises K (cond b (s ∷ filter p m) (filter p m))) [
        | true ↦ (all_filter (After s) p m r.0, filter_rises p m r.1)
        | false ↦ filter_rises p m r.1
      ]

  never_self : (s : Setting) → After s s → ⊥
  never_self s h = both_ways (K.before s.key s.key) (K.before_not_self s.key) h

  -- a rising map is its set of settings
  pub same_members : (a b : Map) → Rises K a → Rises K b → ((x : Setting) → Mem x a → Mem x b) → ((x : Setting) → Mem x b → Mem x a) → a ≡ b
  same_members [] [] r r' f g = refl
  same_members [] (t ∷ b) r r' f g = absurd (g t (inl refl))
  same_members (s ∷ a) [] r r' f g = absurd (f s (inl refl))
  same_members (s ∷ a) (t ∷ b) r r' f g =
      let first : s ≡ t = elim (f s (inl refl)) [
        | inl e ↦ e
        | inr m ↦ elim (g t (inl refl)) [
          | inl e ↦ sym e
          | inr n ↦ absurd (never_self s (K.before_onward s.key t.key s.key (all_mem (After s) a t r.0 n) (all_mem (After t) b s r'.0 m)))
        ]
      ] in
      let on : (x : Setting) → Mem x a → Mem x b = λ x m. elim (f x (inr m)) [
        | inl e ↦ absurd (never_self s (subst (λ y. After s y) (e ∙ sym first) (all_mem (After s) a x r.0 m)))
        | inr n ↦ n
      ] in
      let back : (x : Setting) → Mem x b → Mem x a = λ x m. elim (g x (inr m)) [
        | inl e ↦ absurd (never_self t (subst (λ y. After t y) (e ∙ first) (all_mem (After t) b x r'.0 m)))
        | inr n ↦ n
      ] in
      rw (first, same_members a b r.1 r'.1 on back)

  -- and so it is known by its parts
  pub same_parts : (dig : Setting → ℕ) (gs : List ℕ) (a b : Map) → Rises K a → Rises K b → AllByRecursion (λ s. Mem (dig s) gs) a → AllByRecursion (λ s. Mem (dig s) gs) b →
      ((g : ℕ) → Mem g gs → falls dig a g ≡ falls dig b g) → a ≡ b
  same_parts dig gs a b r r' d d' e =
      same_members a b r r'
      (λ x m. mem_of_filter (λ s. eqb (dig s) (dig x)) b x (subst (Mem x) (e (dig x) (all_mem (λ s. Mem (dig s) gs) a x d m)) (mem_filter (λ s. eqb (dig s) (dig x)) a x m (eq-eqb _ _ refl))))
      (λ x m. mem_of_filter (λ s. eqb (dig s) (dig x)) a x (subst (Mem x) (sym (e (dig x) (all_mem (λ s. Mem (dig s) gs) b x d' m))) (mem_filter (λ s. eqb (dig s) (dig x)) b x m (eq-eqb _ _ refl))))

-- Which maps are uncrowded: those that are not judged crowded, and what a remove leaves of one. Assumes nothing.
use Rattle.std.proofs.Common.{◌≡◌, ℕ, ◌≤◌, Bool, true, false, cond, not, eqb, ltb, ◌⊎◌, List, [], ◌∷◌, length, None, sym, refl, ◌∙◌, inl, inr, arith}
use Rattle.std.specs.List.{AllByRecursion}
use Rattle.std.proofs.lemmas.Bool.{or_parts, eqb-true, ltb-false}
use Rattle.byte_rows.specs.Rows.{same}
use Rattle.byte_rows.proofs.Orders.{same_tells}
use Rattle.kinds.specs.Kinds.{KeyKind, ValueKind}
use Rattle.model.specs.Maps.{Setting, Map, look, remove, Rises, Readable, Sound}
use Rattle.model.specs.Tries.{filter, of_hash, crowded_at, crowded, Uncrowded}
use Rattle.model.proofs.Maps.Order.{sound_equal}
use Rattle.model.proofs.Maps.Edits.{sound_remove, look_remove}

-- ---- filters

module _ {A : Type 0} (p : A → Bool) where
  pub all_filter : (P : A → Type 0) (xs : List A) → AllByRecursion P xs → AllByRecursion P (filter p xs)
  all_filter P [] h = tt
  all_filter P (x ∷ xs) h = go (p x) (all_filter P xs h.1)
    where
      go : (b : Bool) → AllByRecursion P (filter p xs) → AllByRecursion P (cond b (x ∷ filter p xs) (filter p xs))
      go true i = (h.0, i)
      go false i = i

  -- of a filtered row no more pass another test
  pub filter_fewer : (q : A → Bool) (xs : List A) → length (filter q (filter p xs)) ≤ length (filter q xs)
  filter_fewer q [] = omega arith
  filter_fewer q (x ∷ xs) = go (p x) (q x) refl (filter_fewer q xs)
    where
      go : (b c : Bool) → q x ≡ c → length (filter q (filter p xs)) ≤ length (filter q xs) →
          length (filter q (cond b (x ∷ filter p xs) (filter p xs))) ≤ length (cond c (x ∷ filter q xs) (filter q xs))
      go true true e i = rw e (omega arith)
      go true false e i = rw e i
      go false true e i = omega arith
      go false false e i = i

-- ---- not crowded

module _ (K : KeyKind) where
  uncrowded_at : (m rest : Map) → crowded_at K m rest ≡ false → (x : ℕ) → (length (of_hash K m x) ≤ 16) ⊎ (of_hash K rest x ≡ [])
  uncrowded_at m [] h x = inr refl
  uncrowded_at m (s ∷ rest) h x = go (eqb (K.hash s.key) x) refl (uncrowded_at m rest parts.1 x)
    where
      parts : (ltb 16 (length (of_hash K m (K.hash s.key))) ≡ false) × (crowded_at K m rest ≡ false)
      parts = or_parts (ltb 16 (length (of_hash K m (K.hash s.key)))) (crowded_at K m rest) h

      few : length (of_hash K m (K.hash s.key)) ≤ 16
      few = ltb-false 16 (length (of_hash K m (K.hash s.key))) parts.0

      go : (b : Bool) → eqb (K.hash s.key) x ≡ b → (length (of_hash K m x) ≤ 16) ⊎ (of_hash K rest x ≡ []) →
          (length (of_hash K m x) ≤ 16) ⊎ (cond b (s ∷ of_hash K rest x) (of_hash K rest x) ≡ [])
      go true e i = inl (let q = eqb-true (K.hash s.key) x e in rw q at few)
      go false e i = i

  pub uncrowded : (m : Map) → crowded K m ≡ false → Uncrowded K m
  uncrowded m h x = go (uncrowded_at m m h x)
    where
      go : (length (of_hash K m x) ≤ 16) ⊎ (of_hash K m x ≡ []) → length (of_hash K m x) ≤ 16
      go (inl i) = i
      go (inr e) = rw e (omega arith)

  pub uncrowded_empty : Uncrowded K []
  uncrowded_empty x = omega arith

-- ---- what a remove leaves

-- a map without a key
abbrev pub without : List ℕ → Map → Map
without k m = filter (λ s. not (same s.key k)) m

module _ (K : KeyKind) (V : ValueKind) where
  rises_filter : (p : Setting → Bool) (m : Map) → Rises K m → Rises K (filter p m)
  rises_filter p [] u = tt
  rises_filter p (s ∷ m) u = go (p s) (rises_filter p m u.1)
    where
      go : (b : Bool) → Rises K (filter p m) → Rises K (cond b (s ∷ filter p m) (filter p m))
      go true i = (all_filter p (λ t. K.before s.key t.key ≡ true) m u.0, i)
      go false i = i

  pub sound_filter : (p : Setting → Bool) (m : Map) → Sound K V m → Sound K V (filter p m)
  sound_filter p m g = record { rises = rises_filter p m g.rises; reads = all_filter p (Readable K V) m g.reads }

  look_without : (k : List ℕ) (m : Map) (x : List ℕ) → look (without k m) x ≡ cond (same x k) None (look m x)
  look_without k [] x = grind (arith, same_tells)
  look_without k (s ∷ m) x = let i = look_without k m x in grind (arith, same_tells)

  pub remove_is_without : (m : Map) (k : List ℕ) → Sound K V m → K.readable k ≡ true → remove K m k ≡ without k m
  remove_is_without m k g r =
      sound_equal K V (remove K m k) (without k m) (sound_remove K V m k g r) (sound_filter (λ s. not (same s.key k)) m g)
      λ x. look_remove K V m k g r x ∙ sym (look_without k m x)

  pub uncrowded_remove : (m : Map) (k : List ℕ) → Sound K V m → K.readable k ≡ true → Uncrowded K m → Uncrowded K (remove K m k)
  uncrowded_remove m k g r u x =
      let f = filter_fewer (λ s. not (same s.key k)) (λ s. eqb (K.hash s.key) x) m in
      let b = u x in
      rw (remove_is_without m k g r) (omega arith)

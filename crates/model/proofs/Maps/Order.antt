-- Maps in rising key order: what keeps the order, what a look-up finds, and that look-ups say all. Assumes nothing.
use Rattle.std.proofs.Common.{◌≡◌, ℕ, Bool, true, false, cond, ◌⊎◌, List, [], ◌∷◌, Some, None, Option, refl, ap₂, inl, inr, arith}
use Rattle.std.specs.List.{AllByRecursion}
use Rattle.std.proofs.lemmas.Bool.{cases_Bool}
use Rattle.std.proofs.ByRecursion.{All-weaker}
use Rattle.byte_rows.specs.Rows.{same}
use Rattle.byte_rows.proofs.Orders.{same_tells}
use Rattle.kinds.specs.Kinds.{KeyKind, ValueKind}
use Rattle.model.specs.Maps.{Setting, Map, look, insert, Rises, Readable, Sound}
use Rattle.model.proofs.Maps.Found.{same_self}

-- a key before every key of a map
abbrev pub Ahead : KeyKind → List ℕ → Map → Type 0
Ahead K k m = AllByRecursion (λ t. K.before k t.key ≡ true) m

-- what was found is readable
abbrev pub Reads : ValueKind → Option (List ℕ) → Type 0
Reads V None = Unit {0}
Reads V (Some v) = V.readable v ≡ true

-- how two keys stand
abbrev pub Stands : KeyKind → List ℕ → List ℕ → Type 0
Stands K a b = (K.before a b ≡ true) ⊎ ((K.before a b ≡ false) × ((K.before b a ≡ true) ⊎ ((K.before b a ≡ false) × (a ≡ b))))

module _ (K : KeyKind) (V : ValueKind) where
  -- how two readable keys stand
  pub order : (a b : List ℕ) → K.readable a ≡ true → K.readable b ≡ true → Stands K a b
  order a b p q = go (cases_Bool (K.before a b)) (cases_Bool (K.before b a))
    where
      go : (K.before a b ≡ true) ⊎ (K.before a b ≡ false) → (K.before b a ≡ true) ⊎ (K.before b a ≡ false) → Stands K a b
      go (inl e) f = inl e
      go (inr e) (inl f) = inr (e, inl f)
      go (inr e) (inr f) = inr (e, inr (f, K.before_or_after a b p q e f))

  apart : (a b : List ℕ) → K.before a b ≡ true → a ≡ b → ⊥
  apart a b h e = let z : ◌≡◌ {A = ℕ} 0 1 = cc (K.before_not_self a) in omega arith

  pub ahead_further : (a b : List ℕ) (m : Map) → K.before a b ≡ true → Ahead K b m → Ahead K a m
  ahead_further a b m h = All-weaker (λ t. K.before b t.key ≡ true) (λ t. K.before a t.key ≡ true) (λ t e. K.before_onward a b t.key h e) m

  pub ahead_insert : (k : List ℕ) (s : Setting) (m : Map) → K.before k s.key ≡ true → Ahead K k m → Ahead K k (insert K s m)
  ahead_insert k s [] h a = (h, tt)
  ahead_insert k s (t ∷ m) h a = go (K.before s.key t.key) (K.before t.key s.key) (ahead_insert k s m h a.1)
    where
      go : (x y : Bool) → Ahead K k (insert K s m) → Ahead K k (cond x (s ∷ (t ∷ m)) (cond y (t ∷ insert K s m) (s ∷ m)))
      go true y r = (h, a)
      go false true r = (a.0, r)
      go false false r = (h, a.1)

  pub readable_insert : (s : Setting) (m : Map) → Readable K V s → AllByRecursion (Readable K V) m → AllByRecursion (Readable K V) (insert K s m)
  readable_insert s [] f r = (f, tt)
  readable_insert s (t ∷ m) f r = go (K.before s.key t.key) (K.before t.key s.key) (readable_insert s m f r.1)
    where
      go : (x y : Bool) → AllByRecursion (Readable K V) (insert K s m) → AllByRecursion (Readable K V) (cond x (s ∷ (t ∷ m)) (cond y (t ∷ insert K s m) (s ∷ m)))
      go true y i = (f, r)
      go false true i = (r.0, i)
      go false false i = (f, r.1)

  pub rising_insert : (s : Setting) (m : Map) → Readable K V s → AllByRecursion (Readable K V) m → Rises K m → Rises K (insert K s m)
  rising_insert s [] f r u = (tt, tt)
  rising_insert s (t ∷ m) f r u = go (order s.key t.key f.0 r.0.0) (rising_insert s m f r.1 u.1)
    where
      go : Stands K s.key t.key →
          Rises K (insert K s m) → Rises K (insert K s (t ∷ m))
      go (inl e) i = rw e ((e, ahead_further s.key t.key m e u.0), u)
      go (inr (e, inl h)) i = rw (e, h) (ahead_insert t.key s m h u.0, i)
      go (inr (e, inr (h, q))) i = rw (e, h, q) (u.0, u.1)

  pub look_insert : (s : Setting) (m : Map) (k : List ℕ) → Readable K V s → AllByRecursion (Readable K V) m → look (insert K s m) k ≡ cond (same s.key k) (Some s.value) (look m k)
  look_insert s [] k f r = refl
  look_insert s (t ∷ m) k f r = go (order s.key t.key f.0 r.0.0) (look_insert s m k f r.1)
    where
      go : Stands K s.key t.key →
          look (insert K s m) k ≡ cond (same s.key k) (Some s.value) (look m k) →
          look (insert K s (t ∷ m)) k ≡ cond (same s.key k) (Some s.value) (look (t ∷ m) k)
      go (inl e) i = rw e
      go (inr (e, inl h)) i = let n = apart t.key s.key h in grind (arith, same_tells)
      go (inr (e, inr (h, q))) i = grind (arith, same_tells)

  -- ---- look-ups say all

  pub look_ahead : (k : List ℕ) (m : Map) → Ahead K k m → look m k ≡ None
  look_ahead k [] a = refl
  look_ahead k (t ∷ m) a = let i = look_ahead k m a.1 in let n = apart k t.key a.0 in grind (arith, same_tells)

  look_first : (s : Setting) (m : Map) → look (s ∷ m) s.key ≡ Some s.value
  look_first s m = rw (same_self s.key)

  look_rest : (s : Setting) (m : Map) (k : List ℕ) → Ahead K s.key m → look m k ≡ cond (same s.key k) None (look (s ∷ m) k)
  look_rest s m k a = let i = look_ahead s.key m a in grind (arith, same_tells)

  pub look_reads : (m : Map) (k : List ℕ) → AllByRecursion (Readable K V) m → Reads V (look m k)
  look_reads [] k r = tt
  look_reads (s ∷ m) k r = go (same s.key k) (look_reads m k r.1)
    where
      go : (b : Bool) → Reads V (look m k) → Reads V (cond b (Some s.value) (look m k))
      go true i = r.0.1
      go false i = i

  -- maps in order with the same look-ups are one
  pub maps_equal : (a b : Map) → Rises K a → Rises K b → AllByRecursion (Readable K V) a → AllByRecursion (Readable K V) b → ((k : List ℕ) → look a k ≡ look b k) → a ≡ b
  maps_equal [] [] ua ub ra rb h = refl
  maps_equal [] (t ∷ b) ua ub ra rb h = let e = h t.key in let f = look_first t b in cc
  maps_equal (s ∷ a) [] ua ub ra rb h = let e = h s.key in let f = look_first s a in cc
  maps_equal (s ∷ a) (t ∷ b) ua ub ra rb h = ap₂ ◌∷◌ (λ i. record { key = same_key i; value = same_value i }) (maps_equal a b ua.1 ub.1 ra.1 rb.1 rest)
    where
      same_key : s.key ≡ t.key
      same_key = go (order s.key t.key ra.0.0 rb.0.0)
        where
          go : Stands K s.key t.key → s.key ≡ t.key
          go (inl e) = let n = look_ahead s.key (t ∷ b) (e, ahead_further s.key t.key b e ub.0) in let x = h s.key in let f = look_first s a in cc
          go (inr (e, inl g)) = let n = look_ahead t.key (s ∷ a) (g, ahead_further t.key s.key a g ua.0) in let x = h t.key in let f = look_first t b in cc
          go (inr (e, inr (g, q))) = q

      same_value : s.value ≡ t.value
      same_value = let x = h s.key in let f = look_first s a in let g = look_first t b in cc same_key

      rest : (k : List ℕ) → look a k ≡ look b k
      rest k = let x = h k in let f = look_rest s a k ua.0 in let g = look_rest t b k ub.0 in cc same_key

  -- ---- sound maps

  pub sound_empty : Sound K V []
  sound_empty = record { rises = tt; reads = tt }

  pub sound_insert : (s : Setting) (m : Map) → Readable K V s → Sound K V m → Sound K V (insert K s m)
  sound_insert s m f g = record { rises = rising_insert s m f g.reads g.rises; reads = readable_insert s m f g.reads }

  pub sound_equal : (a b : Map) → Sound K V a → Sound K V b → ((k : List ℕ) → look a k ≡ look b k) → a ≡ b
  sound_equal a b p q h = maps_equal a b p.rises q.rises p.reads q.reads h

-- The table of what a function finds at given keys. Assumes nothing.
use Rattle.std.proofs.Common.{◌≡◌, ℕ, Bool, true, false, cond, ◌||◌, List, [], ◌∷◌, ◌++◌, Some, None, Option, refl, arith}
use Rattle.std.specs.List.{AllByRecursion}
use Rattle.byte_rows.specs.Rows.{same}
use Rattle.byte_rows.proofs.Orders.{same_tells}
use Rattle.kinds.specs.Kinds.{KeyKind, ValueKind}
use Rattle.model.specs.Maps.{Map, keys, look, insert_found, tabulate, Rises, Readable, Sound}
use Rattle.model.proofs.Maps.Order.{Reads, readable_insert, rising_insert, look_insert}

-- a row of readable keys
abbrev pub KeyRows : KeyKind → List (List ℕ) → Type 0
KeyRows K ks = AllByRecursion (λ k. K.readable k ≡ true) ks

-- a row of keys has a key
abbrev pub has : List (List ℕ) → List ℕ → Bool
has [] k = false
has (x ∷ ks) k = same x k || has ks k

pub has_append : (a b : List (List ℕ)) (k : List ℕ) → has (a ++ b) k ≡ (has a k || has b k)
has_append [] b k = refl
has_append (x ∷ a) b k = let i = has_append a b k in grind arith

pub look_unlisted : (m : Map) (k : List ℕ) → has (keys m) k ≡ false → look m k ≡ None
look_unlisted [] k h = refl
look_unlisted (s ∷ m) k h = go (same s.key k) h (look_unlisted m k)
  where
    go : (b : Bool) → (b || has (keys m) k) ≡ false → (has (keys m) k ≡ false → look m k ≡ None) → cond b (Some s.value) (look m k) ≡ None
    go true e i = cc
    go false e i = i e

module _ (K : KeyKind) (V : ValueKind) where
  pub keys_readable : (m : Map) → AllByRecursion (Readable K V) m → KeyRows K (keys m)
  keys_readable [] r = tt
  keys_readable (s ∷ m) r = (r.0.0, keys_readable m r.1)

  module _ (f : List ℕ → Option (List ℕ)) (reads : (k : List ℕ) → Reads V (f k)) where
    pub readable_tabulate : (ks : List (List ℕ)) → KeyRows K ks → AllByRecursion (Readable K V) (tabulate K ks f)
    readable_tabulate [] r = tt
    readable_tabulate (k ∷ ks) r = go (f k) (reads k) (readable_tabulate ks r.1)
      where
        go : (o : Option (List ℕ)) → Reads V o → AllByRecursion (Readable K V) (tabulate K ks f) → AllByRecursion (Readable K V) (insert_found K k o (tabulate K ks f))
        go (Some v) p i = readable_insert K V (record { key = k; value = v }) (tabulate K ks f) (r.0, p) i
        go None p i = i

    pub rising_tabulate : (ks : List (List ℕ)) → KeyRows K ks → Rises K (tabulate K ks f)
    rising_tabulate [] r = tt
    rising_tabulate (k ∷ ks) r = go (f k) (reads k) (rising_tabulate ks r.1)
      where
        go : (o : Option (List ℕ)) → Reads V o → Rises K (tabulate K ks f) → Rises K (insert_found K k o (tabulate K ks f))
        go (Some v) p i = rising_insert K V (record { key = k; value = v }) (tabulate K ks f) (r.0, p) (readable_tabulate ks r.1) i
        go None p i = i

    pub look_tabulate : (ks : List (List ℕ)) (k : List ℕ) → KeyRows K ks → look (tabulate K ks f) k ≡ cond (has ks k) (f k) None
    look_tabulate [] k r = refl
    look_tabulate (x ∷ ks) k r = go (f x) refl (reads x) (look_tabulate ks k r.1)
      where
        go : (o : Option (List ℕ)) → f x ≡ o → Reads V o → look (tabulate K ks f) k ≡ cond (has ks k) (f k) None →
            look (insert_found K x o (tabulate K ks f)) k ≡ cond (same x k || has ks k) (f k) None
        go (Some v) e p i = let l = look_insert K V (record { key = x; value = v }) (tabulate K ks f) k (r.0, p) (readable_tabulate ks r.1) in grind (arith, same_tells)
        go None e p i = grind (arith, same_tells)

    -- where nothing is found outside the keys, the table finds the same everywhere
    pub look_table : (ks : List (List ℕ)) → KeyRows K ks → ((k : List ℕ) → has ks k ≡ false → f k ≡ None) → (k : List ℕ) → look (tabulate K ks f) k ≡ f k
    look_table ks r none k = go (has ks k) refl (look_tabulate ks k r)
      where
        go : (b : Bool) → has ks k ≡ b → look (tabulate K ks f) k ≡ cond (has ks k) (f k) None → look (tabulate K ks f) k ≡ f k
        go true e l = cc
        go false e l = let n = none k e in cc

    pub sound_tabulate : (ks : List (List ℕ)) → KeyRows K ks → Sound K V (tabulate K ks f)
    sound_tabulate ks r = record { rises = rising_tabulate ks r; reads = readable_tabulate ks r }

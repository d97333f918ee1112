-- A merge key by key: what its first key becomes, and what is left. Assumes nothing.
use Rattle.std.proofs.Common.{◌≡◌, ℕ, Bool, true, false, cond, ◌&&◌, List, [], ◌∷◌, ◌++◌, Some, None, Option, sym, refl, ap, ap₂, ◌∙◌, arith}
use Rattle.std.specs.List.{AllByRecursion}
use Rattle.std.proofs.lemmas.Bool.{cond-true}
use Rattle.std.proofs.ByRecursion.{All-append}
use Rattle.byte_rows.specs.Rows.{same}
use Rattle.byte_rows.proofs.Orders.{same_decides, same_tells}
use Rattle.kinds.specs.Kinds.{KeyKind, ValueKind}
use Rattle.model.specs.Maps.{Map, keys, look, insert_found, tabulate, same_found, same_map, decided, merge, Sound}
use Rattle.model.proofs.Maps.Found.{same_self}
use Rattle.model.proofs.Maps.Order.{Ahead, Reads, ahead_insert, sound_equal}
use Rattle.model.proofs.Maps.Edits.{reads_decided, sound_merge, look_merge}
use Rattle.branches.proofs.Settings.{lone, sound_between, look_between}

module _ (K : KeyKind) (V : ValueKind) where
  -- ---- each key of a merge is of ours or of theirs

  ahead_found : (k j : List ℕ) (x : Option (List ℕ)) (m : Map) → K.before k j ≡ true → Ahead K k m → Ahead K k (insert_found K j x m)
  ahead_found k j (Some v) m h a = ahead_insert K V k (record { key = j; value = v }) m h a
  ahead_found k j None m h a = a

  ahead_table : (k : List ℕ) (f : List ℕ → Option (List ℕ)) (ks : List (List ℕ)) → AllByRecursion (λ j. K.before k j ≡ true) ks → Ahead K k (tabulate K ks f)
  ahead_table k f [] a = tt
  ahead_table k f (j ∷ ks) a = ahead_found k j (f j) (tabulate K ks f) a.0 (ahead_table k f ks a.1)

  ahead_keys : (k : List ℕ) (m : Map) → Ahead K k m → AllByRecursion (λ j. K.before k j ≡ true) (keys m)
  ahead_keys k [] a = tt
  ahead_keys k (s ∷ m) a = (a.0, ahead_keys k m a.1)

  pub ahead_merge : (k : List ℕ) (o b t : Map) → Ahead K k o → Ahead K k t → Ahead K k (merge K V o b t)
  ahead_merge k o b t p q =
      ahead_table k (λ x. decided V (look o x) (look b x) (look t x)) (keys o ++ keys t)
      (All-append (λ j. K.before k j ≡ true) (keys o) (keys t) (ahead_keys k o p) (ahead_keys k t q))

  -- ---- what comes first, and the rest

  pub sound_rest : (k : List ℕ) (x : Option (List ℕ)) (m : Map) → Sound K V (lone k x ++ m) → Sound K V m
  sound_rest k (Some v) m g = record { rises = g.rises.1; reads = g.reads.1 }
  sound_rest k None m g = g

  reads_first : (k : List ℕ) (x : Option (List ℕ)) (m : Map) → Sound K V (lone k x ++ m) → Reads V x
  reads_first k (Some v) m g = g.reads.0.1
  reads_first k None m g = tt

  pub look_first : (k : List ℕ) (x : Option (List ℕ)) (m : Map) → Ahead K k m → (j : List ℕ) → look (lone k x ++ m) j ≡ cond (same j k) x (look m j)
  look_first k x m a j = look_between K V k [] m x tt a j

  pub look_there : (k : List ℕ) (x : Option (List ℕ)) (m : Map) → Ahead K k m → look (lone k x ++ m) k ≡ x
  look_there k x m a = look_first k x m a k ∙ cond-true (same k k) x (look m k) (same_self k)

  module _ (k : List ℕ) (key : K.readable k ≡ true) (x y : Option (List ℕ)) (o b t : Map) (go : Sound K V (lone k x ++ o)) (gt : Sound K V (lone k y ++ t)) (ao : Ahead K k o) (at : Ahead K k t) where
    rest : Sound K V (merge K V o b t)
    rest = sound_merge K V o b t (sound_rest k x o go) (sound_rest k y t gt)

    pub merge_first : merge K V (lone k x ++ o) b (lone k y ++ t) ≡ lone k (decided V x (look b k) y) ++ merge K V o b t
    merge_first =
        sound_equal K V (merge K V (lone k x ++ o) b (lone k y ++ t)) (lone k (decided V x (look b k) y) ++ merge K V o b t) (sound_merge K V (lone k x ++ o) b (lone k y ++ t) go gt)
        (sound_between K V k key [] (merge K V o b t) (decided V x (look b k) y) tt (ahead_merge k o b t ao at) (reads_decided K V x (look b k) y (reads_first k x o go) (reads_first k y t gt)) rest)
        λ j. look_merge K V (lone k x ++ o) b (lone k y ++ t) go gt j
        ∙ ap₂ (λ (u v : Option (List ℕ)). decided V u (look b j) v) (look_first k x o ao j) (look_first k y t at j)
        ∙ step j (same j k) refl
        ∙ ap (cond (same j k) (decided V x (look b k) y)) (sym (look_merge K V o b t (sound_rest k x o go) (sound_rest k y t gt) j))
        ∙ sym (look_first k (decided V x (look b k) y) (merge K V o b t) (ahead_merge k o b t ao at) j)
      where
        step : (j : List ℕ) (s : Bool) → same j k ≡ s
            → decided V (cond s x (look o j)) (look b j) (cond s y (look t j)) ≡ cond s (decided V x (look b k) y) (decided V (look o j) (look b j) (look t j))
        step j true e = ap (λ (z : List ℕ). decided V x (look b z) y) ((same_decides j k).0 e)
        step j false e = refl

  apart : (a b : List ℕ) → K.before a b ≡ true → same a b ≡ false
  apart a b h = let n : a ≡ b → ⊥ = λ e. (let z : ◌≡◌ {A = ℕ} 0 1 = cc (K.before_not_self a) in omega arith) in grind (arith, same_tells)

  -- two maps are the same if they are at the first key, and in the rest
  pub same_first : (k : List ℕ) (x d : Option (List ℕ)) (o m : Map) → Ahead K k o → Ahead K k m → same_map (lone k x ++ o) (lone k d ++ m) ≡ (same_found x d && same_map o m)
  same_first k (Some v) (Some w) o m p q = ap (λ (t : Bool). t && (same v w && same_map o m)) (same_self k)
  same_first k None None o m p q = refl
  same_first k (Some v) None o [] p q = refl
  same_first k (Some v) None o (t ∷ m) p q = ap (λ (s : Bool). s && (same v t.value && same_map o m)) (apart k t.key q.0)
  same_first k None (Some w) [] m p q = refl
  same_first k None (Some w) (s ∷ o) m p q = ap (λ (t : Bool). t && (same s.value w && same_map o m)) (before k s.key p.0)
    where
      before : (a b : List ℕ) → K.before a b ≡ true → same b a ≡ false
      before a b h = let n : b ≡ a → ⊥ = λ e. (let z : ◌≡◌ {A = ℕ} 0 1 = cc (K.before_not_self a) in omega arith) in grind (arith, same_tells)

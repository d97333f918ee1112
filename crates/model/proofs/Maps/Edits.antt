-- What put, remove, union and merge leave is sound, and what a look-up finds in it. Assumes nothing.
use Rattle.std.proofs.Common.{◌≡◌, ℕ, Bool, true, false, cond, List, ◌∷◌, ◌++◌, Some, None, Option, sym, ◌∙◌, arith}
use Rattle.std.proofs.lemmas.Bool.{or_parts}
use Rattle.std.proofs.ByRecursion.{All-append}
use Rattle.byte_rows.specs.Rows.{same}
use Rattle.byte_rows.proofs.Orders.{same_tells}
use Rattle.kinds.specs.Kinds.{KeyKind, ValueKind}
use Rattle.model.specs.Maps.{Map, keys, look, put, remove, joined, union, same_found, decided, merge, Sound}
use Rattle.model.proofs.Maps.Order.{Reads, look_reads}
use Rattle.model.proofs.Maps.Tables.{KeyRows, has, has_append, look_unlisted, keys_readable, look_table, sound_tabulate}

module _ (K : KeyKind) (V : ValueKind) where
  reads_cond : (b : Bool) (x y : Option (List ℕ)) → Reads V x → Reads V y → Reads V (cond b x y)
  reads_cond true x y p q = p
  reads_cond false x y p q = q

  pub reads_joined : (x y : Option (List ℕ)) → Reads V x → Reads V y → Reads V (joined V x y)
  reads_joined None None p q = tt
  reads_joined None (Some b) p q = q
  reads_joined (Some a) None p q = p
  reads_joined (Some a) (Some b) p q = V.join_reads a b p q

  pub reads_decided : (o b t : Option (List ℕ)) → Reads V o → Reads V t → Reads V (decided V o b t)
  reads_decided o b t p q =
      reads_cond (same_found o t) t _ q (reads_cond (same_found o b) t _ q (reads_cond (same_found t b) o _ p (reads_joined o t p q)))

  pub reads_look : (m : Map) (k : List ℕ) → Sound K V m → Reads V (look m k)
  reads_look m k s = look_reads K V m k s.reads

  sound_keys : (m : Map) → Sound K V m → KeyRows K (keys m)
  sound_keys m s = keys_readable K V m s.reads

  unlisted_both : (a b : Map) (k : List ℕ) → has (keys a ++ keys b) k ≡ false → (look a k ≡ None) × (look b k ≡ None)
  unlisted_both a b k h =
      let p = or_parts (has (keys a) k) (has (keys b) k) (sym (has_append (keys a) (keys b) k) ∙ h) in
      (look_unlisted a k p.0, look_unlisted b k p.1)

  module _ (m : Map) (k : List ℕ) (good : Sound K V m) (key : K.readable k ≡ true) where
    module _ (v : List ℕ) (value : V.readable v ≡ true) where
      putting : List ℕ → Option (List ℕ)
      putting x = cond (same x k) (Some v) (look m x)

      put_reads : (x : List ℕ) → Reads V (putting x)
      unfolding putting
      put_reads x = reads_cond (same x k) (Some v) (look m x) value (reads_look m x good)

      pub sound_put : Sound K V (put K m k v)
      unfolding putting
      sound_put = sound_tabulate K V putting put_reads (k ∷ keys m) (key, sound_keys m good)

      pub look_put : (x : List ℕ) → look (put K m k v) x ≡ cond (same x k) (Some v) (look m x)
      unfolding putting
      look_put = look_table K V putting put_reads (k ∷ keys m) (key, sound_keys m good) none
        where
          none : (x : List ℕ) → has (k ∷ keys m) x ≡ false → putting x ≡ None
          none x h =
              let p = or_parts (same k x) (has (keys m) x) h in
              let l = look_unlisted m x p.1 in let e = p.0 in grind (arith, same_tells)

    removing : List ℕ → Option (List ℕ)
    removing x = cond (same x k) None (look m x)

    remove_reads : (x : List ℕ) → Reads V (removing x)
    unfolding removing
    remove_reads x = reads_cond (same x k) None (look m x) tt (reads_look m x good)

    pub sound_remove : Sound K V (remove K m k)
    unfolding removing
    sound_remove = sound_tabulate K V removing remove_reads (keys m) (sound_keys m good)

    pub look_remove : (x : List ℕ) → look (remove K m k) x ≡ cond (same x k) None (look m x)
    unfolding removing
    look_remove = look_table K V removing remove_reads (keys m) (sound_keys m good) none
      where
        none : (x : List ℕ) → has (keys m) x ≡ false → removing x ≡ None
        none x h = let l = look_unlisted m x h in grind (arith, same_tells)

  module _ (a b : Map) (ga : Sound K V a) (gb : Sound K V b) where
    both_keys : KeyRows K (keys a ++ keys b)
    both_keys = All-append (λ k. K.readable k ≡ true) (keys a) (keys b) (sound_keys a ga) (sound_keys b gb)

    union_reads : (x : List ℕ) → Reads V (joined V (look a x) (look b x))
    union_reads x = reads_joined (look a x) (look b x) (reads_look a x ga) (reads_look b x gb)

    pub sound_union : Sound K V (union K V a b)
    sound_union = sound_tabulate K V (λ x. joined V (look a x) (look b x)) union_reads (keys a ++ keys b) both_keys

    pub look_union : (x : List ℕ) → look (union K V a b) x ≡ joined V (look a x) (look b x)
    look_union = look_table K V (λ x. joined V (look a x) (look b x)) union_reads (keys a ++ keys b) both_keys none
      where
        none : (x : List ℕ) → has (keys a ++ keys b) x ≡ false → joined V (look a x) (look b x) ≡ None
        none x h = let p = unlisted_both a b x h in cc

  module _ (o b t : Map) (go : Sound K V o) (gt : Sound K V t) where
    merge_reads : (x : List ℕ) → Reads V (decided V (look o x) (look b x) (look t x))
    merge_reads x = reads_decided (look o x) (look b x) (look t x) (reads_look o x go) (reads_look t x gt)

    pub sound_merge : Sound K V (merge K V o b t)
    sound_merge = sound_tabulate K V (λ x. decided V (look o x) (look b x) (look t x)) merge_reads (keys o ++ keys t) (both_keys o t go gt)

    pub look_merge : (x : List ℕ) → look (merge K V o b t) x ≡ decided V (look o x) (look b x) (look t x)
    look_merge = look_table K V (λ x. decided V (look o x) (look b x) (look t x)) merge_reads (keys o ++ keys t) (both_keys o t go gt) none
      where
        none : (x : List ℕ) → has (keys o ++ keys t) x ≡ false → decided V (look o x) (look b x) (look t x) ≡ None
        none x h = let p = unlisted_both o t x h in cc

-- Union is a join, and merge is symmetric. Assumes nothing.
use Rattle.std.proofs.Common.{◌≡◌, ℕ, List, [], Some, None, Option, sym, refl, ap, ◌∙◌, arith}
use Rattle.byte_rows.proofs.Orders.{same_tells}
use Rattle.kinds.specs.Kinds.{KeyKind, ValueKind}
use Rattle.model.specs.Maps.{Map, look, joined, union, decided, merge, Sound}
use Rattle.model.proofs.Maps.Found.{found_tells}
use Rattle.model.proofs.Maps.Order.{Reads, sound_equal}
use Rattle.model.proofs.Maps.Edits.{reads_look, sound_union, look_union, sound_merge, look_merge}

module _ (V : ValueKind) where
  pub joined_assoc : (a b c : Option (List ℕ)) → Reads V a → Reads V b → Reads V c → joined V (joined V a b) c ≡ joined V a (joined V b c)
  joined_assoc None None None p q r = refl
  joined_assoc None None (Some c) p q r = refl
  joined_assoc None (Some b) None p q r = refl
  joined_assoc None (Some b) (Some c) p q r = refl
  joined_assoc (Some a) None None p q r = refl
  joined_assoc (Some a) None (Some c) p q r = refl
  joined_assoc (Some a) (Some b) None p q r = refl
  joined_assoc (Some a) (Some b) (Some c) p q r = ap Some (V.join_assoc a b c p q r)

  pub joined_comm : (a b : Option (List ℕ)) → Reads V a → Reads V b → joined V a b ≡ joined V b a
  joined_comm None None p q = refl
  joined_comm None (Some b) p q = refl
  joined_comm (Some a) None p q = refl
  joined_comm (Some a) (Some b) p q = ap Some (V.join_comm a b p q)

  pub joined_self : (a : Option (List ℕ)) → Reads V a → joined V a a ≡ a
  joined_self None p = refl
  joined_self (Some a) p = ap Some (V.join_self a p)

  pub decided_swap : (o b t : Option (List ℕ)) → Reads V o → Reads V t → decided V o b t ≡ decided V t b o
  decided_swap o b t p q = let c = joined_comm o t p q in grind (arith, found_tells)

  pub decided_none : (a b : Option (List ℕ)) → Reads V a → joined V a b ≡ decided V a None b
  decided_none None None p = refl
  decided_none None (Some b) p = refl
  decided_none (Some a) None p = refl
  decided_none (Some a) (Some b) p = let i = V.join_self a p in grind (arith, same_tells)

module _ (K : KeyKind) (V : ValueKind) where
  pub union_assoc : (a b c : Map) → Sound K V a → Sound K V b → Sound K V c → union K V (union K V a b) c ≡ union K V a (union K V b c)
  union_assoc a b c p q r =
      sound_equal K V (union K V (union K V a b) c) (union K V a (union K V b c)) (sound_union K V (union K V a b) c (sound_union K V a b p q) r) (sound_union K V a (union K V b c) p (sound_union K V b c q r))
      λ k. let i = look_union K V (union K V a b) c (sound_union K V a b p q) r k in let j = look_union K V a (union K V b c) p (sound_union K V b c q r) k in
      let x = look_union K V a b p q k in let y = look_union K V b c q r k in
      let l = joined_assoc V (look a k) (look b k) (look c k) (reads_look K V a k p) (reads_look K V b k q) (reads_look K V c k r) in
      i ∙ ap (λ o. joined V o (look c k)) x ∙ l ∙ ap (joined V (look a k)) (sym y) ∙ sym j

  pub union_comm : (a b : Map) → Sound K V a → Sound K V b → union K V a b ≡ union K V b a
  union_comm a b p q =
      sound_equal K V (union K V a b) (union K V b a) (sound_union K V a b p q) (sound_union K V b a q p)
      λ k. look_union K V a b p q k ∙ joined_comm V (look a k) (look b k) (reads_look K V a k p) (reads_look K V b k q) ∙ sym (look_union K V b a q p k)

  pub union_self : (a : Map) → Sound K V a → union K V a a ≡ a
  union_self a p =
      sound_equal K V (union K V a a) a (sound_union K V a a p p) p λ k. look_union K V a a p p k ∙ joined_self V (look a k) (reads_look K V a k p)

  pub union_is_merge : (a b : Map) → Sound K V a → Sound K V b → union K V a b ≡ merge K V a [] b
  union_is_merge a b p q =
      sound_equal K V (union K V a b) (merge K V a [] b) (sound_union K V a b p q) (sound_merge K V a [] b p q)
      λ k. look_union K V a b p q k ∙ decided_none V (look a k) (look b k) (reads_look K V a k p) ∙ sym (look_merge K V a [] b p q k)

  pub merge_swap : (o b t : Map) → Sound K V o → Sound K V t → merge K V o b t ≡ merge K V t b o
  merge_swap o b t p q =
      sound_equal K V (merge K V o b t) (merge K V t b o) (sound_merge K V o b t p q) (sound_merge K V t b o q p)
      λ k. look_merge K V o b t p q k ∙ decided_swap V (look o k) (look b k) (look t k) (reads_look K V o k p) (reads_look K V t k q) ∙ sym (look_merge K V t b o q p k)

-- The image of a lawful map is a row of bytes. Assumes nothing.
use Rattle.std.proofs.Common.{◌≡◌, ℕ, zero, suc, ◌+◌, ◌-◌, true, ltb, List, [], ◌∷◌, ◌++◌, length, refl, ap, ◌∙◌, arith}
use Rattle.std.specs.List.{AllByRecursion}
use Rattle.std.proofs.lemmas.Bool.{and_parts, lt-ltb, and_from}
use Rattle.std.proofs.lemmas.List.{length-append}
use Rattle.byte_rows.specs.Rows.{byte_row, in_bytes}
use Rattle.kinds.specs.Kinds.{KeyKind, ValueKind}
use Rattle.byte_rows.proofs.Numbers.{in_bytes_row}
use Rattle.model.specs.declared.commands.TheConstants.{END}
use Rattle.model.specs.Maps.{Map, Readable}
use Rattle.model.specs.Tries.{sixteen, at_digit, one, many, branching, Lawful}
use Rattle.model.specs.Images.{entry, node, root, image}
use Rattle.model.proofs.Images.Lists.{flat, all_to, all_from_mem}
use Rattle.model.proofs.Images.Bits.{bits_of}
use Rattle.model.proofs.Images.Order.{singles, node_is}
use Rattle.model.proofs.Images.Gets.{Good, good_part, crowd_fits}

pub row_append : (xs ys : List ℕ) → byte_row xs ≡ true → byte_row ys ≡ true → byte_row (xs ++ ys) ≡ true
row_append [] ys a b = b
row_append (x ∷ xs) ys a b =
    let p = and_parts (ltb x 256) (byte_row xs) a in
    and_from _ _ p.0 (row_append xs ys p.1 b)

pub row_flat : {A : Type 0} (f : A → List ℕ) (xs : List A) → AllByRecursion (λ x. byte_row (f x) ≡ true) xs → byte_row (flat f xs) ≡ true
row_flat f [] a = refl
row_flat f (x ∷ xs) a = row_append (f x) (flat f xs) a.0 (row_flat f xs a.1)

module _ (K : KeyKind) (V : ValueKind) where
  row_entries : (m : Map) → AllByRecursion (Readable K V) m → byte_row (flat entry m) ≡ true
  row_entries m a = row_flat entry m (all_to (Readable K V) _ (λ s r. row_append s.key s.value (K.reads_bytes s.key r.0) (V.reads_bytes s.value r.1)) m a)

  row_node : (h : ℕ) (p : List ℕ) (m : Map) → length p + h ≡ 8 → Good K V p m → byte_row (node K h m) ≡ true
  row_node zero p m e good = and_from _ _ (lt-ltb (length m) 256 (omega (arith, crowd_fits K V p m (omega arith) good))) (row_entries m good.reads)
  row_node (suc h) p m e good =
      let part : (g : ℕ) → Good K V (p ++ (g ∷ [])) (at_digit K (7 - h) m g) = λ g. good_part K V p m (7 - h) g (omega arith) good in
      let x : ℕ = bits_of (λ g. one (at_digit K (7 - h) m g)) sixteen in
      let y : ℕ = bits_of (λ g. many (at_digit K (7 - h) m g)) sixteen in
      let es : List ℕ = flat (λ g. flat entry (at_digit K (7 - h) m g)) (singles K (7 - h) m) in
      let cs : List ℕ = flat (λ g. node K h (at_digit K (7 - h) m g)) (branching K (7 - h) m) in
      let entries : byte_row es ≡ true = row_flat (λ g. flat entry (at_digit K (7 - h) m g)) (singles K (7 - h) m)
      (all_from_mem _ (singles K (7 - h) m) (λ g n. row_entries (at_digit K (7 - h) m g) (part g).reads)) in
      let children : byte_row cs ≡ true = row_flat (λ g. node K h (at_digit K (7 - h) m g)) (branching K (7 - h) m)
      (all_from_mem _ (branching K (7 - h) m) (λ g n. row_node h (p ++ (g ∷ [])) (at_digit K (7 - h) m g) (omega (arith, length-append p (g ∷ []))) (part g))) in
      ap byte_row (node_is K h m)
      ∙ row_append (in_bytes 2 x) (in_bytes 2 y ++ (es ++ cs)) (in_bytes_row 2 x) (row_append (in_bytes 2 y) (es ++ cs) (in_bytes_row 2 y) (row_append es cs entries children))

  row_root : (m : Map) → Lawful K V m → byte_row (root K m) ≡ true
  row_root [] law = refl
  row_root (s ∷ m) law =
      row_node 8 [] (s ∷ m) refl (record { led = all_from_mem _ (s ∷ m) (λ t n. refl); reads = law.reads; rises = law.rises; uncrowded = law.uncrowded })

  pub row_image : (m : Map) → Lawful K V m → byte_row (image K V m) ≡ true
  row_image m law =
      and_from (ltb K.code 256) _ (lt-ltb K.code 256 K.code_fits)
      (and_from (ltb V.code 256) _ (lt-ltb V.code 256 V.code_fits)
      (row_append (root K m) (END ∷ in_bytes 4 (length m)) (row_root m law) (in_bytes_row 4 (length m))))

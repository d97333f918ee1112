-- The settings of a part in image order: gathered again, they are the part. Assumes nothing.
use Rattle.std.proofs.Common.{◌≡◌, ℕ, zero, suc, ◌+◌, ◌-◌, ◌≤◌, true, false, cond, eqb, List, [], ◌∷◌, ◌++◌, length, sym, refl, ap, ◌∙◌, ap₂, arith}
use Rattle.std.specs.List.{AllByRecursion}
use Rattle.std.proofs.lemmas.Bool.{eqb-true, ne_eqb, lt-ltb}
use Rattle.std.proofs.lemmas.List.{append-nil, length-append}
use Rattle.byte_rows.specs.Rows.{in_bytes}
use Rattle.kinds.specs.Kinds.{KeyKind}
use Rattle.model.specs.declared.commands.TheConstants.{NODE}
use Rattle.model.specs.Maps.{Setting, Map, Rises}
use Rattle.model.specs.Tries.{filter, digit, sixteen, at_digit, one, many, branching}
use Rattle.model.specs.Images.{entry, node}
use Rattle.model.specs.Reading.{gather}
use Rattle.model.proofs.Images.Lists.{flat, Mem, all_to, all_from_mem, all_join, all_filter, filter_passes, filter_append, all_flat, total_like, length_flat, total_filter, total_add, falls, falls_flat_filter, total_falls}
use Rattle.model.proofs.Images.Bits.{bits_of, bits_is, picked_is, sixteen_apart, digit_in}
use Rattle.model.proofs.Images.Rising.{KeyReads, gather_rises, gather_rising, filter_gather, filter_rises, same_parts}

-- the sizes of a part: none, one, or more
pub data Size (m : Map) : Type 0 where
  no_setting : m ≡ [] → one m ≡ false → many m ≡ false → Size m
  one_setting : length m ≡ 1 → one m ≡ true → many m ≡ false → Size m
  more_settings : 2 ≤ length m → one m ≡ false → many m ≡ true → Size m

pub size : (m : Map) → Size m
size [] = no_setting refl refl refl
size (s ∷ []) = one_setting refl refl refl
size (s ∷ (t ∷ m)) = more_settings (omega arith) (ne_eqb _ 1 (omega arith)) (lt-ltb 1 _ (omega arith))

module _ (K : KeyKind) where
  -- the digit of a setting at a depth
  abbrev pub place : ℕ → Setting → ℕ
  place d s = digit (K.hash s.key) d

  pub all_placed : (d : ℕ) (m : Map) → AllByRecursion (λ s. Mem (place d s) sixteen) m
  all_placed d m = all_from_mem _ m (λ s n. digit_in (K.hash s.key) d)

  pub part_place : (d : ℕ) (m : Map) (g : ℕ) → AllByRecursion (λ s. place d s ≡ g) (at_digit K d m g)
  part_place d m g =
      all_to (λ s. eqb (place d s) g ≡ true) (λ s. place d s ≡ g) (λ s e. eqb-true (place d s) g e) (at_digit K d m g) (filter_passes (λ s. eqb (place d s) g) m)

  -- the digits of the entries
  abbrev pub singles : ℕ → Map → List ℕ
  singles d m = filter (λ g. one (at_digit K d m g)) sixteen

  -- a node that parts its settings by the digits at depth d
  abbrev pub node_form : ℕ → ℕ → Map → List ℕ
  node_form h d m =
      NODE ∷ (in_bytes 2 (bits_of (λ g. one (at_digit K d m g)) sixteen) ++ (in_bytes 2 (bits_of (λ g. many (at_digit K d m g)) sixteen) ++
      (flat (λ g. flat entry (at_digit K d m g)) (singles d m) ++ flat (λ g. node K h (at_digit K d m g)) (branching K d m))))

  pub node_is : (h : ℕ) (m : Map) → node K (suc h) m ≡ node_form h (7 - h) m
  node_is h m =
      rw (
        bits_is one (at_digit K (7 - h) m) sixteen,
        bits_is many (at_digit K (7 - h) m) sixteen,
        picked_is one (at_digit K (7 - h) m) (λ p. flat entry p) sixteen,
        picked_is many (at_digit K (7 - h) m) (node K h) sixteen,
      )

  -- the settings of a part with h levels below it, in image order
  abbrev pub order : ℕ → Map → List Setting
  order zero m = m
  order (suc h) m = flat (at_digit K (7 - h) m) (singles (7 - h) m) ++ flat (λ g. order h (at_digit K (7 - h) m g)) (branching K (7 - h) m)

  pub order_all : (P : Setting → Type 0) (h : ℕ) (m : Map) → AllByRecursion P m → AllByRecursion P (order h m)
  order_all P zero m a = a
  order_all P (suc h) m a =
      all_join P (flat (at_digit K (7 - h) m) (singles (7 - h) m)) _
      (all_flat P (at_digit K (7 - h) m) (singles (7 - h) m) (all_from_mem _ (singles (7 - h) m) (λ g n. all_filter P _ m a)))
      (all_flat P (λ g. order h (at_digit K (7 - h) m g)) (branching K (7 - h) m) (all_from_mem _ (branching K (7 - h) m) (λ g n. order_all P h (at_digit K (7 - h) m g) (all_filter P _ m a))))

  length_sized : (m : Map) (n : ℕ) → n ≡ length m → cond (one m) (length m) 0 + cond (many m) n 0 ≡ length m
  length_sized m n e = elim (size m) [
    | no_setting z p q ↦ rw (p, q) (sym (ap length z))
    | one_setting z p q ↦ rw (p, q) (omega arith)
    | more_settings z p q ↦ rw (p, q) (omega arith)
  ]

  -- the lengths of the entries and the children add up
  pub length_spread : (d : ℕ) (m : Map) (f : ℕ → List Setting) → ((g : ℕ) → length (f g) ≡ length (at_digit K d m g)) →
      length (flat (at_digit K d m) (singles d m)) + length (flat f (branching K d m)) ≡ length m
  length_spread d m f e =
      rw (
        length_flat (at_digit K d m) (singles d m),
        length_flat f (branching K d m),
        total_filter (λ g. length (at_digit K d m g)) (λ g. one (at_digit K d m g)) sixteen,
        total_filter (λ g. length (f g)) (λ g. many (at_digit K d m g)) sixteen,
      )
      (sym (total_add (λ g. cond (one (at_digit K d m g)) (length (at_digit K d m g)) 0) (λ g. cond (many (at_digit K d m g)) (length (f g)) 0) sixteen)
      ∙ (total_like (λ g. cond (one (at_digit K d m g)) (length (at_digit K d m g)) 0 + cond (many (at_digit K d m g)) (length (f g)) 0) (λ g. length (at_digit K d m g)) sixteen
      (all_from_mem _ sixteen (λ g n. length_sized (at_digit K d m g) (length (f g)) (e g)))
      ∙ total_falls (place d) m sixteen sixteen_apart (all_placed d m)))

  pub length_order : (h : ℕ) (m : Map) → length (order h m) ≡ length m
  length_order zero m = refl
  length_order (suc h) m =
      length-append (flat (at_digit K (7 - h) m) (singles (7 - h) m)) (flat (λ g. order h (at_digit K (7 - h) m g)) (branching K (7 - h) m))
      ∙ length_spread (7 - h) m (λ g. order h (at_digit K (7 - h) m g)) (λ g. length_order h (at_digit K (7 - h) m g))

  gather_sized : (h : ℕ) (m : Map) → Rises K m → gather K (order h m) ≡ m → gather K (cond (one m) m [] ++ cond (many m) (order h m) []) ≡ m
  gather_sized h m r e = elim (size m) [
    | no_setting z p q ↦ rw (p, q) (sym z)
    | one_setting z p q ↦ rw (p, q, append-nil m) (gather_rising K m r)
    | more_settings z p q ↦ rw (p, q) e
  ]

  pub gather_order : (h : ℕ) (m : Map) → Rises K m → AllByRecursion (KeyReads K) m → gather K (order h m) ≡ m
  gather_order zero m r a = gather_rising K m r
  gather_order (suc h) m r a =
      let xs : List Setting = order (suc h) m in
      let reads : AllByRecursion (KeyReads K) xs = order_all (KeyReads K) (suc h) m a in
      same_parts K (place (7 - h)) sixteen (gather K xs) m (gather_rises K xs reads) r (all_placed (7 - h) (gather K xs)) (all_placed (7 - h) m)
      (λ g n.
      let fallen : falls (place (7 - h)) xs g ≡ cond (one (at_digit K (7 - h) m g)) (at_digit K (7 - h) m g) [] ++ cond (many (at_digit K (7 - h) m g)) (order h (at_digit K (7 - h) m g)) [] =
      filter_append (λ s. eqb (place (7 - h) s) g) (flat (at_digit K (7 - h) m) (singles (7 - h) m)) (flat (λ x. order h (at_digit K (7 - h) m x)) (branching K (7 - h) m))
      ∙ ap₂ (λ u v. u ++ v)
      (falls_flat_filter (place (7 - h)) (at_digit K (7 - h) m) (λ x. one (at_digit K (7 - h) m x)) sixteen g sixteen_apart (part_place (7 - h) m) n)
      (falls_flat_filter (place (7 - h)) (λ x. order h (at_digit K (7 - h) m x)) (λ x. many (at_digit K (7 - h) m x)) sixteen g sixteen_apart
      (λ x. order_all (λ s. place (7 - h) s ≡ x) h (at_digit K (7 - h) m x) (part_place (7 - h) m x)) n) in
      filter_gather K (λ k. eqb (digit (K.hash k) (7 - h)) g) xs reads
      ∙ (ap (gather K) fallen
      ∙ gather_sized h (at_digit K (7 - h) m g) (filter_rises K _ m r)
      (gather_order h (at_digit K (7 - h) m g) (filter_rises K _ m r) (all_filter (KeyReads K) _ m a))))

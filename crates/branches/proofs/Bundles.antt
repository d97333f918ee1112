-- What is in hand for a node, by rank and by the bits of its maps. Assumes nothing.
use Rattle.std.proofs.Common.{◌≡◌, ℕ, suc, ◌+◌, ◌*◌, ◌^◌, ◌<◌, ◌≤◌, Bool, true, false, cond, List, [], ◌∷◌, ◌++◌, map, length, take, set, count_by, sym, refl, ap, ◌∙◌, subst, ap₂, mul_assoc, pow-suc, arith, length-set}
use lib.Count.{ones}
use lib.Lanes.{mask_l}
use Rattle.std.proofs.lemmas.List.{take_more_set, append-nil, length_push}
use Rattle.std.proofs.lemmas.List.Sums.{count_by-le-length, sum_by_push}
use Rattle.std.proofs.lemmas.Simd.{mask_l-lt, ones-mask_l}
use Rattle.model.specs.Maps.{Map}
use Rattle.model.specs.Images.{bits}
use Rattle.tables.specs.declared.cells.NodeCell.{NodeCell}
use Rattle.tables.specs.Cells.{listed}
use Rattle.tables.proofs.Listed.{listed_take}
use Rattle.branches.specs.declared.branch.Branch.{Branch}
use Rattle.branches.specs.declared.branch.Branch.TheVariants.{Nothing, Entry, Child}
use Rattle.branches.specs.Branches.{node_of, entry_of}
use Rattle.branches.specs.Handfuls.{nothing_in_hand, is_entry, is_child, with_branch, Bundled}

-- ---- masks of rows of bits

mask_append : (a b : List Bool) → mask_l (a ++ b) ≡ mask_l b * 2 ^ length a + mask_l a
mask_append [] b = omega arith
mask_append (x ∷ a) b =
    let e : mask_l b * 2 ^ suc (length a) ≡ mask_l b * 2 ^ length a * 2 = ap (λ (z : ℕ). mask_l b * z) (pow-suc 2 (length a)) ∙ sym (mul_assoc (mask_l b) (2 ^ length a) 2) in
    omega (arith, e, mask_append a b)

mask_yes : (a : List Bool) → mask_l (a ++ (true ∷ [])) ≡ mask_l a + 2 ^ length a
mask_yes a = omega (arith, mask_append a (true ∷ []))

mask_no : (a : List Bool) → mask_l (a ++ (false ∷ [])) ≡ mask_l a
mask_no a = omega (arith, mask_append a (false ∷ []))

pub bits_mask : (p : Map → Bool) (ms : List Map) → bits p ms ≡ mask_l (map p ms)
bits_mask p [] = refl
bits_mask p (m ∷ ms) = ap (λ (x : ℕ). cond (p m) 1 0 + 2 * x) (bits_mask p ms)

-- as many bits as there are yeses
pub ones_mask : (bs : List Bool) → ones (mask_l bs) ≡ count_by (λ b. b) bs
ones_mask bs = ap (λ (l : List Bool). ones (mask_l l)) (same bs) ∙ ones-mask_l (λ (b : Bool). b) bs
  where
    same : (l : List Bool) → l ≡ map (λ b. b) l
    same [] = refl
    same (b ∷ l) = ap (λ (r : List Bool). b ∷ r) (same l)

-- one bit more
count_push : (bs : List Bool) (b : Bool) → count_by (λ b. b) (bs ++ (b ∷ [])) ≡ count_by (λ b. b) bs + cond b 1 0
count_push bs b =
    sum_by_push (λ (x : Bool). cond x 1 0) bs b

-- ---- the branches of digit after digit

pub bundled_none : Bundled nothing_in_hand [] [] [] []
unfolding ones
bundled_none = record {
  slots = refl;
  child_slots = refl;
  entries_are = refl;
  children_are = refl;
  singles_are = refl;
  kids_are = refl;
  data_bits = refl;
  node_bits = refl;
  data_count = refl;
  node_count = refl;
  as_many = refl;
}

module _ (hand : NodeCell) (ds ns : List Bool) (xs ks : List ℕ) (B : Bundled hand ds ns xs ks) where
  -- one bit more
  data_more : ones (hand.datamap + 2 ^ length ds) ≡ ones hand.datamap + 1
  data_more =
      ap ones (ap (λ (n : ℕ). n + 2 ^ length ds) B.data_bits ∙ sym (mask_yes ds)) ∙ ones_mask (ds ++ (true ∷ [])) ∙ count_push ds true
      ∙ omega (arith, B.data_count, B.singles_are)

  node_more : ones (hand.nodemap + 2 ^ length ds) ≡ ones hand.nodemap + 1
  node_more =
      ap ones (ap₂ (λ (n k : ℕ). n + 2 ^ k) B.node_bits (sym B.as_many) ∙ sym (mask_yes ns)) ∙ ones_mask (ns ++ (true ∷ [])) ∙ count_push ns true
      ∙ omega (arith, B.node_count, B.kids_are)

  pub bundled_more : (b : Branch) → ones hand.datamap < 16 → ones hand.nodemap < 16 → Bundled (with_branch hand (length ds) b) (ds ++ (is_entry b ∷ [])) (ns ++ (is_child b ∷ [])) (xs ++ entry_of b) (ks ++ node_of b)
  bundled_more Nothing p q = record {
    slots = B.slots;
    child_slots = B.child_slots;
    entries_are = B.entries_are ∙ sym (append-nil xs);
    children_are = B.children_are ∙ sym (append-nil ks);
    singles_are = B.singles_are ∙ ap length (sym (append-nil xs));
    kids_are = B.kids_are ∙ ap length (sym (append-nil ks));
    data_bits = B.data_bits ∙ sym (mask_no ds);
    node_bits = B.node_bits ∙ sym (mask_no ns);
    data_count = count_push ds false ∙ omega (arith, B.data_count, ap length (append-nil xs));
    node_count = count_push ns false ∙ omega (arith, B.node_count, ap length (append-nil ks));
    as_many = length_push ns false ∙ ap (λ (n : ℕ). n + 1) B.as_many ∙ sym (length_push ds false);
  }
  bundled_more (Entry e) p q = record {
    slots = length-set hand.entries (ones hand.datamap) e.0 ∙ B.slots;
    child_slots = B.child_slots;
    entries_are =
        ap (λ (n : ℕ). take n (set hand.entries (ones hand.datamap) e.0)) data_more ∙ take_more_set hand.entries (ones hand.datamap) e.0 (omega (arith, B.slots)) ∙ ap (λ (l : List ℕ). l ++ (e.0 ∷ [])) B.entries_are;
    children_are = B.children_are ∙ sym (append-nil ks);
    singles_are = data_more ∙ ap (λ (n : ℕ). n + 1) B.singles_are ∙ sym (length_push xs e.0);
    kids_are = B.kids_are ∙ ap length (sym (append-nil ks));
    data_bits = ap (λ (n : ℕ). n + 2 ^ length ds) B.data_bits ∙ sym (mask_yes ds);
    node_bits = B.node_bits ∙ sym (mask_no ns);
    data_count = count_push ds true ∙ omega (arith, B.data_count, length_push xs e.0);
    node_count = count_push ns false ∙ omega (arith, B.node_count, ap length (append-nil ks));
    as_many = length_push ns false ∙ ap (λ (n : ℕ). n + 1) B.as_many ∙ sym (length_push ds true);
  }
  bundled_more (Child i) p q = record {
    slots = B.slots;
    child_slots = length-set hand.children (ones hand.nodemap) i.0 ∙ B.child_slots;
    entries_are = B.entries_are ∙ sym (append-nil xs);
    children_are =
        ap (λ (n : ℕ). take n (set hand.children (ones hand.nodemap) i.0)) node_more ∙ take_more_set hand.children (ones hand.nodemap) i.0 (omega (arith, B.child_slots)) ∙ ap (λ (l : List ℕ). l ++ (i.0 ∷ [])) B.children_are;
    singles_are = B.singles_are ∙ ap length (sym (append-nil xs));
    kids_are = node_more ∙ ap (λ (n : ℕ). n + 1) B.kids_are ∙ sym (length_push ks i.0);
    data_bits = B.data_bits ∙ sym (mask_no ds);
    node_bits = ap₂ (λ (n k : ℕ). n + 2 ^ k) B.node_bits (sym B.as_many) ∙ sym (mask_yes ns);
    data_count = count_push ds false ∙ omega (arith, B.data_count, ap length (append-nil xs));
    node_count = count_push ns true ∙ omega (arith, B.node_count, length_push ks i.0);
    as_many = length_push ns true ∙ ap (λ (n : ℕ). n + 1) B.as_many ∙ sym (length_push ds false);
  }

  -- no more than there are digits
  pub bundled_few : (ones hand.datamap ≤ length ds) × (ones hand.nodemap ≤ length ds)
  bundled_few =
      (omega (arith, B.singles_are, B.data_count, count_by-le-length (λ b. b) ds), omega (arith, B.kids_are, B.node_count, count_by-le-length (λ b. b) ns, B.as_many))

  pub bundled_fits : (hand.datamap < 2 ^ length ds) × (hand.nodemap < 2 ^ length ds)
  bundled_fits =
      (omega (arith, B.data_bits, mask_l-lt ds), subst (λ (n : ℕ). hand.nodemap < 2 ^ n) B.as_many (omega (arith, B.node_bits, mask_l-lt ns)))

  -- the slots by rank are what is in hand
  pub bundled_entries : length ds ≤ 16 → listed hand.datamap hand.entries ≡ xs
  bundled_entries h =
      listed_take hand.datamap hand.entries (omega (arith, B.slots, bundled_few.0)) ∙ B.entries_are

  pub bundled_children : length ds ≤ 16 → listed hand.nodemap hand.children ≡ ks
  bundled_children h =
      listed_take hand.nodemap hand.children (omega (arith, B.child_slots, bundled_few.1)) ∙ B.children_are

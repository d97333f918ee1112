-- The bytes of a node: its head, its entries, and the nodes of its children. Assumes nothing.
use Rattle.std.proofs.Common.{true, false, ◌≡◌, ℕ, zero, suc, ◌+◌, ◌-◌, ◌^◌, ◌<◌, ◌≤◌, Bool, eqb, List, [], ◌∷◌, ◌++◌, map, length, sym, refl, ap, ◌∙◌, subst, ap₂, append_assoc, arith}
use lib.Count.{ones}
use Rattle.std.specs.Int.Count.{ones-ones}
use Rattle.std.specs.List.{AllByRecursion}
use Rattle.std.proofs.lemmas.List.{append-nil, length_push}
use Rattle.byte_rows.specs.Rows.{in_bytes, number}
use Rattle.byte_rows.proofs.Numbers.{in_bytes_number}
use Rattle.kinds.specs.Kinds.{KeyKind, ValueKind}
use Rattle.model.specs.declared.commands.TheConstants.{NODE, COLLISION}
use Rattle.model.specs.Maps.{Setting, Map, Readable}
use Rattle.model.specs.Tries.{filter, digit, sixteen, at_digit, parts, one, many}
use Rattle.model.specs.Images.{entry, bits, picked, node}
use Rattle.model.proofs.Images.Bits.{bits_is, bits_fit, picked_is}
use Rattle.model.proofs.Images.Lists.{flat, length_filter}
use Rattle.model.proofs.Marks.Members.{all_mem, all_from_mem}
use Rattle.tables.specs.Chains.{occ}
use Rattle.tables.specs.Notes.{Seat, branches, own}
use Rattle.plans.specs.Plans.{bushy, crowd, portion}
use Rattle.plans.proofs.Digits.{sound_at}
use Rattle.plans.proofs.Crowds.{crowd_at}
use Rattle.plans.proofs.Sharing.{portion_bushy}
use Rattle.branches.specs.Hands.{share_at}
use Rattle.branches.proofs.Filters.{branch_many}
use Rattle.branches.proofs.Goes.{many_bushy}
use Rattle.branches.proofs.Seats.{own_short, own_deep, own_bits, branches_short, branches_deep, branches_bits, branch_short, branch_small}
use Rattle.branches.proofs.Under.{own_within}
use Rattle.image_reader.specs.Cursors.{Cursor}
use Rattle.image_loader.specs.Heads.{operands, head_width, data_in, nodes_in}
use Rattle.image_loader.specs.Ahead.{Ahead, NodeAhead}
use Rattle.image_loader.proofs.Readers.{command_fits, command_operands, command_past}

-- ---- rows

-- the first of one that is not empty
pub uncons : {A : Type 0} (l : List A) → 0 < length l → (x : A) × ((xs : List A) × (l ≡ x ∷ xs))
uncons [] h = absurd (omega arith)
uncons (x ∷ xs) h = (x, (xs, refl))

flat_append : {A B : Type 0} (f : A → List B) (a b : List A)
    → flat f (a ++ b) ≡ flat f a ++ flat f b
flat_append f [] b = refl
flat_append {B = B} f (x ∷ a) b = ap (λ (l : List B). f x ++ l) (flat_append f a b)
    ∙ sym (append_assoc (f x) (flat f a) (flat f b))

flat_flat : {A B C : Type 0} (e : B → List C) (f : A → List B) (l : List A)
    → flat (λ x. flat e (f x)) l ≡ flat e (flat f l)
flat_flat e f [] = refl
flat_flat {C = C} e f (x ∷ l) = ap (λ (r : List C). flat e (f x) ++ r) (flat_flat e f l)
    ∙ sym (flat_append e (f x) (flat f l))

-- ---- a node

-- the byte of its command, and its operands
abbrev pub command : ℕ → ℕ
command zero = COLLISION
command (suc h) = NODE

abbrev pub head : KeyKind → ℕ → Seat → List ℕ
head K zero s = length s.settings ∷ []
head K (suc h) s =
    in_bytes 2 (bits one (parts K (length s.prefix) s.settings)) ++ in_bytes 2
    (bits many (parts K (length s.prefix) s.settings))

module _ (K : KeyKind) (s : Seat) where
  -- the node of a child
  abbrev pub child_bytes : ℕ → ℕ → List ℕ
  child_bytes height g = node K (height - 1) (at_digit K (length s.prefix) s.settings g)

  pub node_bytes : (height : ℕ) → length s.prefix + height ≡ 8
      → node K height s.settings
      ≡ command height
      ∷ (head K height s ++ (flat entry (own K s) ++ flat (child_bytes height) (branches K s)))
  node_bytes zero deep =
      ap (λ (l : List ℕ). COLLISION ∷ (length s.settings ∷ l))
      (sym (append-nil (flat entry s.settings))
      ∙ sym (ap₂ (λ (w : Map) (l : List ℕ). flat entry w ++ flat (child_bytes 0) l)
      (own_deep K s (omega arith)) (branches_deep K s (omega arith))))
  node_bytes (suc h) deep =
      let short : length s.prefix < 8 = omega arith in
      let f : ℕ → Map = at_digit K (length s.prefix) s.settings in
      let z : h ≡ suc h - 1 = omega arith in
      let d : 7 - h ≡ length s.prefix = omega arith in
      let entries : flat (λ g. flat entry (f g)) (filter (λ g. one (f g)) sixteen)
      ≡ flat entry (own K s) =
      flat_flat entry f (filter (λ g. one (f g)) sixteen)
      ∙ ap (flat entry) (sym (own_short K s short ∙ picked_is one f (λ q. q) sixteen)) in
      let children : flat (λ g. node K h (f g)) (filter (λ g. many (f g)) sixteen)
      ≡ flat (child_bytes (suc h)) (branches K s) =
      ap (λ (i : ℕ). flat (λ g. node K i (f g)) (filter (λ g. many (f g)) sixteen)) z
      ∙ ap (flat (child_bytes (suc h))) (sym (branches_short K s short)) in
      ap (λ (i : ℕ). NODE
      ∷ (in_bytes 2 (bits one (parts K i s.settings))
      ++ (in_bytes 2 (bits many (parts K i s.settings))
      ++ (picked one (flat entry) (parts K i s.settings) ++ picked many (node K h)
      (parts K i s.settings))))) d
      ∙ ap₂ (λ (x y : List ℕ). NODE
      ∷ (in_bytes 2 (bits one (parts K (length s.prefix) s.settings))
      ++ (in_bytes 2 (bits many (parts K (length s.prefix) s.settings)) ++ (x ++ y))))
      (picked_is one f (flat entry) sixteen ∙ entries)
      (picked_is many f (node K h) sixteen ∙ children)

-- ---- its maps

bits_number : (p : Map → Bool) (f : ℕ → Map)
    → number (in_bytes 2 (bits p (map f sixteen))) ≡ bits p (map f sixteen)
bits_number p f =
    in_bytes_number 2 (bits p (map f sixteen))
    (subst (λ (n : ℕ). n < 256 ^ 2) (sym (bits_is p f sixteen)) (bits_fit (λ y. p (f y))))

-- two maps have a bit for each own setting and for each child: above the deepest level, those of
-- their digits
pub record HasMaps (K : KeyKind) (s : Seat) (d n : ℕ) : Type 0 where
  pub entries : ones d ≡ length (own K s)
  pub children : ones n ≡ length (branches K s)
  pub data_bits : length s.prefix < 8 → d ≡ bits one (parts K (length s.prefix) s.settings)
  pub node_bits : length s.prefix < 8 → n ≡ bits many (parts K (length s.prefix) s.settings)

maps_in : (K : KeyKind) (s : Seat) (height : ℕ) → length s.prefix + height ≡ 8
    → HasMaps K s (data_in height (head K height s)) (nodes_in height (head K height s))
maps_in K s zero deep = record {
  entries = ones-ones (length s.settings) ∙ ap length (sym (own_deep K s (omega arith)));
  children = ones-ones 0 ∙ ap length (sym (branches_deep K s (omega arith)));
  data_bits = λ short. absurd (omega arith);
  node_bits = λ short. absurd (omega arith);
}
maps_in K s (suc h) deep =
    let d = bits_number one (at_digit K (length s.prefix) s.settings) in
    let n = bits_number many (at_digit K (length s.prefix) s.settings) in
    record {
      entries = ap ones d ∙ own_bits K s (omega arith);
      children = ap ones n
          ∙ branches_bits K s (omega arith);
      data_bits = λ short. d;
      node_bits = λ short. n;
    }

-- ---- a node that is ahead

module _ {K : KeyKind} {V : ValueKind} {r : Cursor} {height : ℕ} (q : NodeAhead K V r height) where
  abbrev pub seat_of : Seat
  seat_of = record { prefix = q.prefix; settings = q.part }

  -- the entries of some settings, and then the children at some digits, are next
  abbrev pub next : Map → List ℕ → List ℕ
  next left gs = flat entry left ++ (flat (child_bytes K seat_of height) gs ++ q.rest)

  abbrev its_head : List ℕ
  its_head = head K height seat_of

  head_ahead : Ahead r (command height ∷ (its_head ++ next (own K seat_of) (branches K seat_of)))
  head_ahead = record {
    within = q.ahead.within;
    is = q.ahead.is ∙ ap (λ (l : List ℕ). l ++ q.rest) (node_bytes K seat_of height q.deep)
        ∙ ap (λ (l : List ℕ). command height ∷ l) (append_assoc its_head _ q.rest
        ∙ ap (λ (l : List ℕ). its_head ++ l) (append_assoc (flat entry (own K seat_of)) _ q.rest));
  }

  head_wide : head_width height ≡ length its_head
  head_wide = go height
    where
      go : (h : ℕ) → head_width h ≡ length (head K h seat_of)
      go zero = refl
      go (suc h) = refl

  pub head_fits : r.at + (1 + head_width height) ≤ length r.image
  head_fits = command_fits r (command height) its_head _ (head_width height) head_wide head_ahead

  head_is : operands r (head_width height) ≡ its_head
  head_is = command_operands r (command height) its_head _ (head_width height) head_wide head_ahead

  -- its maps are read, and its entries are next
  pub head_read : (d n : ℕ) (s : Cursor)
      → d ≡ data_in height (operands r (head_width height))
      → n ≡ nodes_in height (operands r (head_width height))
      → s.image ≡ r.image → s.at ≡ r.at + (1 + head_width height)
      → HasMaps K seat_of d n × Ahead s (next (own K seat_of) (branches K seat_of))
  head_read d n s e f image at = (
    subst (λ (x : ℕ). HasMaps K seat_of x n) (sym (e ∙ ap (data_in height) head_is))
        (subst (HasMaps K seat_of (data_in height its_head))
        (sym (f ∙ ap (nodes_in height) head_is))
        (maps_in K seat_of height q.deep)),
    command_past r (command height) its_head _ (head_width height) head_wide head_ahead s image at,
  )

  -- its own settings are readable
  pub own_reads : AllByRecursion (Readable K V) (own K seat_of)
  own_reads =
      all_from_mem (Readable K V) (own K seat_of)
      (λ s m. all_mem (Readable K V) q.part s q.sound.reads (own_within K seat_of s m))

  -- ---- a child

  module _ (g : ℕ) (b : 0 < occ g (branches K seat_of)) where
    abbrev pub below : Map
    below = at_digit K (length q.prefix) q.part g

    pub child_tall : 0 < height
    child_tall = omega (arith, branch_short K seat_of g b, q.deep)

    pub child_several : bushy (height - 1) below ≡ true
    child_several =
        many_bushy (height - 1) below (omega (arith, q.deep, child_tall))
        (branch_many K seat_of g b)

    pub child_shares : (n : ℕ)
        → portion K n (height - 1) (q.prefix ++ (g ∷ [])) [] below
        ≡ share_at K n (height - 1) q.prefix [] q.part g
    child_shares n =
        portion_bushy K n (height - 1) (q.prefix ++ (g ∷ [])) [] below child_several

    pub child_calm : crowd K (height - 1) (suc (length q.prefix)) below ≡ false
    child_calm =
        let up : suc (height - 1) ≡ height = omega (arith, child_tall) in
        crowd_at K (height - 1) (length q.prefix) q.part g
        (ap (λ (h : ℕ). crowd K h (length q.prefix) q.part) up ∙ q.calm)
        (branch_small K seat_of g b)

    -- the first of some
    unfoldable pub child_ahead : (s : Cursor) (gs : List ℕ) → Ahead s (next [] (g ∷ gs))
        → NodeAhead K V s (height - 1)
    child_ahead s gs A =
        let long : suc (length q.prefix) ≡ length (q.prefix ++ (g ∷ [])) =
        omega (arith, length_push q.prefix g) in
        record {
          prefix = q.prefix ++ (g ∷ []);
          part = at_digit K (length q.prefix) q.part g;
          rest = next [] gs;
          deep = omega (arith, q.deep, long, child_tall);
          sound = sound_at K V (length q.prefix) g q.part q.sound;
          several = child_several;
          calm = ap (λ (d : ℕ). crowd K (height - 1) d below) (sym long) ∙ child_calm;
          few =
              omega (
                arith,
                q.few,
                length_filter (λ (t : Setting). eqb (digit (K.hash t.key) (length q.prefix)) g)
                    q.part,
              );
          ahead = record {
            within = A.within;
            is = A.is ∙ append_assoc (child_bytes K seat_of height g) _ q.rest;
          };
        }

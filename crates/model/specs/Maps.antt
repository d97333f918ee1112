-- Finite maps from keys to values, both as bytes. Assumes nothing.
use Rattle.std.specs.Prelude.{◌≡◌, ℕ, Bool, true, false, cond, ◌&&◌, List, [], ◌∷◌, ◌++◌, map, Some, None, Option}
use Rattle.std.specs.List.{AllByRecursion}
use Rattle.byte_rows.specs.Rows.{same}
use Rattle.kinds.specs.Kinds.{KeyKind, ValueKind}

-- a key with its value
pub record Setting : Type 0 where
  pub key : List ℕ
  pub value : List ℕ

-- settings in rising key order, so that equal maps are equal lists
abbrev pub Map : Type 0
Map = List Setting

abbrev pub keys : Map → List (List ℕ)
keys m = map (λ s. s.key) m

-- ---- look-ups

-- the value of a key, or nothing
abbrev pub look : Map → List ℕ → Option (List ℕ)
look [] k = None
look (s ∷ m) k = cond (same s.key k) (Some s.value) (look m k)

-- whether two look-ups found the same
abbrev pub same_found : Option (List ℕ) → Option (List ℕ) → Bool
same_found None None = true
same_found None (Some b) = false
same_found (Some a) None = false
same_found (Some a) (Some b) = same a b

abbrev pub same_map : Map → Map → Bool
same_map [] [] = true
same_map [] (t ∷ b) = false
same_map (s ∷ a) [] = false
same_map (s ∷ a) (t ∷ b) = same s.key t.key && (same s.value t.value && same_map a b)

-- ---- maps by their look-ups

-- a setting in its place by key order, in place of one with its key
abbrev pub insert : KeyKind → Setting → Map → Map
insert K s [] = s ∷ []
insert K s (t ∷ m) =
    cond (K.before s.key t.key) (s ∷ (t ∷ m)) (cond (K.before t.key s.key) (t ∷ insert K s m) (s ∷ m))

-- a key with what is found for it, if anything
abbrev pub insert_found : KeyKind → List ℕ → Option (List ℕ) → Map → Map
insert_found K k (Some v) m = insert K (record { key = k; value = v }) m
insert_found K k None m = m

-- the map that has, at each of the given keys, what a function finds
abbrev pub tabulate : KeyKind → List (List ℕ) → (List ℕ → Option (List ℕ)) → Map
tabulate K [] f = []
tabulate K (k ∷ ks) f = insert_found K k (f k) (tabulate K ks f)

-- the value v at the key k, and all else as it was
abbrev pub put : KeyKind → Map → List ℕ → List ℕ → Map
put K m k v = tabulate K (k ∷ keys m) (λ x. cond (same x k) (Some v) (look m x))

-- nothing at the key k, and all else as it was
abbrev pub remove : KeyKind → Map → List ℕ → Map
remove K m k = tabulate K (keys m) (λ x. cond (same x k) None (look m x))

-- the value of either side, or the join of both
abbrev pub joined : ValueKind → Option (List ℕ) → Option (List ℕ) → Option (List ℕ)
joined V None None = None
joined V None (Some b) = Some b
joined V (Some a) None = Some a
joined V (Some a) (Some b) = Some (V.join a b)

-- the settings of both, joined where both have a key
abbrev pub union : KeyKind → ValueKind → Map → Map → Map
union K V a b = tabulate K (keys a ++ keys b) (λ x. joined V (look a x) (look b x))

-- what becomes of a key in a merge of ours and theirs over a base
abbrev pub decided : ValueKind → Option (List ℕ) → Option (List ℕ) → Option (List ℕ) → Option (List ℕ)
decided V ours base theirs =
    cond (same_found ours theirs) theirs (cond (same_found ours base) theirs (cond (same_found theirs base) ours (joined V ours theirs)))

-- what each key of ours or theirs becomes
abbrev pub merge : KeyKind → ValueKind → Map → Map → Map → Map
merge K V ours base theirs = tabulate K (keys ours ++ keys theirs) (λ x. decided V (look ours x) (look base x) (look theirs x))

-- ---- sound maps

-- each key comes before all that follow it
abbrev pub Rises : KeyKind → Map → Type 0
Rises K [] = Unit {0}
Rises K (s ∷ m) = AllByRecursion (λ t. K.before s.key t.key ≡ true) m × Rises K m

-- key and value are bytes of their kinds
abbrev pub Readable : KeyKind → ValueKind → Setting → Type 0
Readable K V s = (K.readable s.key ≡ true) × (V.readable s.value ≡ true)

-- in rising key order, of readable settings
pub record Sound (K : KeyKind) (V : ValueKind) (m : Map) : Type 0 where
  pub rises : Rises K m
  pub reads : AllByRecursion (Readable K V) m

-- ---- laws

-- maps with equal look-ups are equal
abbrev pub LookUpsSayAll : KeyKind → ValueKind → Type 0
LookUpsSayAll K V = (a b : Map) → Sound K V a → Sound K V b → ((k : List ℕ) → look a k ≡ look b k) → a ≡ b

-- what a look-up finds after each edit, at every key
abbrev pub PutSetsOneKey : KeyKind → ValueKind → Type 0
PutSetsOneKey K V =
    (m : Map) (k v : List ℕ) → Sound K V m → K.readable k ≡ true → V.readable v ≡ true →
    Sound K V (put K m k v) × ((x : List ℕ) → look (put K m k v) x ≡ cond (same x k) (Some v) (look m x))

abbrev pub RemoveClearsOneKey : KeyKind → ValueKind → Type 0
RemoveClearsOneKey K V =
    (m : Map) (k : List ℕ) → Sound K V m → K.readable k ≡ true →
    Sound K V (remove K m k) × ((x : List ℕ) → look (remove K m k) x ≡ cond (same x k) None (look m x))

abbrev pub UnionJoinsEachKey : KeyKind → ValueKind → Type 0
UnionJoinsEachKey K V =
    (a b : Map) → Sound K V a → Sound K V b →
    Sound K V (union K V a b) × ((x : List ℕ) → look (union K V a b) x ≡ joined V (look a x) (look b x))

abbrev pub MergeDecidesEachKey : KeyKind → ValueKind → Type 0
MergeDecidesEachKey K V =
    (ours base theirs : Map) → Sound K V ours → Sound K V theirs →
    Sound K V (merge K V ours base theirs) × ((x : List ℕ) → look (merge K V ours base theirs) x ≡ decided V (look ours x) (look base x) (look theirs x))

-- union and merge
abbrev pub UnionIsAssociative : KeyKind → ValueKind → Type 0
UnionIsAssociative K V = (a b c : Map) → Sound K V a → Sound K V b → Sound K V c → union K V (union K V a b) c ≡ union K V a (union K V b c)

abbrev pub UnionIsCommutative : KeyKind → ValueKind → Type 0
UnionIsCommutative K V = (a b : Map) → Sound K V a → Sound K V b → union K V a b ≡ union K V b a

abbrev pub UnionIsIdempotent : KeyKind → ValueKind → Type 0
UnionIsIdempotent K V = (a : Map) → Sound K V a → union K V a a ≡ a

abbrev pub UnionIsMergeOverNothing : KeyKind → ValueKind → Type 0
UnionIsMergeOverNothing K V = (a b : Map) → Sound K V a → Sound K V b → union K V a b ≡ merge K V a [] b

abbrev pub MergeFavoursNoSide : KeyKind → ValueKind → Type 0
MergeFavoursNoSide K V = (ours base theirs : Map) → Sound K V ours → Sound K V theirs → merge K V ours base theirs ≡ merge K V theirs base ours

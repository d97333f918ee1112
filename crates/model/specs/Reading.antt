-- How an image is judged: the map that it is of, or the first faulty command. Assumes nothing.
use Rattle.std.specs.Prelude.{◌≡◌, ℕ, zero, suc, ◌+◌, ◌/◌, ◌%◌, ◌^◌, Bool, true, cond, ◌&&◌, ◌||◌, List, [], ◌∷◌, ◌++◌, length, take, drop, ◌==◌, bit_and, nat_eq, nat_le, nat_lt}
use Rattle.byte_rows.specs.Rows.{byte_row, number, same}
use Rattle.kinds.specs.Kinds.{KeyKind, ValueKind}
use Rattle.model.specs.declared.commands.TheConstants.{HEADER, NODE, ENTRY, COLLISION, END}
use Rattle.model.specs.declared.limits.TheConstants.{MOST_OF_A_HASH}
use Rattle.model.specs.Maps.{Setting, Map, insert}
use Rattle.model.specs.Tries.{filter, sixteen, leads, Lawful}
use Rattle.model.specs.Images.{header, image}

-- what reading some commands gives
pub data Read : Type 0 where
  got : List Setting → ℕ → List ℕ → Read  -- the settings, the offset, what is left
  fault : ℕ → ℕ → Read  -- the number of refusal, the offset

-- the digits whose bits are set
abbrev pub digits_in : ℕ → List ℕ
digits_in bits = filter (λ g. nat_eq ((bits / 2 ^ g) % 2) 1) sixteen

-- settings that were read before
abbrev pub prepend : List Setting → Read → Read
prepend xs (got ys at bs) = got (xs ++ ys) at bs
prepend xs (fault n at) = fault n at

-- a reading, and if it went well another
abbrev pub then : Read → (ℕ → List ℕ → Read) → Read
then (got xs at bs) f = prepend xs (f at bs)
then (fault n at) f = fault n at

-- one reading after another
abbrev pub each : {A : Type 0} → (A → ℕ → List ℕ → Read) → List A → ℕ → List ℕ → Read
each f [] at bs = got [] at bs
each f (x ∷ xs) at bs = then (f x at bs) (each f xs)

-- a command that must begin with a byte and have w bytes of operands, judged in order
abbrev pub command : ℕ → ℕ → (List ℕ → ℕ → List ℕ → Read) → ℕ → List ℕ → Read
command c w f at [] = fault 8 at
command c w f at (b ∷ bs) =
    cond (b == c) (cond (nat_lt (length bs) w) (fault 8 at) (f (take w bs) (at + (1 + w)) (drop w bs))) (fault 9 at)

-- the entry that operands are of, if its key passes a test; at is the offset of its command
abbrev pub entry_in : KeyKind → ValueKind → (List ℕ → Bool) → ℕ → List ℕ → ℕ → List ℕ → Read
entry_in K V ok at w to rest =
    cond (K.readable (take K.width w) && (V.readable (drop K.width w) && ok (take K.width w)))
    (got (record { key = take K.width w; value = drop K.width w } ∷ []) to rest) (fault 9 at)

-- an entry whose key has to pass a test
abbrev pub read_entry : KeyKind → ValueKind → (List ℕ → Bool) → ℕ → List ℕ → Read
read_entry K V ok at bs = command ENTRY (K.width + V.width) (entry_in K V ok at) at bs

-- the setting that a reading begins with, if any, and what to read after it
abbrev pub with_first : ℕ → Read → (Setting → ℕ → List ℕ → Read) → Read
with_first at (got [] to rest) f = fault 9 at
with_first at (got (x ∷ xs) to rest) f = prepend (x ∷ xs) (f x to rest)
with_first at (fault n to) f = fault n to

-- the entries of a collision node, whose keys rise
abbrev pub rising : KeyKind → ValueKind → List ℕ → ℕ → (List ℕ → Bool) → ℕ → List ℕ → Read
rising K V p zero ok at bs = got [] at bs
rising K V p (suc n) ok at bs =
    with_first at (read_entry K V (λ k. leads K 0 p k && ok k) at bs) (λ x. rising K V p n (λ k. K.before x.key k))

-- whether a node with h + 1 levels below it has enough entries and children: one at the root, else a child or two entries
abbrev pub enough : ℕ → List ℕ → List ℕ → Bool
enough h singles below = cond (h == 7) (nat_lt 0 (length singles + length below)) (nat_lt 0 (length below) || nat_lt 1 (length singles))

-- the entries and the children of a node with the given bits, the children read by what is given
abbrev pub read_parts : KeyKind → ValueKind → (List ℕ → ℕ → List ℕ → Read) → ℕ → List ℕ → ℕ → ℕ → ℕ → ℕ → List ℕ → Read
read_parts K V child h p at «data» nodes to rest =
    cond (bit_and «data» nodes == 0 && enough h (digits_in «data») (digits_in nodes))
    (then (each (λ g. read_entry K V (leads K 0 (p ++ (g ∷ [])))) (digits_in «data») to rest)
    (each (λ g. child (p ++ (g ∷ []))) (digits_in nodes)))
    (fault 9 at)

-- the entries of a collision node with a count
abbrev pub read_crowd : KeyKind → ValueKind → List ℕ → ℕ → ℕ → ℕ → List ℕ → Read
read_crowd K V p at n to rest = cond (nat_le 2 n && nat_le n MOST_OF_A_HASH) (rising K V p n (λ k. true) to rest) (fault 9 at)

-- a node with h levels below it, at a prefix
abbrev pub read_node : KeyKind → ValueKind → ℕ → List ℕ → ℕ → List ℕ → Read
read_node K V zero p at bs = command COLLISION 1 (λ w. read_crowd K V p at (number w)) at bs
read_node K V (suc h) p at bs =
    command NODE 4 (λ w. read_parts K V (read_node K V h) h p at (number (take 2 w)) (number (drop 2 w))) at bs

-- the map that an image is of, or the number of refusal and the offset
pub data Verdict : Type 0 where
  accepted : Map → Verdict
  refused : ℕ → ℕ → Verdict

-- settings in any order as a map
abbrev pub gather : KeyKind → List Setting → Map
gather K [] = []
gather K (s ∷ ss) = insert K s (gather K ss)

-- the root node, if there is one
abbrev pub read_root : KeyKind → ValueKind → ℕ → List ℕ → Read
read_root K V at [] = got [] at []
read_root K V at (b ∷ bs) = cond (b == NODE) (read_node K V 8 [] at (b ∷ bs)) (got [] at (b ∷ bs))

-- the end, with the count n, and nothing after it
abbrev pub end_in : ℕ → ℕ → List ℕ → ℕ → List ℕ → Read
end_in n at w to rest = cond (number w == n) (cond (length rest == 0) (got [] to rest) (fault 9 to)) (fault 9 at)

-- the end, after so many entries
abbrev pub read_end : ℕ → ℕ → List ℕ → Read
read_end n at bs = command END 4 (end_in n at) at bs

-- after the root's settings, the end with their number
abbrev pub ended : Read → Read
ended (got xs at left) = prepend xs (read_end (length xs) at left)
ended (fault n at) = fault n at

-- what follows a header
abbrev pub body_in : KeyKind → ValueKind → List ℕ → ℕ → List ℕ → Read
body_in K V w to rest = cond (same w (header K V)) (ended (read_root K V to rest)) (fault 7 0)

-- a whole image
abbrev pub read_whole : KeyKind → ValueKind → List ℕ → Read
read_whole K V bs = command HEADER 3 (body_in K V) 0 bs

abbrev pub verdict : KeyKind → Read → Verdict
verdict K (got xs at left) = accepted (gather K xs)
verdict K (fault n at) = refused n at

abbrev pub judge : KeyKind → ValueKind → List ℕ → Verdict
judge K V bs = verdict K (read_whole K V bs)

-- ---- laws of images

-- an image is a row of bytes, and reading it gives its map
abbrev pub ImagesReadBack : KeyKind → ValueKind → Type 0
ImagesReadBack K V = (m : Map) → Lawful K V m → (byte_row (image K V m) ≡ true) × (judge K V (image K V m) ≡ accepted m)

-- bytes that are accepted as a map are the image of that map, and the map is lawful: so exactly the images are accepted
abbrev pub OnlyImagesAreAccepted : KeyKind → ValueKind → Type 0
OnlyImagesAreAccepted K V = (bs : List ℕ) (m : Map) → byte_row bs ≡ true → judge K V bs ≡ accepted m → (bs ≡ image K V m) × Lawful K V m

abbrev pub EqualImagesAreOfEqualMaps : KeyKind → ValueKind → Type 0
EqualImagesAreOfEqualMaps K V = (m n : Map) → Lawful K V m → Lawful K V n → image K V m ≡ image K V n → m ≡ n

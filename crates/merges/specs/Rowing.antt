-- The row of a merge at the deepest level, chosen key by key. Assumes nothing.
use Rattle.std.specs.Prelude.{◌≡◌, ℕ, ◌+◌, ◌<◌, ◌≤◌, true, cond, ◌&&◌, List, [], ◌∷◌, ◌++◌, map, length, take, drop, is_some, replicate, Some, None, Option, IfSome, nat_lt, count_by}
use Rattle.std.specs.List.{AllByRecursion}
use Rattle.kinds.specs.Kinds.{KeyKind, ValueKind}
use Rattle.model.specs.declared.limits.TheConstants.{MOST_OF_A_HASH}
use Rattle.model.specs.Maps.{Map, look, same_map, merge, Rises, Sound}
use Rattle.tables.specs.declared.cells.EntryCell.{EntryCell}
use Rattle.tables.specs.declared.cells.EntryId.{EntryId}
use Rattle.tables.specs.Chains.{occ}
use Rattle.branches.specs.Branches.{SomeEntry}
use Rattle.plans.specs.Plans.{capped}
use Rattle.edits.specs.declared.estimate.Estimate.{Estimate}
use Rattle.edits.specs.Rowing.{setting_at, row_settings}
use Rattle.merges.specs.declared.choices.Choice.{Choice}
use Rattle.merges.specs.declared.choices.Choice.TheVariants.{Ours, Theirs, Joined}
use Rattle.merges.specs.declared.choices.Decision.{Decision}
use Rattle.merges.specs.declared.chosen.Chosen.{Chosen}
use Rattle.merges.specs.Choices.{is_new, chosen}

-- ---- one key more

-- none, or one
abbrev pub choices_of : Option Choice → List Choice
choices_of (Some c) = c ∷ []
choices_of None = []

-- the entries of a result
abbrev pub choices : Chosen → List Choice
choices c = take c.count c.row

abbrev pub nothing_chosen : Chosen
nothing_chosen = record { row = replicate 32 (Ours (record { 0 = 0 })); count = 0; ours = true; theirs = true; new = 0 }

-- r is c with what becomes of one key more
pub record And (c : Chosen) (key : Decision) (r : Chosen) : Type 0 where
  pub choices_are : choices r ≡ choices c ++ choices_of key.choice
  pub count_is : r.count ≡ c.count + length (choices_of key.choice)
  pub long : length r.row ≡ length c.row
  pub ours_is : r.ours ≡ (c.ours && key.ours)
  pub theirs_is : r.theirs ≡ (c.theirs && key.theirs)
  pub new_is : r.new ≡ c.new + count_by is_new (choices_of key.choice)

-- ---- the first key

-- an entry, if there is one, as a row
abbrev pub ids_of : Option EntryId → List ℕ
ids_of (Some e) = e.0 ∷ []
ids_of None = []

-- so many entries are taken of a row
abbrev pub taken : Option EntryId → ℕ
taken o = cond (is_some o) 1 0

module _ {X Y : Type 0} (K : KeyKind) (kb : X → List ℕ) (vb : Y → List ℕ) (es : List (EntryCell X Y)) where
  -- the entry id is the first of a row, and has the key
  pub record FirstIs (xs : List ℕ) (key : X) (id : EntryId) : Type 0 where
    pub row : xs ≡ id.0 ∷ drop 1 xs
    pub some : SomeEntry K kb vb es id.0
    pub key_is : (setting_at kb vb es id.0).key ≡ kb key

  -- the entry of a key comes first in a row that rises, if it is there, and all that is left comes after the key
  pub record Comes (xs : List ℕ) (k : List ℕ) (own : Option EntryId) : Type 0 where
    pub row : xs ≡ ids_of own ++ drop (taken own) xs
    pub some : IfSome own (λ id. SomeEntry K kb vb es id.0)
    pub key_is : IfSome own (λ id. (setting_at kb vb es id.0).key ≡ k)
    pub ahead : Rises K (row_settings kb vb es xs) → AllByRecursion (λ s. K.before k s.key ≡ true) (row_settings kb vb es (drop (taken own) xs))

  -- the first key of two rows, with its entry in either
  pub record HeadIs (xs zs : List ℕ) (key : X) (ours theirs : Option EntryId) : Type 0 where
    pub mine : Comes xs (kb key) ours
    pub other : Comes zs (kb key) theirs
    pub some : 1 ≤ taken ours + taken theirs

  -- ---- all keys

  module _ (V : ValueKind) where
    -- a choice is of entries of the rows, and of the first that has its value
    abbrev pub Apt : List ℕ → List ℕ → Choice → Type 0
    Apt xs zs (Ours e) = 0 < occ e.0 xs
    Apt xs zs (Theirs e) = (0 < occ e.0 zs) × ((look (row_settings kb vb es xs) (setting_at kb vb es e.0).key ≡ Some (setting_at kb vb es e.0).value) → ⊥)
    Apt xs zs (Joined e d) =
        (0 < occ e.0 xs) × ((0 < occ d.0 zs) × (((look (row_settings kb vb es xs) (setting_at kb vb es e.0).key ≡ Some (chosen V kb vb es (Joined e d)).value) → ⊥)
        × ((look (row_settings kb vb es zs) (setting_at kb vb es e.0).key ≡ Some (chosen V kb vb es (Joined e d)).value) → ⊥)))

    -- the rows of ours and theirs are sound, and the base's rises
    pub record Ordered (xs ys zs : List ℕ) : Type 0 where
      pub mine : Sound K V (row_settings kb vb es xs)
      pub common : Rises K (row_settings kb vb es ys)
      pub other : Sound K V (row_settings kb vb es zs)

    abbrev pub merged_rows : List ℕ → List ℕ → List ℕ → Map
    merged_rows xs ys zs = merge K V (row_settings kb vb es xs) (row_settings kb vb es ys) (row_settings kb vb es zs)

    pub record Fitting (xs ys zs : List ℕ) (c : Chosen) : Type 0 where
      pub settings : map (chosen V kb vb es) (choices c) ≡ merged_rows xs ys zs
      pub ours_is : c.ours ≡ same_map (row_settings kb vb es xs) (merged_rows xs ys zs)
      pub theirs_is : c.theirs ≡ same_map (row_settings kb vb es zs) (merged_rows xs ys zs)
      pub apt : AllByRecursion (Apt xs zs) (choices c)

    -- what becomes of all keys
    pub record Chose (xs ys zs : List ℕ) (c : Chosen) : Type 0 where
      pub inside : c.count ≤ length c.row
      pub new_is : c.new ≡ count_by is_new (choices c)
      pub fitting : Fitting xs ys zs c

-- what that would make of a branch
pub record Tallied (c : Chosen) (e : Estimate) : Type 0 where
  pub size : e.size ≡ capped (length (choices c))
  pub ours : e.ours ≡ c.ours
  pub theirs : e.theirs ≡ c.theirs
  pub crowded : e.crowded ≡ nat_lt MOST_OF_A_HASH (length (choices c))
  pub nodes : e.nodes ≡ cond (nat_lt 1 (length (choices c))) (cond c.ours 0 (cond c.theirs 0 1)) 0
  pub entries : e.entries ≡ c.new

-- Accounts that a new store comes to by a list of calls, and what holds of each, over any kinds. Assumes nothing.
use Rattle.std.specs.Prelude.{◌≡◌, ℕ, ◌+◌, ◌<◌, ◌≤◌, Bool, true, ◌↔◌, List, [], ◌∷◌, ◌++◌, map, length, is_some, Some, None, Option, IsTrue}
use mathlib.Core.List.{Memᴰ}
use Rattle.byte_rows.specs.Rows.{byte_row}
use Rattle.kinds.specs.Kinds.{KeyKind, ValueKind}
use Rattle.model.specs.declared.limits.TheConstants.{MOST_CELLS}
use Rattle.model.specs.Maps.{look}
use Rattle.model.specs.Tries.{has_node, Lawful}
use Rattle.model.specs.Images.{image}
use Rattle.model.specs.Sharing.{Marked}
use Rattle.model.specs.Accounts.{Version, empty, draft, published, Account, fresh, nth}
use Rattle.kinds.specs.Refusals as refusals
use Rattle.model.specs.Calls.{Call, Open, OpenFrom, Put, Remove, Union, Merge, Publish, Abandon, Retire, Load, LookUp, Count, Compare, Save, Free, took, equal, saved, spare, refused, outcome, after, run}

-- the version at a place, if the place is live
abbrev pub live : Account → ℕ → Option Version
live a i = elim (nth a.places i) [ empty ↦ None | draft v ↦ Some v | published v ↦ Some v ]

-- the keys and values of a call were made by their kinds, and its image is bytes
abbrev pub Made : KeyKind → ValueKind → Call → Type 0
Made K V (Open i) = Unit {0}
Made K V (OpenFrom i j) = Unit {0}
Made K V (Put i k v) = (K.readable k ≡ true) × (V.readable v ≡ true)
Made K V (Remove i k) = K.readable k ≡ true
Made K V (Union i j) = Unit {0}
Made K V (Merge i b t) = Unit {0}
Made K V (Publish i) = Unit {0}
Made K V (Abandon i) = Unit {0}
Made K V (Retire i) = Unit {0}
Made K V (Load i bs) = byte_row bs ≡ true
Made K V (LookUp i k) = K.readable k ≡ true
Made K V (Count i) = Unit {0}
Made K V (Compare i j) = Unit {0}
Made K V (Save i n) = Unit {0}
Made K V Free = Unit {0}

abbrev pub AllMade : KeyKind → ValueKind → List Call → Type 0
AllMade K V calls = (c : Call) → Memᴰ c calls → Made K V c

-- an account that a new store, over tables of at most 65,535 cells, comes to by some list of calls
pub record Reached (K : KeyKind) (V : ValueKind) (a : Account) : Type 0 where
  pub nodes : ℕ
  pub entries : ℕ
  pub few_nodes : nodes ≤ MOST_CELLS
  pub few_entries : entries ≤ MOST_CELLS
  pub calls : List Call
  pub all_made : AllMade K V calls
  pub comes : run K V (fresh nodes entries) calls ≡ a

-- ---- rows that list things once

-- no two of a row are the same
abbrev pub Distinct : {A : Type 0} → List A → Type 0
Distinct [] = Unit {0}
Distinct (x ∷ xs) = (Memᴰ x xs → ⊥) × Distinct xs

-- a row has each thing of which P holds, once, and nothing else
pub record ListsOnce {A : Type 0} (P : A → Type 0) (row : List A) : Type 0 where
  pub once : Distinct row
  pub each : (x : A) → Memᴰ x row → P x
  pub all : (x : A) → P x → Memᴰ x row

-- some live version has a marked node
abbrev pub HoldsNode : Account → Marked → Type 0
HoldsNode a x = (i : ℕ) × ((v : Version) × ((live a i ≡ Some v) × Memᴰ x v.nodes))

-- some live version has a marked entry
abbrev pub HoldsEntry : Account → Marked → Type 0
HoldsEntry a x = (i : ℕ) × ((v : Version) × ((live a i ≡ Some v) × Memᴰ x v.entries))

-- two rows of names have the same names
abbrev pub SameNames : List ℕ → List ℕ → Type 0
SameNames x y = ((n : ℕ) → Memᴰ n x → Memᴰ n y) × ((n : ℕ) → Memᴰ n y → Memᴰ n x)

-- ---- live versions

abbrev pub LiveMapsAreLawful : KeyKind → ValueKind → Type 0
LiveMapsAreLawful K V = (a : Account) → Reached K V a → (i : ℕ) (v : Version) → live a i ≡ Some v → Lawful K V v.settings

-- the marked nodes of a version are the nodes of its map's trie, each once
abbrev pub MarkedNodesAreTheTrie : KeyKind → ValueKind → Type 0
MarkedNodesAreTheTrie K V =
    (a : Account) → Reached K V a → (i : ℕ) (v : Version) → live a i ≡ Some v → ListsOnce (λ p. has_node K v.settings p ≡ true) (map (λ x. x.what) v.nodes)

-- the marked entries of a version are its keys, each once
abbrev pub MarkedEntriesAreTheKeys : KeyKind → ValueKind → Type 0
MarkedEntriesAreTheKeys K V =
    (a : Account) → Reached K V a → (i : ℕ) (v : Version) → live a i ≡ Some v → ListsOnce (λ k. is_some (look v.settings k) ≡ true) (map (λ x. x.what) v.entries)

-- no mark is above the number of calls
abbrev pub MarksAreNumbersOfCalls : KeyKind → ValueKind → Type 0
MarksAreNumbersOfCalls K V =
    (a : Account) → Reached K V a → (i : ℕ) (v : Version) → live a i ≡ Some v →
    ((x : Marked) → Memᴰ x v.nodes → x.mark ≤ a.calls) × ((x : Marked) → Memᴰ x v.entries → x.mark ≤ a.calls)

-- what live versions hold can be listed, each node and each entry once
abbrev pub HeldThingsCanBeListed : KeyKind → ValueKind → Type 0
HeldThingsCanBeListed K V =
    (a : Account) → Reached K V a → ((nodes : List Marked) × ListsOnce (HoldsNode a) nodes) × ((entries : List Marked) × ListsOnce (HoldsEntry a) entries)

-- and such lists fit the tables
abbrev pub TablesHoldAll : KeyKind → ValueKind → Type 0
TablesHoldAll K V =
    (a : Account) → Reached K V a → (nodes entries : List Marked) → ListsOnce (HoldsNode a) nodes → ListsOnce (HoldsEntry a) entries →
    (length nodes ≤ a.node_cells) × (length entries ≤ a.entry_cells)

-- ---- promises

-- live versions have equal images exactly when their maps are equal, in one store or in two
abbrev pub EqualImagesMeanEqualMaps : KeyKind → ValueKind → Type 0
EqualImagesMeanEqualMaps K V =
    (a b : Account) → Reached K V a → Reached K V b → (i j : ℕ) (v w : Version) → live a i ≡ Some v → live b j ≡ Some w →
    (image K V v.settings ≡ image K V w.settings → v.settings ≡ w.settings) × (v.settings ≡ w.settings → image K V v.settings ≡ image K V w.settings)

-- the free nodes and entries that are answered, beside the ones held, are the cells lent
pub record FreeBeside (K : KeyKind) (V : ValueKind) (a : Account) (nodes entries : List Marked) : Type 0 where
  pub free_nodes : ℕ
  pub free_entries : ℕ
  pub answer_is : (outcome K V a Free).answer ≡ spare free_nodes free_entries
  pub nodes_are : free_nodes + length nodes ≡ a.node_cells
  pub entries_are : free_entries + length entries ≡ a.entry_cells

-- free answers the cells lent less the distinct nodes, and entries, that live versions hold
abbrev pub FreeIsWhatNoVersionHolds : KeyKind → ValueKind → Type 0
FreeIsWhatNoVersionHolds K V =
    (a : Account) → Reached K V a → (nodes entries : List Marked) → ListsOnce (HoldsNode a) nodes → ListsOnce (HoldsEntry a) entries →
    FreeBeside K V a nodes entries

-- the image of a live version is what save writes into a buffer that it fits in; a shorter one is refused with 12
abbrev pub SavesWriteTheImage : KeyKind → ValueKind → Type 0
SavesWriteTheImage K V =
    (a : Account) → Reached K V a → (i : ℕ) (v : Version) → live a i ≡ Some v → (capacity : ℕ) →
    (length (image K V v.settings) ≤ capacity → (outcome K V a (Save i capacity)).answer ≡ saved (image K V v.settings))
    × (capacity < length (image K V v.settings) → (outcome K V a (Save i capacity)).answer ≡ refused (refusals.refused 12))

-- compare answers yes exactly if the maps of two live versions are equal
abbrev pub CompareSaysWhetherMapsAreEqual : KeyKind → ValueKind → Type 0
CompareSaysWhetherMapsAreEqual K V =
    (a : Account) → Reached K V a → (i j : ℕ) (v w : Version) → live a i ≡ Some v → live a j ≡ Some w →
    (yes : Bool) × (((outcome K V a (Compare i j)).answer ≡ equal yes) × (IsTrue yes ↔ (v.settings ≡ w.settings)))

-- live versions gathered from one set of names have one image
abbrev pub SameNamesMeanOneImage : KeyKind → ValueKind → Type 0
SameNamesMeanOneImage K V =
    (a : Account) → Reached K V a → (i j : ℕ) (v w : Version) → live a i ≡ Some v → live a j ≡ Some w →
    (x y : List ℕ) → v.names ≡ Some x → w.names ≡ Some y → SameNames x y → image K V v.settings ≡ image K V w.settings

-- ---- merges

-- the versions at the places of a merge, before and after it
pub record Merged (K : KeyKind) (V : ValueKind) (a : Account) (i b t : ℕ) : Type 0 where
  pub ours : Version
  pub base : Version
  pub theirs : Version
  pub result : Version
  pub ours_is : nth a.places i ≡ draft ours
  pub base_is : nth a.places b ≡ published base
  pub theirs_is : nth a.places t ≡ published theirs
  pub result_is : nth (after K V a (Merge i b t)).places i ≡ draft result

-- an accepted merge has them
abbrev pub AcceptedMergesLeaveAVersion : KeyKind → ValueKind → Type 0
AcceptedMergesLeaveAVersion K V =
    (a : Account) → Reached K V a → (i b t n e : ℕ) → (outcome K V a (Merge i b t)).answer ≡ took n e → Merged K V a i b t

-- an accepted merge, somewhere in a list of calls on a new store
pub record MergeIn (K : KeyKind) (V : ValueKind) (calls : List Call) : Type 0 where
  pub nodes : ℕ
  pub entries : ℕ
  pub few_nodes : nodes ≤ MOST_CELLS
  pub few_entries : entries ≤ MOST_CELLS
  pub before : List Call
  pub ours_at : ℕ
  pub base_at : ℕ
  pub theirs_at : ℕ
  pub rest : List Call
  pub calls_are : calls ≡ before ++ (Merge ours_at base_at theirs_at ∷ rest)
  pub new_nodes : ℕ
  pub new_entries : ℕ
  pub accepted : (outcome K V (run K V (fresh nodes entries) before) (Merge ours_at base_at theirs_at)).answer ≡ took new_nodes new_entries
  pub merged : Merged K V (run K V (fresh nodes entries) before) ours_at base_at theirs_at

-- two accepted merges over equal bases, with ours and theirs swapped, leave equal images, wherever in one list of calls or in two they are
abbrev pub MergeIsSymmetric : KeyKind → ValueKind → Type 0
MergeIsSymmetric K V =
    (calls others : List Call) → AllMade K V calls → AllMade K V others → (x : MergeIn K V calls) (y : MergeIn K V others) →
    x.merged.base.settings ≡ y.merged.base.settings → x.merged.ours.settings ≡ y.merged.theirs.settings → x.merged.theirs.settings ≡ y.merged.ours.settings →
    image K V x.merged.result.settings ≡ image K V y.merged.result.settings

-- The calls of a store: what each answers, by the numbers of refusal in their order, and what it leaves. Assumes nothing.
use Rattle.std.specs.Prelude.{ℕ, ◌+◌, Bool, cond, ◌&&◌, List, [], ◌∷◌, ◌++◌, map, length, Some, None, Option, nat_le, nat_lt, slice_set}
use Rattle.kinds.specs.Kinds.{KeyKind, ValueKind}
use Rattle.kinds.specs.Refusals.{Refused}
use Rattle.kinds.specs.Refusals as refusals
use Rattle.model.specs.declared.limits.TheConstants.{PLACES}
use Rattle.model.specs.Maps.{Map, look, put, remove, union, merge, same_map}
use Rattle.model.specs.Tries.{crowded}
use Rattle.model.specs.Images.{image}
use Rattle.model.specs.Reading.{judge, accepted}
use Rattle.model.specs.Reading as reading
use Rattle.model.specs.Sharing.{Shared, shared, no_share}
use Rattle.model.specs.Accounts.{Version, Place, empty, draft, published, Account, nth, whole, free_nodes, free_entries}

-- a call with its arguments: places by number, keys, values and images as bytes
pub data Call : Type 0 where
  Open : ℕ → Call
  OpenFrom : ℕ → ℕ → Call
  Put : ℕ → List ℕ → List ℕ → Call
  Remove : ℕ → List ℕ → Call
  Union : ℕ → ℕ → Call
  Merge : ℕ → ℕ → ℕ → Call
  Publish : ℕ → Call
  Abandon : ℕ → Call
  Retire : ℕ → Call
  Load : ℕ → List ℕ → Call
  LookUp : ℕ → List ℕ → Call
  Count : ℕ → Call
  Compare : ℕ → ℕ → Call
  -- into a buffer of so many bytes
  Save : ℕ → ℕ → Call
  Free : Call

pub data Answer : Type 0 where
  done : Answer
  -- so many nodes and entries
  took : ℕ → ℕ → Answer
  found : Option (List ℕ) → Answer
  counted : ℕ → Answer
  equal : Bool → Answer
  saved : List ℕ → Answer
  -- so many nodes and entries are free
  spare : ℕ → ℕ → Answer
  refused : Refused → Answer

-- what a call answers, and the places that it leaves
pub record Outcome : Type 0 where
  pub answer : Answer
  pub places : List Place

module _ (K : KeyKind) (V : ValueKind) (a : Account) where
  -- the number of the call
  abbrev pub now : ℕ
  now = a.calls + 1

  abbrev pub at : ℕ → Place
  at i = nth a.places i

  -- an answer that leaves the places as they are
  abbrev pub reply : Answer → Outcome
  reply r = record { answer = r; places = a.places }

  abbrev pub refuse : ℕ → Outcome
  refuse n = reply (refused (refusals.refused n))

  -- an answer that leaves something new at a place
  abbrev pub leave : Answer → ℕ → Place → Outcome
  leave r i p = record { answer = r; places = slice_set a.places i p }

  -- ---- judgement

  abbrev pub on_place : ℕ → Outcome → Outcome
  on_place i o = cond (nat_le PLACES i) (refuse 3) o

  abbrev pub on_live : ℕ → (Version → Outcome) → Outcome
  on_live i f = elim (at i) [ empty ↦ refuse 4 | draft v ↦ f v | published v ↦ f v ]

  abbrev pub on_published : ℕ → (Version → Outcome) → Outcome
  on_published i f = elim (at i) [ empty ↦ refuse 4 | draft v ↦ refuse 4 | published v ↦ f v ]

  abbrev pub on_empty : ℕ → Outcome → Outcome
  on_empty i o = elim (at i) [ empty ↦ o | draft v ↦ refuse 5 | published v ↦ refuse 5 ]

  abbrev pub on_draft : ℕ → (Version → Outcome) → Outcome
  on_draft i f = elim (at i) [ empty ↦ refuse 6 | draft v ↦ f v | published v ↦ refuse 6 ]

  abbrev pub on_uncrowded : Map → Outcome → Outcome
  on_uncrowded m o = cond (crowded K m) (refuse 10) o

  -- a result with its sources, in its place if there is room for what it takes
  abbrev pub result : ℕ → List Version → Map → (Shared → Place) → Outcome
  result i vs m f =
      let s : Shared = shared K now (map whole vs) m in
      cond (nat_le s.new_nodes (free_nodes a) && nat_le s.new_entries (free_entries a))
      (leave (took s.new_nodes s.new_entries) i (f s)) (refuse 11)

  -- ---- versions and their names

  abbrev pub version : Map → Option (List ℕ) → Shared → Version
  version m names s = record { settings = m; nodes = s.nodes; entries = s.entries; names = names }

  -- the names of both; none where either is ungathered
  abbrev pub both_names : Option (List ℕ) → Option (List ℕ) → Option (List ℕ)
  both_names None b = None
  both_names (Some x) None = None
  both_names (Some x) (Some y) = Some (x ++ y)

  -- a draft as it is published: by its call's number where it is ungathered
  abbrev pub named : Version → Version
  named v = record { settings = v.settings; nodes = v.nodes; entries = v.entries; names = elim v.names [ Some x ↦ Some x | None ↦ Some (now ∷ []) ] }

  -- ---- the calls

  abbrev pub outcome : Call → Outcome
  outcome (Open i) = on_place i (on_empty i (leave done i (draft (version [] (Some []) no_share))))
  outcome (OpenFrom i j) = on_place i (on_place j (on_published j (λ v. on_empty i (leave done i (draft v)))))
  outcome (Put i k v) =
      on_place i (on_draft i (λ d. let m : Map = put K d.settings k v in on_uncrowded m (result i (d ∷ []) m (λ s. draft (version m None s)))))
  outcome (Remove i k) = on_place i (on_draft i (λ d. let m : Map = remove K d.settings k in result i (d ∷ []) m (λ s. draft (version m None s))))
  outcome (Union i j) =
      on_place i (on_place j (on_published j (λ o. on_draft i (λ d.
      let m : Map = union K V d.settings o.settings in
      on_uncrowded m (result i (d ∷ (o ∷ [])) m (λ s. draft (version m (both_names d.names o.names) s)))))))
  outcome (Merge i b t) =
      on_place i (on_place b (on_place t (on_published b (λ base. on_published t (λ theirs. on_draft i (λ d.
      let m : Map = merge K V d.settings base.settings theirs.settings in
      on_uncrowded m (result i (d ∷ (theirs ∷ [])) m (λ s. draft (version m None s)))))))))
  outcome (Publish i) = on_place i (on_draft i (λ v. leave done i (published (named v))))
  outcome (Abandon i) = on_place i (on_draft i (λ v. leave done i empty))
  outcome (Retire i) = on_place i (on_published i (λ v. leave done i empty))
  outcome (Load i bs) =
      on_place i (on_empty i (elim (judge K V bs) [
        | accepted m ↦ result i [] m (λ s. published (version m (Some (now ∷ [])) s))
        | reading.refused n o ↦ reply (refused (refusals.refused_at n o))
      ]))
  outcome (LookUp i k) = on_place i (on_live i (λ v. reply (found (look v.settings k))))
  outcome (Count i) = on_place i (on_live i (λ v. reply (counted (length v.settings))))
  outcome (Compare i j) = on_place i (on_place j (on_live i (λ v. on_live j (λ w. reply (equal (same_map v.settings w.settings))))))
  outcome (Save i room) =
      on_place i (on_live i (λ v. cond (nat_lt room (length (image K V v.settings))) (refuse 12) (reply (saved (image K V v.settings)))))
  outcome Free = reply (spare (free_nodes a) (free_entries a))

  -- the account after a call, accepted or refused
  abbrev pub after : Call → Account
  after c = record { calls = now; node_cells = a.node_cells; entry_cells = a.entry_cells; places = (outcome c).places }

-- the account after a list of calls
abbrev pub run : KeyKind → ValueKind → Account → List Call → Account
run K V a [] = a
run K V a (c ∷ cs) = run K V (after K V a c) cs

-- what the calls of a list answer
abbrev pub answers : KeyKind → ValueKind → Account → List Call → List Answer
answers K V a [] = []
answers K V a (c ∷ cs) = (outcome K V a c).answer ∷ answers K V (after K V a c) cs

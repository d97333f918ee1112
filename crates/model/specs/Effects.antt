-- What a call leaves at the places, and what it does to the names that a version is gathered from. Assumes nothing.
use Rattle.std.specs.Prelude.{◌≡◌, ℕ, ◌+◌, ◌↔◌, ◌⊎◌, List, [], ◌∷◌, Some, None, Option}
use mathlib.Core.List.{Memᴰ}
use Rattle.kinds.specs.Kinds.{KeyKind, ValueKind}
use Rattle.kinds.specs.Refusals.{Refused}
use Rattle.model.specs.Maps as maps
use Rattle.model.specs.Maps.{Map}
use Rattle.model.specs.Reading.{judge, accepted}
use Rattle.model.specs.Accounts.{Version, Place, empty, draft, published, Account, nth}
use Rattle.model.specs.Calls.{Call, Open, OpenFrom, Put, Remove, Union, Merge, Publish, Abandon, Retire, Load, LookUp, Count, Compare, Save, Free, refused, outcome, after}
use Rattle.model.specs.Runs.{Made, Reached}

-- the place that a call may change
abbrev pub place_of : Call → Option ℕ
place_of (Open i) = Some i
place_of (OpenFrom i j) = Some i
place_of (Put i k v) = Some i
place_of (Remove i k) = Some i
place_of (Union i j) = Some i
place_of (Merge i b t) = Some i
place_of (Publish i) = Some i
place_of (Abandon i) = Some i
place_of (Retire i) = Some i
place_of (Load i bs) = Some i
place_of (LookUp i k) = None
place_of (Count i) = None
place_of (Compare i j) = None
place_of (Save i n) = None
place_of Free = None

-- ---- names

-- a draft is named by its publishing, with the number of that call, unless it is gathered already
abbrev pub published_names : ℕ → Option (List ℕ) → Option (List ℕ)
published_names n (Some x) = Some x
published_names n None = Some (n ∷ [])

-- a union is gathered from the names of both, and from nothing else; it is ungathered where either is
abbrev pub GathersBoth : Option (List ℕ) → Option (List ℕ) → Option (List ℕ) → Type 0
GathersBoth (Some x) (Some y) (Some z) = (n : ℕ) → Memᴰ n z ↔ (Memᴰ n x ⊎ Memᴰ n y)
GathersBoth (Some x) (Some y) None = ⊥
GathersBoth (Some x) None z = z ≡ None
GathersBoth None y z = z ≡ None

-- ---- what accepted calls leave

module _ (K : KeyKind) (V : ValueKind) (a : Account) where
  abbrev pub Accepted : Call → Type 0
  Accepted c = (x : Refused) → (outcome K V a c).answer ≡ refused x → ⊥

  -- a call leaves a draft, or a published version, at a place
  abbrev pub LeavesDraft : Call → ℕ → (Version → Type 0) → Type 0
  LeavesDraft c i P = (v : Version) × ((nth (after K V a c).places i ≡ draft v) × P v)

  abbrev pub LeavesPublished : Call → ℕ → (Version → Type 0) → Type 0
  LeavesPublished c i P = (v : Version) × ((nth (after K V a c).places i ≡ published v) × P v)

  -- a draft, or a published version, is at a place
  abbrev pub SomeDraft : ℕ → (Version → Type 0) → Type 0
  SomeDraft i P = (v : Version) × ((nth a.places i ≡ draft v) × P v)

  abbrev pub SomePublished : ℕ → (Version → Type 0) → Type 0
  SomePublished i P = (v : Version) × ((nth a.places i ≡ published v) × P v)

  pub record Effects : Type 0 where
    pub opened : (i : ℕ) → Accepted (Open i) → LeavesDraft (Open i) i (λ v. (v.settings ≡ []) × (v.names ≡ Some []))
    pub opened_from : (i j : ℕ) → Accepted (OpenFrom i j) → SomePublished j (λ w. LeavesDraft (OpenFrom i j) i (λ v. v ≡ w))
    pub put :
        (i : ℕ) (k x : List ℕ) → Accepted (Put i k x)
        → SomeDraft i (λ d. LeavesDraft (Put i k x) i (λ v. (v.settings ≡ maps.put K d.settings k x) × (v.names ≡ None)))
    pub removed :
        (i : ℕ) (k : List ℕ) → Accepted (Remove i k)
        → SomeDraft i (λ d. LeavesDraft (Remove i k) i (λ v. (v.settings ≡ maps.remove K d.settings k) × (v.names ≡ None)))
    pub united :
        (i j : ℕ) → Accepted (Union i j)
        → SomeDraft i (λ d. SomePublished j (λ o. LeavesDraft (Union i j) i (λ v. (v.settings ≡ maps.union K V d.settings o.settings) × GathersBoth d.names o.names v.names)))
    pub merged :
        (i b t : ℕ) → Accepted (Merge i b t)
        → SomeDraft i (λ d. SomePublished b (λ base. SomePublished t (λ theirs. LeavesDraft (Merge i b t) i (λ v.
        (v.settings ≡ maps.merge K V d.settings base.settings theirs.settings) × (v.names ≡ None)))))
    pub published :
        (i : ℕ) → Accepted (Publish i)
        → SomeDraft i (λ d. LeavesPublished (Publish i) i (λ v.
        (v.settings ≡ d.settings) × ((v.nodes ≡ d.nodes) × ((v.entries ≡ d.entries) × (v.names ≡ published_names (a.calls + 1) d.names)))))
    pub abandoned : (i : ℕ) → Accepted (Abandon i) → SomeDraft i (λ d. nth (after K V a (Abandon i)).places i ≡ empty)
    pub retired : (i : ℕ) → Accepted (Retire i) → SomePublished i (λ v. nth (after K V a (Retire i)).places i ≡ empty)
    pub loaded :
        (i : ℕ) (bs : List ℕ) → Accepted (Load i bs)
        → (m : Map) × ((judge K V bs ≡ accepted m) × LeavesPublished (Load i bs) i (λ v. (v.settings ≡ m) × (v.names ≡ Some ((a.calls + 1) ∷ []))))

-- ---- laws

abbrev pub AcceptedCallsHaveTheirEffects : KeyKind → ValueKind → Type 0
AcceptedCallsHaveTheirEffects K V = (a : Account) → Reached K V a → Effects K V a

-- every place that a call may not change stays as it is; and a refused call leaves all places as they are
abbrev pub OtherPlacesStay : KeyKind → ValueKind → Type 0
OtherPlacesStay K V = (a : Account) → Reached K V a → (c : Call) → Made K V c → (i : ℕ) → (place_of c ≡ Some i → ⊥) → nth (after K V a c).places i ≡ nth a.places i

abbrev pub RefusedCallsLeaveThePlaces : KeyKind → ValueKind → Type 0
RefusedCallsLeaveThePlaces K V =
    (a : Account) → Reached K V a → (c : Call) → Made K V c → (x : Refused) → (outcome K V a c).answer ≡ refused x → (after K V a c).places ≡ a.places

-- every call, accepted or refused, uses up one number, and the tables keep their lengths
abbrev pub EachCallIsCounted : KeyKind → ValueKind → Type 0
EachCallIsCounted K V =
    (a : Account) (c : Call) → ((after K V a c).calls ≡ a.calls + 1) × (((after K V a c).node_cells ≡ a.node_cells) × ((after K V a c).entry_cells ≡ a.entry_cells))

-- the tables of an account are as long as those that were lent
abbrev pub TablesKeepTheirLengths : KeyKind → ValueKind → Type 0
TablesKeepTheirLengths K V = (a : Account) (r : Reached K V a) → (a.node_cells ≡ r.nodes) × (a.entry_cells ≡ r.entries)

-- a published version is gathered from some names
abbrev pub PublishedVersionsAreGathered : KeyKind → ValueKind → Type 0
PublishedVersionsAreGathered K V = (a : Account) → Reached K V a → (i : ℕ) (v : Version) → nth a.places i ≡ published v → (x : List ℕ) × (v.names ≡ Some x)

-- One key of a branch is set: what may be taken for granted, and what it leaves. Assumes nothing.
use Rattle.std.specs.Prelude.{◌≡◌, ℕ, ◌+◌, ◌*◌, ◌≤◌, Bool, true, false, ◌⊎◌, List, [], ◌∷◌, length, Some, None, Option}
use Rattle.kinds.specs.Kinds.{KeyKind, ValueKind}
use Rattle.model.specs.declared.limits.TheConstants.{MOST_CELLS}
use Rattle.model.specs.Maps.{Setting, Map, Sound, look, same_found}
use Rattle.model.specs.Sharing.{Part}
use Rattle.plans.specs.Plans.{edited, crowd, portion, Tally, Told}
use Rattle.branches.specs.declared.branch.Branch.{Branch}
use Rattle.branches.specs.States.{Tables, Notes, Sits, Clear, Under, Led}
use Rattle.branches.specs.Branches.{Is, Built}
use Rattle.edits.specs.declared.estimate.Estimate.{Estimate}

-- a value by its bytes, or nothing
abbrev pub value_bytes : {Y : Type 0} → (Y → List ℕ) → Option Y → Option (List ℕ)
value_bytes vb (Some v) = Some (vb v)
value_bytes vb None = None

-- what is set is readable
abbrev pub ValueReads : ValueKind → Option (List ℕ) → Type 0
ValueReads V (Some v) = V.readable v ≡ true
ValueReads V None = Unit {0}

-- ---- reading

-- the branch b is some part, into which the key leads, with so many levels below
pub record Seen {X Y : Type 0} (K : KeyKind) (V : ValueKind) (kb : X → List ℕ) (vb : Y → List ℕ) (T : Tables X Y) (b : Branch) (k : List ℕ) (x : Option (List ℕ)) (level : ℕ) : Type 0 where
  pub prefix : List ℕ
  pub source : Part
  pub notes : Notes
  pub roots : List ℕ
  pub in_hand : List ℕ
  pub sits : Sits K kb vb T notes roots in_hand
  pub is : Is T notes b level prefix source
  pub deep : length prefix + level ≡ 8
  pub sound : Sound K V source.settings
  pub key_reads : K.readable k ≡ true
  pub value_reads : ValueReads V x
  pub led : Led K prefix k
  pub calm : crowd K level (length prefix) source.settings ≡ false
  pub few : length source.settings ≤ MOST_CELLS

abbrev pub tally : Estimate → Tally
tally c = record { size = c.size; ours = c.ours; theirs = c.theirs; crowded = c.crowded; nodes = c.nodes; entries = c.entries }

-- the estimate is the account's, whatever part the branch is, for any call
pub record Estimated {X Y : Type 0} (K : KeyKind) (V : ValueKind) (kb : X → List ℕ) (vb : Y → List ℕ) (T : Tables X Y) (b : Branch) (k : List ℕ) (x : Option (List ℕ)) (level : ℕ) (c : Estimate) : Type 0 where
  pub told : (q : Seen K V kb vb T b k x level) (n : ℕ) → Told K n level q.prefix q.source q.source (edited K q.source.settings k x) (tally c)

-- ---- building

-- the same, where the edit changes the part, there is room for it, and no label of the call n is below the prefix
pub record Ready {X Y : Type 0} (K : KeyKind) (V : ValueKind) (kb : X → List ℕ) (vb : Y → List ℕ) (T : Tables X Y) (b : Branch) (k : List ℕ) (x : Option (List ℕ)) (level : ℕ) : Type 0 where
  pub call : ℕ
  pub prefix : List ℕ
  pub source : Part
  pub notes : Notes
  pub roots : List ℕ
  pub in_hand : List ℕ
  pub sits : Sits K kb vb T notes roots in_hand
  pub clear : Clear call (Under prefix) (Led K prefix) T notes
  pub is : Is T notes b level prefix source
  pub deep : length prefix + level ≡ 8
  pub sound : Sound K V source.settings
  pub key_reads : K.readable k ≡ true
  pub value_reads : ValueReads V x
  pub led : Led K prefix k
  pub changed : same_found (look source.settings k) x ≡ false
  pub calm : crowd K level (length prefix) (edited K source.settings k x) ≡ false
  pub room : (portion K call level prefix (source ∷ []) (edited K source.settings k x)).new_nodes ≤ T.spare
  pub entry_room : (portion K call level prefix (source ∷ []) (edited K source.settings k x)).new_entries ≤ T.entry_spare
  pub few_roots : length roots + 16 * level + 16 ≤ MOST_CELLS
  pub few_in_hand : length in_hand + 16 * level + 16 ≤ MOST_CELLS

-- in each such case r is the branch of the result, built as the account shares it
pub record Done {X Y : Type 0} (K : KeyKind) (V : ValueKind) (kb : X → List ℕ) (vb : Y → List ℕ) (T : Tables X Y) (b : Branch) (k : List ℕ) (x : Option (List ℕ)) (level : ℕ) (r : Branch) (U : Tables X Y) : Type 0 where
  pub built : (q : Ready K V kb vb T b k x level)
      → Built K kb vb q.call level q.prefix (edited K q.source.settings k x) (portion K q.call level q.prefix (q.source ∷ []) (edited K q.source.settings k x)) T q.notes q.roots q.in_hand r U

-- ---- an entry alone

-- a part has no setting of another key
abbrev pub Alone : Map → List ℕ → Type 0
Alone m k = (m ≡ []) ⊎ ((s : Setting) × ((m ≡ s ∷ []) × (s.key ≡ k)))

pub record FoundAlone {X Y : Type 0} (K : KeyKind) (kb : X → List ℕ) (vb : Y → List ℕ) (T : Tables X Y) (b : Branch) (k : List ℕ) (r : Bool) : Type 0 where
  pub alone : r ≡ true → (N : Notes) (R E : List ℕ) → Sits K kb vb T N R E → (level : ℕ) (p : List ℕ) (a : Part) → Is T N b level p a → Alone a.settings k

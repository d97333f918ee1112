-- What a part shares with any sources, as a node and as a branch. Assumes nothing.
use Rattle.std.proofs.Common.{◌≡◌, ℕ, zero, suc, ◌<◌, Bool, true, false, cond, ltb, List, [], ◌∷◌, ◌++◌, map, length, Some, None, Option, refl, ap, ◌∙◌, ap₂, arith}
use Rattle.std.proofs.lemmas.Bool.{false≢true, both_ways, lt-ltb, eq-eqb, cond-true}
use Rattle.byte_rows.specs.Rows.{same}
use Rattle.byte_rows.proofs.Orders.{same_tells}
use Rattle.kinds.specs.Kinds.{KeyKind}
use Rattle.model.specs.Maps.{Setting, Map, look, same_found}
use Rattle.model.specs.Tries.{filter, digit, at_digit, one, parts, branching}
use Rattle.model.specs.Images.{picked}
use Rattle.model.specs.Sharing.{Marked, Part, below, Shared, no_share, ◌⊕◌, sum, new_node, first_same, mark_of, entry_from, kept_or, share}
use Rattle.plans.specs.Plans.{bushy, portion}
use Rattle.plans.proofs.Digits.{falls, look_at}

-- ---- a node: a source's, or new

module _ (K : KeyKind) (n : ℕ) (p : List ℕ) (ss : List Part) (m : Map) where
  -- a new node above the deepest: its entries, and what the digits with two or more settings share
  abbrev pub made : ℕ → Shared
  made h =
      new_node n p ⊕ (sum (entry_from n ss) (picked one (λ q. q) (parts K (length p) m)) ⊕
      sum (λ g. share K n h (p ++ (g ∷ [])) (map (below K p g) ss) (at_digit K (length p) m g)) (branching K (length p) m))

  pub share_new_form : (h : ℕ) → first_same ss m ≡ None →
      share K n (suc h) p ss m
      ≡ new_node n p ⊕ (sum (entry_from n ss) (picked one (λ q. q) (parts K (length p) m)) ⊕
      sum (λ g. share K n h (p ++ (g ∷ [])) (map (below K p g) ss) (at_digit K (length p) m g)) (branching K (length p) m))
  share_new_form h e = ap (λ (x : Option Part). kept_or x (made h)) e

  pub share_new_leaf : first_same ss m ≡ None → share K n zero p ss m ≡ new_node n p ⊕ sum (entry_from n ss) m
  share_new_leaf e = ap (λ (x : Option Part). kept_or x (new_node n p ⊕ sum (entry_from n ss) m)) e

  pub share_first : (h : ℕ) (a : Part) → first_same ss m ≡ Some a → share K n h p ss m ≡ kept_or (Some a) no_share
  share_first zero a e = ap (λ (x : Option Part). kept_or x (new_node n p ⊕ sum (entry_from n ss) m)) e
  share_first (suc h) a e = ap (λ (x : Option Part). kept_or x (made h)) e

-- ---- an entry is the same from the sources and from their parts at its digit

mark_only : (q : List ℕ → Bool) (l : List Marked) (k : List ℕ) → q k ≡ true → mark_of (filter (λ x. q x.what) l) k ≡ mark_of l k
mark_only q [] k e = refl
mark_only q (x ∷ l) k e = go (q x.what) refl (mark_only q l k e)
  where
    go : (b : Bool) → q x.what ≡ b → mark_of (filter (λ y. q y.what) l) k ≡ mark_of l k →
        mark_of (cond b (x ∷ filter (λ y. q y.what) l) (filter (λ y. q y.what) l)) k ≡ mark_of (x ∷ l) k
    go true f i = ap (λ (r : ℕ). cond (same x.what k) x.mark r) i
    go false f i = grind (arith, same_tells)

-- the entry of a source, or another
abbrev from_one : Bool → ℕ → Setting → Shared → Shared
from_one b w s r = cond b (record { nodes = []; entries = record { what = s.key; mark = w } ∷ []; new_nodes = 0; new_entries = 0 }) r

pub entry_below : (K : KeyKind) (n : ℕ) (p : List ℕ) (g : ℕ) (s : Setting) → digit (K.hash s.key) (length p) ≡ g → (ss : List Part) →
    entry_from n (map (below K p g) ss) s ≡ entry_from n ss s
entry_below K n p g s e [] = refl
entry_below K n p g s e (a ∷ ss) =
    let f : falls K (length p) g s.key ≡ true = eq-eqb (digit (K.hash s.key) (length p)) g e in
    let l : look (at_digit K (length p) a.settings g) s.key ≡ look a.settings s.key =
    look_at K (length p) g a.settings s.key ∙ cond-true (falls K (length p) g s.key) (look a.settings s.key) None f in
    let w : mark_of (below K p g a).entries s.key ≡ mark_of a.entries s.key = mark_only (falls K (length p) g) a.entries s.key f in
    ap₂ (λ (b : Bool) (w : ℕ). from_one b w s (entry_from n (map (below K p g) ss) s)) (ap (λ (x : Option (List ℕ)). same_found x (Some s.value)) l) w
    ∙ ap (from_one (same_found (look a.settings s.key) (Some s.value)) (mark_of a.entries s.key) s) (entry_below K n p g s e ss)

-- ---- a branch

pub bushy_none : (h : ℕ) → bushy h [] ≡ false
bushy_none h = go (ltb h 8)
  where
    go : (b : Bool) → ltb (cond b 1 0) 0 ≡ false
    go true = refl
    go false = refl

pub bushy_many : (h : ℕ) (m : Map) → 1 < length m → bushy h m ≡ true
bushy_many h m l = go (ltb h 8)
  where
    go : (b : Bool) → ltb (cond b 1 0) (length m) ≡ true
    go true = lt-ltb 1 (length m) l
    go false = lt-ltb 0 (length m) (omega arith)

module _ (K : KeyKind) (n h : ℕ) (p : List ℕ) (ss : List Part) where
  pub portion_one : (s : Setting) → h < 8 → portion K n h p ss (s ∷ []) ≡ entry_from n ss s
  portion_one s l = cond-true (ltb h 8) (entry_from n ss s) (share K n h p ss (s ∷ [])) (lt-ltb h 8 l)

  pub portion_many : (m : Map) → 1 < length m → portion K n h p ss m ≡ share K n h p ss m
  portion_many [] l = absurd (omega arith)
  portion_many (s ∷ []) l = absurd (omega arith)
  portion_many (s ∷ (t ∷ m)) l = refl

  pub portion_bushy : (m : Map) → bushy h m ≡ true → portion K n h p ss m ≡ share K n h p ss m
  portion_bushy [] e = absurd (both_ways (bushy h []) (bushy_none h) e)
  portion_bushy (s ∷ []) e = go (ltb h 8) e
    where
      go : (b : Bool) → ltb (cond b 1 0) 1 ≡ true → cond b (entry_from n ss s) (share K n h p ss (s ∷ [])) ≡ share K n h p ss (s ∷ [])
      go true f = absurd (false≢true f)
      go false f = refl
  portion_bushy (s ∷ (t ∷ m)) e = refl

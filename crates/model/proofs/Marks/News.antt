-- What a call's result has and no source has is counted as new. Assumes nothing.
use Rattle.std.proofs.Common.{◌≡◌, ℕ, ◌+◌, ◌≤◌, Bool, true, false, cond, eqb, List, [], ◌∷◌, ◌++◌, map, length, is_some, Some, None, Option, sym, refl, ap, subst, inl, inr, append_assoc, arith}
use mathlib.Core.List.Memᴰ
use mathlib.Core.List.{Memᴰ}
use Rattle.std.specs.List.{AllByRecursion}
use Rattle.std.proofs.lemmas.Bool.{cond_both, both_ways, false≢true, and_from, eq-eqb, or_left, or_right}
use Rattle.byte_rows.specs.Rows.{same}
use Rattle.byte_rows.proofs.Orders.{same_decides}
use Rattle.kinds.specs.Kinds.{KeyKind}
use Rattle.model.specs.Maps.{Setting, Map, look, same_found}
use Rattle.model.specs.Tries.{digit, at_digit}
use Rattle.model.specs.Sharing.{Marked, Part, begins, below, Shared, mark_of, entry_from, shared}
use Rattle.model.specs.Accounts.{in_row, distinct}
use Rattle.model.proofs.Marks.Members.{Mem, mem_filter, mem_of_filter, map_filter}
use Rattle.model.proofs.Marks.Keys.{found_mem, mem_found, key_of_at}
use Rattle.model.proofs.Marks.Numbers.{Pieces, shared_has}

-- ---- rows

pub in_row_mem : (x : Marked) (l : List Marked) → Mem x l → in_row x l ≡ true
in_row_mem x [] m = absurd (Memᴰ.not-nil m)
in_row_mem x (y ∷ l) m =
    elim (Memᴰ.cases_cons m) [
      | inl e ↦ or_left _ (in_row x l) (and_from _ _ (eq-eqb x.mark y.mark (ap (λ (z : Marked). z.mark) e)) ((same_decides x.what y.what).1 (ap (λ (z : Marked). z.what) e)))
      | inr n ↦ or_right _ (in_row x l) (in_row_mem x l n)
    ]

in_row_after : (x : Marked) (a b : List Marked) → in_row x b ≡ true → in_row x (a ++ b) ≡ true
in_row_after x [] b e = e
in_row_after x (y ∷ a) b e = or_right _ (in_row x (a ++ b)) (in_row_after x a b e)

-- what is there already adds nothing
distinct_held : (a b : List Marked) → ((x : Marked) → Mem x a → in_row x b ≡ true) → distinct (a ++ b) ≡ distinct b
distinct_held [] b h = refl
distinct_held (x ∷ a) b h = rw (in_row_after x a b (h x (Memᴰ.head refl))) (distinct_held a b (λ y m. h y (Memᴰ.tail m)))

distinct_more : (x : Marked) (b : List Marked) → distinct (x ∷ b) ≤ distinct b + 1
distinct_more x b = cond_both (in_row x b) (distinct b) (1 + distinct b) (λ z. z ≤ distinct b + 1) (λ e. omega arith) (λ e. omega arith)

-- a row has c different things more than any that has the old ones
abbrev Adds : List Marked → List Marked → ℕ → Type 0
Adds old row c = (b : List Marked) → ((x : Marked) → in_row x old ≡ true → in_row x b ≡ true) → distinct (row ++ b) ≤ distinct b + c

module _ (old : List Marked) where
  adds_none : Adds old [] 0
  adds_none b h = omega arith

  adds_both : (u v : List Marked) (c d : ℕ) → Adds old u c → Adds old v d → Adds old (u ++ v) (c + d)
  adds_both u v c d f g b h =
      rw append_assoc (omega (arith, f (v ++ b) (λ x e. in_row_after x v b (h x e)), g b h))

  adds_one : (x : Marked) → Adds old (x ∷ []) 1
  adds_one x b h = distinct_more x b

  adds_held : (u : List Marked) → ((x : Marked) → Mem x u → in_row x old ≡ true) → Adds old u 0
  adds_held u k b h = omega (arith, distinct_held u b (λ x m. h x (k x m)))

-- ---- nodes

module _ (K : KeyKind) (n : ℕ) (old : List Marked) where
  entry_no_node : (sources : List Part) (s : Setting) → Adds old (entry_from n sources s).nodes (entry_from n sources s).new_nodes
  entry_no_node [] s = adds_none old
  entry_no_node (a ∷ sources) s =
      cond_both (same_found (look a.settings s.key) (Some s.value)) _ (entry_from n sources s) (λ (x : Shared). Adds old x.nodes x.new_nodes)
      (λ e. adds_none old) (λ e. entry_no_node sources s)

  nodes_pieces : Pieces K n (λ a. (x : Marked) → Mem x a.nodes → in_row x old ≡ true) (λ s. Adds old s.nodes s.new_nodes)
  nodes_pieces = record {
    none = adds_none old;
    both = λ a b. adds_both old a.nodes b.nodes a.new_nodes b.new_nodes;
    node = λ p. adds_one old (record { what = p; mark = n });
    entry = λ sources s a. entry_no_node sources s;
    kept = λ a. adds_held old a.nodes;
    on = λ p g a h x m. h x (mem_of_filter (λ y. begins (p ++ (g ∷ [])) y.what) a.nodes x m).0;
  }

-- for any row that has all the sources' marked nodes
pub shared_new : (K : KeyKind) (n : ℕ) (sources : List Part) (m : Map) (old : List Marked) →
    AllByRecursion (λ a. (x : Marked) → Memᴰ x a.nodes → in_row x old ≡ true) sources →
    distinct ((shared K n sources m).nodes ++ old) ≤ distinct old + (shared K n sources m).new_nodes
shared_new K n sources m old a = shared_has K n _ _ (nodes_pieces K n old) sources m a old (λ x e. e)

-- ---- entries

-- the mark of something that stands in a row stands there with it
mark_stands : (l : List Marked) (k : List ℕ) → Mem k (map (λ x. x.what) l) → Mem (record { what = k; mark = mark_of l k }) l
mark_stands [] k m = absurd (Memᴰ.not-nil m)
mark_stands (x ∷ l) k m = go (same x.what k) refl (mark_stands l k)
  where
    go : (b : Bool) → same x.what k ≡ b → (Mem k (map (λ y. y.what) l) → Mem (record { what = k; mark = mark_of l k }) l) → Mem (record { what = k; mark = cond b x.mark (mark_of l k) }) (x ∷ l)
    go true e on = let q : k ≡ x.what = sym ((same_decides x.what k).0 e) in Memᴰ.head (λ i. record { what = q i; mark = x.mark })
    go false e on = elim (Memᴰ.cases_cons m) [
      | inl q ↦ absurd (both_ways _ e ((same_decides x.what k).1 (sym q)))
      | inr o ↦ Memᴰ.tail (on o)
    ]

found_some : (o : Option (List ℕ)) (v : List ℕ) → same_found o (Some v) ≡ true → is_some o ≡ true
found_some None v e = absurd (false≢true e)
found_some (Some w) v e = refl

module _ (K : KeyKind) (n : ℕ) (old : List Marked) where
  -- old has a source's marked entries, and these have the keys that the source finds
  abbrev Had : Part → Type 0
  Had a = ((x : Marked) → Mem x a.entries → in_row x old ≡ true) × ((k : List ℕ) → is_some (look a.settings k) ≡ true → Mem k (map (λ x. x.what) a.entries))

  entry_adds : (sources : List Part) (s : Setting) → AllByRecursion Had sources → Adds old (entry_from n sources s).entries (entry_from n sources s).new_entries
  entry_adds [] s h = adds_one old (record { what = s.key; mark = n })
  entry_adds (a ∷ sources) s h =
      cond_both (same_found (look a.settings s.key) (Some s.value)) _ (entry_from n sources s) (λ (x : Shared). Adds old x.entries x.new_entries)
      (λ e. adds_held old (record { what = s.key; mark = mark_of a.entries s.key } ∷ [])
      (λ x m. h.0.0 x (Memᴰ.cast (Memᴰ.eq_of_singleton m) (mark_stands a.entries s.key (h.0.1 s.key (found_some (look a.settings s.key) s.value e))))))
      (λ e. entry_adds sources s h.1)

  had_on : (p : List ℕ) (g : ℕ) (a : Part) → Had a → Had (below K p g a)
  had_on p g a h = (
    λ x m. h.0 x (mem_of_filter (λ y. eqb (digit (K.hash y.what) (length p)) g) a.entries x m).0,
    λ k e.
        let r = key_of_at K (length p) a.settings g k (found_mem (at_digit K (length p) a.settings g) k e) in
        subst (Mem k) (sym (map_filter (λ y. y.what) (λ z. eqb (digit (K.hash z) (length p)) g) a.entries))
        (mem_filter (λ z. eqb (digit (K.hash z) (length p)) g) (map (λ y. y.what) a.entries) k (h.1 k (mem_found a.settings k r.0)) (eq-eqb _ g r.1)),
  )

  entries_pieces : Pieces K n Had (λ s. Adds old s.entries s.new_entries)
  entries_pieces = record {
    none = adds_none old;
    both = λ a b. adds_both old a.entries b.entries a.new_entries b.new_entries;
    node = λ p. adds_none old;
    entry = entry_adds;
    kept = λ a h. adds_held old a.entries h.0;
    on = had_on;
  }

-- for any row that has all the sources' marked entries, where these have every key that look finds in their source
pub shared_new_entries : (K : KeyKind) (n : ℕ) (sources : List Part) (m : Map) (old : List Marked) →
    AllByRecursion (λ a. ((x : Marked) → Memᴰ x a.entries → in_row x old ≡ true) ×
    ((k : List ℕ) → is_some (look a.settings k) ≡ true → Memᴰ k (map (λ x. x.what) a.entries))) sources →
    distinct ((shared K n sources m).entries ++ old) ≤ distinct old + (shared K n sources m).new_entries
shared_new_entries K n sources m old a = shared_has K n _ _ (entries_pieces K n old) sources m a old (λ x e. e)

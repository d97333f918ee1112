-- What holds of a call's result piece by piece, and its marks. Assumes nothing.
use Rattle.std.proofs.Common.{ℕ, zero, suc, ◌≤◌, List, [], ◌∷◌, ◌++◌, map, length, Some, Option, arith}
use Rattle.std.specs.List.{AllByRecursion}
use Rattle.std.proofs.lemmas.Bool.{cond_both}
use Rattle.byte_rows.specs.Rows.{same}
use Rattle.kinds.specs.Kinds.{KeyKind}
use Rattle.model.specs.Maps.{Setting, Map, look, same_found, same_map}
use Rattle.model.specs.Tries.{at_digit, one, parts, branching}
use Rattle.model.specs.Images.{picked}
use Rattle.model.specs.Sharing.{Marked, Part, below, Shared, no_share, ◌⊕◌, sum, new_node, first_same, mark_of, entry_from, kept_or, share, shared}
use Rattle.model.proofs.Marks.Members.{all_map, all_join, all_filter}

-- ---- a fact that pieces of a result have is the result's

pub record Pieces (K : KeyKind) (n : ℕ) (Of : Part → Type 0) (P : Shared → Type 0) : Type 0 where
  pub none : P no_share
  pub both : (a b : Shared) → P a → P b → P (a ⊕ b)
  pub node : (p : List ℕ) → P (new_node n p)
  pub entry : (sources : List Part) (s : Setting) → AllByRecursion Of sources → P (entry_from n sources s)
  pub kept : (a : Part) → Of a → P (kept_or (Some a) no_share)
  pub on : (p : List ℕ) (g : ℕ) (a : Part) → Of a → Of (below K p g a)

module _ (K : KeyKind) (n : ℕ) (Of : Part → Type 0) (P : Shared → Type 0) (w : Pieces K n Of P) where
  sum_has : {A : Type 0} (f : A → Shared) (xs : List A) → ((x : A) → P (f x)) → P (sum f xs)
  sum_has f [] h = w.none
  sum_has f (x ∷ xs) h = w.both (f x) (sum f xs) (h x) (sum_has f xs h)

  kept_has : (sources : List Part) (m : Map) (s : Shared) → AllByRecursion Of sources → P s → P (kept_or (first_same sources m) s)
  kept_has [] m s a h = h
  kept_has (b ∷ sources) m s a h =
      cond_both (same_map b.settings m) (Some b) (first_same sources m) (λ (o : Option Part). P (kept_or o s)) (λ e. w.kept b a.0) (λ e. kept_has sources m s a.1 h)

  share_has : (h : ℕ) (p : List ℕ) (sources : List Part) (m : Map) → AllByRecursion Of sources → P (share K n h p sources m)
  share_has zero p sources m a =
      kept_has sources m (new_node n p ⊕ sum (entry_from n sources) m) a
      (w.both (new_node n p) (sum (entry_from n sources) m) (w.node p) (sum_has (entry_from n sources) m (λ s. w.entry sources s a)))
  share_has (suc h) p sources m a =
      let es : List Setting = picked one (λ q. q) (parts K (length p) m) in
      let on : ℕ → Shared = λ g. share K n h (p ++ (g ∷ [])) (map (below K p g) sources) (at_digit K (length p) m g) in
      kept_has sources m (new_node n p ⊕ (sum (entry_from n sources) es ⊕ sum on (branching K (length p) m))) a
      (w.both (new_node n p) (sum (entry_from n sources) es ⊕ sum on (branching K (length p) m)) (w.node p)
      (w.both (sum (entry_from n sources) es) (sum on (branching K (length p) m))
      (sum_has (entry_from n sources) es (λ s. w.entry sources s a))
      (sum_has on (branching K (length p) m) (λ g. share_has h (p ++ (g ∷ [])) (map (below K p g) sources) (at_digit K (length p) m g) (all_map Of Of (below K p g) (w.on p g) sources a)))))

  pub shared_has : (sources : List Part) (m : Map) → AllByRecursion Of sources → P (shared K n sources m)
  shared_has sources [] a = w.none
  shared_has sources (s ∷ m) a = share_has 8 [] sources (s ∷ m) a

-- ---- marks

module _ (K : KeyKind) (n : ℕ) where
  -- marks of at most n
  abbrev UpTo : List Marked → Type 0
  UpTo l = AllByRecursion (λ x. x.mark ≤ n) l

  mark_of_up_to : (l : List Marked) (k : List ℕ) → UpTo l → mark_of l k ≤ n
  mark_of_up_to [] k a = omega arith
  mark_of_up_to (x ∷ l) k a = cond_both (same x.what k) x.mark (mark_of l k) (λ y. y ≤ n) (λ e. a.0) (λ e. mark_of_up_to l k a.1)

  entry_up_to : (sources : List Part) (s : Setting) → AllByRecursion (λ a. UpTo a.nodes × UpTo a.entries) sources →
      UpTo (entry_from n sources s).nodes × UpTo (entry_from n sources s).entries
  entry_up_to [] s a = (tt, (omega arith, tt))
  entry_up_to (b ∷ sources) s a =
      cond_both (same_found (look b.settings s.key) (Some s.value)) _ (entry_from n sources s) (λ (x : Shared). UpTo x.nodes × UpTo x.entries)
      (λ e. (tt, (mark_of_up_to b.entries s.key a.0.1, tt))) (λ e. entry_up_to sources s a.1)

  marks_pieces : Pieces K n (λ a. UpTo a.nodes × UpTo a.entries) (λ s. UpTo s.nodes × UpTo s.entries)
  marks_pieces = record {
    none = (tt, tt);
    both = λ a b x y. (all_join (λ z. z.mark ≤ n) a.nodes b.nodes x.0 y.0, all_join (λ z. z.mark ≤ n) a.entries b.entries x.1 y.1);
    node = λ p. ((omega arith, tt), tt);
    entry = entry_up_to;
    kept = λ a h. h;
    on = λ p g a h. (all_filter (λ z. z.mark ≤ n) _ a.nodes h.0, all_filter (λ z. z.mark ≤ n) _ a.entries h.1);
  }

-- every mark of a result is the call's number, 0, or a source's mark, so at most n where the sources' are
pub shared_marks : (K : KeyKind) (n : ℕ) (sources : List Part) (m : Map) →
    AllByRecursion (λ a. AllByRecursion (λ x. x.mark ≤ n) a.nodes × AllByRecursion (λ x. x.mark ≤ n) a.entries) sources →
    AllByRecursion (λ x. x.mark ≤ n) (shared K n sources m).nodes × AllByRecursion (λ x. x.mark ≤ n) (shared K n sources m).entries
shared_marks K n sources m a = shared_has K n _ _ (marks_pieces K n) sources m a

-- The chain of free cells of a table: begun, kept, one cell put in front, the first cell taken. Assumes nothing.
use Rattle.std.proofs.Common.{◌≡◌, ℕ, zero, suc, ◌+◌, ◌-◌, ◌<◌, ◌≤◌, List, [], ◌∷◌, length, sym, refl, ap, ◌∙◌, inl, inr, arith}
use Rattle.std.specs.List.{range_with_len}
use Rattle.std.proofs.lemmas.List.FromFn.{length-range_with_len}
use Rattle.std.proofs.lemmas.Bool.{cases_eq, cases_lt}
use Rattle.tables.specs.Chains.{occ, Linked, Chain}
use Rattle.tables.proofs.Occurrences.{hit, hit_same, hit_other, occ_cons, occ_head, occ_counting, length_le_bound}

-- ---- rows that are linked

pub linked_kept :
    (next next' : ℕ → ℕ) (h : ℕ) (l : List ℕ) → ((i : ℕ) → 0 < occ i l → next' i ≡ next i)
    → Linked next h l → Linked next' h l
unfolding Linked
linked_kept next next' h [] same k = tt
linked_kept next next' h (x ∷ xs) same k =
    (k.0, rw (same x (occ_head x xs)) (linked_kept next next' (next x) xs (λ i p. same i (omega (arith, occ_cons i x xs))) k.1))

pub linked_push : (next : ℕ → ℕ) (f j : ℕ) (l : List ℕ) → next j ≡ f → Linked next f l → Linked next j (j ∷ l)
unfolding Linked
linked_push next f j l e k = (refl, rw e k)

linked_counting : (next : ℕ → ℕ) (a n : ℕ) → ((k : ℕ) → a ≤ k → k < a + n → next k ≡ k + 1) → Linked next a (range_with_len a n)
unfolding Linked
linked_counting next a zero h = tt
linked_counting next a (suc n) h =
    (refl, rw (h a (omega arith) (omega arith)) (linked_counting next (a + 1) n (λ k p q. h k (omega arith) (omega arith))))

linked_head :
    (next : ℕ → ℕ) (f s : ℕ) (l : List ℕ) → Linked next f l → length l ≡ s → 0 < s
    → (xs : List ℕ) × ((l ≡ f ∷ xs) × Linked next (next f) xs)
unfolding Linked
linked_head next f s [] k e p = absurd (omega arith)
linked_head next f s (x ∷ xs) k e p = (xs, (ap (λ (n : ℕ). n ∷ xs) (sym k.0), rw k.0 k.1))

-- ---- a table in which every cell is free

pub chain_counting :
    (next holders : ℕ → ℕ) (n : ℕ) → ((k : ℕ) → k < n → (next k ≡ k + 1) × (holders k ≡ 0)) → Chain next holders n 0 n
chain_counting next holders n all = record {
  list = range_with_len 0 n;
  linked = linked_counting next 0 n (λ k p q. (all k (omega arith)).0);
  many = length-range_with_len 0 n;
  once = λ i. (occ_counting 0 n i).0;
  free = λ i p. let q : i < n = omega (arith, (occ_counting 0 n i).1.0 p) in (q, (all i q).1);
  every = λ i p z. (occ_counting 0 n i).1.1 (omega arith) (omega arith);
}

-- ---- a chain before a change, and after it

-- there are no more free cells than cells
pub spare_le : (next holders : ℕ → ℕ) (n f s : ℕ) → Chain next holders n f s → s ≤ n
spare_le next holders n f s C = omega (arith, length_le_bound n C.list C.once (λ i p. (C.free i p).0), C.many)

-- the first free cell
pub head_free : (next holders : ℕ → ℕ) (n f s : ℕ) → Chain next holders n f s → 0 < s → (f < n) × (holders f ≡ 0)
head_free next holders n f s C some =
    let h = linked_head next f s C.list C.linked C.many some in
    C.free f (omega (arith, ap (occ f) h.1.0, occ_head f h.0))

module _ (next holders next' holders' : ℕ → ℕ) (n n' f s : ℕ) (long : n' ≡ n) (C : Chain next holders n f s) where
  -- the same cells are free
  pub chain_kept :
      ((i : ℕ) → holders i ≡ 0 → (next' i ≡ next i) × (holders' i ≡ 0)) → ((i : ℕ) → holders' i ≡ 0 → holders i ≡ 0)
      → (D : Chain next' holders' n' f s) × (D.list ≡ C.list)
  chain_kept same none = (
    record {
      list = C.list;
      linked = linked_kept next next' f C.list (λ i p. (same i (C.free i p).1).0) C.linked;
      many = C.many;
      once = C.once;
      free = λ i p. (omega (arith, (C.free i p).0), (same i (C.free i p).1).1);
      every = λ i p z. C.every i (omega arith) (none i z);
    },
    refl,
  )

  -- the cell j, which was held, is put in front
  pub chain_pushed :
      (j : ℕ) → j < n → 0 < holders j → holders' j ≡ 0 → next' j ≡ f
      → ((i : ℕ) → (i ≡ j → ⊥) → (next' i ≡ next i) × (holders' i ≡ holders i))
      → (D : Chain next' holders' n' j (s + 1)) × (D.list ≡ j ∷ C.list)
  chain_pushed j inside held none to_f same =
      let away : (i : ℕ) → 0 < occ i C.list → i ≡ j → ⊥ = λ i p e. omega (arith, (C.free i p).1, ap holders e) in
      let off : occ j C.list ≡ 0 = elim (cases_lt 0 (occ j C.list)) [ inl p ↦ absurd (away j p refl) | inr z ↦ omega arith ] in (
        record {
          list = j ∷ C.list;
          linked = linked_push next' f j C.list to_f (linked_kept next next' f C.list (λ i p. (same i (away i p)).0) C.linked);
          many = omega (arith, C.many);
          once = λ i. elim (cases_eq i j) [
            | inl e ↦ omega (arith, occ_cons i j C.list, hit_same i j e, off, ap (λ (n : ℕ). occ n C.list) e)
            | inr m ↦ omega (arith, occ_cons i j C.list, hit_other i j m, C.once i)
          ];
          free = λ i p. elim (cases_eq i j) [
            | inl e ↦ (omega arith, omega (arith, ap holders' e))
            | inr m ↦ let q : 0 < occ i C.list = omega (arith, occ_cons i j C.list, hit_other i j m) in
                (omega (arith, (C.free i q).0), omega (arith, (same i m).1, (C.free i q).1))
          ];
          every = λ i p z. elim (cases_eq i j) [
            | inl e ↦ omega (arith, occ_cons i j C.list, hit_same i j e)
            | inr m ↦ omega (arith, occ_cons i j C.list, C.every i (omega arith) (omega (arith, (same i m).1)))
          ];
        },
        refl,
      )

  -- the first cell is taken
  pub chain_taken :
      0 < s → 0 < holders' f
      → ((i : ℕ) → (i ≡ f → ⊥) → (next' i ≡ next i) × (holders' i ≡ holders i))
      → (D : Chain next' holders' n' (next f) (s - 1)) × (C.list ≡ f ∷ D.list)
  chain_taken some held same =
      let h = linked_head next f s C.list C.linked C.many some in
      let rest : (i : ℕ) → occ i C.list ≡ hit i f + occ i h.0 = λ i. ap (occ i) h.1.0 ∙ occ_cons i f h.0 in
      let away : (i : ℕ) → 0 < occ i h.0 → i ≡ f → ⊥ = λ i p e. omega (arith, rest i, hit_same i f e, C.once i) in (
        record {
          list = h.0;
          linked = linked_kept next next' (next f) h.0 (λ i p. (same i (away i p)).0) h.1.1;
          many = omega (arith, C.many, ap length h.1.0);
          once = λ i. omega (arith, rest i, C.once i);
          free = λ i p.
              let q : 0 < occ i C.list = omega (arith, rest i) in
              (omega (arith, (C.free i q).0), omega (arith, (same i (away i p)).1, (C.free i q).1));
          every = λ i p z. elim (cases_eq i f) [
            | inl e ↦ absurd (omega (arith, ap holders' e))
            | inr m ↦ omega (arith, rest i, hit_other i f m, C.every i (omega arith) (omega (arith, (same i m).1)))
          ];
        },
        h.1.0,
      )

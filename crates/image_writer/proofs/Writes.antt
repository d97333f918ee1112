-- Writes one after another. Assumes nothing.
use Rattle.std.proofs.Common.{◌≡◌, ℕ, ◌+◌, ◌<◌, ◌≤◌, List, [], ◌∷◌, ◌++◌, length, get_or, take, drop, sym, ap, ◌∙◌, subst, ap₂, append_assoc, arith, length-append, length-drop}
use Rattle.std.specs.List.{flat_map}
use Rattle.std.proofs.lemmas.List.{append-nil, take-append-drop, length-take-le, take_at, drop_at, drop-drop, take_more}
use Rattle.std.proofs.lemmas.List.Concat.{flat_map-append}
use Rattle.image_writer.specs.Puts.{Puts}

pub puts_none : (old : List ℕ) (at : ℕ) → at ≤ length old → Puts old old at [] at
puts_none old at h = record { is = sym (take-append-drop at old); onward = omega arith; within = h }

pub puts_as : (old new : List ℕ) (at : ℕ) (xs ys : List ℕ) (to : ℕ) → xs ≡ ys → Puts old new at xs to → Puts old new at ys to
puts_as old new at xs ys to e = subst (λ (l : List ℕ). Puts old new at l to) e

module _ (old new : List ℕ) (at : ℕ) (xs : List ℕ) (to : ℕ) (p : Puts old new at xs to) where
  front : length (take at old ++ xs) ≡ to
  front = length-append (take at old) xs ∙ omega (arith, length-take-le at old (omega (arith, p.onward, p.within)), p.onward)

  split : new ≡ (take at old ++ xs) ++ drop to old
  split = p.is ∙ sym (append_assoc (take at old) xs (drop to old))

  pub length_puts : length new ≡ length old
  length_puts = ap length split ∙ length-append (take at old ++ xs) (drop to old) ∙ omega (arith, front, length-drop to old, p.within)

  -- a write after a write
  pub puts_more : (last : List ℕ) (ys : List ℕ) (end : ℕ) → Puts new last to ys end → Puts old last at (xs ++ ys) end
  puts_more last ys end q =
      let before : take to new ≡ take at old ++ xs = ap (take to) split ∙ take_at (take at old ++ xs) (drop to old) to front in
      let after : drop to new ≡ drop to old = ap (drop to) split ∙ drop_at (take at old ++ xs) (drop to old) to front in
      let past : drop end new ≡ drop end old =
      ap (λ (n : ℕ). drop n new) q.onward ∙ sym (drop-drop (length ys) to new) ∙ ap (drop (length ys)) after ∙ drop-drop (length ys) to old ∙ ap (λ (n : ℕ). drop n old) (sym q.onward) in
      record {
        is =
            q.is ∙ ap₂ (λ (a b : List ℕ). a ++ (ys ++ b)) before past ∙ append_assoc (take at old) xs (ys ++ drop end old)
            ∙ ap (λ (l : List ℕ). take at old ++ l) (sym (append_assoc xs ys (drop end old)));
        onward = omega (arith, q.onward, p.onward, length-append xs ys);
        within = omega (arith, q.within, length_puts);
      }

-- ---- one row of bytes for each number of a row

module _ (f : ℕ → List ℕ) (row : List ℕ) (i : ℕ) (h : i < length row) where
  pub joined_more : flat_map f (take (i + 1) row) ≡ flat_map f (take i row) ++ f (get_or row i 0)
  joined_more =
      ap (flat_map f) (take_more row i 0 h) ∙ flat_map-append f (take i row) (get_or row i 0 ∷ [])
      ∙ ap (λ (l : List ℕ). flat_map f (take i row) ++ l) (append-nil (f (get_or row i 0)))

  pub puts_next : (pre old new last : List ℕ) (at mid to : ℕ) → Puts old new at (pre ++ flat_map f (take i row)) mid → Puts new last mid (f (get_or row i 0)) to → Puts old last at (pre ++ flat_map f (take (i + 1) row)) to
  puts_next pre old new last at mid to p q =
      puts_as old last at ((pre ++ flat_map f (take i row)) ++ f (get_or row i 0)) (pre ++ flat_map f (take (i + 1) row)) to
      (append_assoc pre (flat_map f (take i row)) (f (get_or row i 0)) ∙ ap (λ (l : List ℕ). pre ++ l) (sym joined_more))
      (puts_more old new at (pre ++ flat_map f (take i row)) mid p last (f (get_or row i 0)) to q)

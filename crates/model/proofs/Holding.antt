-- What the versions at live places hold, together. Assumes nothing.
use Rattle.std.proofs.Common.{◌≡◌, ℕ, zero, suc, true, ◌||◌, ◌⊎◌, List, [], ◌∷◌, ◌++◌, map, set, Some, None, Option, sym, refl, ap, ◌∙◌, inl, inr, arith}
use mathlib.Core.List.{Memᴰ}
use Rattle.std.proofs.lemmas.Bool.{or_cases, or_left, or_right, false≢true}
use Rattle.model.specs.Tries.{concat}
use Rattle.model.specs.Sharing.{Marked}
use Rattle.model.specs.Accounts.{Version, Place, empty, draft, published, Account, nth, in_row, versions}
use Rattle.model.specs.Runs.{live}
use Rattle.model.proofs.Counts.{in_append, in_row_member, member_in_row}

-- f is what is held of a version: its nodes, or its entries
module _ (f : Version → List Marked) where
  abbrev pub held : List Place → List Marked
  held ps = concat (map f (versions ps))

  abbrev pub of_place : Place → List Marked
  of_place empty = []
  of_place (draft v) = f v
  of_place (published v) = f v

  -- what a row of places holds, its first place apart
  held_first : (p : Place) (ps : List Place) → held (p ∷ ps) ≡ of_place p ++ held ps
  held_first empty ps = refl
  held_first (draft v) ps = refl
  held_first (published v) ps = refl

  in_first : (x : Marked) (p : Place) (ps : List Place) → in_row x (held (p ∷ ps)) ≡ (in_row x (of_place p) || in_row x (held ps))
  in_first x p ps = ap (in_row x) (held_first p ps) ∙ in_append x (of_place p) (held ps)

  -- after a place is written, what is held was held before or is the new place's
  pub held_set : (x : Marked) (ps : List Place) (i : ℕ) (p : Place) → in_row x (held (set ps i p)) ≡ true → (in_row x (of_place p) ≡ true) ⊎ (in_row x (held ps) ≡ true)
  held_set x [] i p h = absurd (false≢true h)
  held_set x (q ∷ ps) zero p h = go (or_cases _ _ (sym (in_first x p ps) ∙ h))
    where
      go : (in_row x (of_place p) ≡ true) ⊎ (in_row x (held ps) ≡ true) → (in_row x (of_place p) ≡ true) ⊎ (in_row x (held (q ∷ ps)) ≡ true)
      go (inl e) = inl e
      go (inr e) = inr (in_first x q ps ∙ or_right _ _ e)
  held_set x (q ∷ ps) (suc i) p h = go (or_cases _ _ (sym (in_first x q (set ps i p)) ∙ h)) (held_set x ps i p)
    where
      go : (in_row x (of_place q) ≡ true) ⊎ (in_row x (held (set ps i p)) ≡ true) → (in_row x (held (set ps i p)) ≡ true → (in_row x (of_place p) ≡ true) ⊎ (in_row x (held ps) ≡ true)) →
          (in_row x (of_place p) ≡ true) ⊎ (in_row x (held (q ∷ ps)) ≡ true)
      go (inl e) k = inr (in_first x q ps ∙ or_left _ _ e)
      go (inr e) k = more (k e)
        where
          more : (in_row x (of_place p) ≡ true) ⊎ (in_row x (held ps) ≡ true) → (in_row x (of_place p) ≡ true) ⊎ (in_row x (held (q ∷ ps)) ≡ true)
          more (inl t) = inl t
          more (inr t) = inr (in_first x q ps ∙ or_right _ _ t)

  -- what a place has is held
  pub held_at : (x : Marked) (ps : List Place) (i : ℕ) → in_row x (of_place (nth ps i)) ≡ true → in_row x (held ps) ≡ true
  held_at x [] i h = absurd (false≢true h)
  held_at x (p ∷ ps) zero h = in_first x p ps ∙ or_left _ _ h
  held_at x (p ∷ ps) (suc i) h = in_first x p ps ∙ or_right _ _ (held_at x ps i h)

  -- and what is held some place has
  pub held_by : (x : Marked) (ps : List Place) → in_row x (held ps) ≡ true → (i : ℕ) × (in_row x (of_place (nth ps i)) ≡ true)
  held_by x [] h = absurd (false≢true h)
  held_by x (p ∷ ps) h = go (or_cases _ _ (sym (in_first x p ps) ∙ h)) (held_by x ps)
    where
      go : (in_row x (of_place p) ≡ true) ⊎ (in_row x (held ps) ≡ true) → (in_row x (held ps) ≡ true → (i : ℕ) × (in_row x (of_place (nth ps i)) ≡ true)) →
          (i : ℕ) × (in_row x (of_place (nth (p ∷ ps) i)) ≡ true)
      go (inl e) k = (0, e)
      go (inr e) k = let r = k e in (suc r.0, r.1)

  -- ---- the same of live versions

  live_place : (p : Place) (v : Version) → ◌≡◌ {A = Option Version} (elim p [ empty ↦ None | draft w ↦ Some w | published w ↦ Some w ]) (Some v) → of_place p ≡ f v
  live_place empty v e = let z : ◌≡◌ {A = ℕ} 0 1 = cc in absurd (omega arith)
  live_place (draft w) v e = let s : w ≡ v = cc in ap f s
  live_place (published w) v e = let s : w ≡ v = cc in ap f s

  pub live_held : (a : Account) (x : Marked) (i : ℕ) (v : Version) → live a i ≡ Some v → Memᴰ x (f v) → Memᴰ x (held a.places)
  live_held a x i v e m =
      in_row_member x (held a.places) (held_at x a.places i (ap (in_row x) (live_place (nth a.places i) v e) ∙ member_in_row x m))

  pub held_live : (a : Account) (x : Marked) → Memᴰ x (held a.places) → (i : ℕ) × ((v : Version) × ((live a i ≡ Some v) × Memᴰ x (f v)))
  held_live a x m = let r = held_by x a.places (member_in_row x m) in go r.0 (nth a.places r.0) refl r.1
    where
      go : (i : ℕ) (p : Place) → nth a.places i ≡ p → in_row x (of_place p) ≡ true → (j : ℕ) × ((v : Version) × ((live a j ≡ Some v) × Memᴰ x (f v)))
      go i empty e h = absurd (false≢true h)
      go i (draft v) e h = (i, (v, (rw (e, live), in_row_member x (f v) h)))
      go i (published v) e h = (i, (v, (rw (e, live), in_row_member x (f v) h)))

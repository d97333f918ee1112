-- The keys of a map: what look-ups find, what falls to a digit, and that a rising map has each once. Assumes nothing.
use Rattle.std.proofs.Common.{◌≡◌, ℕ, Bool, true, false, cond, eqb, List, [], ◌∷◌, is_some, Some, Option, sym, refl, subst, inl, inr}
use mathlib.Core.List.Memᴰ
use Rattle.std.proofs.lemmas.Bool.{and_from, cond_both, both_ways, false≢true, and_parts, eqb-true, eq-eqb}
use Rattle.byte_rows.specs.Rows.{same}
use Rattle.byte_rows.proofs.Orders.{same_decides}
use Rattle.kinds.specs.Kinds.{KeyKind}
use Rattle.model.specs.Maps.{Setting, Map, keys, look, same_map, Rises}
use Rattle.model.specs.Tries.{filter, digit, at_digit}
use Rattle.model.specs.Runs.{Distinct}
use Rattle.model.proofs.Marks.Members.{Mem, all_mem, all_filter, mem_filter, mem_of_filter, mem_of_map, map_filter}

-- ---- look-ups

pub found_mem : (m : Map) (k : List ℕ) → is_some (look m k) ≡ true → Mem k (keys m)
found_mem [] k e = absurd (false≢true e)
found_mem (s ∷ m) k e = go (same s.key k) refl e (found_mem m k)
  where
    go : (b : Bool) → same s.key k ≡ b → is_some (cond b (Some s.value) (look m k)) ≡ true → (is_some (look m k) ≡ true → Mem k (keys m)) → Mem k (keys (s ∷ m))
    go true f h on = Memᴰ.head (sym ((same_decides s.key k).0 f))
    go false f h on = Memᴰ.tail (on h)

pub mem_found : (m : Map) (k : List ℕ) → Mem k (keys m) → is_some (look m k) ≡ true
mem_found [] k n = absurd (Memᴰ.not-nil n)
mem_found (s ∷ m) k n =
    cond_both (same s.key k) (Some s.value) (look m k) (λ (o : Option (List ℕ)). is_some o ≡ true) (λ e. refl)
    (λ e. elim (Memᴰ.cases_cons n) [
      | inl q ↦ absurd (both_ways (same s.key k) e ((same_decides s.key k).1 (sym q)))
      | inr o ↦ mem_found m k o
    ])

-- ---- equal maps

pub same_map_true : (a b : Map) → same_map a b ≡ true → a ≡ b
same_map_true [] [] e = refl
same_map_true [] (t ∷ b) e = absurd (false≢true e)
same_map_true (s ∷ a) [] e = absurd (false≢true e)
same_map_true (s ∷ a) (t ∷ b) e =
    let h = and_parts (same s.key t.key) _ e in
    let j = and_parts (same s.value t.value) (same_map a b) h.1 in
    let x : s.key ≡ t.key = (same_decides s.key t.key).0 h.0 in
    let y : s.value ≡ t.value = (same_decides s.value t.value).0 j.0 in
    let z : a ≡ b = same_map_true a b j.1 in
    λ i. record { key = x i; value = y i } ∷ z i

pub same_map_self : (m : Map) → same_map m m ≡ true
same_map_self [] = refl
same_map_self (s ∷ m) = and_from (same s.key s.key) _ ((same_decides s.key s.key).1 refl) (and_from (same s.value s.value) _ ((same_decides s.value s.value).1 refl) (same_map_self m))

-- ---- digits

module _ (K : KeyKind) (d : ℕ) where
  -- the keys of a map that go on by a digit
  pub keys_at : (m : Map) (g : ℕ) → keys (at_digit K d m g) ≡ filter (λ k. eqb (digit (K.hash k) d) g) (keys m)
  keys_at m g = map_filter (λ s. s.key) (λ k. eqb (digit (K.hash k) d) g) m

  pub key_at : (m : Map) (g : ℕ) (k : List ℕ) → Mem k (keys m) → digit (K.hash k) d ≡ g → Mem k (keys (at_digit K d m g))
  key_at m g k n e = subst (Mem k) (sym (keys_at m g)) (mem_filter (λ x. eqb (digit (K.hash x) d) g) (keys m) k n (eq-eqb _ g e))

  pub key_of_at : (m : Map) (g : ℕ) (k : List ℕ) → Mem k (keys (at_digit K d m g)) → Mem k (keys m) × (digit (K.hash k) d ≡ g)
  key_of_at m g k n =
      let r = mem_of_filter (λ x. eqb (digit (K.hash x) d) g) (keys m) k (subst (Mem k) (keys_at m g) n) in
      (r.0, eqb-true _ g r.1)

-- ---- rising maps

module _ (K : KeyKind) where
  pub filter_rises : (p : Setting → Bool) (m : Map) → Rises K m → Rises K (filter p m)
  filter_rises p [] r = tt
  filter_rises p (s ∷ m) r =
      elim (p s) as (λ b. Rises K (cond b (s ∷ filter p m) (filter p m))) [
        | true ↦ (all_filter (λ t. K.before s.key t.key ≡ true) p m r.0, filter_rises p m r.1)
        | false ↦ filter_rises p m r.1
      ]

  pub keys_once : (m : Map) → Rises K m → Distinct (keys m)
  keys_once [] r = tt
  keys_once (s ∷ m) r = (
    λ n. let t = mem_of_map (λ u. u.key) m s.key n in
        both_ways (K.before s.key s.key) (K.before_not_self s.key)
        (subst (λ k. K.before s.key k ≡ true) (sym t.1.1) (all_mem (λ u. K.before s.key u.key ≡ true) m t.0 r.0 t.1.0)),
    keys_once m r.1,
  )

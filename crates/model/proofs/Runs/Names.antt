-- What a version is gathered from says what it holds. Assumes nothing.
use Rattle.std.proofs.Common.{◌≡◌, ℕ, ◌+◌, ◌≤◌, Bool, true, false, cond, eqb, List, [], ◌∷◌, ◌++◌, Some, None, Option, sym, refl, ap, ◌∙◌, ap₂, arith}
use mathlib.Core.List.{Memᴰ}
use Rattle.std.specs.List.{AllByRecursion}
use Rattle.std.proofs.ByRecursion.{All-set, All-weaker, All-append}
use Rattle.std.proofs.lemmas.Bool.{eq-eqb, ne_eqb}
use Rattle.kinds.specs.Kinds.{KeyKind, ValueKind}
use Rattle.model.specs.Maps.{Map, look, joined, union, Sound}
use Rattle.model.specs.Images.{image}
use Rattle.model.specs.Tries.{Uncrowded}
use Rattle.model.specs.Accounts.{Version, Place, empty, Account}
use Rattle.model.specs.Calls.{Call, Outcome, now, both_names, after}
use Rattle.model.specs.Runs.{Made, Reached, SameNames, SameNamesMeanOneImage}
use Rattle.model.specs.Reading.{OnlyImagesAreAccepted}
use Rattle.model.proofs.Maps.Order.{Reads, sound_empty, sound_equal}
use Rattle.model.proofs.Maps.Edits.{look_union, reads_look, reads_joined}
use Rattle.model.proofs.Maps.Joins.{joined_assoc, joined_comm, joined_self}
use Rattle.model.proofs.Maps.Crowds.{uncrowded_empty}
use Rattle.model.proofs.Runs.Steps.{Holds, New, cleared, opened, copied, edited, united, issued, loaded, step}
use Rattle.model.proofs.Runs.Invariants.{live_holds, all_empty, all_hold_weaker, reached_keeps}

-- the join of what named maps have at a key
abbrev pub joins : ValueKind → (ℕ → Map) → List ℕ → List ℕ → Option (List ℕ)
joins V T [] k = None
joins V T (n ∷ x) k = joined V (look (T n) k) (joins V T x k)

module _ (V : ValueKind) where
  join_none : (o : Option (List ℕ)) → joined V o None ≡ o
  join_none None = refl
  join_none (Some v) = refl

  none_join : (o : Option (List ℕ)) → joined V None o ≡ o
  none_join None = refl
  none_join (Some v) = refl

  join_onto : (a b : Option (List ℕ)) → Reads V a → Reads V b → joined V a (joined V a b) ≡ joined V a b
  join_onto a b p q = sym (joined_assoc V a a b p p q) ∙ ap (λ o. joined V o b) (joined_self V a p)

  join_past : (a b c : Option (List ℕ)) → Reads V a → Reads V b → Reads V c → joined V a (joined V b c) ≡ joined V b (joined V a c)
  join_past a b c p q r = sym (joined_assoc V a b c p q r) ∙ ap (λ o. joined V o c) (joined_comm V a b p q) ∙ joined_assoc V b a c q p r

module _ (K : KeyKind) (V : ValueKind) (T : ℕ → Map) (good : (n : ℕ) → Sound K V (T n)) (k : List ℕ) where
  reads_one : (n : ℕ) → Reads V (look (T n) k)
  reads_one n = reads_look K V (T n) k (good n)

  reads_joins : (x : List ℕ) → Reads V (joins V T x k)
  reads_joins [] = tt
  reads_joins (n ∷ x) = reads_joined K V (look (T n) k) (joins V T x k) (reads_one n) (reads_joins x)

  pub joins_append : (x y : List ℕ) → joins V T (x ++ y) k ≡ joined V (joins V T x k) (joins V T y k)
  joins_append [] y = sym (none_join V (joins V T y k))
  joins_append (n ∷ x) y =
      ap (joined V (look (T n) k)) (joins_append x y) ∙ sym (joined_assoc V (look (T n) k) (joins V T x k) (joins V T y k) (reads_one n) (reads_joins x) (reads_joins y))

  joins_has : (n : ℕ) {x : List ℕ} → Memᴰ n x → joined V (look (T n) k) (joins V T x k) ≡ joins V T x k
  joins_has n (Memᴰ.head {x = m} {xs = x} e) =
      ap (λ i. joined V (look (T i) k) (joins V T (m ∷ x) k)) e ∙ join_onto V (look (T m) k) (joins V T x k) (reads_one m) (reads_joins x)
  joins_has n (Memᴰ.tail {x = m} {xs = x} h) =
      join_past V (look (T n) k) (look (T m) k) (joins V T x k) (reads_one n) (reads_one m) (reads_joins x) ∙ ap (joined V (look (T m) k)) (joins_has n h)

  joins_within : (x y : List ℕ) → ((n : ℕ) → Memᴰ n x → Memᴰ n y) → joined V (joins V T x k) (joins V T y k) ≡ joins V T y k
  joins_within [] y h = none_join V (joins V T y k)
  joins_within (n ∷ x) y h =
      joined_assoc V (look (T n) k) (joins V T x k) (joins V T y k) (reads_one n) (reads_joins x) (reads_joins y)
      ∙ ap (joined V (look (T n) k)) (joins_within x y (λ i m. h i (Memᴰ.tail m))) ∙ joins_has n (h n (Memᴰ.head refl))

  -- a join is by the set of names
  pub joins_same : (x y : List ℕ) → SameNames x y → joins V T x k ≡ joins V T y k
  joins_same x y s = sym (joins_within y x s.1) ∙ joined_comm V (joins V T y k) (joins V T x k) (reads_joins y) (reads_joins x) ∙ joins_within x y s.0

pub joins_agree : (V : ValueKind) (T U : ℕ → Map) (k : List ℕ) (n : ℕ) → ((i : ℕ) → i ≤ n → U i ≡ T i) → (x : List ℕ) → AllByRecursion (λ i. i ≤ n) x → joins V U x k ≡ joins V T x k
joins_agree V T U k n h [] a = refl
joins_agree V T U k n h (i ∷ x) a = ap₂ (λ m o. joined V (look m k) o) (h i a.0) (joins_agree V T U k n h x a.1)

-- names no later than the call n, whose maps join to what a map has
abbrev pub Says : ValueKind → (ℕ → Map) → ℕ → Map → Option (List ℕ) → Type 0
Says V T n m None = Unit {0}
Says V T n m (Some x) = AllByRecursion (λ i. i ≤ n) x × ((k : List ℕ) → look m k ≡ joins V T x k)

pub record Told (K : KeyKind) (V : ValueKind) (T : ℕ → Map) (n : ℕ) (v : Version) : Type 0 where
  pub sound : Sound K V v.settings
  pub uncrowded : Uncrowded K v.settings
  pub says : Says V T n v.settings v.names

-- a table of what each name names, and a version of each live place that its names say
pub record Table (K : KeyKind) (V : ValueKind) (a : Account) : Type 0 where
  pub of : ℕ → Map
  pub good : (n : ℕ) → Sound K V (of n)
  pub told : AllByRecursion (Holds (Told K V of a.calls)) a.places

-- a table that goes on from another, with what is told of a new place
pub record Grown (K : KeyKind) (V : ValueKind) (a : Account) (T : ℕ → Map) (p : Place) : Type 0 where
  pub of : ℕ → Map
  pub good : (n : ℕ) → Sound K V (of n)
  pub agrees : (i : ℕ) → i ≤ a.calls → of i ≡ T i
  pub tells : Holds (Told K V of (a.calls + 1)) p

module _ (K : KeyKind) (V : ValueKind) where
  says_more : (T U : ℕ → Map) (n : ℕ) → ((i : ℕ) → i ≤ n → U i ≡ T i) → (m : Map) (o : Option (List ℕ)) → Says V T n m o → Says V U (n + 1) m o
  says_more T U n h m None s = tt
  says_more T U n h m (Some x) s =
      (All-weaker (λ i. i ≤ n) (λ i. i ≤ n + 1) (λ i q. omega arith) x s.0, λ k. s.1 k ∙ sym (joins_agree V T U k n h x s.0))

  told_more : (T U : ℕ → Map) (n : ℕ) → ((i : ℕ) → i ≤ n → U i ≡ T i) → (v : Version) → Told K V T n v → Told K V U (n + 1) v
  told_more T U n h v t = record { sound = t.sound; uncrowded = t.uncrowded; says = says_more T U n h v.settings v.names t.says }

  says_union : (T : ℕ → Map) → ((n : ℕ) → Sound K V (T n)) → (a : Account) (n : ℕ) (m l : Map) → Sound K V m → Sound K V l → (x y : Option (List ℕ)) →
      Says V T n m x → Says V T n l y → Says V T n (union K V m l) (both_names K V a x y)
  says_union T good a n m l p q None y s t = tt
  says_union T good a n m l p q (Some x) None s t = tt
  says_union T good a n m l p q (Some x) (Some y) s t = (
    All-append (λ i. i ≤ n) x y s.0 t.0,
    λ k. look_union K V m l p q k ∙ ap₂ (joined V) (s.1 k) (t.1 k) ∙ sym (joins_append K V T good k x y),
  )

  module _ (a : Account) (T : ℕ → Map) (good : (n : ℕ) → Sound K V (T n)) where
    unchanged : (p : Place) → Holds (Told K V T (a.calls + 1)) p → Grown K V a T p
    unchanged p t = record { of = T; good = good; agrees = λ i h. refl; tells = t }

    with_new : Map → ℕ → Map
    with_new m n = cond (eqb n (a.calls + 1)) m (T n)

    new_here : (m : Map) → with_new m (a.calls + 1) ≡ m
    unfolding with_new
    new_here m = rw (eq-eqb (a.calls + 1) (a.calls + 1) refl)

    new_agrees : (m : Map) (i : ℕ) → i ≤ a.calls → with_new m i ≡ T i
    unfolding with_new
    new_agrees m i h = rw (ne_eqb i (a.calls + 1) (λ e. omega arith))

    new_good : (m : Map) → Sound K V m → (n : ℕ) → Sound K V (with_new m n)
    unfolding with_new
    new_good m s n = go (eqb n (a.calls + 1))
      where
        go : (b : Bool) → Sound K V (cond b m (T n))
        go true = s
        go false = good n

    says_new : (m : Map) → Says V (with_new m) (a.calls + 1) m (Some (now K V a ∷ []))
    says_new m = ((omega arith, tt), λ k. sym (join_none V (look m k)) ∙ ap (λ l. joined V (look l k) None) (sym (new_here m)))

    grown : {i : ℕ} {p : Place} → New K V a (Told K V T a.calls) i p → Grown K V a T p
    grown cleared = unchanged empty tt
    grown opened = unchanged _ (record { sound = sound_empty K V; uncrowded = uncrowded_empty K; says = (tt, λ k. refl) })
    grown (copied j v t e) = unchanged _ (told_more T T a.calls (λ i h. refl) v t)
    grown (edited vs m s l) = unchanged _ (record { sound = l.sound; uncrowded = l.uncrowded; says = tt })
    grown (united v w s l) =
        let t = l.from.0 in
        let u = l.from.1.0 in
        unchanged _ (record {
          sound = l.sound;
          uncrowded = l.uncrowded;
          says = says_more T T a.calls (λ i h. refl) (union K V v.settings w.settings) (both_names K V a v.names w.names)
              (says_union T good a a.calls v.settings w.settings t.sound u.sound v.names w.names t.says u.says);
        })
    grown (issued i v t e) =
        record {
          of = with_new v.settings;
          good = new_good v.settings t.sound;
          agrees = new_agrees v.settings;
          tells = record { sound = t.sound; uncrowded = t.uncrowded; says = go v.names t.says };
        }
      where
        go : (o : Option (List ℕ)) → Says V T a.calls v.settings o →
            Says V (with_new v.settings) (a.calls + 1) v.settings (elim o [ Some x ↦ Some x | None ↦ Some (now K V a ∷ []) ])
        go (Some x) s = says_more T (with_new v.settings) a.calls (new_agrees v.settings) v.settings (Some x) s
        go None s = says_new v.settings
    grown (loaded m s l) =
        record { of = with_new m; good = new_good m l.sound; agrees = new_agrees m; tells = record { sound = l.sound; uncrowded = l.uncrowded; says = says_new m } }

    -- all that was told is still told by a table that goes on
    still_told : (U : ℕ → Map) → ((i : ℕ) → i ≤ a.calls → U i ≡ T i) → AllByRecursion (Holds (Told K V T a.calls)) a.places → AllByRecursion (Holds (Told K V U (a.calls + 1))) a.places
    still_told U h = all_hold_weaker (Told K V T a.calls) (Told K V U (a.calls + 1)) (told_more T U a.calls h) a.places

  abbrev Leaves : Account → Outcome → Type 0
  Leaves a o = Table K V (record { calls = a.calls + 1; node_cells = a.node_cells; entry_cells = a.entry_cells; places = o.places })

  module _ (exact : OnlyImagesAreAccepted K V) where
    table_after : (a : Account) (c : Call) → Made K V c → Table K V a → Table K V (after K V a c)
    table_after a c made t =
        step K V a exact (Told K V t.of a.calls) (λ v q. (q.sound, q.uncrowded)) t.told (Leaves a)
        (λ r. record { of = t.of; good = t.good; told = still_told a t.of t.good t.of (λ i h. refl) t.told })
        c made
        (λ r i p o w n. let g = grown a t.of t.good n in
        record {
          of = g.of;
          good = g.good;
          told = All-set (Holds (Told K V g.of (a.calls + 1))) a.places i p g.tells (still_told a t.of t.good g.of g.agrees t.told);
        })

    pub reached_table : (a : Account) → Reached K V a → Table K V a
    reached_table = reached_keeps K V (Table K V) table_after (λ n e x y. record { of = λ i. []; good = λ i. sound_empty K V; told = all_empty (Told K V (λ i. []) 0) 64 })

    pub same_names : SameNamesMeanOneImage K V
    same_names a r i j v w lv lw x y ex ey s =
        let t = reached_table a r in
        let tv = live_holds (Told K V t.of a.calls) a i v t.told lv in
        let tw = live_holds (Told K V t.of a.calls) a j w t.told lw in
        let sx : Says V t.of a.calls v.settings (Some x) = rw ex at tv.says in
        let sy : Says V t.of a.calls w.settings (Some y) = rw ey at tw.says in
        ap (image K V) (sound_equal K V v.settings w.settings tv.sound tw.sound λ k. sx.1 k ∙ joins_same K V t.of t.good k x y s ∙ sym (sy.1 k))

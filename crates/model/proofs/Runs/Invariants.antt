-- What every call keeps holds of every account that is reached: each live map is sound and uncrowded. Assumes nothing.
use Rattle.std.proofs.Common.{◌≡◌, ℕ, zero, suc, ◌+◌, ◌≤◌, List, [], ◌∷◌, ◌++◌, replicate, Some, None, Option, refl, ap, ◌∙◌, arith}
use mathlib.Core.List.{Memᴰ}
use Rattle.std.specs.List.{AllByRecursion}
use Rattle.std.proofs.ByRecursion.{All-set, All-weaker}
use Rattle.kinds.specs.Kinds.{KeyKind, ValueKind}
use Rattle.model.specs.Maps.{Sound}
use Rattle.model.specs.Tries.{Uncrowded}
use Rattle.model.specs.Accounts.{Version, Place, empty, draft, published, Account, nth, fresh}
use Rattle.model.specs.Calls.{Call, after, run}
use Rattle.model.specs.Runs.{live, Made, AllMade, Reached}
use Rattle.model.specs.Reading.{OnlyImagesAreAccepted}
use Rattle.model.proofs.Maps.Order.{sound_empty}
use Rattle.model.proofs.Maps.Crowds.{uncrowded_empty}
use Rattle.model.proofs.Runs.Steps.{Holds, holds_nth, New, cleared, opened, copied, edited, united, issued, loaded, step}

-- what holds of the versions of all places holds of a live one
pub live_holds : (P : Version → Type 0) (a : Account) (i : ℕ) (v : Version) → AllByRecursion (Holds P) a.places → live a i ≡ Some v → P v
live_holds P a i v h = go (nth a.places i) (holds_nth P a.places i h)
  where
    go : (p : Place) → Holds P p → ◌≡◌ {A = Option Version} (elim p [ empty ↦ None | draft v ↦ Some v | published v ↦ Some v ]) (Some v) → P v
    go empty q e = let z : ◌≡◌ {A = ℕ} 0 1 = cc in absurd (omega arith)
    go (draft w) q e = let s : w ≡ v = cc in rw s at q
    go (published w) q e = let s : w ≡ v = cc in rw s at q

pub all_empty : (P : Version → Type 0) (n : ℕ) → AllByRecursion (Holds P) (replicate n empty)
all_empty P zero = tt
all_empty P (suc n) = (tt, all_empty P n)

pub holds_weaker : (P Q : Version → Type 0) → ((v : Version) → P v → Q v) → (p : Place) → Holds P p → Holds Q p
holds_weaker P Q f empty h = tt
holds_weaker P Q f (draft v) h = f v h
holds_weaker P Q f (published v) h = f v h

pub all_hold_weaker : (P Q : Version → Type 0) → ((v : Version) → P v → Q v) → (ps : List Place) → AllByRecursion (Holds P) ps → AllByRecursion (Holds Q) ps
all_hold_weaker P Q f ps = All-weaker (Holds P) (Holds Q) (holds_weaker P Q f) ps

pub holds_both : (P Q : Version → Type 0) (p : Place) → Holds P p → Holds Q p → Holds (λ v. P v × Q v) p
holds_both P Q empty h k = tt
holds_both P Q (draft v) h k = (h, k)
holds_both P Q (published v) h k = (h, k)

module _ (K : KeyKind) (V : ValueKind) where
  -- what a new store has, and every call keeps, every reached account has
  module _ (I : Account → Type 0) (keeps : (a : Account) (c : Call) → Made K V c → I a → I (after K V a c)) where
    pub kept_by_runs : (cs : List Call) (a : Account) → ((c : Call) → Memᴰ c cs → Made K V c) → I a → I (run K V a cs)
    kept_by_runs [] a made h = h
    kept_by_runs (c ∷ cs) a made h = kept_by_runs cs (after K V a c) (λ d m. made d (Memᴰ.tail m)) (keeps a c (made c (Memᴰ.head refl)) h)

    pub reached_keeps : ((n e : ℕ) → n ≤ 65535 → e ≤ 65535 → I (fresh n e)) → (a : Account) → Reached K V a → I a
    reached_keeps start a r =
        rw r.comes at (kept_by_runs r.calls (fresh r.nodes r.entries) r.all_made (start r.nodes r.entries r.few_nodes r.few_entries))

  -- ---- an account after one call more is reached too

  pub run_one_more : (cs : List Call) (a : Account) (c : Call) → run K V a (cs ++ (c ∷ [])) ≡ after K V (run K V a cs) c
  run_one_more [] a c = refl
  run_one_more (d ∷ cs) a c = run_one_more cs (after K V a d) c

  made_one_more : (cs : List Call) (c : Call) → ((d : Call) → Memᴰ d cs → Made K V d) → Made K V c → (d : Call) → Memᴰ d (cs ++ (c ∷ [])) → Made K V d
  made_one_more [] c made h d (Memᴰ.head e) = rw e h
  made_one_more [] c made h d (Memᴰ.tail m) = elim m [ ]
  made_one_more (x ∷ cs) c made h d (Memᴰ.head e) = made d (Memᴰ.head e)
  made_one_more (x ∷ cs) c made h d (Memᴰ.tail m) = made_one_more cs c (λ y n. made y (Memᴰ.tail n)) h d m

  pub reached_fresh : (n e : ℕ) → n ≤ 65535 → e ≤ 65535 → Reached K V (fresh n e)
  reached_fresh n e x y = record { nodes = n; entries = e; few_nodes = x; few_entries = y; calls = []; all_made = none; comes = refl }
    where
      none : (c : Call) → Memᴰ c [] → Made K V c
      none c m = elim m [ ]

  pub reached_after : (a : Account) (c : Call) → Made K V c → Reached K V a → Reached K V (after K V a c)
  reached_after a c h r =
      record {
        nodes = r.nodes;
        entries = r.entries;
        few_nodes = r.few_nodes;
        few_entries = r.few_entries;
        calls = r.calls ++ (c ∷ []);
        all_made = made_one_more r.calls c r.all_made h;
        comes = run_one_more r.calls (fresh r.nodes r.entries) c ∙ ap (λ b. after K V b c) r.comes;
      }

  pub reached_run : (a : Account) → Reached K V a → (cs : List Call) → AllMade K V cs → Reached K V (run K V a cs)
  reached_run a r [] made = r
  reached_run a r (c ∷ cs) made = reached_run (after K V a c) (reached_after a c (made c (Memᴰ.head refl)) r) cs (λ d m. made d (Memᴰ.tail m))

  -- as `reached_keeps`, where a call has only to keep it in reached accounts
  pub reached_keeps_on : (I : Account → Type 0) → ((a : Account) → Reached K V a → (c : Call) → Made K V c → I a → I (after K V a c)) →
      ((n e : ℕ) → n ≤ 65535 → e ≤ 65535 → I (fresh n e)) → (a : Account) → Reached K V a → I a
  reached_keeps_on I keeps start a r =
      (reached_keeps (λ b. Reached K V b × I b) (λ b c h k. (reached_after b c h k.0, keeps b k.0 c h k.1))
      (λ n e x y. (reached_fresh n e x y, start n e x y)) a r).1

  -- ---- what holds of live versions

  abbrev pub Good : Version → Type 0
  Good v = Sound K V v.settings × Uncrowded K v.settings

  pub new_good : (P : Version → Type 0) → ((v : Version) → P v → Good v) → (a : Account) {i : ℕ} {p : Place} → New K V a P i p → Holds Good p
  new_good P lawful a cleared = tt
  new_good P lawful a opened = (sound_empty K V, uncrowded_empty K)
  new_good P lawful a (copied j v q e) = lawful v q
  new_good P lawful a (edited vs m s l) = (l.sound, l.uncrowded)
  new_good P lawful a (united v w s l) = (l.sound, l.uncrowded)
  new_good P lawful a (issued i v q e) = lawful v q
  new_good P lawful a (loaded m s l) = (l.sound, l.uncrowded)

  module _ (exact : OnlyImagesAreAccepted K V) where
    -- what may be said of a version after so many calls: if it goes on to hold of old ones, and holds of each new one, it holds of every live version
    module _ (P : ℕ → Version → Type 0) (later : (n : ℕ) (v : Version) → Good v → P n v → P (n + 1) v)
        (new : (a : Account) → Reached K V a → AllByRecursion (Holds (λ v. Good v × P a.calls v)) a.places →
        (i : ℕ) (p : Place) → New K V a (λ v. Good v × P a.calls v) i p → Holds (P (a.calls + 1)) p) where
      pub reached_holds : (a : Account) → Reached K V a → AllByRecursion (Holds (λ v. Good v × P a.calls v)) a.places
      reached_holds = reached_keeps_on (λ a. AllByRecursion (Holds (λ v. Good v × P a.calls v)) a.places) keeps (λ n e x y. all_empty (λ v. Good v × P 0 v) 64)
        where
          keeps : (a : Account) → Reached K V a → (c : Call) → Made K V c → AllByRecursion (Holds (λ v. Good v × P a.calls v)) a.places →
              AllByRecursion (Holds (λ v. Good v × P (a.calls + 1) v)) (after K V a c).places
          keeps a r c made h =
              let on = all_hold_weaker (λ v. Good v × P a.calls v) (λ v. Good v × P (a.calls + 1) v) (λ v q. (q.0, later a.calls v q.0 q.1)) a.places h in
              step K V a exact (λ v. Good v × P a.calls v) (λ v q. q.0) h (λ o. AllByRecursion (Holds (λ v. Good v × P (a.calls + 1) v)) o.places) (λ s. on)
              c made
              (λ s i p o w q. All-set (Holds (λ v. Good v × P (a.calls + 1) v)) a.places i p
              (holds_both Good (P (a.calls + 1)) p (new_good (λ v. Good v × P a.calls v) (λ v x. x.0) a q) (new a r h i p q)) on)

      pub live_keeps : (a : Account) → Reached K V a → (i : ℕ) (v : Version) → live a i ≡ Some v → P a.calls v
      live_keeps a r i v e = (live_holds (λ v. Good v × P a.calls v) a i v (reached_holds a r) e).1

    -- every live version's map is sound and uncrowded
    pub reached_good : (a : Account) → Reached K V a → AllByRecursion (Holds Good) a.places
    reached_good =
        reached_keeps (λ a. AllByRecursion (Holds Good) a.places)
        (λ a c made h. step K V a exact Good (λ v q. q) h (λ o. AllByRecursion (Holds Good) o.places) (λ s. h) c made
        (λ s i p o w q. All-set (Holds Good) a.places i p (new_good Good (λ v x. x) a q) h))
        (λ n e x y. all_empty Good 64)

    pub live_good : (a : Account) → Reached K V a → (i : ℕ) (v : Version) → live a i ≡ Some v → Good v
    live_good a r i v e = live_holds Good a i v (reached_good a r) e

    pub live_sound : (a : Account) → Reached K V a → (i : ℕ) (v : Version) → live a i ≡ Some v → Sound K V v.settings
    live_sound a r i v e = (live_good a r i v e).0

    pub live_uncrowded : (a : Account) → Reached K V a → (i : ℕ) (v : Version) → live a i ≡ Some v → Uncrowded K v.settings
    live_uncrowded a r i v e = (live_good a r i v e).1

-- What every reached account keeps: marks that stand for the trie and the keys, and tables that hold all. Assumes nothing.
use Rattle.std.proofs.Common.{◌≡◌, ℕ, ◌+◌, ◌≤◌, true, ◌⊎◌, List, [], ◌∷◌, ◌++◌, map, set, is_some, Some, sym, refl, ap, ◌∙◌, subst, inl, inr, arith}
use mathlib.Core.List.{Memᴰ}
use Rattle.std.specs.List.{AllByRecursion}
use Rattle.std.proofs.ByRecursion.{All-weaker}
use Rattle.std.proofs.lemmas.Bool.{false≢true}
use Rattle.kinds.specs.Kinds.{KeyKind, ValueKind}
use Rattle.model.specs.Maps.{Map, look, union}
use Rattle.model.specs.Sharing.{Marked, Part, Shared, no_share}
use Rattle.model.specs.Accounts.{Version, Place, empty, draft, published, Account, whole, in_row, distinct, held_nodes, held_entries}
use Rattle.model.specs.Calls.{Call, at, now, version, after}
use Rattle.model.specs.Runs.{live, Made, Reached}
use Rattle.model.specs.Reading.{OnlyImagesAreAccepted}
use Rattle.model.proofs.Counts.{member_in_row}
use Rattle.model.proofs.Holding.{held, of_place, held_at}
use Rattle.model.proofs.Room.{taken_fits, shared_fits}
use Rattle.model.proofs.Marks.Numbers.{shared_marks}
use Rattle.model.proofs.Marks.News.{shared_new, shared_new_entries}
use Rattle.model.proofs.Marks.Wells.{MarkedWell, result_well}
use Rattle.model.proofs.Runs.Steps.{Holds, LetIn, New, cleared, opened, copied, edited, united, issued, loaded, step}
use Rattle.model.proofs.Runs.Invariants.{Good, reached_keeps_on, reached_holds, live_keeps}

-- what holds of each version holds of each as a source
all_whole : (P : Part → Type 0) (vs : List Version) → AllByRecursion (λ v. P (whole v)) vs → AllByRecursion P (map whole vs)
all_whole P [] h = tt
all_whole P (v ∷ vs) h = (h.0, all_whole P vs h.1)

all_both : {A : Type 0} (P Q : A → Type 0) (xs : List A) → AllByRecursion P xs → AllByRecursion Q xs → AllByRecursion (λ x. P x × Q x) xs
all_both P Q [] p q = tt
all_both P Q (x ∷ xs) p q = ((p.0, q.0), all_both P Q xs p.1 q.1)

module _ (K : KeyKind) (V : ValueKind) (exact : OnlyImagesAreAccepted K V) where
  -- ---- marks

  abbrev Few : ℕ → List Marked → Type 0
  Few n xs = AllByRecursion (λ x. x.mark ≤ n) xs

  few_later : (n : ℕ) (xs : List Marked) → Few n xs → Few (n + 1) xs
  few_later n xs = All-weaker (λ (x : Marked). x.mark ≤ n) (λ (x : Marked). x.mark ≤ n + 1) (λ x h. omega arith) xs

  -- a version's marks stand for its trie and its keys, and are numbers of calls
  abbrev pub MarkedBy : ℕ → Version → Type 0
  MarkedBy n v = MarkedWell K (whole v) × (Few n v.nodes × Few n v.entries)

  marked_later : (n : ℕ) (v : Version) → Good K V v → MarkedBy n v → MarkedBy (n + 1) v
  marked_later n v g m = (m.0, (few_later n v.nodes m.1.0, few_later n v.entries m.1.1))

  abbrev Kept : Account → Version → Type 0
  Kept a v = Good K V v × MarkedBy a.calls v

  module _ (a : Account) where
    -- the marks of a result, where its sources were marked
    result_marked : (vs : List Version) (m : Map) (s : Shared) → LetIn K V a (Kept a) vs m s →
        MarkedWell K (record { settings = m; nodes = s.nodes; entries = s.entries }) × (Few (a.calls + 1) s.nodes × Few (a.calls + 1) s.entries)
    result_marked vs m s l =
        subst (λ (t : Shared). MarkedWell K (record { settings = m; nodes = t.nodes; entries = t.entries }) × (Few (a.calls + 1) t.nodes × Few (a.calls + 1) t.entries)) (sym l.shares) (
          result_well K (now K V a) (map whole vs) m l.sound.rises (all_whole (MarkedWell K) vs (All-weaker (Kept a) (λ v. MarkedWell K (whole v)) (λ v k. k.1.0) vs l.from)),
          shared_marks K (now K V a) (map whole vs) m
              (all_whole (λ b. Few (now K V a) b.nodes × Few (now K V a) b.entries) vs (All-weaker (Kept a) (λ v. Few (now K V a) v.nodes × Few (now K V a) v.entries)
              (λ v k. (marked_later a.calls v k.0 k.1).1) vs l.from)),
        )

    new_marked : (i : ℕ) (p : Place) → New K V a (Kept a) i p → Holds (MarkedBy (a.calls + 1)) p
    new_marked i p cleared = tt
    new_marked i p opened = (result_well K 0 [] [] tt tt, (tt, tt))
    new_marked i p (copied j v q e) = marked_later a.calls v q.0 q.1
    new_marked i p (edited vs m s l) = result_marked vs m s l
    new_marked i p (united v w s l) = result_marked (v ∷ (w ∷ [])) (union K V v.settings w.settings) s l
    new_marked i p (issued j v q e) = marked_later a.calls v q.0 q.1
    new_marked i p (loaded m s l) = result_marked [] m s l

  pub all_marked : (a : Account) → Reached K V a → AllByRecursion (Holds (Kept a)) a.places
  all_marked = reached_holds K V exact MarkedBy marked_later (λ a r h. new_marked a)

  pub live_marked : (a : Account) → Reached K V a → (i : ℕ) (v : Version) → live a i ≡ Some v → MarkedBy a.calls v
  live_marked = live_keeps K V exact MarkedBy marked_later (λ a r h. new_marked a)

  -- ---- room

  pub record Fits (a : Account) : Type 0 where
    pub nodes : distinct (held_nodes a.places) ≤ a.node_cells
    pub entries : distinct (held_entries a.places) ≤ a.entry_cells
    pub few : a.entry_cells ≤ 65535

  module _ (a : Account) (fits : Fits a) where
    -- what a live place's version holds is held
    live_in : (f : Version → List Marked) (v : Version) → (j : ℕ) × ((at K V a j ≡ draft v) ⊎ (at K V a j ≡ published v)) → (x : Marked) → in_row x (f v) ≡ true → in_row x (held f a.places) ≡ true
    live_in f v (j, inl e) x m = held_at f x a.places j (ap (λ q. in_row x (of_place f q)) e ∙ m)
    live_in f v (j, inr e) x m = held_at f x a.places j (ap (λ q. in_row x (of_place f q)) e ∙ m)

    abbrev After : List Place → Type 0
    After ps = (distinct (held_nodes ps) ≤ a.node_cells) × (distinct (held_entries ps) ≤ a.entry_cells)

    result_fits : (vs : List Version) (m : Map) (s : Shared) → LetIn K V a (Kept a) vs m s → (i : ℕ) (p : Place) →
        of_place (λ v. v.nodes) p ≡ s.nodes → of_place (λ v. v.entries) p ≡ s.entries → After (set a.places i p)
    result_fits vs m s l i p en ee = (
      taken_fits (λ v. v.nodes) a.places i p a.node_cells fits.nodes s.new_nodes new_nodes l.nodes_fit,
      taken_fits (λ v. v.entries) a.places i p a.entry_cells fits.entries s.new_entries new_entries l.entries_fit,
    )
      where
        node_sources : AllByRecursion (λ v. (x : Marked) → Memᴰ x v.nodes → in_row x (held_nodes a.places) ≡ true) vs
        node_sources = All-weaker _ _ (λ v k x h. live_in (λ w. w.nodes) v k x (member_in_row x h)) vs l.live

        entry_sources : AllByRecursion (λ v. ((x : Marked) → Memᴰ x v.entries → in_row x (held_entries a.places) ≡ true) × ((k : List ℕ) → is_some (look v.settings k) ≡ true → Memᴰ k (map (λ x. x.what) v.entries))) vs
        entry_sources =
            all_both _ _ vs (All-weaker _ _ (λ v k x h. live_in (λ w. w.entries) v k x (member_in_row x h)) vs l.live)
            (All-weaker _ _ (λ v k. k.1.0.keys.all) vs l.from)

        new_nodes : distinct (of_place (λ v. v.nodes) p ++ held_nodes a.places) ≤ distinct (held_nodes a.places) + s.new_nodes
        new_nodes =
            subst (λ l'. distinct (l' ++ held_nodes a.places) ≤ distinct (held_nodes a.places) + s.new_nodes) (sym en)
            (subst (λ (t : Shared). distinct (t.nodes ++ held_nodes a.places) ≤ distinct (held_nodes a.places) + t.new_nodes) (sym l.shares)
            (shared_new K (now K V a) (map whole vs) m (held_nodes a.places) (all_whole _ vs node_sources)))

        new_entries : distinct (of_place (λ v. v.entries) p ++ held_entries a.places) ≤ distinct (held_entries a.places) + s.new_entries
        new_entries =
            subst (λ l'. distinct (l' ++ held_entries a.places) ≤ distinct (held_entries a.places) + s.new_entries) (sym ee)
            (subst (λ (t : Shared). distinct (t.entries ++ held_entries a.places) ≤ distinct (held_entries a.places) + t.new_entries) (sym l.shares)
            (shared_new_entries K (now K V a) (map whole vs) m (held_entries a.places) (all_whole _ vs entry_sources)))

    -- a place that holds nothing new
    kept_fits : (i : ℕ) (p : Place) → ((f : Version → List Marked) (x : Marked) → in_row x (of_place f p) ≡ true → in_row x (held f a.places) ≡ true) → After (set a.places i p)
    kept_fits i p h = (
      shared_fits (λ v. v.nodes) a.places i p a.node_cells fits.nodes (h (λ v. v.nodes)),
      shared_fits (λ v. v.entries) a.places i p a.entry_cells fits.entries (h (λ v. v.entries)),
    )

    none_new : (f : Version → List Marked) (x : Marked) → in_row x [] ≡ true → in_row x (held f a.places) ≡ true
    none_new f x h = absurd (false≢true h)

    new_fits : (i : ℕ) (p : Place) → New K V a (Kept a) i p → After (set a.places i p)
    new_fits i p cleared = kept_fits i empty none_new
    new_fits i p opened = result_fits_none i
      where
        result_fits_none : (j : ℕ) → After (set a.places j (draft (version K V a [] (Some []) no_share)))
        result_fits_none j = (
          shared_fits (λ v. v.nodes) a.places j _ a.node_cells fits.nodes (none_new (λ v. v.nodes)),
          shared_fits (λ v. v.entries) a.places j _ a.entry_cells fits.entries (none_new (λ v. v.entries)),
        )
    new_fits i p (copied j v q e) = kept_fits i (draft v) (λ f x h. live_in f v (j, inr e) x h)
    new_fits i p (edited vs m s l) = result_fits vs m s l i _ refl refl
    new_fits i p (united v w s l) = result_fits (v ∷ (w ∷ [])) (union K V v.settings w.settings) s l i _ refl refl
    new_fits i p (issued j v q e) = (
      shared_fits (λ w. w.nodes) a.places i _ a.node_cells fits.nodes (λ x h. live_in (λ w. w.nodes) v (j, inl e) x h),
      shared_fits (λ w. w.entries) a.places i _ a.entry_cells fits.entries (λ x h. live_in (λ w. w.entries) v (j, inl e) x h),
    )
    new_fits i p (loaded m s l) = result_fits [] m s l i _ refl refl

  fits_after : (a : Account) → Reached K V a → (c : Call) → Made K V c → Fits a → Fits (after K V a c)
  fits_after a r c made fits =
      let done = step K V a exact (Kept a) (λ v k. k.0) (all_marked a r) (λ o. After a fits o.places) (λ s. (fits.nodes, fits.entries)) c made (λ s i p o e q. new_fits a fits i p q) in
      record { nodes = done.0; entries = done.1; few = fits.few }

  pub reached_fits : (a : Account) → Reached K V a → Fits a
  reached_fits = reached_keeps_on K V Fits fits_after (λ n e x y. record { nodes = omega arith; entries = omega arith; few = y })

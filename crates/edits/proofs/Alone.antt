-- A key is set where no other key is: one new entry, or nothing. Assumes nothing.
use Rattle.std.proofs.Common.{◌≡◌, ℕ, ◌<◌, ◌≤◌, Bool, true, false, cond, List, [], ◌∷◌, Some, None, Option, sym, refl, ap, ◌∙◌, subst, ap₂, arith}
use Rattle.kinds.specs.Kinds.{KeyKind, ValueKind}
use Rattle.model.specs.Maps.{Setting, Map, same_found}
use Rattle.model.specs.Sharing.{Shared}
use Rattle.model.proofs.Maps.Found.{found_self}
use Rattle.tables.specs.declared.cells.EntryId.{EntryId}
use Rattle.tables.specs.Heaps.{EntryMade}
use Rattle.plans.specs.Plans.{edited, portion}
use Rattle.plans.proofs.Sharing.{portion_one}
use Rattle.branches.specs.declared.branch.Branch.{Branch}
use Rattle.branches.specs.declared.branch.Branch.TheVariants.{Nothing, Entry}
use Rattle.branches.specs.States.{Tables, Under, Led}
use Rattle.branches.specs.Branches.{Built}
use Rattle.branches.proofs.Growing.{grown_none, NodesStay}
use Rattle.branches.proofs.Made.{entry_built}
use Rattle.branches.proofs.Settings.{lone, new_entry, entry_new}
use Rattle.edits.specs.Sets.{Ready, Done, Alone, FoundAlone}
use Rattle.edits.proofs.Turns.{reads}
use Rattle.edits.proofs.Singles.{edited_lone}

true_false : true ≡ false → ⊥
true_false e = let z : ◌≡◌ {A = ℕ} 0 1 = ap (λ (b : Bool). cond b 0 1) e in omega arith

module _ {X Y : Type 0} (K : KeyKind) (V : ValueKind) (kb : X → List ℕ) (vb : Y → List ℕ) (T : Tables X Y) (b : Branch) (k : List ℕ) (x : Option (List ℕ)) (level : ℕ)
    (q : Ready K V kb vb T b k x level) (alone : Alone q.source.settings k) where
  -- only what is set is left
  pub edited_alone : edited K q.source.settings k x ≡ lone k x
  edited_alone = edited_lone K V q.source.settings k q.sound q.key_reads x (reads V x q.value_reads) alone

  room_for : (s : Shared) → portion K q.call level q.prefix (q.source ∷ []) (edited K q.source.settings k x) ≡ s → s.new_entries ≤ T.entry_spare
  room_for s e = subst (λ (y : Shared). y.new_entries ≤ T.entry_spare) e q.entry_room

module _ {X Y : Type 0} (K : KeyKind) (V : ValueKind) (kb : X → List ℕ) (vb : Y → List ℕ) (T : Tables X Y) (b : Branch) (k : List ℕ) (level : ℕ) (low : level < 8) where
  -- nothing is put: nothing is left
  pub none_alone : (q : Ready K V kb vb T b k None level) → Alone q.source.settings k
      → Built K kb vb q.call level q.prefix (edited K q.source.settings k None) (portion K q.call level q.prefix (q.source ∷ []) (edited K q.source.settings k None)) T q.notes q.roots q.in_hand Nothing T
  none_alone q alone =
      subst (λ (m : Map). Built K kb vb q.call level q.prefix m (portion K q.call level q.prefix (q.source ∷ []) m) T q.notes q.roots q.in_hand Nothing T)
      (sym (edited_alone K V kb vb T b k None level q alone))
      (record { notes = q.notes; sits = q.sits; grown = grown_none q.call (Under q.prefix) (Led K q.prefix) T q.notes; is = refl; cost = omega arith; entry_cost = omega arith })

  module _ (v : List ℕ) (q : Ready K V kb vb T b k (Some v) level) (alone : Alone q.source.settings k) where
    abbrev s : Setting
    s = record { key = k; value = v }

    shares : portion K q.call level q.prefix (q.source ∷ []) (s ∷ []) ≡ new_entry q.call s
    shares = portion_one K q.call level q.prefix (q.source ∷ []) s low ∙ entry_new q.call q.source s (λ e. true_false (sym (ap (λ (y : Option (List ℕ)). same_found y (Some v)) e ∙ found_self (Some v)) ∙ q.changed))

    pub some_room : 0 < T.entry_spare
    some_room = room_for K V kb vb T b k (Some v) level q alone (new_entry q.call s) (ap (portion K q.call level q.prefix (q.source ∷ [])) (edited_alone K V kb vb T b k (Some v) level q alone) ∙ shares)

    -- a new entry
    module _ (key : X) (value : Y) (same_key : kb key ≡ k) (same_value : vb value ≡ v) (id : EntryId) (U : Tables X Y) (stay : NodesStay T U)
        (made : EntryMade id.0 (record { held = Some (key, value); holders = 1; next = 0 }) T.entries T.entry_free T.entry_spare U.entries U.entry_free U.entry_spare) where
      built : Built K kb vb q.call level q.prefix (s ∷ []) (new_entry q.call s) T q.notes q.roots q.in_hand (Entry id) U
      built =
          subst (λ (t : Setting). Built K kb vb q.call level q.prefix (t ∷ []) (new_entry q.call t) T q.notes q.roots q.in_hand (Entry id) U)
          (ap₂ (λ (y z : List ℕ). record { key = y; value = z }) same_key same_value)
          (entry_built K kb vb q.call level low q.prefix T q.notes q.roots q.in_hand q.sits q.clear key value (subst (Led K q.prefix) (sym same_key) q.led) id U stay made)

      pub some_alone : Built K kb vb q.call level q.prefix (edited K q.source.settings k (Some v)) (portion K q.call level q.prefix (q.source ∷ []) (edited K q.source.settings k (Some v))) T q.notes q.roots q.in_hand (Entry id) U
      some_alone =
          subst (λ (m : Map). Built K kb vb q.call level q.prefix m (portion K q.call level q.prefix (q.source ∷ []) m) T q.notes q.roots q.in_hand (Entry id) U)
          (sym (edited_alone K V kb vb T b k (Some v) level q alone))
          (subst (λ (w : Shared). Built K kb vb q.call level q.prefix (s ∷ []) w T q.notes q.roots q.in_hand (Entry id) U) (sym shares) built)

-- ---- whatever the edit is of

module _ {X Y : Type 0} (K : KeyKind) (V : ValueKind) (kb : X → List ℕ) (vb : Y → List ℕ) (T : Tables X Y) (b : Branch) (k : List ℕ) (level : ℕ) (low : level < 8) (found : Bool) (told : FoundAlone K kb vb T b k found) (yes' : found ≡ true) where
  alone_at : (x : Option (List ℕ)) (q : Ready K V kb vb T b k x level) → Alone q.source.settings k
  alone_at x q = told.alone yes' q.notes q.roots q.in_hand q.sits level q.prefix q.source q.is

  pub entry_room : (v : List ℕ) (x : Option (List ℕ)) → x ≡ Some v → Ready K V kb vb T b k x level → 0 < T.entry_spare
  entry_room v x e q = let r : Ready K V kb vb T b k (Some v) level = subst (λ (y : Option (List ℕ)). Ready K V kb vb T b k y level) e q in some_room K V kb vb T b k level low v r (alone_at (Some v) r)

  pub done_some : (v : List ℕ) (x : Option (List ℕ)) → x ≡ Some v → (key : X) (value : Y) → kb key ≡ k → vb value ≡ v → (id : EntryId) (r : Branch) → r ≡ Entry id → (U W : Tables X Y) → W ≡ U → NodesStay T U
      → EntryMade id.0 (record { held = Some (key, value); holders = 1; next = 0 }) T.entries T.entry_free T.entry_spare U.entries U.entry_free U.entry_spare
      → Done K V kb vb T b k x level r W
  done_some v x e key value same_key same_value id r is U W w stay made =
      subst (Done K V kb vb T b k x level r) (sym w)
      (subst (λ (y : Branch). Done K V kb vb T b k x level y U) (sym is)
      (subst (λ (y : Option (List ℕ)). Done K V kb vb T b k y level (Entry id) U) (sym e)
      (record { built = λ q. some_alone K V kb vb T b k level low v q (alone_at (Some v) q) key value same_key same_value id U stay made })))

  pub done_none : (x : Option (List ℕ)) → x ≡ None → (r : Branch) → r ≡ Nothing → (W : Tables X Y) → W ≡ T → Done K V kb vb T b k x level r W
  done_none x e r is W w =
      subst (Done K V kb vb T b k x level r) (sym w)
      (subst (λ (y : Branch). Done K V kb vb T b k x level y T) (sym is)
      (subst (λ (y : Option (List ℕ)). Done K V kb vb T b k y level Nothing T) (sym e)
      (record { built = λ q. none_alone K V kb vb T b k level low q (alone_at None q) })))

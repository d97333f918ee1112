-- One key of a row is set: what each step may take for granted, and what is built. Assumes nothing.
use Rattle.std.proofs.Common.{◌≡◌, ℕ, ◌+◌, ◌<◌, ◌≤◌, true, cond, List, [], ◌∷◌, ◌++◌, length, get_or, take, drop, is_some, Some, None, All, Option, sym, refl, ap, ◌∙◌, subst, append_assoc, arith, length-append, length-drop}
use lib.Count.{ones}
use Rattle.std.proofs.lemmas.List.{length-map, length-take-le}
use Rattle.std.proofs.lemmas.List.Elements.{All-take, All-drop}
use Rattle.std.proofs.lemmas.Bool.{cond-false, both_ways}
use Rattle.kinds.specs.Kinds.{KeyKind, ValueKind}
use Rattle.model.specs.Maps.{Map, look, same_found, same_map}
use Rattle.model.specs.Sharing.{Part, Shared, first_same, entry_from, sum}
use Rattle.model.proofs.Maps.Found.{found_self}
use Rattle.model.proofs.Maps.Order.{Reads}
use Rattle.tables.specs.declared.cells.NodeCell.{NodeCell}
use Rattle.tables.specs.declared.cells.EntryCell.{EntryCell}
use Rattle.tables.specs.declared.cells.EntryId.{EntryId}
use Rattle.tables.specs.Cells.{entry_cell}
use Rattle.plans.specs.Plans.{edited, portion}
use Rattle.plans.proofs.Crowds.{crowd_deepest}
use Rattle.branches.specs.declared.branch.Branch.{Branch}
use Rattle.branches.specs.States.{Tables}
use Rattle.branches.specs.Branches.{Built, SomeEntry}
use Rattle.branches.specs.Handfuls.{nothing_in_hand, Assembling, Assembled, Rowful, entries_in}
use Rattle.branches.proofs.Settings.{lone, entry_new, edited_same}
use Rattle.branches.proofs.Picks.{sum_append}
use Rattle.branches.proofs.Bundles.{bundled_none}
use Rattle.edits.specs.Sets.{value_bytes, ValueReads, Ready}
use Rattle.edits.specs.Rowing.{entries_of, Placed, Split, beside, Keeping, EntriesKept, Adding, Added}
use Rattle.branches.proofs.Rowfuls.{rowful_count, rowful_itself}
use Rattle.edits.proofs.RowParts.{Says, row_says, settings_count, row_held, some_entries, placed_in, edited_place, edited_long}
use Rattle.edits.proofs.RowHands.{No, Got, got_none, got_before, got_after, got_new}
use Rattle.edits.proofs.RowEnds.{above, leaf_entries, got_assembles, got_built}

pub value_read : (V : ValueKind) (x : Option (List ℕ)) → ValueReads V x → Reads V x
value_read V (Some v) r = r
value_read V None r = tt

lone_some : {Y : Type 0} (k : List ℕ) (vb : Y → List ℕ) (value : Option Y) → is_some value ≡ true → length (lone k (value_bytes vb value)) ≡ 1
lone_some k vb (Some v) e = refl
lone_some k vb None e = absurd (let z : ◌≡◌ {A = ℕ} 0 1 = cc in omega arith)

-- a value that the source does not have is a new entry
lone_new : {Y : Type 0} (n : ℕ) (a : Part) (k : List ℕ) (vb : Y → List ℕ) (value : Option Y) → (look a.settings k ≡ value_bytes vb value → ⊥) → is_some value ≡ true
    → (sum (entry_from n (a ∷ [])) (lone k (value_bytes vb value))).new_entries ≡ 1
lone_new n a k vb (Some v) other e = let z = ap (λ (q : Shared). q.new_entries) (entry_new n a (record { key = k; value = vb v }) other) in omega (arith, z)
lone_new n a k vb None other e = absurd (let z : ◌≡◌ {A = ℕ} 0 1 = cc in omega arith)

module _ {X Y : Type 0} (K : KeyKind) (V : ValueKind) (kb : X → List ℕ) (vb : Y → List ℕ) (T : Tables X Y) (b : Branch) (key : X) (value : Option Y) (q : Ready K V kb vb T b (kb key) (value_bytes vb value) 0) where
  abbrev k : List ℕ
  k = kb key

  abbrev x : Option (List ℕ)
  x = value_bytes vb value

  abbrev old : Map
  old = q.source.settings

  abbrev new : Map
  new = edited K q.source.settings (kb key) (value_bytes vb value)

  deepest : length q.prefix ≡ 8
  deepest = omega (arith, q.deep)

  reads : Reads V x
  reads = value_read V x q.value_reads

  other : look old k ≡ x → ⊥
  other e = both_ways (same_found (look old k) x) q.changed (ap (λ (y : Option (List ℕ)). same_found y x) e ∙ found_self x)

  none : first_same (q.source ∷ []) new ≡ None
  none = cond-false (same_map old new) (Some q.source) None (edited_same K V old k q.sound q.key_reads x reads ∙ q.changed)

  few : length new ≤ 16
  few = crowd_deepest K (length q.prefix) new q.calm

  -- ---- read

  module _ (xs : List ℕ) (row : xs ≡ entries_of T.nodes b) where
    pub set_entries : All (SomeEntry K kb vb T.entries) xs
    set_entries = some_entries K kb vb T q.notes q.roots q.in_hand q.sits q.prefix deepest q.source b q.is xs row

    held : All (λ e. 0 < (entry_cell T.entries e).holders) xs
    held = row_held K kb vb T q.notes q.roots q.in_hand q.sits q.prefix deepest q.source b q.is xs row

    counted : length old ≡ length xs
    counted = settings_count K kb vb T q.notes q.roots q.in_hand q.sits q.prefix deepest q.source b q.is xs row

    says : Says T q.notes xs q.source
    says = row_says K kb vb T q.notes q.roots q.in_hand q.sits q.prefix deepest q.source b q.is xs row

    module _ (ys : List ℕ) (own : Option EntryId) (zs : List ℕ) (F : Split K kb vb T.entries xs (kb key) ys own zs) where
      abbrev at : ℕ
      at = F.at

      abbrev past : ℕ
      past = F.at + cond (is_some own) 1 0

      placed : Placed K old k F.at (is_some own)
      placed = placed_in K kb vb T q.notes q.roots q.in_hand q.sits q.prefix deepest q.source b q.is xs row q.sound.rises k ys own zs F

      new_is : new ≡ take at old ++ (lone k x ++ drop past old)
      new_is = edited_place K V old k at q.sound q.key_reads x reads (is_some own) placed

      before_long : length (take at old) ≡ at
      before_long = length-take-le at old (omega (arith, placed.inside))

      -- how many come before, and after
      ys_long : length ys ≡ at
      ys_long = ap length F.before_are ∙ length-take-le at xs (omega (arith, placed.inside, counted))

      new_long : length new ≡ length ys + length (lone k x) + length zs
      new_long = omega (arith, edited_long K V old k at q.sound q.key_reads x reads (is_some own) placed, counted, placed.inside, ys_long, ap length F.after_are, length-drop past xs)

      -- ---- what comes before

      pub set_keeps : (h₀ : NodeCell) → h₀ ≡ nothing_in_hand → Keeping K kb vb T.entries T.entry_free T.entry_spare ys h₀
      unfolding ones
      set_keeps h₀ e = subst (Keeping K kb vb T.entries T.entry_free T.entry_spare ys) (sym e) record {
        tables = T;
        notes = q.notes;
        roots = q.roots;
        in_hand = q.in_hand;
        sits = q.sits;
        held = subst (All (λ e. 0 < (entry_cell T.entries e).holders)) (sym F.before_are) (All-take (λ e. 0 < (entry_cell T.entries e).holders) at xs held);
        few_in_hand = omega (arith, q.few_in_hand, new_long, few);
        rowful = record { bundled = bundled_none; few = omega arith };
        room = omega (arith, new_long, few);
      }

      module _ (h₀ : NodeCell) (e₀ : h₀ ≡ nothing_in_hand) (h₁ : NodeCell) (es₁ : List (EntryCell X Y)) (f₁ s₁ : ℕ) (kept₁ : EntriesKept K kb vb T.entries T.entry_free T.entry_spare ys es₁ f₁ s₁)
          (up₁ : Rowful h₁ (entries_in h₀ ++ ys)) where
        got₁ : Got K kb vb q.call q.prefix q.source new T q.notes q.roots q.in_hand No (take at old) h₁ (beside T es₁ f₁ s₁)
        unfolding ones
        got₁ =
            got_before K kb vb q.call q.prefix q.source new T q.notes q.roots q.in_hand q.sits xs says q.sound.rises at ys F.before_are
            No [] nothing_in_hand T (got_none K kb vb q.call q.prefix q.source new T q.notes q.roots q.in_hand q.sits) h₁ es₁ f₁ s₁ kept₁
            (subst (λ (h : NodeCell). Rowful h₁ (entries_in h ++ ys)) e₀ up₁)

        ids₁ : ones h₁.datamap ≡ at
        ids₁ =
            rowful_count h₁ got₁.ids got₁.rowful ∙ sym (length-map got₁.ids (λ e. (got₁.in_hand.notes.entry e).setting)) ∙ ap length got₁.in_hand.settings_are ∙ before_long

        -- ---- the new entry

        taken : is_some value ≡ true → 0 < s₁
        taken e =
            omega (
              arith,
              got₁.in_hand.entry_cost,
              q.entry_room,
              leaf_entries K q.call q.prefix (q.source ∷ []) new none,
              ap (λ (l : Map). (sum (entry_from q.call (q.source ∷ [])) l).new_entries) new_is,
              (sum_append (entry_from q.call (q.source ∷ [])) (take at old) (lone k x ++ drop past old)).1,
              (sum_append (entry_from q.call (q.source ∷ [])) (lone k x) (drop past old)).1,
              lone_new q.call q.source k vb value other e,
            )

        pub set_adds : Adding es₁ f₁ s₁ value h₁
        set_adds = record {
          heap = (T.nodes, (got₁.ids ++ q.in_hand, got₁.in_hand.sits.entries));
          spare = taken;
          rowful = rowful_itself h₁ got₁.ids got₁.rowful;
          room = λ e. omega (arith, ids₁, ys_long, few, new_long, lone_some k vb value e);
        }

        module _ (h₂ : NodeCell) (es₂ : List (EntryCell X Y)) (f₂ s₂ : ℕ) (added : Added key value h₁ es₁ f₁ s₁ h₂ es₂ f₂ s₂) where
          got₂ : Got K kb vb q.call q.prefix q.source new T q.notes q.roots q.in_hand (λ y. y ≡ kb key) (take at old ++ lone k x) h₂ (beside T es₂ f₂ s₂)
          got₂ =
              got_new K kb vb q.call q.prefix q.source new T q.notes q.roots q.in_hand q.clear key q.led (take at old) h₁ (beside T es₁ f₁ s₁) got₁
              value other h₂ es₂ f₂ s₂ added

          own₂_long : length (take at old ++ lone k x) ≡ length ys + length (lone k x)
          own₂_long = length-append (take at old) (lone k x) ∙ ap (λ (i : ℕ). i + length (lone k x)) (before_long ∙ sym ys_long)

          ids₂ : length got₂.ids ≡ length ys + length (lone k x)
          ids₂ = sym (length-map got₂.ids (λ e. (got₂.in_hand.notes.entry e).setting)) ∙ ap length got₂.in_hand.settings_are ∙ own₂_long

          -- ---- what comes after

          pub set_keeps_rest : Keeping K kb vb es₂ f₂ s₂ zs h₂
          set_keeps_rest = record {
            tables = T;
            notes = got₂.in_hand.notes;
            roots = q.roots;
            in_hand = got₂.ids ++ q.in_hand;
            sits = got₂.in_hand.sits;
            held =
                subst (All (λ e. 0 < (entry_cell es₂ e).holders)) (sym F.after_are)
                (All-drop (λ e. 0 < (entry_cell es₂ e).holders) past xs (λ j d h. got₂.in_hand.grown.entry_held (get_or xs j d) (held j d h)));
            few_in_hand = omega (arith, length-append got₂.ids q.in_hand, ids₂, q.few_in_hand, new_long, few);
            rowful = rowful_itself h₂ got₂.ids got₂.rowful;
            room = omega (arith, rowful_count h₂ got₂.ids got₂.rowful, ids₂, new_long, few);
          }

          module _ (h₃ : NodeCell) (es₃ : List (EntryCell X Y)) (f₃ s₃ : ℕ) (kept₃ : EntriesKept K kb vb es₂ f₂ s₂ zs es₃ f₃ s₃) (up₃ : Rowful h₃ (entries_in h₂ ++ zs)) where
            got₃ : Got K kb vb q.call q.prefix q.source new T q.notes q.roots q.in_hand (λ y. y ≡ kb key) new h₃ (beside T es₃ f₃ s₃)
            got₃ =
                subst (λ (l : Map). Got K kb vb q.call q.prefix q.source new T q.notes q.roots q.in_hand (λ y. y ≡ kb key) l h₃ (beside T es₃ f₃ s₃))
                (append_assoc (take at old) (lone k x) (drop past old) ∙ sym new_is)
                (got_after K kb vb q.call q.prefix q.source new T q.notes q.roots q.in_hand q.sits xs says q.sound.rises past zs F.after_are
                (λ y. y ≡ kb key) (take at old ++ lone k x) h₂ (beside T es₂ f₂ s₂) got₂ h₃ es₃ f₃ s₃ kept₃ up₃)

            pub set_assembles : Assembling h₃ 0 T.nodes T.free T.spare
            set_assembles = got_assembles K kb vb q.call q.prefix q.source new T q.notes q.roots q.in_hand k q.led none h₃ (beside T es₃ f₃ s₃) got₃ q.room

            pub set_built : (c : Branch) (ds : List NodeCell) (f s : ℕ) → Assembled h₃ 0 c T.nodes T.free T.spare ds f s
                → Built K kb vb q.call 0 q.prefix new (portion K q.call 0 q.prefix (q.source ∷ []) new) T q.notes q.roots q.in_hand c (above (beside T es₃ f₃ s₃) ds f s)
            set_built =
                got_built K kb vb q.call q.prefix q.source new T q.notes q.roots q.in_hand k q.led none h₃ (beside T es₃ f₃ s₃) got₃ q.clear deepest

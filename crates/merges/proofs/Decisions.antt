-- What becomes of one key in a merge. Assumes nothing.
use Rattle.std.proofs.Common.{◌≡◌, ℕ, Bool, true, false, List, Some, None, Option, Decides, sym, refl, ap, ap₂, ◌∙◌, subst, arith}
use Rattle.std.proofs.lemmas.Bool.{cond-true, cond-false}
use Rattle.std.proofs.lemmas.Bool.Decides.{same_from_decides}
use Rattle.byte_rows.specs.Rows.{same}
use Rattle.byte_rows.proofs.Orders.{same_decides, same_tells}
use Rattle.kinds.specs.Kinds.{KeyKind, ValueKind}
use Rattle.model.specs.Maps.{Setting, same_found, joined, decided}
use Rattle.model.proofs.Maps.Found.{found_true, found_self, found_tells}
use Rattle.tables.specs.declared.cells.EntryCell.{EntryCell}
use Rattle.tables.specs.declared.cells.EntryId.{EntryId}
use Rattle.branches.specs.Branches.{SettingRead}
use Rattle.edits.specs.Rowing.{setting_held, setting_at, value_held}
use Rattle.merges.specs.declared.choices.Choice.TheVariants.{Joined}
use Rattle.merges.specs.declared.choices.Decision.{Decision}
use Rattle.merges.specs.Choices.{of_ours, of_theirs, Sourced, chosen_value, Becomes, Decided, DecidedByJoin}

pub found_swap : (a b : Option (List ℕ)) → same_found a b ≡ same_found b a
found_swap a b = grind (arith, found_tells)

-- ---- what is decided, case by case

module _ (V : ValueKind) (o b t : Option (List ℕ)) where
  decided_same : same_found o t ≡ true → decided V o b t ≡ o
  decided_same e = cond-true (same_found o t) t _ e ∙ sym (found_true o t e)

  decided_kept : same_found o t ≡ false → same_found o b ≡ true → decided V o b t ≡ t
  decided_kept e f = cond-false (same_found o t) t _ e ∙ cond-true (same_found o b) t _ f

  decided_ours : same_found o t ≡ false → same_found o b ≡ false → same_found t b ≡ true → decided V o b t ≡ o
  decided_ours e f h = cond-false (same_found o t) t _ e ∙ cond-false (same_found o b) t _ f ∙ cond-true (same_found t b) o _ h

  decided_both : same_found o t ≡ false → same_found o b ≡ false → same_found t b ≡ false → decided V o b t ≡ joined V o t
  decided_both e f h = cond-false (same_found o t) t _ e ∙ cond-false (same_found o b) t _ f ∙ cond-false (same_found t b) o _ h

-- ---- by entries

sourced_ours : (o t : Option EntryId) (b c : Bool) → Sourced o t b c (of_ours o)
sourced_ours (Some e) t b c = refl
sourced_ours None t b c = tt

sourced_theirs : (o t : Option EntryId) (c : Bool) → Sourced o t false c (of_theirs t)
sourced_theirs o (Some e) c = (refl, refl)
sourced_theirs o None c = tt

module _ {X Y : Type 0} (V : ValueKind) (kb : X → List ℕ) (vb : Y → List ℕ) (es : List (EntryCell X Y)) where
  abbrev held : Option EntryId → Option (List ℕ)
  held o = value_held kb vb es o

  value_of_ours : (o : Option EntryId) → chosen_value V kb vb es (of_ours o) ≡ value_held kb vb es o
  value_of_ours (Some e) = refl
  value_of_ours None = refl

  value_of_theirs : (o : Option EntryId) → chosen_value V kb vb es (of_theirs o) ≡ value_held kb vb es o
  value_of_theirs (Some e) = refl
  value_of_theirs None = refl

  -- what ours has
  become_ours : (o t : Option EntryId) (both : Bool) → same_found (held o) (held t) ≡ both → (x : Option (List ℕ)) → x ≡ held o
      → (r : Decision) → r ≡ record { choice = of_ours o; ours = true; theirs = both } → Becomes V kb vb es o t x r
  become_ours o t both e x is r made =
      subst (λ (y : Decision). Becomes V kb vb es o t x y) (sym made) (subst (λ (y : Option (List ℕ)). Becomes V kb vb es o t y (record { choice = of_ours o; ours = true; theirs = both })) (sym is) (record {
        value = value_of_ours o;
        ours_has = sym (found_self (held o));
        theirs_has = sym e ∙ found_swap (held o) (held t);
        source = sourced_ours o t true both;
      }))

  -- what theirs has
  become_theirs : (o t : Option EntryId) → same_found (held o) (held t) ≡ false → (x : Option (List ℕ)) → x ≡ held t
      → (r : Decision) → r ≡ record { choice = of_theirs t; ours = false; theirs = true } → Becomes V kb vb es o t x r
  become_theirs o t e x is r made =
      subst (λ (y : Decision). Becomes V kb vb es o t x y) (sym made) (subst (λ (y : Option (List ℕ)). Becomes V kb vb es o t y (record { choice = of_theirs t; ours = false; theirs = true })) (sym is) (record {
        value = value_of_theirs t;
        ours_has = sym e;
        theirs_has = sym (found_self (held t));
        source = sourced_theirs o t true;
      }))

  module _ (o b t : Option EntryId) where
    pub decide_same : same_found (held o) (held t) ≡ true → (r : Decision) → r ≡ record { choice = of_ours o; ours = true; theirs = true } → Decided V kb vb es o b t r
    decide_same e r made = become_ours o t true e (decided V (held o) (held b) (held t)) (decided_same V (held o) (held b) (held t) e) r made

    module _ (apart : same_found (held o) (held t) ≡ false) where
      pub decide_kept : same_found (held o) (held b) ≡ true → (r : Decision) → r ≡ record { choice = of_theirs t; ours = false; theirs = true } → Decided V kb vb es o b t r
      decide_kept f r made = become_theirs o t apart (decided V (held o) (held b) (held t)) (decided_kept V (held o) (held b) (held t) apart f) r made

      module _ (changed : same_found (held o) (held b) ≡ false) where
        pub decide_ours : same_found (held t) (held b) ≡ true → (r : Decision) → r ≡ record { choice = of_ours o; ours = true; theirs = false } → Decided V kb vb es o b t r
        decide_ours h r made = become_ours o t false apart (decided V (held o) (held b) (held t)) (decided_ours V (held o) (held b) (held t) apart changed h) r made

        module _ (other_changed : same_found (held t) (held b) ≡ false) where
          pub decide_alone : t ≡ None → (r : Decision) → r ≡ record { choice = of_ours o; ours = true; theirs = false } → Decided V kb vb es o b t r
          decide_alone j r made =
              become_ours o t false apart (decided V (held o) (held b) (held t))
              (decided_both V (held o) (held b) (held t) apart changed other_changed ∙ ap (λ (y : Option EntryId). joined V (held o) (held y)) j ∙ right (held o)) r made
            where
              right : (x : Option (List ℕ)) → joined V x None ≡ x
              right (Some x) = refl
              right None = refl

          pub decide_other : o ≡ None → (r : Decision) → r ≡ record { choice = of_theirs t; ours = false; theirs = true } → Decided V kb vb es o b t r
          decide_other j r made =
              become_theirs o t apart (decided V (held o) (held b) (held t))
              (decided_both V (held o) (held b) (held t) apart changed other_changed ∙ ap (λ (y : Option EntryId). joined V (held y) (held t)) j ∙ left (held t)) r made
            where
              left : (x : Option (List ℕ)) → joined V None x ≡ x
              left (Some x) = refl
              left None = refl

-- ---- as they are read

module _ {X Y : Type 0} (K : KeyKind) (kb : X → List ℕ) (vb : Y → List ℕ) (es : List (EntryCell X Y)) where
  pub value_read : (e : ℕ) (key : X) (value : Y) → SettingRead K kb vb es e key value → (setting_at kb vb es e).value ≡ vb value
  value_read e key value read = ap (λ (s : Setting). s.value) (ap (setting_held kb vb) read.held)

  -- whether two entries have one value
  pub same_both :
      (one other : Option EntryId) (e d : EntryId) → one ≡ Some e → other ≡ Some d → (key : X) (mine : Y) → SettingRead K kb vb es e.0 key mine
      → (key' : X) (theirs : Y) → SettingRead K kb vb es d.0 key' theirs → (t : Bool) → Decides t (vb mine ≡ vb theirs)
      → t ≡ same_found (value_held kb vb es one) (value_held kb vb es other)
  same_both one other e d i j key mine read key' theirs read' t says =
      same_from_decides t (same (vb mine) (vb theirs)) says (same_decides (vb mine) (vb theirs))
      ∙ ap₂ (λ (x y : List ℕ). same_found (Some x) (Some y)) (sym (value_read e.0 key mine read)) (sym (value_read d.0 key' theirs read'))
      ∙ ap₂ (λ (x y : Option EntryId). same_found (value_held kb vb es x) (value_held kb vb es y)) (sym i) (sym j)

  -- two values joined
  module _ (V : ValueKind) (e d : EntryId) (key : X) (mine : Y) (read : SettingRead K kb vb es e.0 key mine) (key' : X) (other : Y) (read' : SettingRead K kb vb es d.0 key' other)
      (both : Y) (joins : vb both ≡ V.join (vb mine) (vb other)) (apart : same_found (value_held kb vb es (Some e)) (value_held kb vb es (Some d)) ≡ false) where
    join_is : V.join (setting_at kb vb es e.0).value (setting_at kb vb es d.0).value ≡ vb both
    join_is = ap₂ V.join (value_read e.0 key mine read) (value_read d.0 key' other read') ∙ sym joins

    pub join_ours : vb both ≡ vb mine → (r : Decision) → r ≡ record { choice = of_ours (Some e); ours = true; theirs = false } → DecidedByJoin V kb vb es e d r
    join_ours w r made = become_ours V kb vb es (Some e) (Some d) false apart (Some (V.join (setting_at kb vb es e.0).value (setting_at kb vb es d.0).value)) (ap Some (join_is ∙ w ∙ sym (value_read e.0 key mine read))) r made

    pub join_theirs : vb both ≡ vb other → (r : Decision) → r ≡ record { choice = of_theirs (Some d); ours = false; theirs = true } → DecidedByJoin V kb vb es e d r
    join_theirs w r made = become_theirs V kb vb es (Some e) (Some d) apart (Some (V.join (setting_at kb vb es e.0).value (setting_at kb vb es d.0).value)) (ap Some (join_is ∙ w ∙ sym (value_read d.0 key' other read'))) r made

    differs : (x : List ℕ) (y : Y) → x ≡ vb y → (vb both ≡ vb y → ⊥) → false ≡ same_found (Some x) (Some (V.join (setting_at kb vb es e.0).value (setting_at kb vb es d.0).value))
    differs x y z n =
        sym (ap₂ (λ (u v : List ℕ). same u v) z join_is ∙ (let m : vb y ≡ vb both → ⊥ = λ w. n (sym w) in let t : same (vb y) (vb both) ≡ false = grind (arith, same_tells) in t))

    pub join_new : (vb both ≡ vb mine → ⊥) → (vb both ≡ vb other → ⊥) → DecidedByJoin V kb vb es e d (record { choice = Some (Joined e d); ours = false; theirs = false })
    join_new m n = record {
      value = refl;
      ours_has = differs (setting_at kb vb es e.0).value mine (value_read e.0 key mine read) m;
      theirs_has = differs (setting_at kb vb es d.0).value other (value_read d.0 key' other read') n;
      source = (refl, (refl, (refl, refl)));
    }

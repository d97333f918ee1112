-- Entries: one, with the tests of its key, and those of a node. Assumes nothing.
use Rattle.std.proofs.Common.{◌≡◌, ℕ, zero, suc, ◌+◌, ◌-◌, ◌<◌, Bool, true, false, cond, ◌&&◌, List, [], ◌∷◌, ◌++◌, take, drop, sym, refl, ap, ◌∙◌, subst, ap₂, arith}
use mathlib.Core.Path.{fun_ext}
use lib.Count.{ones}
use Rattle.std.proofs.Math.Bool.{and-true}
use Rattle.std.proofs.Math.Bool as bools
use Rattle.std.proofs.lemmas.Bool.{and_left, cond-true, cond-false}
use Rattle.kinds.specs.Kinds.{KeyKind, ValueKind}
use Rattle.kinds.specs.declared.refusal.Refusal.{Refusal}
use Rattle.kinds.specs.declared.refusal.Refusal.TheVariants.{Broken}
use Rattle.model.specs.declared.commands.TheConstants.{ENTRY}
use Rattle.model.specs.Maps.{Setting}
use Rattle.model.specs.Tries.{leads}
use Rattle.model.specs.Reading.{Read, got, fault, entry_in, read_entry, each, digits_in}
use Rattle.model.proofs.Images.Bits.{flag}
use Rattle.image_reader.specs.declared.due.Due.{Due}
use Rattle.image_reader.specs.declared.due.Due.TheVariants.{Header, RootOrEnd, InNode, InCollision, End}
use Rattle.image_reader.specs.declared.reader.Command.{Command}
use Rattle.image_reader.specs.Cursors.{Cursor, unread}
use Rattle.image_reader.specs.Operands.{KeyThenValue}
use Rattle.image_reader.specs.Dues.{only, width_of, EntryIsDue}
use Rattle.image_reader.specs.Commands.{CommandStands, CommandFaults}
use Rattle.image_reader.specs.Readings.{read_from, ReadingReaches, ReadingFaults}
use Rattle.image_reader.specs.Entries.{entry_at, EntryReached}
use Rattle.image_reader.proofs.Readings.{reaches_itself, faults_like, reaches_like, faults_broken}
use Rattle.image_reader.proofs.MapDigits.{DigitsGoing, digits_start, none_due, digits_end, digit_passed, some_due, digit_reaches, digit_faults}
use Rattle.image_reader.proofs.Commands.{only_command_faults, only_command_stands}

-- nothing but an entry is due
entry_only : (K : KeyKind) (V : ValueKind) (due : Due) → EntryIsDue due → (b : ℕ) →
    width_of K V due b ≡ only ENTRY (K.width + V.width) b
entry_only K V Header d b = absurd d
entry_only K V RootOrEnd d b = absurd d
entry_only K V (InNode h zero c) d b = absurd (omega arith)
entry_only K V (InNode h (suc e) c) d b = refl
entry_only K V (InCollision zero) d b = absurd (omega arith)
entry_only K V (InCollision (suc e)) d b = refl
entry_only K V End d b = absurd d

-- an entry whose key's hash begins with a prefix, and whose key passes a test
abbrev pub entry_led : KeyKind → ValueKind → List ℕ → (List ℕ → Bool) → ℕ → List ℕ → Read
entry_led K V p ok = read_entry K V (λ k. leads K 0 p k && ok k)

-- the test of its key
abbrev pub passes : KeyKind → List ℕ → (List ℕ → Bool) → List ℕ → Bool
passes K p ok k = leads K 0 p k && ok k

module _ (K : KeyKind) (V : ValueKind) (p : List ℕ) (ok : List ℕ → Bool) (due : Due)
    (is_due : EntryIsDue due) (r : Cursor) where
  pub entry_command_faults : (x : Refusal) → CommandFaults K V due r x →
      ReadingFaults (entry_led K V p ok) r x
  entry_command_faults x l =
      only_command_faults K V due ENTRY (K.width + V.width) (entry_only K V due is_due) r
      (entry_led K V p ok) (entry_in K V (passes K p ok) r.at) refl x l

  module _ (c : Command) (s : Cursor) (T : CommandStands K V due r c s) where
    -- its key and its value
    abbrev key : List ℕ
    key = take K.width c.operands.now

    abbrev value : List ℕ
    value = drop K.width c.operands.now

    stands : read_from (entry_led K V p ok) r
        ≡ entry_in K V (passes K p ok) r.at c.operands.now s.at (unread s)
    stands =
        only_command_stands K V due ENTRY (K.width + V.width) (entry_only K V due is_due) r
        (entry_led K V p ok) (entry_in K V (passes K p ok) r.at) refl c s T

    pub entry_unread : (x : Refusal) → x ≡ Broken c.at →
        (K.readable key && V.readable value) ≡ false → ReadingFaults (entry_led K V p ok) r x
    entry_unread x e bad =
        let test : (K.readable key && (V.readable value && passes K p ok key)) ≡ false =
        sym (bools.and_assoc (K.readable key) (V.readable value) (passes K p ok key))
        ∙ and_left _ _ bad in
        faults_broken (entry_led K V p ok) r x r.at (e ∙ ap Broken T.at)
        (stands ∙ cond-false _ _ _ test)

    module _ {X Y : Type 0} (kb : X → List ℕ) (vb : Y → List ℕ) (k : X) (v : Y)
        (set : KeyThenValue K V kb vb c.operands.now k v) where
      -- what a key and a value give, if the key passes
      abbrev tested : List ℕ → List ℕ → Read
      tested x y =
          let setting : Setting = record { key = x; value = y } in
          cond (passes K p ok x) (got (setting ∷ []) s.at (unread s)) (fault 9 r.at)

      is_tested : read_from (entry_led K V p ok) r ≡ tested (kb k) (vb v)
      is_tested =
          stands ∙ rw (set.key_reads, set.value_reads) (ap₂ tested (sym set.key) (sym set.value))

      pub entry_refused : (x : Refusal) → x ≡ Broken c.at → passes K p ok (kb k) ≡ false →
          ReadingFaults (entry_led K V p ok) r x
      entry_refused x e bad =
          faults_broken (entry_led K V p ok) r x r.at (e ∙ ap Broken T.at)
          (is_tested ∙ cond-false _ _ _ bad)

      pub entry_reached : passes K p ok (kb k) ≡ true → EntryReached (entry_led K V p ok) r s (kb k)
      entry_reached good = record {
        value = vb v;
        is = is_tested ∙ cond-true _ _ _ good;
        image = T.image;
        onward = omega (arith, T.onward);
        fits = T.fits;
      }

-- ---- the entries of a node, one for each digit

-- where no other test is asked
abbrev pub any : List ℕ → Bool
any k = true

entry_like : (K : KeyKind) (V : ValueKind) (p q : List ℕ) (g : ℕ) → q ≡ p ++ (g ∷ []) →
    entry_at K V p g ≡ entry_led K V q any
entry_like K V p q g e =
    ap (λ ok. read_entry K V ok)
    (ap (λ l. leads K 0 l) (sym e) ∙ fun_ext (λ k. sym (and-true (leads K 0 q k))))

one_reached : (f : ℕ → List ℕ → Read) (r s : Cursor) (k : List ℕ) → EntryReached f r s k →
    ReadingReaches f (got []) r s 1
one_reached f r s k g = record {
  settings = record { key = k; value = g.value } ∷ [];
  so_far = g.is;
  counted = refl;
  image = g.image;
  onward = omega (arith, g.onward);
  fits = λ h. g.fits;
}

module _ (K : KeyKind) (V : ValueKind) (p : List ℕ) (map : ℕ) where
  abbrev whole : ℕ → List ℕ → Read
  whole = each (entry_at K V p) (digits_in map)

  -- at the digit i so many entries are still due
  pub record EntriesGoing (r s : Cursor) (i due : ℕ) : Type 0 where
    pub read : ℕ
    pub all : read + due ≡ ones map
    pub going : DigitsGoing (entry_at K V p) whole map r s read i due

  pub entries_start : (r : Cursor) (due : ℕ) → map < 65536 → due ≡ ones map → EntriesGoing r r 0 due
  entries_start r due fits e = record {
    read = 0;
    all = omega arith;
    going = digits_start (entry_at K V p) whole map r r 0 due fits e (reaches_itself whole r);
  }

  module _ (r s : Cursor) (i due : ℕ) (o : EntriesGoing r s i due) where
    pub entries_end : i ≡ 16 → ReadingReaches whole (got []) r s (ones map)
    entries_end e =
        let none : due ≡ 0 = none_due (entry_at K V p) whole map r s o.read i due o.going e in
        let n : o.read ≡ ones map = omega (arith, o.all) in
        subst (λ m. ReadingReaches whole (got []) r s m) n
        (digits_end (entry_at K V p) whole map r s o.read i due o.going e)

    module _ (h : i < 16) where
      pub entry_passed : flag map i ≡ false → EntriesGoing r s (i + 1) due
      entry_passed e = record {
        read = o.read;
        all = o.all;
        going = digit_passed (entry_at K V p) whole map r s o.read i due o.going h e;
      }

      module _ (set : flag map i ≡ true) where
        pub entry_is_due : 0 < due
        entry_is_due = some_due (entry_at K V p) whole map r s o.read i due o.going h set

        module _ (q : List ℕ) (e : q ≡ p ++ (i ∷ [])) where
          like : read_from (entry_at K V p i) s ≡ read_from (entry_led K V q any) s
          like = ap (λ f. read_from f s) (entry_like K V p q i e)

          pub entry_faults : (x : Refusal) → ReadingFaults (entry_led K V q any) s x →
              ReadingFaults whole r x
          entry_faults x w =
              digit_faults (entry_at K V p) whole map r s o.read i due o.going h set x
              (faults_like _ _ s s x like w)

          pub entry_reaches : (t : Cursor) (k : List ℕ) → EntryReached (entry_led K V q any) s t k →
              EntriesGoing r t (i + 1) (due - 1)
          entry_reaches t k w = record {
            read = o.read + 1;
            all = omega (arith, o.all, entry_is_due);
            going = digit_reaches (entry_at K V p) whole map r s o.read i due o.going h set t 1
                (reaches_like _ _ (got []) s t 1 like (one_reached _ s t k w));
          }

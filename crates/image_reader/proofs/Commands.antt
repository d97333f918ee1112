-- One command: what the code's tests say of it, and the commands of the model. Assumes nothing.
use Rattle.std.proofs.Common.{◌≡◌, ℕ, suc, ◌+◌, ◌^◌, ◌<◌, ◌≤◌, Bool, true, false, cond, eqb, ltb, List, [], ◌∷◌, ◌++◌, length, take, drop, Some, None, Option, sym, refl, ap, ◌∙◌, subst, ap₂, arith}
use Rattle.std.proofs.lemmas.Bool.{eqb-true, lt-ltb}
use Rattle.std.proofs.lemmas.List.{nil_from_length, drop-drop, take-append-drop, length-take-le}
use Rattle.kinds.specs.Kinds.{KeyKind, ValueKind}
use Rattle.kinds.specs.declared.refusal.Refusal.{Refusal}
use Rattle.kinds.specs.declared.refusal.Refusal.TheVariants.{Cut, Broken}
use Rattle.kinds.specs.Refusals.{shown, refused_at}
use Rattle.model.specs.Reading.{Read, fault, command}
use Rattle.model.proofs.Images.Gets.{command_runs}
use Rattle.image_reader.specs.declared.due.Due.{Due}
use Rattle.image_reader.specs.declared.reader.Command.{Command}
use Rattle.image_reader.specs.Cursors.{Cursor, unread}
use Rattle.image_reader.specs.Dues.{only, width_of}
use Rattle.image_reader.specs.Commands.{CommandStands, CommandFaults, operands_fault, command_fault}
use Rattle.image_reader.specs.Readings.{read_from, ReadingReaches, ReadingFaults}

-- ---- in code: r is the cursor q, as its fields show it

module _ (K : KeyKind) (V : ValueKind) (due : Due) (r q : Cursor) (same : r ≡ q) where
  faults : (n : ℕ) (x : Refusal) → command_fault K V due (unread r) ≡ Some n →
      shown x ≡ refused_at n r.at → CommandFaults K V due q x
  faults n x e shows =
      subst (λ c. CommandFaults K V due c x) same (record { number = n; is = e; shows = shows })

  pub none_left : length (unread r) ≡ 0 → CommandFaults K V due q (Cut r.at)
  none_left h = faults 8 (Cut r.at) (ap (command_fault K V due) (nil_from_length (unread r) h)) refl

  module _ (b : ℕ) (rest : List ℕ) (bytes : unread r ≡ b ∷ rest) where
    by_width : (o : Option ℕ) → width_of K V due b ≡ o →
        command_fault K V due (unread r) ≡ operands_fault o rest
    by_width o e = ap (command_fault K V due) bytes ∙ ap (λ p. operands_fault p rest) e

    pub not_due : width_of K V due b ≡ None → CommandFaults K V due q (Broken r.at)
    not_due e = faults 9 (Broken r.at) (by_width None e) refl

    module _ (w : ℕ) (e : width_of K V due b ≡ Some w) where
      pub too_short : length rest < w → CommandFaults K V due q (Cut r.at)
      too_short h =
          faults 8 (Cut r.at)
          (by_width (Some w) e ∙ ap (λ t. cond t (Some 8) None) (lt-ltb _ w h)) refl

      pub stands : (c : Command) (s : Cursor) → w ≤ length rest → c.at ≡ r.at → c.byte ≡ b →
          c.operands.now ≡ take w rest → s.image ≡ r.image → s.at ≡ r.at + 1 + w → s.at < 2 ^ 64 →
          CommandStands K V due q c s
      stands c s long at byte operands image onward fits =
          let past : 1 + w ≡ suc w = omega arith in
          let to : s.at ≡ r.at + (1 + w) = omega arith in
          let wide : length c.operands.now ≡ w = ap length operands ∙ length-take-le w rest long in
          let left : unread s ≡ drop w rest =
          ap₂ drop to image ∙ (sym (drop-drop (1 + w) r.at r.image) ∙ ap₂ drop past bytes) in
          subst (λ p. CommandStands K V due p c s) same (record {
            at = at;
            bytes = bytes ∙ ap₂ (λ x l. x ∷ l) (sym byte)
                (sym (take-append-drop w rest) ∙ ap₂ (λ x y. x ++ y) (sym operands) (sym left));
            wide = ap (width_of K V due) byte ∙ (e ∙ ap Some (sym wide));
            onward = omega arith;
            image = image;
            fits = fits;
          })

-- ---- the commands of the model

-- a fault of a command that is the only one due
pub only_faults : (c w : ℕ) (f : List ℕ → ℕ → List ℕ → Read) (at b : ℕ) (bs : List ℕ) (n : ℕ) →
    operands_fault (only c w b) bs ≡ Some n → command c w f at (b ∷ bs) ≡ fault n at
only_faults c w f at b bs n = go (eqb b c)
  where
    cut : (t : Bool) → cond t (Some 8) None ≡ Some n →
        cond t (fault 8 at) (f (take w bs) (at + (1 + w)) (drop w bs)) ≡ fault n at
    cut true e = cc
    cut false e = cc

    go : (t : Bool) → operands_fault (cond t (Some w) None) bs ≡ Some n →
        cond t (cond (ltb (length bs) w) (fault 8 at) (f (take w bs) (at + (1 + w)) (drop w bs)))
        (fault 9 at) ≡ fault n at
    go true e = cut (ltb (length bs) w) e
    go false e = cc

-- the one command that is due, by its byte and its width
pub width_only : (c w b n : ℕ) → only c w b ≡ Some n → (b ≡ c) × (w ≡ n)
width_only c w b n e = go (eqb b c) refl e
  where
    go : (t : Bool) → eqb b c ≡ t → cond t (Some w) None ≡ Some n → (b ≡ c) × (w ≡ n)
    go true h e = (eqb-true b c h, cc)
    go false h e = cc

module _ (K : KeyKind) (V : ValueKind) (due : Due) (c w : ℕ)
    (is_only : (b : ℕ) → width_of K V due b ≡ only c w b) (r : Cursor) where
  -- a reading that is of that command
  module _ (g : ℕ → List ℕ → Read) (f : List ℕ → ℕ → List ℕ → Read)
      (is : read_from g r ≡ command c w f r.at (unread r)) where
    pub only_command_faults : (x : Refusal) → CommandFaults K V due r x → ReadingFaults g r x
    only_command_faults x l = record {
      number = l.number;
      offset = r.at;
      is = is ∙ go (unread r) l.is;
      shows = l.shows;
    }
      where
        go : (bs : List ℕ) → command_fault K V due bs ≡ Some l.number →
            command c w f r.at bs ≡ fault l.number r.at
        go [] e = cc
        go (b ∷ bs) e =
            only_faults c w f r.at b bs l.number
            (ap (λ o. operands_fault o bs) (sym (is_only b)) ∙ e)

    pub only_command_stands : (d : Command) (s : Cursor) → CommandStands K V due r d s →
        read_from g r ≡ f d.operands.now s.at (unread s)
    only_command_stands d s T =
        let e = width_only c w d.byte (length d.operands.now) (sym (is_only d.byte) ∙ T.wide) in
        is ∙ (ap (command c w f r.at) (T.bytes ∙ ap (λ b. b ∷ (d.operands.now ++ unread s)) e.0)
        ∙ (command_runs c w f r.at d.operands.now (unread s) (sym e.1)
        ∙ ap (λ n. f d.operands.now n (unread s)) (omega (arith, T.onward, e.1))))

-- a reading that is another one from a command on
pub command_reaches : (K : KeyKind) (V : ValueKind) (due : Due) (f g next : ℕ → List ℕ → Read)
    (r s : Cursor) (c : Command) → CommandStands K V due r c s → read_from f r ≡ read_from g s →
    (t : Cursor) (m : ℕ) → ReadingReaches g next s t m → ReadingReaches f next r t m
command_reaches K V due f g next r s c T e t m w = record {
  settings = w.settings;
  so_far = e ∙ w.so_far;
  counted = w.counted;
  image = w.image ∙ T.image;
  onward = omega (arith, w.onward, T.onward);
  fits = λ h. w.fits T.fits;
}

-- Nodes: what follows a node's command, its entries and then its children. Assumes nothing.
use Rattle.std.proofs.Common.{◌≡◌, ℕ, zero, suc, ◌+◌, ◌-◌, ◌<◌, Bool, true, false, cond, ◌&&◌, eqb, List, [], ◌∷◌, ◌++◌, take, drop, sym, refl, ap, ◌∙◌, ap₂, arith}
use lib.Bits.{bit_and}
use lib.Count.{ones}
use Rattle.byte_rows.specs.Rows.{number}
use Rattle.kinds.specs.Kinds.{KeyKind, ValueKind}
use Rattle.kinds.specs.declared.refusal.Refusal.{Refusal}
use Rattle.kinds.specs.declared.refusal.Refusal.TheVariants.{Broken}
use Rattle.model.specs.Reading.{Read, got, fault, command, then, each, digits_in, enough, read_parts, read_node}
use Rattle.model.proofs.Images.Bits.{flag}
use Rattle.image_reader.specs.declared.due.Due.TheVariants.{InNode}
use Rattle.image_reader.specs.declared.reader.Command.{Command}
use Rattle.image_reader.specs.Cursors.{Cursor, unread}
use Rattle.image_reader.specs.Dues.{node_command, node_width, only, width_of}
use Rattle.image_reader.specs.Commands.{CommandStands, CommandFaults}
use Rattle.image_reader.specs.Readings.{read_from, ReadingReaches, ReadingFaults}
use Rattle.image_reader.specs.Entries.{entry_at}
use Rattle.image_reader.specs.Nodes.{below}
use Rattle.image_reader.proofs.Readings.{faults_like, reaches_like, faults_broken, then_reaches}
use Rattle.image_reader.proofs.MapDigits.{DigitsGoing, digits_start, some_due, digit_reaches, digit_faults}
use Rattle.image_reader.proofs.Commands.{only_command_faults, only_command_stands, command_reaches}

-- the child of a height at a digit of the node at a prefix
abbrev pub child_at : KeyKind → ValueKind → ℕ → List ℕ → ℕ → ℕ → List ℕ → Read
child_at K V h p g = read_node K V h (p ++ (g ∷ []))

module _ (K : KeyKind) (V : ValueKind) where
  node_is : (h : ℕ) (p : List ℕ) (at : ℕ) (bs : List ℕ) →
      read_node K V h p at bs ≡ command (node_command h) (node_width h) (below K V h p at) at bs
  node_is zero p at bs = refl
  node_is (suc h) p at bs = refl

  -- nothing but a child is due
  child_only : (height due : ℕ) → 0 < height → 0 < due → (b : ℕ) →
      width_of K V (InNode height 0 due) b
      ≡ only (node_command (height - 1)) (node_width (height - 1)) b
  child_only zero due h k b = absurd (omega arith)
  child_only (suc n) zero h k b = absurd (omega arith)
  child_only (suc n) (suc due) h k b =
      let down : n ≡ suc n - 1 = omega arith in
      ap (λ m. only (node_command m) (node_width m) b) down

-- ---- the maps of a node, and its entries

module _ (K : KeyKind) (V : ValueKind) (height : ℕ) (deep : 0 < height) (p : List ℕ) (at : ℕ)
    (ws : List ℕ) (d n : ℕ) (ed : d ≡ number (take 2 ws)) (en : n ≡ number (drop 2 ws))
    (r : Cursor) where
  abbrev whole : ℕ → List ℕ → Read
  whole = below K V height p at ws

  abbrev entries : ℕ → List ℕ → Read
  entries = each (entry_at K V p) (digits_in d)

  abbrev children : ℕ → List ℕ → Read
  children = each (child_at K V (height - 1) p) (digits_in n)

  abbrev parts : ℕ → List ℕ → Read
  parts to rest = then (entries to rest) children

  -- the rules of the maps
  abbrev good : Bool
  good = eqb (bit_and d n) 0 && enough (height - 1) (digits_in d) (digits_in n)

  by_maps : (t : Bool) → good ≡ t → read_from whole r ≡ cond t (read_from parts r) (fault 9 at)
  by_maps t e =
      let up : height ≡ suc (height - 1) = omega arith in
      let read : ℕ → ℕ → Read =
      λ x y. read_from (read_parts K V (read_node K V (height - 1)) (height - 1) p at x y) r in
      ap (λ h. read_from (below K V h p at ws) r) up
      ∙ (ap₂ read (sym ed) (sym en) ∙ ap (λ b. cond b (read_from parts r) (fault 9 at)) e)

  pub maps_broken : (x : Refusal) → x ≡ Broken at → good ≡ false → ReadingFaults whole r x
  maps_broken x e bad = faults_broken whole r x at e (by_maps false bad)

  pub children_start : good ≡ true → n < 65536 → (s : Cursor) (m due : ℕ) → due ≡ ones n →
      ReadingReaches entries (got []) r s m →
      DigitsGoing (child_at K V (height - 1) p) whole n r s m 0 due
  children_start e fits s m due counted w =
      digits_start (child_at K V (height - 1) p) whole n r s m due fits counted
      (reaches_like whole parts children r s m (by_maps true e)
      (then_reaches entries children r s m w))

-- ---- a turn of the loop over the children

module _ (K : KeyKind) (V : ValueKind) (height : ℕ) (deep : 0 < height) (p : List ℕ)
    (whole : ℕ → List ℕ → Read) (map : ℕ) (r s : Cursor) (n i due : ℕ)
    (o : DigitsGoing (child_at K V (height - 1) p) whole map r s n i due) (h : i < 16)
    (set : flag map i ≡ true) where
  abbrev down : ℕ
  down = height - 1

  -- the child's prefix
  abbrev to : List ℕ
  to = p ++ (i ∷ [])

  child_due : (b : ℕ) →
      width_of K V (InNode height 0 due) b ≡ only (node_command down) (node_width down) b
  child_due =
      child_only K V height due deep (some_due (child_at K V down p) whole map r s n i due o h set)

  pub turn_command_faults : (x : Refusal) → CommandFaults K V (InNode height 0 due) s x →
      ReadingFaults whole r x
  turn_command_faults x l =
      digit_faults (child_at K V down p) whole map r s n i due o h set x
      (only_command_faults K V (InNode height 0 due) (node_command down) (node_width down)
      child_due s (read_node K V down to) (below K V down to s.at)
      (node_is K V down to s.at (unread s)) x l)

  module _ (c : Command) (t : Cursor) (T : CommandStands K V (InNode height 0 due) s c t)
      (q : List ℕ) (eq : q ≡ to) (next : ℕ) (is_next : next + 1 ≡ height) where
    -- what follows the child's command, in the words of the code
    abbrev after : ℕ → List ℕ → Read
    after = below K V next q c.at c.operands.now

    stands : read_from (read_node K V down to) s ≡ read_from after t
    stands =
        let level : down ≡ next = omega arith in
        only_command_stands K V (InNode height 0 due) (node_command down) (node_width down)
        child_due s (read_node K V down to) (below K V down to s.at)
        (node_is K V down to s.at (unread s)) c t T
        ∙ (ap (λ a. read_from (below K V down to a c.operands.now) t) (sym T.at)
        ∙ ap₂ (λ a b. read_from (below K V a b c.at c.operands.now) t) level (sym eq))

    pub turn_faults : (x : Refusal) → ReadingFaults after t x → ReadingFaults whole r x
    turn_faults x w =
        digit_faults (child_at K V down p) whole map r s n i due o h set x
        (faults_like (read_node K V down to) after s t x stands w)

    pub turn_reaches : (u : Cursor) (m : ℕ) → ReadingReaches after (got []) t u m →
        DigitsGoing (child_at K V down p) whole map r u (n + m) (i + 1) (due - 1)
    turn_reaches u m w =
        digit_reaches (child_at K V down p) whole map r s n i due o h set u m
        (command_reaches K V (InNode height 0 due) (read_node K V down to) after (got []) s t c T
        stands u m w)

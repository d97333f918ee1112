-- A whole image: its header, its root or its end, and its end. Assumes nothing.
use Rattle.std.proofs.Common.{◌≡◌, ℕ, ◌+◌, Bool, true, false, cond, eqb, List, [], ◌∷◌, ◌++◌, length, drop, Some, None, Ok, Err, Result, Decides, sym, refl, ap, ◌∙◌, ap₂, arith}
use Rattle.std.proofs.lemmas.Bool.{eqb-true, eq-eqb, ne_eqb}
use Rattle.std.proofs.lemmas.Bool.Decides.{same_from_decides}
use Rattle.std.proofs.lemmas.List.{append-nil}
use Rattle.byte_rows.specs.Rows.{number, same}
use Rattle.byte_rows.proofs.Orders.{same_decides}
use Rattle.kinds.specs.Kinds.{KeyKind, ValueKind}
use Rattle.kinds.specs.declared.refusal.Refusal.{Refusal}
use Rattle.kinds.specs.declared.refusal.Refusal.TheVariants.{Foreign, Broken}
use Rattle.kinds.specs.Refusals.{shown}
use Rattle.model.specs.declared.commands.TheConstants.{HEADER, NODE, END}
use Rattle.model.specs.Images.{header}
use Rattle.model.specs.Reading.{Read, got, fault, prepend, command, body_in, ended, read_node, read_end, end_in, read_whole, verdict, gather}
use Rattle.model.proofs.Images.Gets.{command_runs}
use Rattle.image_reader.specs.declared.due.Due.TheVariants.{Header, RootOrEnd, End}
use Rattle.image_reader.specs.declared.prefix.TheConstants.{ROOT_HEIGHT}
use Rattle.image_reader.specs.declared.prefix.Prefix.{Prefix}
use Rattle.image_reader.specs.declared.reader.Command.{Command}
use Rattle.image_reader.specs.Cursors.{Cursor, unread}
use Rattle.image_reader.specs.Dues.{only, width_of}
use Rattle.image_reader.specs.Commands.{CommandStands, CommandFaults, operands_fault, command_fault}
use Rattle.image_reader.specs.Prefixes.{prefix_digits}
use Rattle.image_reader.specs.Readings.{read_from, ReadingReaches, ReadingFaults, StepOutcome}
use Rattle.image_reader.specs.Nodes.{below}
use Rattle.image_reader.specs.Judging.{whole, rooted, JudgedAs}
use Rattle.image_reader.proofs.Readings.{prepend_none, reaches_itself, reaches_like, faults_through, faults_broken, faults_after, reaches_after}
use Rattle.image_reader.proofs.Commands.{only_faults, width_only, only_command_faults, only_command_stands, command_reaches}

-- ---- the header

module _ (K : KeyKind) (V : ValueKind) (r : Cursor) (start : r.at ≡ 0) where
  as_command : read_from (whole K V) r ≡ command HEADER 3 (body_in K V) r.at (unread r)
  as_command = ap (λ n. command HEADER 3 (body_in K V) n (unread r)) (sym start)

  pub header_command_faults : (x : Refusal) → CommandFaults K V Header r x →
      ReadingFaults (whole K V) r x
  header_command_faults x l =
      only_command_faults K V Header HEADER 3 (λ b. refl) r (whole K V) (body_in K V) as_command x l

  module _ (c : Command) (s : Cursor) (T : CommandStands K V Header r c s) (own : List ℕ)
      (is : own ≡ header K V) (t : Bool) (tells : Decides t (c.operands.now ≡ own)) where
    -- what follows a header that is the own one, or is not
    abbrev after : Bool → Read
    after b = cond b (read_from (rooted K V) s) (fault 7 0)

    by_own : read_from (whole K V) r ≡ after t
    by_own =
        only_command_stands K V Header HEADER 3 (λ b. refl) r (whole K V) (body_in K V) as_command
        c s T
        ∙ ap after (ap (same c.operands.now) (sym is)
        ∙ same_from_decides (same c.operands.now own) t (same_decides c.operands.now own) tells)

    pub header_foreign : t ≡ false → ReadingFaults (whole K V) r (Foreign c.at)
    header_foreign e = record {
      number = 7;
      offset = 0;
      is = by_own ∙ ap after e;
      shows = ap (λ n. shown (Foreign n)) (T.at ∙ start);
    }

    pub header_passed : t ≡ true → ReadingReaches (whole K V) (rooted K V) r s 0
    header_passed e =
        command_reaches K V Header (whole K V) (rooted K V) (rooted K V) r s c T
        (by_own ∙ ap after e) s 0 (reaches_itself (rooted K V) s)

-- ---- the end

module _ (n at : ℕ) (ws : List ℕ) (r : Cursor) where
  -- what an end with the right number comes to, if nothing is left, or something
  abbrev at_last : Bool → Read
  at_last b = cond b (read_from (got []) r) (fault 9 r.at)

  by_number : (t : Bool) → eqb (number ws) n ≡ t →
      read_from (end_in n at ws) r ≡ cond t (at_last (eqb (length (unread r)) 0)) (fault 9 at)
  by_number t e = ap (λ b. cond b (at_last (eqb (length (unread r)) 0)) (fault 9 at)) e

  pub end_miscounts : (x : Refusal) → x ≡ Broken at → (number ws ≡ n → ⊥) →
      ReadingFaults (end_in n at ws) r x
  end_miscounts x e bad =
      faults_broken (end_in n at ws) r x at e (by_number false (ne_eqb (number ws) n bad))

  module _ (good : number ws ≡ n) where
    by_rest : (t : Bool) → eqb (length (unread r)) 0 ≡ t →
        read_from (end_in n at ws) r ≡ at_last t
    by_rest t e = by_number true (eq-eqb (number ws) n good) ∙ ap at_last e

    pub end_followed : (x : Refusal) → x ≡ Broken r.at → eqb (length (unread r)) 0 ≡ false →
        ReadingFaults (end_in n at ws) r x
    end_followed x e some = faults_broken (end_in n at ws) r x r.at e (by_rest false some)

    pub end_passed : eqb (length (unread r)) 0 ≡ true →
        ReadingReaches (end_in n at ws) (got []) r r 0
    end_passed none =
        reaches_like (end_in n at ws) (got []) (got []) r r 0 (by_rest true none)
        (reaches_itself (got []) r)

module _ (K : KeyKind) (V : ValueKind) (n : ℕ) (r : Cursor) where
  pub end_command_faults : (x : Refusal) → CommandFaults K V End r x →
      ReadingFaults (read_end n) r x
  end_command_faults x l =
      only_command_faults K V End END 4 (λ b. refl) r (read_end n) (end_in n r.at) refl x l

  pub end_command_reaches : (c : Command) (s : Cursor) → CommandStands K V End r c s →
      ReadingReaches (read_end n) (end_in n c.at c.operands.now) r s 0
  end_command_reaches c s T =
      let next : ℕ → List ℕ → Read = end_in n c.at c.operands.now in
      command_reaches K V End (read_end n) next next r s c T
      (only_command_stands K V End END 4 (λ b. refl) r (read_end n) (end_in n r.at) refl c s T
      ∙ ap (λ o. read_from (end_in n o c.operands.now) s) (sym T.at))
      s 0 (reaches_itself next s)

-- ---- the root, or the end

root_byte : (b n : ℕ) → (b ≡ END → ⊥) → cond (eqb b NODE) (Some 4) (only END 4 b) ≡ Some n →
    (b ≡ NODE) × (4 ≡ n)
root_byte b n other e = go (eqb b NODE) refl e
  where
    go : (t : Bool) → eqb b NODE ≡ t → cond t (Some 4) (only END 4 b) ≡ Some n →
        (b ≡ NODE) × (4 ≡ n)
    go true h k = (eqb-true b NODE h, cc)
    go false h k = absurd (other (width_only END 4 b n k).0)

module _ (K : KeyKind) (V : ValueKind) (r : Cursor) where
  -- all below a root
  abbrev root : ℕ → List ℕ → ℕ → List ℕ → Read
  root = below K V ROOT_HEIGHT []

  pub root_command_faults : (x : Refusal) → CommandFaults K V RootOrEnd r x →
      ReadingFaults (rooted K V) r x
  root_command_faults x l =
      record { number = l.number; offset = r.at; is = go (unread r) l.is; shows = l.shows }
    where
      go : (bs : List ℕ) → command_fault K V RootOrEnd bs ≡ Some l.number →
          rooted K V r.at bs ≡ fault l.number r.at
      go [] e = cc
      go (b ∷ bs) e = split (eqb b NODE) refl e
        where
          split : (t : Bool) → eqb b NODE ≡ t →
              operands_fault (cond t (Some 4) (only END 4 b)) bs ≡ Some l.number →
              ended (cond t (read_node K V ROOT_HEIGHT [] r.at (b ∷ bs)) (got [] r.at (b ∷ bs)))
              ≡ fault l.number r.at
          split true h k =
              ap ended (only_faults NODE 4 (root r.at) r.at b bs l.number
              (ap (λ q. operands_fault (cond q (Some 4) None) bs) h ∙ k))
          split false h k = ap (prepend []) (only_faults END 4 (end_in 0 r.at) r.at b bs l.number k)

  module _ (c : Command) (s : Cursor) (T : CommandStands K V RootOrEnd r c s) where
    -- the bytes from a command on
    abbrev from : ℕ → List ℕ
    from b = b ∷ (c.operands.now ++ unread s)

    -- the bytes that the command takes
    past : (w : ℕ) → w ≡ length c.operands.now → r.at + (1 + w) ≡ s.at
    past w e = omega (arith, T.onward)

    pub root_end : c.byte ≡ END → ReadingReaches (rooted K V) (end_in 0 c.at c.operands.now) r s 0
    root_end e =
        let next : ℕ → List ℕ → Read = end_in 0 c.at c.operands.now in
        let wide : 4 ≡ length c.operands.now =
        (width_only END 4 END _ (ap (width_of K V RootOrEnd) (sym e) ∙ T.wide)).1 in
        command_reaches K V RootOrEnd (rooted K V) next next r s c T
        (ap (rooted K V r.at) (T.bytes ∙ ap from e)
        ∙ (prepend_none _
        ∙ (command_runs END 4 (end_in 0 r.at) r.at c.operands.now (unread s) (sym wide)
        ∙ ap₂ (λ o n. end_in 0 o c.operands.now n (unread s)) (sym T.at) (past 4 wide))))
        s 0 (reaches_itself next s)

    module _ (other : c.byte ≡ END → ⊥) (p : Prefix) (height : p.height ≡ ROOT_HEIGHT)
        (digits : prefix_digits p ≡ []) where
      -- what follows the root's command, in the words of the code
      abbrev rest : ℕ → List ℕ → Read
      rest = below K V p.height (prefix_digits p) c.at c.operands.now

      goes : read_from (rooted K V) r ≡ ended (read_from rest s)
      goes =
          let e = root_byte c.byte (length c.operands.now) other T.wide in
          ap (rooted K V r.at) (T.bytes ∙ ap from e.0)
          ∙ (ap ended (command_runs NODE 4 (root r.at) r.at c.operands.now (unread s) (sym e.1))
          ∙ (ap₂ (λ o n. ended (root o c.operands.now n (unread s))) (sym T.at) (past 4 e.1)
          ∙ ap₂ (λ h l. ended (read_from (below K V h l c.at c.operands.now) s)) (sym height)
          (sym digits)))

      pub root_faults : (x : Refusal) → ReadingFaults rest s x → ReadingFaults (rooted K V) r x
      root_faults x w = faults_through ended (λ n at. refl) (rooted K V) rest r s x goes w

      pub root_reaches : (t : Cursor) (n : ℕ) → ReadingReaches rest (got []) s t n →
          ReadingReaches (rooted K V) (read_end n) r t n
      root_reaches t n w =
          let all : read_from rest s ≡ got w.settings t.at (unread t) =
          w.so_far ∙ ap (λ l. got l t.at (unread t)) (append-nil w.settings) in
          record {
            settings = w.settings;
            so_far = goes ∙ (ap ended all
                ∙ ap (λ k. prepend w.settings (read_from (read_end k) t)) w.counted);
            counted = w.counted;
            image = w.image ∙ T.image;
            onward = omega (arith, w.onward, T.onward);
            fits = λ h. w.fits T.fits;
          }

-- ---- all of it

module _ (K : KeyKind) (V : ValueKind) (bs : List ℕ) (r : Cursor) (start : r.at ≡ 0)
    (image : r.image ≡ bs) where
  is_whole : read_whole K V bs ≡ read_from (whole K V) r
  is_whole = sym (ap₂ (λ a l. read_whole K V (drop a l)) start image)

  pub judged_fault : (x : Refusal) → ReadingFaults (whole K V) r x → JudgedAs K V bs (Err x)
  judged_fault x w = (w.number, (w.offset, (ap (verdict K) (is_whole ∙ w.is), w.shows)))

  pub judged_whole : (next : ℕ → List ℕ → Read) (s : Cursor) (n : ℕ) →
      ReadingReaches (whole K V) next r s n → (res : Result Unit Refusal) →
      StepOutcome next (got []) s s res → JudgedAs K V bs res
  judged_whole next s n o (Ok u) w =
      let all = reaches_after (whole K V) r s n next o (got []) s 0 w in
      (gather K (all.settings ++ []), ap (verdict K) (is_whole ∙ all.so_far))
  judged_whole next s n o (Err x) w = judged_fault x (faults_after (whole K V) r s n next o x w)

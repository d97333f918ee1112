-- Commands that were taken from bytes, one after another. Assumes nothing.
use Rattle.std.proofs.Common.{◌≡◌, ℕ, ◌+◌, ◌-◌, ◌<◌, ◌≤◌, List, [], ◌∷◌, ◌++◌, length, sym, refl, ap, ◌∙◌, subst, arith, length-append}
use Rattle.sovindrate.specs.declared.commands.Command.{Command}
use Rattle.sovindrate.specs.declared.commands.Command.TheVariants.{Header, Node, Entry, Crowd, End}
use Rattle.sovindrate.specs.declared.commands.Placed.{Placed}
use Rattle.sovindrate.specs.Commands.{command_bytes, BeginWithNone, Listed}

module _ {X Y : Type 0} (kb : X → List ℕ) (vb : Y → List ℕ) where
  -- from an offset on stand these commands, and after them, at another offset, what is left
  abbrev pub UpTo : ℕ → List ℕ → List (Placed X Y) → ℕ → List ℕ → Type 0
  UpTo at bs [] to left = (to ≡ at) × (left ≡ bs)
  UpTo at bs (p ∷ ps) to left =
      (p.at ≡ at) × ((rest : List ℕ) × ((bs ≡ command_bytes kb vb p.command ++ rest) × UpTo (at + length (command_bytes kb vb p.command)) rest ps to left))

  -- one command more
  pub one_more : (at : ℕ) (bs : List ℕ) (ps : List (Placed X Y)) (to : ℕ) (left : List ℕ) → UpTo at bs ps to left → (p : Placed X Y) (rest : List ℕ) → p.at ≡ to → left ≡ command_bytes kb vb p.command ++ rest →
      UpTo at bs (ps ++ (p ∷ [])) (to + length (command_bytes kb vb p.command)) rest
  one_more at bs [] to left u p rest here is = (here ∙ u.0, (rest, (sym u.1 ∙ is, (ap (λ n. n + length (command_bytes kb vb p.command)) u.0, refl))))
  one_more at bs (q ∷ ps) to left u p rest here is = (u.0, (u.1.0, (u.1.1.0, one_more (at + length (command_bytes kb vb q.command)) u.1.0 ps to left u.1.1.1 p rest here is)))

  -- no command more
  pub all_listed : (at : ℕ) (bs : List ℕ) (ps : List (Placed X Y)) (to : ℕ) (left : List ℕ) → UpTo at bs ps to left → BeginWithNone kb vb left → Listed kb vb at bs ps
  all_listed at bs [] to left u none = subst (λ l. BeginWithNone kb vb l) u.1 none
  all_listed at bs (q ∷ ps) to left u none = (u.0, (u.1.0, (u.1.1.0, all_listed (at + length (command_bytes kb vb q.command)) u.1.0 ps to left u.1.1.1 none)))

  -- a command has its own byte at least
  pub shorter : (c : Command X Y) (bs rest : List ℕ) → bs ≡ command_bytes kb vb c ++ rest → length rest < length bs
  shorter c bs rest e = omega (arith, ap length e, length-append (command_bytes kb vb c) rest, some c)
    where
      some : (c : Command X Y) → 0 < length (command_bytes kb vb c)
      some (Header edition key value) = omega arith
      some (Node «data» nodes) = omega arith
      some (Entry x y) = omega arith
      some (Crowd entries) = omega arith
      some (End entries) = omega arith

  -- what is left of the bytes, and the commands before it
  pub record Going (bs : List ℕ) (ps : List (Placed X Y)) (left : List ℕ) : Type 0 where
    pub listed : UpTo 0 bs ps (length bs - length left) left
    pub part : length left ≤ length bs

  pub at_start : (bs : List ℕ) → Going bs [] bs
  at_start bs = record { listed = (omega arith, refl); part = omega arith }

  pub onward : (bs left rest : List ℕ) (ps : List (Placed X Y)) (p : Placed X Y) → Going bs ps left → p.at ≡ length bs - length left → left ≡ command_bytes kb vb p.command ++ rest → Going bs (ps ++ (p ∷ [])) rest
  onward bs left rest ps p G here is =
      let long : length left ≡ length (command_bytes kb vb p.command) + length rest = ap length is ∙ length-append (command_bytes kb vb p.command) rest in
      let to : (length bs - length left) + length (command_bytes kb vb p.command) ≡ length bs - length rest = omega (arith, G.part) in
      record {
        listed = subst (λ n. UpTo 0 bs (ps ++ (p ∷ [])) n rest) to (one_more 0 bs ps _ left G.listed p rest here is);
        part = omega (arith, G.part);
      }

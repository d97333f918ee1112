-- How each branch goes on by a digit. Assumes nothing.
use Rattle.std.proofs.Common.{◌≡◌, ℕ, ◌-◌, ◌<◌, true, false, ltb, List, [], ◌∷◌, ◌++◌, length, get_or, sym, ap, ◌∙◌, subst, arith, Some, None, Option}
use Rattle.std.specs.Option.{MatchOption}
use Rattle.std.proofs.lemmas.Bool.{lt-ltb, cond-true}
use Rattle.kinds.specs.Kinds.{KeyKind}
use Rattle.model.specs.Maps.{Map}
use Rattle.model.specs.Tries.{at_digit, one, many}
use Rattle.model.specs.Sharing.{Part, below}
use Rattle.tables.specs.declared.cells.NodeId.{NodeId}
use Rattle.tables.specs.declared.cells.EntryId.{EntryId}
use Rattle.tables.specs.declared.cells.NodeCell.{NodeCell}
use Rattle.tables.specs.Cells.{cell}
use Rattle.tables.specs.Notes.{Stands}
use Rattle.tables.specs.Slots.{bit, rank_of, AtDigit}
use Rattle.tables.proofs.Ranks.{child_bit, child_slot, entry_bit}
use Rattle.plans.specs.Plans.{bushy}
use Rattle.branches.specs.declared.branch.Branch.{Branch}
use Rattle.branches.specs.declared.branch.Branch.TheVariants.{Nothing, Entry, Child}
use Rattle.branches.specs.States.{Tables, Notes, Sits}
use Rattle.branches.specs.Branches.{Single, GoesOn}
use Rattle.branches.proofs.Below.{by_note, child_on, entry_on, nothing_on}

-- below the root a part of two or more is a node
pub many_bushy : (h : ℕ) (m : Map) → h < 8 → many m ≡ true → bushy h m ≡ true
many_bushy h m short e = ap (λ (n : ℕ). ltb n (length m)) (cond-true (ltb h 8) 1 0 (lt-ltb h 8 short)) ∙ e

module _ {X Y : Type 0} (K : KeyKind) (kb : X → List ℕ) (vb : Y → List ℕ) (T : Tables X Y) where
  -- ---- the bits of a node say how its part goes on

  module _ (N : Notes) (R E : List ℕ) (S : Sits K kb vb T N R E) (i : ℕ) (p : List ℕ) (a : Part) (St : Stands T.nodes N.node i p a) (g : ℕ) (small : g < 16) where
    pub bit_many : length p < 8 → bit (cell T.nodes i).nodemap g ≡ many (at_digit K (length p) a.settings g)
    bit_many =
        by_note T.nodes N.node i p a St (λ q b. length q < 8 → bit (cell T.nodes i).nodemap g ≡ many (at_digit K (length q) b.settings g))
        (λ short. child_bit K N.node N.entry (cell T.nodes i) (N.node i) (S.means.fits i St.held) short g small)

    pub bit_one : length p < 8 → bit (cell T.nodes i).datamap g ≡ one (at_digit K (length p) a.settings g)
    bit_one =
        by_note T.nodes N.node i p a St (λ q b. length q < 8 → bit (cell T.nodes i).datamap g ≡ one (at_digit K (length q) b.settings g))
        (λ short. entry_bit K N.node N.entry (cell T.nodes i) (N.node i) (S.means.fits i St.held) short g small)

    pub slot_child : length p < 8 → many (at_digit K (length p) a.settings g) ≡ true → get_or (cell T.nodes i).children (rank_of (cell T.nodes i).nodemap g) 0 ≡ (N.node i).child g
    slot_child =
        by_note T.nodes N.node i p a St
        (λ q b. length q < 8 → many (at_digit K (length q) b.settings g) ≡ true → get_or (cell T.nodes i).children (rank_of (cell T.nodes i).nodemap g) 0 ≡ (N.node i).child g)
        (λ short. child_slot K N.node N.entry (cell T.nodes i) (N.node i) (S.means.fits i St.held) short g small)

  -- ---- a branch that is some part

  -- what it is told to be goes on as it does
  pub goes_as : (b d : Branch) (level g : ℕ) (c : Branch) → b ≡ d → GoesOn K kb vb T d level g c → GoesOn K kb vb T b level g c
  goes_as b d level g c e = subst (λ (x : Branch). GoesOn K kb vb T x level g c) (sym e)

  -- ---- a node

  module _ (level g : ℕ) (small : g < 16) (id : NodeId) where
    abbrev node : NodeCell
    node = cell T.nodes id.0

    -- goes on by its child
    pub goes_child : (child : NodeId) → bit node.nodemap g ≡ true → child.0 ≡ get_or node.children (rank_of node.nodemap g) 0 → GoesOn K kb vb T (Child id) level g (Child child)
    goes_child child b at = record {
      on = λ N R E S p a d l is.
          let short : length p < 8 = omega arith in
          let m : many (at_digit K (length p) a.settings g) ≡ true = sym (bit_many N R E S id.0 p a is.0 g small short) ∙ b in
          let same : (N.node id.0).child g ≡ child.0 = sym (at ∙ slot_child N R E S id.0 p a is.0 g small short m) in (
            subst (λ (k : ℕ). Stands T.nodes N.node k (p ++ (g ∷ [])) (below K p g a)) same (child_on K kb vb T N R E S id.0 p a is.0 g small short m),
            many_bushy (level - 1) (at_digit K (length p) a.settings g) (omega arith) m,
          );
    }

    -- by its entry
    pub goes_single : (entry : EntryId) → bit node.datamap g ≡ true → entry.0 ≡ get_or node.entries (rank_of node.datamap g) 0 → GoesOn K kb vb T (Child id) level g (Entry entry)
    goes_single entry b at = record {
      on = λ N R E S p a d l is.
          let short : length p < 8 = omega arith in
          let o : one (at_digit K (length p) a.settings g) ≡ true = sym (bit_one N R E S id.0 p a is.0 g small short) ∙ b in
          (omega arith, subst (λ (e : ℕ). Single T N e (below K p g a)) (sym at) (entry_on K kb vb T N R E S id.0 p a is.0 g small short o));
    }

    -- or not at all
    pub goes_none : bit node.nodemap g ≡ false → bit node.datamap g ≡ false → GoesOn K kb vb T (Child id) level g Nothing
    goes_none b o = record {
      on = λ N R E S p a d l is.
          let short : length p < 8 = omega arith in
          nothing_on K kb vb T N R E S id.0 p a is.0 g small short
          (sym (bit_one N R E S id.0 p a is.0 g small short) ∙ o)
          (sym (bit_many N R E S id.0 p a is.0 g small short) ∙ b);
    }

    -- where there is no child
    pub goes_otherwise : (o : Option EntryId) (r : Branch) → bit node.nodemap g ≡ false → AtDigit (λ (e : EntryId). e.0) node.datamap node.entries g o → MatchOption o (r ≡ Nothing) (λ e. r ≡ Entry e) → GoesOn K kb vb T (Child id) level g r
    goes_otherwise None r n at e = subst (λ (b : Branch). GoesOn K kb vb T (Child id) level g b) (sym e) (goes_none n at)
    goes_otherwise (Some x) r n at e = subst (λ (b : Branch). GoesOn K kb vb T (Child id) level g b) (sym e) (goes_single x at.0 at.1)

-- A held node by some notes, and its children. Assumes nothing.
use Rattle.std.proofs.Common.{◌≡◌, ℕ, ◌+◌, ◌-◌, ◌<◌, ◌≤◌, true, cond, ltb, List, [], ◌∷◌, ◌++◌, length, sym, refl, ap, ◌∙◌, subst, arith}
use Rattle.std.proofs.lemmas.List.{length_push}
use Rattle.std.proofs.lemmas.Bool.{ltb-true}
use Rattle.kinds.specs.Kinds.{KeyKind}
use Rattle.model.specs.Maps.{Map}
use Rattle.model.specs.Tries.{many}
use Rattle.model.specs.Sharing.{Part}
use Rattle.tables.specs.declared.cells.NodeId.{NodeId}
use Rattle.tables.specs.Chains.{occ}
use Rattle.tables.specs.Cells.{cell, kids}
use Rattle.tables.specs.Notes.{seat, branches, Stands}
use Rattle.tables.proofs.Noting.{kid_held}
use Rattle.tables.proofs.Rows.{from_map}
use Rattle.plans.specs.Plans.{bushy}
use Rattle.branches.specs.declared.branch.Branch.TheVariants.{Child}
use Rattle.branches.specs.States.{Tables, Notes, Sits}
use Rattle.branches.specs.Branches.{Is, SomePart}
use Rattle.branches.proofs.Filters.{branch_many}
use Rattle.branches.proofs.Under.{child_prefix, child_settings}
use Rattle.branches.proofs.Below.{told}
use Rattle.branches.proofs.Goes.{many_bushy}

pub bushy_some : (h : ℕ) (m : Map) → bushy h m ≡ true → 1 ≤ length m
bushy_some h m e = omega (arith, ltb-true (cond (ltb h 8) 1 0) (length m) e)

module _ {X Y : Type 0} (K : KeyKind) (kb : X → List ℕ) (vb : Y → List ℕ) (T : Tables X Y) where
  -- the cell i is a node of some notes, with so many levels below it
  pub record Noted (level i : ℕ) (N : Notes) (R E : List ℕ) : Type 0 where
    pub sits : Sits K kb vb T N R E
    pub held : 0 < (cell T.nodes i).holders
    pub deep : length (N.node i).label.what + level ≡ 8
    pub some : 1 ≤ length (N.node i).settings

  -- a part that a branch is, as its node is noted
  pub noted_is : (level : ℕ) (id : NodeId) (N : Notes) (R E : List ℕ) → Sits K kb vb T N R E → (p : List ℕ) (a : Part) → length p + level ≡ 8 → Is T N (Child id) level p a → Noted level id.0 N R E
  noted_is level id N R E S p a d is = record {
    sits = S;
    held = is.0.held;
    deep = ap (λ (q : List ℕ). length q + level) is.0.prefix ∙ d;
    some = omega (arith, bushy_some level a.settings is.1, ap length is.0.settings);
  }

  pub noted_some : (level : ℕ) (id : NodeId) (s : SomePart K kb vb T (Child id) level) → Noted level id.0 s.notes s.roots s.in_hand
  noted_some level id s = noted_is level id s.notes s.roots s.in_hand s.sits s.prefix s.part s.deep s.is

  -- ---- a child

  module _ (level i : ℕ) (N : Notes) (R E : List ℕ) (n : Noted level i N R E) (x : ℕ) (kid : 0 < occ x (kids (cell T.nodes i))) where
    pub kid_level : 1 ≤ level
    kid_level = omega (arith, n.sits.nodes.falls i x kid, (n.sits.means.fits i n.held).level_is, n.deep)

    digit : (g : ℕ) × ((0 < occ g (branches K (seat (N.node i)))) × (x ≡ (N.node i).child g))
    digit = from_map (N.node i).child (branches K (seat (N.node i))) x (subst (λ (l : List ℕ). 0 < occ x l) (n.sits.means.fits i n.held).children kid)

    pub kid_deep : length (N.node x).label.what + (level - 1) ≡ 8
    kid_deep =
        let e : (N.node x).label.what ≡ (N.node i).label.what ++ (digit.0 ∷ []) =
        ap (λ (y : ℕ). (N.node y).label.what) digit.1.1 ∙ child_prefix K kb vb T N R E n.sits i n.held digit.0 digit.1.0 in
        omega (arith, ap length e, length_push (N.node i).label.what digit.0, kid_level, n.deep)

    -- is the part that its note tells
    pub kid_is : (id : NodeId) → id.0 ≡ x → Is T N (Child id) (level - 1) (N.node x).label.what (told (N.node x))
    kid_is id e = (
      subst (λ (y : ℕ). Stands T.nodes N.node y (N.node x).label.what (told (N.node x))) (sym e)
          (record { held = kid_held T.nodes T.free T.spare R n.sits.nodes i x kid; prefix = refl; settings = refl; nodes = refl; entries = refl }),
      many_bushy (level - 1) (N.node x).settings (omega (arith, kid_level, n.deep))
          (ap (λ (y : ℕ). many (N.node y).settings) digit.1.1 ∙ ap many (child_settings K kb vb T N R E n.sits i n.held digit.0 digit.1.0)
          ∙ branch_many K (seat (N.node i)) digit.0 digit.1.0),
    )

    pub kid_noted : Noted (level - 1) x N R E
    kid_noted = noted_is (level - 1) (record { 0 = x }) N R E n.sits (N.node x).label.what (told (N.node x)) kid_deep (kid_is (record { 0 = x }) refl)

-- Where a part goes on no further by digits: nothing, one entry, or a collision node. Assumes nothing.
use Rattle.std.proofs.Common.{◌≡◌, ℕ, ◌<◌, true, false, eqb, ltb, List, [], ◌∷◌, ◌++◌, map, length, sym, ap, ◌∙◌, subst, arith}
use Rattle.std.specs.List.{flat_map}
use Rattle.std.proofs.lemmas.List.{append-nil}
use Rattle.std.proofs.lemmas.Bool.{cond-true, cond-false, le-ltb}
use Rattle.kinds.specs.Kinds.{KeyKind}
use Rattle.model.specs.Maps.{Setting}
use Rattle.model.specs.Tries.{filter, digit}
use Rattle.model.specs.Sharing.{Marked, Part, begins, below}
use Rattle.tables.specs.Chains.{occ}
use Rattle.tables.specs.Cells.{cell, entry_cell, singles}
use Rattle.tables.specs.Notes.{seat, branches, Stands}
use Rattle.tables.proofs.Noting.{single_held}
use Rattle.tables.proofs.Ranks.{all_own}
use Rattle.branches.specs.States.{Tables, Notes, Sits}
use Rattle.branches.specs.Branches.{no_part, Single}
use Rattle.branches.proofs.Under.{label_key}
use Rattle.branches.proofs.Below.{same_part}

-- ---- nothing

module _ {X Y : Type 0} (K : KeyKind) (kb : X → List ℕ) (vb : Y → List ℕ) (T : Tables X Y) (N : Notes) (R E : List ℕ) (S : Sits K kb vb T N R E) where
  -- ---- one entry

  module _ (e : ℕ) (p : List ℕ) (g : ℕ) (a : Part) (A : Single T N e a) where
    -- the digit of its label's key is that of its setting's
    label_digit : eqb (digit (K.hash (N.entry e).label.what) (length p)) g ≡ eqb (digit (K.hash (N.entry e).setting.key) (length p)) g
    label_digit = ap (λ (w : List ℕ). eqb (digit (K.hash w) (length p)) g) (label_key K kb vb T N R E S e A.held)

    -- at the digit of its key it is all that is below
    pub single_on : eqb (digit (K.hash (N.entry e).setting.key) (length p)) g ≡ true → below K p g a ≡ a
    single_on t =
        same_part (below K p g a) a
        (ap (filter (λ (s : Setting). eqb (digit (K.hash s.key) (length p)) g)) A.settings ∙ cond-true _ _ _ t ∙ sym A.settings)
        (ap (filter (λ (x : Marked). begins (p ++ (g ∷ [])) x.what)) A.nodes ∙ sym A.nodes)
        (ap (filter (λ (x : Marked). eqb (digit (K.hash x.what) (length p)) g)) A.entries ∙ cond-true _ _ _ (label_digit ∙ t) ∙ sym A.entries)

    pub single_stays : eqb (digit (K.hash (N.entry e).setting.key) (length p)) g ≡ true → Single T N e (below K p g a)
    single_stays t = subst (Single T N e) (sym (single_on t)) A

    -- at any other digit nothing is
    pub single_off : eqb (digit (K.hash (N.entry e).setting.key) (length p)) g ≡ false → below K p g a ≡ no_part
    single_off t =
        same_part (below K p g a) no_part
        (ap (filter (λ (s : Setting). eqb (digit (K.hash s.key) (length p)) g)) A.settings ∙ cond-false _ _ _ t)
        (ap (filter (λ (x : Marked). begins (p ++ (g ∷ [])) x.what)) A.nodes)
        (ap (filter (λ (x : Marked). eqb (digit (K.hash x.what) (length p)) g)) A.entries ∙ cond-false _ _ _ (label_digit ∙ t))

  -- ---- a collision node

  module _ (i : ℕ) (p : List ℕ) (a : Part) (St : Stands T.nodes N.node i p a) (deep : length p ≡ 8) where
    long : length (N.node i).label.what ≡ 8
    long = ap length St.prefix ∙ deep

    no_branches : branches K (seat (N.node i)) ≡ []
    no_branches = cond-false (ltb (length (N.node i).label.what) 8) _ _ (le-ltb _ 8 (omega (arith, long)))

    -- its entries are its settings, in their order
    pub deep_settings : map (λ e. (N.entry e).setting) (singles (cell T.nodes i)) ≡ a.settings
    deep_settings = all_own K N.node N.entry (cell T.nodes i) (N.node i) (S.means.fits i St.held) long ∙ St.settings

    pub deep_entries : map (λ e. (N.entry e).label) (singles (cell T.nodes i)) ≡ a.entries
    deep_entries =
        sym ((S.means.fits i St.held).entries_are
        ∙ ap (λ l. map (λ e. (N.entry e).label) (singles (cell T.nodes i)) ++ flat_map (λ g. (N.node ((N.node i).child g)).entries) l) no_branches
        ∙ append-nil (map (λ e. (N.entry e).label) (singles (cell T.nodes i)))) ∙ St.entries

    pub deep_held : (e : ℕ) → 0 < occ e (singles (cell T.nodes i)) → 0 < (entry_cell T.entries e).holders
    deep_held = single_held T.nodes T.entries T.entry_free T.entry_spare E S.entries i

-- A new node filled by rank: its entries, then its children, then the node. Assumes nothing.
use Rattle.std.proofs.Common.{◌≡◌, ℕ, ◌+◌, ◌-◌, ◌<◌, ◌≤◌, true, List, [], ◌∷◌, ◌++◌, length, Some, sum_by, sym, refl, ap, ◌∙◌, subst, ap₂, append_assoc, arith, length-append}
use mathlib.Core.List.Memᴰ
use Rattle.std.specs.List.{AllByRecursion}
use Rattle.std.proofs.lemmas.List.{append-nil, length-map, length_push}
use Rattle.std.proofs.lemmas.List.Sums.{sum_by-append}
use Rattle.kinds.specs.Kinds.{KeyKind}
use Rattle.model.specs.Maps.{Setting, Map, Rises}
use Rattle.model.specs.Tries.{at_digit, parts, one, many}
use Rattle.model.specs.Images.{bits}
use Rattle.model.specs.Sharing.{Marked, Shared, ◌⊕◌, new_node, entry_from, sum}
use Rattle.model.proofs.Marks.Members.{Mem, all_mem}
use Rattle.model.proofs.Marks.Prefixes.{begins_less, begins_short, begins_apart}
use Rattle.tables.specs.declared.cells.NodeCell.{NodeCell}
use Rattle.tables.specs.declared.cells.NodeId.{NodeId}
use Rattle.tables.specs.Chains.{occ}
use Rattle.tables.specs.Cells.{cell, entry_cell, kids, singles}
use Rattle.tables.specs.Heaps.{NodeMade, EntryMade}
use Rattle.tables.specs.Notes.{Seat, EntryNote, branches, own, EntryFits}
use Rattle.tables.proofs.Noting.{noted_same}
use Rattle.tables.proofs.Occurrences.{occ_head, occ_later, occ_append, occ_cons, hit_same}
use Rattle.tables.proofs.Rows.{from_map}
use Rattle.plans.specs.Plans.{bushy, portion}
use Rattle.plans.proofs.Sharing.{portion_bushy}
use Rattle.branches.specs.declared.branch.Branch.{Branch}
use Rattle.branches.specs.declared.branch.Branch.TheVariants.{Child}
use Rattle.branches.specs.States.{Tables, Notes, Sits, Clear, Under, Led}
use Rattle.branches.specs.Branches.{Built}
use Rattle.branches.specs.Hands.{share_at, Hand}
use Rattle.branches.proofs.Filters.{branch_once}
use Rattle.branches.proofs.Growing.{clear_grown, clear_to, with_entry, entry_made_grown, entry_made_sits, EntriesStay, NodesStay}
use Rattle.branches.proofs.Hands.{hand_none, hand_entry, hand_child, hand_as, hand_node}
use Rattle.branches.proofs.Picks.{leads_less, leads_apart, entries_nodes, sum_append, sum_new, sum_new_entries}
use Rattle.branches.proofs.Seats.{own_off, own_apart, seat_share}
use Rattle.branches.proofs.Under.{own_within}

-- a node that is to be made, all new, of a part at a prefix, from some tables on
pub record NewNode {X Y : Type 0} (K : KeyKind) (kb : X → List ℕ) (vb : Y → List ℕ) : Type 0 where
  pub call : ℕ
  pub height : ℕ
  pub prefix : List ℕ
  pub part : Map
  pub tables : Tables X Y
  pub notes : Notes
  pub roots : List ℕ
  pub in_hand : List ℕ
  pub deep : length prefix + height ≡ 8
  pub several : bushy height part ≡ true
  pub rises : Rises K part
  pub led : AllByRecursion (λ s. Led K prefix s.key) part
  pub clear : Clear call (Under prefix) (Led K prefix) tables notes

module _ {X Y : Type 0} {K : KeyKind} {kb : X → List ℕ} {vb : Y → List ℕ}
    (D : NewNode K kb vb) where
  abbrev n : ℕ
  n = D.call

  abbrev p : List ℕ
  p = D.prefix

  abbrev m : Map
  m = D.part

  abbrev pub seat : Seat
  seat = record { prefix = p; settings = m }

  -- what the node shares, and what it shares at a digit
  abbrev pub all_shared : Shared
  all_shared = portion K n D.height p [] m

  abbrev pub share : ℕ → Shared
  share = share_at K n (D.height - 1) p [] m

  -- a prefix below p, and a key that p leads, off what is still to come: children and settings
  abbrev pub Off : List ℕ → List ℕ → Type 0
  Off gs q =
      Under p q × ((q ≡ p → ⊥) × ((g : ℕ) → 0 < occ g gs → Under (p ++ (g ∷ [])) q → ⊥))

  abbrev pub OffKey : Map → List ℕ → List ℕ → Type 0
  OffKey left gs k =
      Led K p k × (((s : Setting) → Mem s left → k ≡ s.key → ⊥)
      × ((g : ℕ) → 0 < occ g gs → Led K (p ++ (g ∷ [])) k → ⊥))

  abbrev pub HandTo : (List ℕ → Type 0) → (List ℕ → Type 0)
      → Map → List ℕ → List ℕ → List ℕ → Tables X Y → Type 0
  HandTo = Hand K kb vb n (D.height - 1) p [] m D.tables D.notes D.roots D.in_hand

  abbrev pub BuiltTo : Branch → Tables X Y → Type 0
  BuiltTo = Built K kb vb n D.height p m all_shared D.tables D.notes D.roots D.in_hand

  -- all is in hand but the settings left and the digits gs: the entries xs and the children ks
  pub record Filled (left : Map) (gs xs ks : List ℕ) (U : Tables X Y) : Type 0 where
    pub mine : Map
    pub digits : List ℕ
    pub own_is : own K seat ≡ mine ++ left
    pub branches_are : branches K seat ≡ digits ++ gs
    pub hand : HandTo (Off gs) (OffKey left gs) mine digits xs ks U

  pub filled_none : Sits K kb vb D.tables D.notes D.roots D.in_hand
      → Filled (own K seat) (branches K seat) [] [] D.tables
  filled_none S = record {
    mine = [];
    digits = [];
    own_is = refl;
    branches_are = refl;
    hand = hand_none K kb vb n (D.height - 1) p [] m D.tables D.notes D.roots D.in_hand _ _ S;
  }

  -- ---- how much it is

  module _ {left : Map} {gs xs ks : List ℕ} {U : Tables X Y} (F : Filled left gs xs ks U) where
    pub left_own : (s : Setting) → Mem s left → Mem s (own K seat)
    left_own s i = subst (Mem s) (sym F.own_is) (Memᴰ.append_right F.mine i)

    pub left_branch : (g : ℕ) → 0 < occ g gs → 0 < occ g (branches K seat)
    left_branch g o = omega (arith, ap (occ g) F.branches_are, occ_append g F.digits gs)

    pub own_many : length (own K seat) ≡ length xs + length left
    own_many =
        let l = length-map xs (λ e. (F.hand.notes.entry e).setting) in
        omega (
          arith,
          ap length F.own_is,
          length-append F.mine left,
          l,
          ap length F.hand.settings_are,
        )

    pub branches_many : length (branches K seat) ≡ length ks + length gs
    branches_many =
        let l = length-map F.digits F.hand.kid in
        omega (
          arith,
          ap length F.branches_are,
          length-append F.digits gs,
          ap length F.hand.kids_are,
          l,
        )

  -- ---- what it shares

  shares : all_shared
      ≡ new_node n p ⊕ (sum (entry_from n []) (own K seat) ⊕ sum share (branches K seat))
  shares = portion_bushy K n D.height p [] m D.several ∙ seat_share K seat n [] D.height D.deep refl

  module _ {left : Map} {gs xs ks : List ℕ} {U : Tables X Y} (F : Filled left gs xs ks U) where
    -- the children are lower
    pub filled_lower : (c : ℕ) → 0 < occ c ks → (cell U.nodes c).level < D.height
    filled_lower c o =
        let H = F.hand in
        let r = from_map H.kid F.digits c (subst (λ (l : List ℕ). 0 < occ c l) H.kids_are o) in
        let s = H.stand r.0 r.1.0 in
        let e = ap (λ (i : ℕ). (cell U.nodes i).level) r.1.1 in
        omega (
          arith,
          (H.sits.means.fits (H.kid r.0) s.held).level_is,
          ap length s.prefix,
          length_push p r.0,
          e,
          D.deep,
        )

    -- what is still to come fits
    pub nodes_fit : all_shared.new_nodes ≤ D.tables.spare
        → 1 + sum_by (λ g. (share g).new_nodes) gs ≤ U.spare
    nodes_fit fits =
        let f : ℕ → ℕ = λ g. (share g).new_nodes in
        let e = ap (λ (x : Shared). x.new_nodes) shares in
        let a = (entries_nodes n [] (own K seat)).1 in
        omega (
          arith,
          fits,
          e,
          a,
          sum_new share (branches K seat),
          ap (sum_by f) F.branches_are,
          sum_by-append f F.digits gs,
          F.hand.cost,
        )

    pub entries_fit : all_shared.new_entries ≤ D.tables.entry_spare
        → (sum (entry_from n []) left).new_entries + sum_by (λ g. (share g).new_entries) gs
        ≤ U.entry_spare
    entries_fit fits =
        let f : ℕ → ℕ = λ g. (share g).new_entries in
        let e = ap (λ (x : Shared). x.new_entries) shares in
        let a = ap (λ (w : Map). (sum (entry_from n []) w).new_entries) F.own_is
        ∙ (sum_append (entry_from n []) F.mine left).1 in
        omega (
          arith,
          fits,
          e,
          a,
          sum_new_entries share (branches K seat),
          ap (sum_by f) F.branches_are,
          sum_by-append f F.digits gs,
          F.hand.entry_cost,
        )

  -- ---- one entry more

  module _ {s : Setting} {left : Map} {gs xs ks : List ℕ} {U : Tables X Y}
      (F : Filled (s ∷ left) gs xs ks U) where
    abbrev M : Notes
    M = F.hand.notes

    s_own : Mem s (own K seat)
    s_own = left_own F s (Memᴰ.head refl)

    s_led : Led K p s.key
    s_led = all_mem (λ t. Led K p t.key) m s D.led (own_within K seat s s_own)

    s_off : OffKey left gs s.key
    s_off = (
      s_led,
      (
        own_apart K seat D.rises F.mine s left F.own_is,
        λ g o. own_off K seat g (left_branch F g o) s s_own,
      ),
    )

    -- no entry of this call has the key yet
    fresh : (e : ℕ) → 0 < (entry_cell U.entries e).holders
        → (M.entry e).label ≡ record { what = s.key; mark = n } → ⊥
    fresh e h z =
        let C = clear_to n (Under p) (λ q. ⊥) (Led K p) (λ k. k ≡ s.key) D.tables D.notes
        (λ q v. absurd v) (λ k v. subst (Led K p) (sym v) s_led) D.clear in
        (clear_grown n (Off gs) (λ q. ⊥) (OffKey (s ∷ left) gs) (λ k. k ≡ s.key) D.tables U D.notes
        M F.hand.grown (λ q u v. v) (λ k u v. u.1.0 s (Memᴰ.head refl) v) C).entry
        e h (ap (λ (x : Marked). x.mark) z) (ap (λ (x : Marked). x.what) z)

    pub filled_entry :
        (key : X) (value : Y) → record { key = kb key; value = vb value } ≡ s
        → (id : ℕ) (W : Tables X Y) → NodesStay U W
        → EntryMade id (record { held = Some (key, value); holders = 1; next = 0 }) U.entries
        U.entry_free U.entry_spare W.entries W.entry_free W.entry_spare
        → Filled left gs (xs ++ (id ∷ [])) ks W
    filled_entry key value is id W stay made =
        let note : EntryNote = record { label = record { what = s.key; mark = n }; setting = s } in
        let here_is = noted_same M.entry id note in
        let fits : EntryFits kb vb (record { held = Some (key, value); holders = 1; next = 0 }) note
        =
        record {
          key = key;
          value = value;
          holds = refl;
          setting_is = sym is;
          label_is =
              ap (λ (x : Setting). x.key) (sym is);
        } in
        record {
          mine = F.mine ++ (s ∷ []);
          digits = F.digits;
          own_is = F.own_is ∙ sym (append_assoc F.mine (s ∷ []) left);
          branches_are = F.branches_are;
          hand =
              hand_as K kb vb n _ p [] m _ _ _ _ (Off gs) (OffKey left gs) _ _ _ _ W
              (hand_entry K kb vb n _ p [] m _ _ _ _ (Off gs) (OffKey (s ∷ left) gs) _ _ _ _ U
              F.hand
              (λ q. ⊥) (λ k. k ≡ s.key) (Off gs) (OffKey left gs) W (with_entry M id note)
              (entry_made_grown U W id _ made stay M note n s.key refl)
              (λ q u. u) (λ q z. absurd z) (λ k u. (u.0, (λ t i. u.1.0 t (Memᴰ.tail i), u.1.1)))
              (λ k z. subst (OffKey left gs) (sym z) s_off)
              s id (entry_made_sits U W id _ made stay M note K kb vb (ks ++ D.roots)
              (xs ++ D.in_hand) fits fresh F.hand.sits)
              (ap (λ (b : EntryNote). b.setting) here_is)
              (ap (λ (b : EntryNote). b.label ∷ []) here_is) stay.2 (omega (arith, made.less)))
              _ _ _ _ refl (append-nil F.digits) refl (append-nil ks);
        }

  -- ---- one child more

  module _ {g : ℕ} {left : Map} {gs xs ks : List ℕ} {U : Tables X Y}
      (F : Filled left (g ∷ gs) xs ks U) where
    abbrev on : List ℕ
    on = p ++ (g ∷ [])

    pub filled_clear : Clear n (Under on) (Led K on) U F.hand.notes
    filled_clear =
        clear_grown n (Off (g ∷ gs)) (Under on) (OffKey left (g ∷ gs)) (Led K on) D.tables U D.notes
        F.hand.notes F.hand.grown (λ q u. u.1.1 g (occ_head g gs))
        (λ k u. u.1.1 g (occ_head g gs))
        (clear_to n (Under p) (Under on) (Led K p) (Led K on) D.tables D.notes (begins_less p g)
        (leads_less K p g) D.clear)

    branch : 0 < occ g (branches K seat)
    branch = left_branch F g (occ_head g gs)

    -- the digit stands nowhere else
    its_place : (occ g F.digits ≡ 0) × (occ g gs ≡ 0)
    its_place =
        let o = branch_once K seat g in
        let e = ap (occ g) F.branches_are ∙ occ_append g F.digits (g ∷ gs) in
        let c = occ_cons g g gs in
        let h = hit_same g g refl in
        (omega arith, omega arith)

    other : (x : ℕ) → 0 < occ x gs → g ≡ x → ⊥
    other x o e = omega (arith, its_place.1, ap (λ (y : ℕ). occ y gs) e)

    pub filled_child :
        (i : NodeId) (W : Tables X Y)
        → Built K kb vb n (D.height - 1) on (at_digit K (length p) m g)
        (portion K n (D.height - 1) on [] (at_digit K (length p) m g)) U F.hand.notes
        (ks ++ D.roots) (xs ++ D.in_hand) (Child i) W
        → Filled left gs xs (ks ++ (i.0 ∷ [])) W
    filled_child i W B =
        let share_is = portion_bushy K n (D.height - 1) on [] (at_digit K (length p) m g) B.is.1 in
        let C = subst
        (λ (s : Shared). Built K kb vb n (D.height - 1) on (at_digit K (length p) m g) s U
        F.hand.notes (ks ++ D.roots) (xs ++ D.in_hand) (Child i) W) share_is B in
        record {
          mine = F.mine;
          digits = F.digits ++ (g ∷ []);
          own_is = F.own_is;
          branches_are = F.branches_are ∙ sym (append_assoc F.digits (g ∷ []) gs);
          hand =
              hand_as K kb vb n _ p [] m _ _ _ _ (Off gs) (OffKey left gs) _ _ _ _ W
              (hand_child K kb vb n _ p [] m _ _ _ _ (Off (g ∷ gs)) (OffKey left (g ∷ gs)) _ _ _ _ U
              F.hand
              (Under on) (Led K on) (Off gs) (OffKey left gs) W C.notes C.grown
              (λ q u. (u.0, (u.1.0, λ x o. u.1.1 x (occ_later x g gs o))))
              (λ q u. (
                begins_less p g q u,
                (
                  λ z. begins_short p g (subst (Under on) z u),
                  λ x o v. other x o (begins_apart p g x q u v),
                ),
              ))
              (λ k u. (u.0, (u.1.0, λ x o. u.1.1 x (occ_later x g gs o))))
              (λ k u. (
                leads_less K p g k u,
                (
                  λ t i z. own_off K seat g branch t (left_own F t i) (subst (Led K on) z u),
                  λ x o v. other x o (leads_apart K p g x k u v),
                ),
              ))
              g i.0 its_place.0 C.sits C.is.0 C.cost C.entry_cost)
              _ _ _ _ (append-nil F.mine) refl (append-nil xs) refl;
        }

  -- ---- the node of all

  pub filled_node :
      {xs ks : List ℕ} {U : Tables X Y} → Filled [] [] xs ks U
      → (i : NodeId) (new : NodeCell) (W : Tables X Y)
      → NodeMade i.0 new U.nodes U.free U.spare W.nodes W.free W.spare → EntriesStay U W
      → kids new ≡ ks → singles new ≡ xs → 0 < new.holders → new.level ≡ D.height
      → (length p < 8 → new.datamap ≡ bits one (parts K (length p) m))
      → (length p < 8 → new.nodemap ≡ bits many (parts K (length p) m))
      → BuiltTo (Child i) W
  filled_node F i new W done stay kids_are singles_are some level data_bits node_bits =
      let mine_is : own K seat ≡ F.mine = F.own_is ∙ append-nil F.mine in
      let digits_are : branches K seat ≡ F.digits = F.branches_are ∙ append-nil F.digits in
      hand_node K kb vb n _ p [] m _ _ _ _ (Off []) (OffKey [] []) F.mine F.digits _ _ _ F.hand
      (λ q u. u.0) (λ q u. u.1.0) (λ k u. u.0) D.clear
      i new W done stay kids_are singles_are some digits_are mine_is (omega (arith, level, D.deep))
      data_bits node_bits all_shared
      (shares ∙ ap₂
      (λ (w : Map) (l : List ℕ). new_node n p ⊕ (sum (entry_from n []) w ⊕ sum share l)) mine_is
      digits_are) D.height D.several

-- A hand: empty, with more in it, and as a new node. Assumes nothing.
use Rattle.std.proofs.Common.{◌≡◌, ℕ, ◌+◌, ◌<◌, true, List, [], ◌∷◌, ◌++◌, map, length, sum_by, sym, refl, ap, ◌∙◌, subst, ap₂, inl, inr, arith}
use Rattle.std.specs.List.{flat_map}
use Rattle.std.proofs.lemmas.List.{map-append, append-nil}
use Rattle.std.proofs.lemmas.List.Sums.{sum_by-append, sum_by-cons}
use Rattle.std.proofs.lemmas.Bool.{cases_lt, cases_eq}
use Rattle.kinds.specs.Kinds.{KeyKind}
use Rattle.model.specs.Maps.{Setting, Map}
use Rattle.model.specs.Tries.{at_digit, one, many, parts}
use Rattle.model.specs.Images.{bits}
use Rattle.model.specs.Sharing.{Marked, Part, begins, Shared, ◌⊕◌, new_node, entry_from, sum}
use Rattle.model.proofs.Marks.Prefixes.{begins_same}
use Rattle.tables.specs.declared.cells.NodeCell.{NodeCell}
use Rattle.tables.specs.declared.cells.NodeId.{NodeId}
use Rattle.tables.specs.Chains.{occ}
use Rattle.tables.specs.Cells.{cell, entry_cell, kids, singles}
use Rattle.tables.specs.Heaps.{NodeMade}
use Rattle.tables.specs.Notes.{Note, EntryNote, branches, own, Fits, Stands, noted}
use Rattle.tables.proofs.Occurrences.{hit_other, occ_nil, occ_cons, occ_append}
use Rattle.tables.proofs.Rows.{map_same, joined_same}
use Rattle.tables.proofs.Noting.{noted_same, noted_other, new_stands}
use Rattle.plans.specs.Plans.{bushy}
use Rattle.branches.specs.declared.branch.Branch.TheVariants.{Child}
use Rattle.branches.specs.States.{Tables, Notes, Sits, Grown, Clear, Under, Led}
use Rattle.branches.specs.Branches.{part_of, Built}
use Rattle.branches.specs.Hands.{share_at, Hand}
use Rattle.branches.proofs.Growing.{grown_none, grown_then, clear_grown, clear_to, stands_grown, sits_same, EntriesStay, with_node, node_made_grown, node_made_sits}
use Rattle.branches.proofs.Picks.{sum_nodes, sum_entries, sum_new, sum_new_entries, sum_append, entries_nodes}

-- what comes to a row's head comes to its end
to_end : (i x : ℕ) (xs ys : List ℕ) → occ i (x ∷ (xs ++ ys)) ≡ occ i ((xs ++ (x ∷ [])) ++ ys)
to_end i x xs ys =
    omega (
      arith,
      occ_cons i x (xs ++ ys),
      occ_append i xs ys,
      occ_append i (xs ++ (x ∷ [])) ys,
      occ_append i xs (x ∷ []),
      occ_cons i x [],
      occ_nil i,
    )

module _ {X Y : Type 0} (K : KeyKind) (kb : X → List ℕ) (vb : Y → List ℕ) (n h : ℕ) (p : List ℕ) (sources : List Part) (m : Map)
    (T : Tables X Y) (N : Notes) (R E : List ℕ) where
  -- nothing in hand
  pub hand_none : (P Q : List ℕ → Type 0) → Sits K kb vb T N R E → Hand K kb vb n h p sources m T N R E P Q [] [] [] [] T
  hand_none P Q H = record {
    notes = N;
    kid = λ g. 0;
    sits = H;
    grown = grown_none n P Q T N;
    settings_are = refl;
    labels_are = refl;
    kids_are = refl;
    stand = λ g q. absurd (omega (arith, occ_nil g));
    cost = omega arith;
    entry_cost = omega arith;
  }

  module _ (P Q : List ℕ → Type 0) (mine : Map) (gs xs ks : List ℕ) (U : Tables X Y) (G : Hand K kb vb n h p sources m T N R E P Q mine gs xs ks U) where
    -- what is in hand is held
    pub hand_held : (e : ℕ) → 0 < occ e xs → 0 < (entry_cell U.entries e).holders
    hand_held e q = omega (arith, G.sits.entries.counted e, occ_append e xs E)

    -- more settings and digits, as the tables grow
    module _ (P' Q' V W : List ℕ → Type 0) (more : Map) (gs' xs' ks' : List ℕ) (kid : ℕ → ℕ) (S : Tables X Y) (M : Notes) (grown : Grown n P' Q' U G.notes S M) where
      pub hand_more :
          ((q : List ℕ) → P q → V q) → ((q : List ℕ) → P' q → V q) → ((k : List ℕ) → Q k → W k) → ((k : List ℕ) → Q' k → W k)
          → Sits K kb vb S M ((ks ++ ks') ++ R) ((xs ++ xs') ++ E)
          → ((g : ℕ) → 0 < occ g gs → kid g ≡ G.kid g)
          → map (λ e. (M.entry e).setting) xs' ≡ more → map (λ e. (M.entry e).label) xs' ≡ (sum (entry_from n sources) more).entries
          → ks' ≡ map kid gs'
          → ((g : ℕ) → 0 < occ g gs' → Stands S.nodes M.node (kid g) (p ++ (g ∷ [])) (part_of (at_digit K (length p) m g) (share_at K n h p sources m g)))
          → S.spare + sum_by (λ g. (share_at K n h p sources m g).new_nodes) gs' ≡ U.spare
          → S.entry_spare + ((sum (entry_from n sources) more).new_entries + sum_by (λ g. (share_at K n h p sources m g).new_entries) gs') ≡ U.entry_spare
          → Hand K kb vb n h p sources m T N R E V W (mine ++ more) (gs ++ gs') (xs ++ xs') (ks ++ ks') S
      hand_more v v' w w' sits old settings labels kids stand cost entry_cost =
          let same : (e : ℕ) → 0 < occ e xs → M.entry e ≡ G.notes.entry e = λ e q. grown.entry_kept e (hand_held e q) in
          record {
            notes = M;
            kid = kid;
            sits = sits;
            grown = grown_then n P P' V Q Q' W T U S N G.notes M v v' w w' G.grown grown;
            settings_are =
                map-append (λ e. (M.entry e).setting) xs xs'
                ∙ ap₂ ◌++◌ (map_same (λ e. (M.entry e).setting) (λ e. (G.notes.entry e).setting) xs (λ e q. ap (λ (a : EntryNote). a.setting) (same e q)) ∙ G.settings_are) settings;
            labels_are =
                map-append (λ e. (M.entry e).label) xs xs'
                ∙ ap₂ ◌++◌ (map_same (λ e. (M.entry e).label) (λ e. (G.notes.entry e).label) xs (λ e q. ap (λ (a : EntryNote). a.label) (same e q)) ∙ G.labels_are) labels
                ∙ sym (sum_append (entry_from n sources) mine more).0;
            kids_are = ap₂ ◌++◌ (G.kids_are ∙ map_same G.kid kid gs (λ g q. sym (old g q))) kids ∙ sym (map-append kid gs gs');
            stand = λ g q.
                elim (cases_lt 0 (occ g gs)) [
                  | inl a ↦
                      subst (λ (c : ℕ). Stands S.nodes M.node c (p ++ (g ∷ [])) (part_of (at_digit K (length p) m g) (share_at K n h p sources m g))) (sym (old g a))
                      (stands_grown n P' Q' U S G.notes M grown (G.kid g) (p ++ (g ∷ [])) (part_of (at_digit K (length p) m g) (share_at K n h p sources m g)) (G.stand g a))
                  | inr a ↦ stand g (omega (arith, occ_append g gs gs'))
                ];
            cost = omega (arith, cost, G.cost, sum_by-append (λ g. (share_at K n h p sources m g).new_nodes) gs gs');
            entry_cost = omega (arith, entry_cost, G.entry_cost, sum_by-append (λ g. (share_at K n h p sources m g).new_entries) gs gs', (sum_append (entry_from n sources) mine more).1);
          }

    module _ (P' Q' V W : List ℕ → Type 0) (S : Tables X Y) (M : Notes)
        (grown : Grown n P' Q' U G.notes S M)
        (v : (q : List ℕ) → P q → V q) (v' : (q : List ℕ) → P' q → V q)
        (w : (k : List ℕ) → Q k → W k) (w' : (k : List ℕ) → Q' k → W k) where
      -- nothing more
      pub hand_same : Sits K kb vb S M (ks ++ R) (xs ++ E) → S.spare ≡ U.spare
          → S.entry_spare ≡ U.entry_spare
          → Hand K kb vb n h p sources m T N R E V W (mine ++ []) (gs ++ []) (xs ++ []) (ks ++ []) S
      hand_same sits cost entry_cost =
          hand_more P' Q' V W [] [] [] [] G.kid S M grown v v' w w'
          (sits_same K kb vb S M (ks ++ R) ((ks ++ []) ++ R) (xs ++ E) ((xs ++ []) ++ E)
          (λ i. ap (λ (l : List ℕ). occ i (l ++ R)) (sym (append-nil ks)))
          (λ e. ap (λ (l : List ℕ). occ e (l ++ E)) (sym (append-nil xs))) sits)
          (λ g q. refl) refl refl refl (λ g q. absurd (omega (arith, occ_nil g)))
          (omega (arith, cost)) (omega (arith, entry_cost))

      -- one entry more
      pub hand_entry :
          (s : Setting) (e : ℕ) → Sits K kb vb S M (ks ++ R) (e ∷ (xs ++ E))
          → (M.entry e).setting ≡ s → (M.entry e).label ∷ [] ≡ (entry_from n sources s).entries
          → S.spare ≡ U.spare → S.entry_spare + (entry_from n sources s).new_entries ≡ U.entry_spare
          → Hand K kb vb n h p sources m T N R E V W (mine ++ (s ∷ [])) (gs ++ []) (xs ++ (e ∷ []))
          (ks ++ []) S
      hand_entry s e sits setting label cost entry_cost =
          hand_more P' Q' V W (s ∷ []) [] (e ∷ []) [] G.kid S M grown v v' w w'
          (sits_same K kb vb S M (ks ++ R) ((ks ++ []) ++ R) (e ∷ (xs ++ E)) ((xs ++ (e ∷ [])) ++ E)
          (λ i. ap (λ (l : List ℕ). occ i (l ++ R)) (sym (append-nil ks)))
          (λ i. to_end i e xs E) sits)
          (λ g q. refl) (ap (λ (x : Setting). x ∷ []) setting)
          (label ∙ sym (append-nil (entry_from n sources s).entries)) refl
          (λ g q. absurd (omega (arith, occ_nil g)))
          (omega (arith, cost)) (omega (arith, entry_cost))

      -- one child more, at a digit that has none yet
      pub hand_child :
          (g i : ℕ) → occ g gs ≡ 0 → Sits K kb vb S M (i ∷ (ks ++ R)) (xs ++ E)
          → Stands S.nodes M.node i (p ++ (g ∷ []))
          (part_of (at_digit K (length p) m g) (share_at K n h p sources m g))
          → S.spare + (share_at K n h p sources m g).new_nodes ≡ U.spare
          → S.entry_spare + (share_at K n h p sources m g).new_entries ≡ U.entry_spare
          → Hand K kb vb n h p sources m T N R E V W (mine ++ []) (gs ++ (g ∷ [])) (xs ++ [])
          (ks ++ (i ∷ [])) S
      hand_child g i none sits stands cost entry_cost =
          let kid : ℕ → ℕ = noted G.kid g i in
          let Q : ℕ → ℕ → Type 0 =
          λ c x. Stands S.nodes M.node c (p ++ (x ∷ []))
          (part_of (at_digit K (length p) m x) (share_at K n h p sources m x)) in
          hand_more P' Q' V W [] (g ∷ []) [] (i ∷ []) kid S M grown v v' w w'
          (sits_same K kb vb S M (i ∷ (ks ++ R)) ((ks ++ (i ∷ [])) ++ R) (xs ++ E) ((xs ++ []) ++ E)
          (λ j. to_end j i ks R)
          (λ e. ap (λ (l : List ℕ). occ e (l ++ E)) (sym (append-nil xs))) sits)
          (λ x q. noted_other G.kid g i x (λ z. omega (arith, none, q, ap (λ (y : ℕ). occ y gs) z)))
          refl refl (ap (λ (c : ℕ). c ∷ []) (sym (noted_same G.kid g i)))
          (λ x q. elim (cases_eq x g) [
            | inl z ↦
                subst (Q (kid x)) (sym z)
                (subst (λ (c : ℕ). Q c g) (sym (ap kid z ∙ noted_same G.kid g i)) stands)
            | inr z ↦ absurd (omega (arith, q, occ_cons x g [], hit_other x g z, occ_nil x))
          ])
          (omega (arith, cost, sum_by-cons (λ x. (share_at K n h p sources m x).new_nodes) g []))
          (omega (
            arith,
            entry_cost,
            sum_by-cons (λ x. (share_at K n h p sources m x).new_entries) g [],
          ))

    -- the same lists
    pub hand_as : (mine' : Map) (gs' xs' ks' : List ℕ) → mine ≡ mine' → gs ≡ gs' → xs ≡ xs'
        → ks ≡ ks' → Hand K kb vb n h p sources m T N R E P Q mine' gs' xs' ks' U
    hand_as mine' gs' xs' ks' a b c d =
        subst (λ (l : Map). Hand K kb vb n h p sources m T N R E P Q l gs' xs' ks' U) a
        (subst (λ (l : List ℕ). Hand K kb vb n h p sources m T N R E P Q mine l xs' ks' U) b
        (subst (λ (l : List ℕ). Hand K kb vb n h p sources m T N R E P Q mine gs l ks' U) c
        (subst (λ (l : List ℕ). Hand K kb vb n h p sources m T N R E P Q mine gs xs l U) d G)))

    -- the node over all that is in hand
    module _ (inside : (q : List ℕ) → P q → Under p q) (apart : (q : List ℕ) → P q → q ≡ p → ⊥) (inside_keys : (k : List ℕ) → Q k → Led K p k) (clear : Clear n (Under p) (Led K p) T N)
        (i : NodeId) (new : NodeCell) (W : Tables X Y) (done : NodeMade i.0 new U.nodes U.free U.spare W.nodes W.free W.spare) (stay : EntriesStay U W)
        (kids_are : kids new ≡ ks) (singles_are : singles new ≡ xs) (some : 0 < new.holders)
        (branches_are : branches K (record { prefix = p; settings = m }) ≡ gs) (own_is : own K (record { prefix = p; settings = m }) ≡ mine)
        (level_is : new.level + length p ≡ 8) (data_bits : length p < 8 → new.datamap ≡ bits one (parts K (length p) m)) (node_bits : length p < 8 → new.nodemap ≡ bits many (parts K (length p) m))
        (s : Shared) (s_is : s ≡ new_node n p ⊕ (sum (entry_from n sources) mine ⊕ sum (share_at K n h p sources m) gs)) where
      abbrev made_note : Note
      made_note = record { label = record { what = p; mark = n }; settings = m; nodes = s.nodes; entries = s.entries; child = G.kid }

      made_fits : Fits K G.notes.node G.notes.entry new made_note
      made_fits = record {
        children = kids_are ∙ G.kids_are ∙ ap (map G.kid) (sym branches_are);
        seats = λ g q. let z = G.stand g (omega (arith, ap (occ g) branches_are)) in ap₂ (λ (w : List ℕ) (x : Map). record { prefix = w; settings = x }) z.prefix z.settings;
        owns = ap (map (λ e. (G.notes.entry e).setting)) singles_are ∙ G.settings_are ∙ sym own_is;
        nodes_are =
            ap (λ (x : Shared). x.nodes) s_is
            ∙ ap (λ (r : List Marked). record { what = p; mark = n } ∷ r)
            (ap₂ ◌++◌ (entries_nodes n sources mine).0 (sum_nodes (share_at K n h p sources m) gs)
            ∙ joined_same (λ g. (share_at K n h p sources m g).nodes) (λ g. (G.notes.node (G.kid g)).nodes) gs (λ g q. sym (G.stand g q).nodes)
            ∙ ap (flat_map (λ g. (G.notes.node (G.kid g)).nodes)) (sym branches_are));
        entries_are =
            ap (λ (x : Shared). x.entries) s_is
            ∙ ap₂ ◌++◌ (sym G.labels_are ∙ ap (map (λ e. (G.notes.entry e).label)) (sym singles_are))
            (sum_entries (share_at K n h p sources m) gs
            ∙ joined_same (λ g. (share_at K n h p sources m g).entries) (λ g. (G.notes.node (G.kid g)).entries) gs (λ g q. sym (G.stand g q).entries)
            ∙ ap (flat_map (λ g. (G.notes.node (G.kid g)).entries)) (sym branches_are));
        level_is = level_is;
        data_bits = data_bits;
        node_bits = node_bits;
      }

      -- no node of this call stands there yet
      fresh_label : (j : ℕ) → 0 < (cell U.nodes j).holders → (G.notes.node j).label ≡ record { what = p; mark = n } → ⊥
      fresh_label j q e =
          (clear_grown n P (λ q. q ≡ p) Q (λ k. ⊥) T U N G.notes G.grown apart (λ k u v. v)
          (clear_to n (Under p) (λ q. q ≡ p) (Led K p) (λ k. ⊥) T N (λ q z. ap (begins p) z ∙ begins_same p) (λ k z. absurd z) clear)
          ).node j q (ap (λ (x : Marked). x.mark) e) (ap (λ (x : Marked). x.what) e)

      pub hand_node : (level : ℕ) → bushy level m ≡ true → Built K kb vb n level p m s T N R E (Child i) W
      hand_node level bush = record {
        notes = with_node G.notes i.0 made_note;
        sits =
            node_made_sits U W i.0 new done stay G.notes made_note K kb vb R E some made_fits fresh_label
            (subst (λ (l : List ℕ). Sits K kb vb U G.notes (l ++ R) (singles new ++ E)) (sym kids_are) (subst (λ (l : List ℕ). Sits K kb vb U G.notes (ks ++ R) (l ++ E)) (sym singles_are) G.sits));
        grown =
            grown_then n P (λ q. q ≡ p) (Under p) Q (λ k. ⊥) (Led K p) T U W N G.notes (with_node G.notes i.0 made_note)
            inside (λ q z. ap (begins p) z ∙ begins_same p) inside_keys (λ k z. absurd z) G.grown (node_made_grown U W i.0 new done stay G.notes made_note n p refl);
        is = (
          new_stands U.nodes W.nodes _ i.0 new made_note done.inside some done.is (noted_same G.notes.node i.0 made_note) p (part_of m s) refl refl refl refl,
          bush,
        );
        cost =
            omega (arith, done.less, G.cost, ap (λ (x : Shared). x.new_nodes) s_is, (entries_nodes n sources mine).1, sum_new (share_at K n h p sources m) gs);
        entry_cost =
            omega (arith, stay.2, G.entry_cost, ap (λ (x : Shared). x.new_entries) s_is, sum_new_entries (share_at K n h p sources m) gs);
      }

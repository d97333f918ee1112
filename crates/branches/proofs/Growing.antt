-- Tables that grow in the middle of a call, and what stays true of them. Assumes nothing.
use Rattle.std.proofs.Common.{◌≡◌, ℕ, ◌<◌, ◌⊎◌, List, [], ◌∷◌, ◌++◌, length, sym, refl, ap, ◌∙◌, subst, inl, inr, arith, length-set}
use Rattle.std.proofs.lemmas.List.{get_or-set_other}
use Rattle.std.proofs.lemmas.Bool.{cases_eq}
use Rattle.kinds.specs.Kinds.{KeyKind}
use Rattle.model.specs.Sharing.{Marked, Part}
use Rattle.tables.specs.declared.cells.NodeCell.{NodeCell}
use Rattle.tables.specs.declared.cells.EntryCell.{EntryCell}
use Rattle.tables.specs.Chains.{occ}
use Rattle.tables.specs.Cells.{blank, cell, blank_entry, entry_cell, kids, singles}
use Rattle.tables.specs.Heaps.{Nodes, Entries, Entryless, NodeHeld, NodeMade, EntryHeld, EntryMade, one_more}
use Rattle.tables.specs.Notes.{Note, EntryNote, Fits, EntryFits, Means, Stands, noted}
use Rattle.tables.proofs.Written.{at_each}
use Rattle.tables.proofs.NodeCounts.{inside}
use Rattle.tables.proofs.EntryCounts.{inside_entries}
use Rattle.tables.proofs.Frames.{more_kept, entry_more_kept, frame_more, frame_entry_more}
use Rattle.tables.proofs.Noting.{noted_same, noted_other, node_made_means, entry_made_means}
use Rattle.tables.proofs.Views.{held_entries, held_entryless, made_entries, made_entryless}
use Rattle.branches.specs.declared.branch.Branch.{Branch}
use Rattle.branches.specs.declared.branch.Branch.TheVariants.{Nothing, Entry, Child}
use Rattle.branches.specs.States.{Tables, Notes, Sits, Grown, Clear}
use Rattle.branches.specs.Branches.{Single, Is}

-- ---- of any cells, by their holders and labels

module _ {A : Type 0} (label : A → Marked) (n : ℕ) where
  -- what is held was held, or is new
  abbrev New : (List ℕ → Type 0) → (ℕ → ℕ) → (ℕ → ℕ) → (ℕ → A) → Type 0
  New P was is note = (i : ℕ) → 0 < is i → (0 < was i) ⊎ (((label (note i)).mark ≡ n) × P (label (note i)).what)

  new_then :
      (P P' W : List ℕ → Type 0) (b c d : ℕ → ℕ) (note next : ℕ → A) → ((q : List ℕ) → P q → W q) → ((q : List ℕ) → P' q → W q)
      → New P b c note → ((i : ℕ) → 0 < c i → next i ≡ note i) → New P' c d next → New W b d next
  new_then P P' W b c d note next u v G kept F i h =
      elim (F i h) [
        | inl o ↦ elim (G i o) [
          | inl z ↦ inl z
          | inr z ↦ let k = kept i o in inr (ap (λ (a : A). (label a).mark) k ∙ z.0, subst (λ (a : A). W (label a).what) (sym k) (u (label (note i)).what z.1))
        ]
        | inr o ↦ inr (o.0, v (label (next i)).what o.1)
      ]

  clear_then :
      (P P' : List ℕ → Type 0) (b c : ℕ → ℕ) (note next : ℕ → A) → ((q : List ℕ) → P q → P' q → ⊥)
      → New P b c next → ((i : ℕ) → 0 < b i → next i ≡ note i)
      → ((i : ℕ) → 0 < b i → (label (note i)).mark ≡ n → P' (label (note i)).what → ⊥)
      → (i : ℕ) → 0 < c i → (label (next i)).mark ≡ n → P' (label (next i)).what → ⊥
  clear_then P P' b c note next apart G kept C i h e v =
      elim (G i h) [
        | inl o ↦ let k = kept i o in C i o (ap (λ (a : A). (label a).mark) (sym k) ∙ e) (subst (λ (a : A). P' (label a).what) k v)
        | inr o ↦ apart (label (next i)).what o.1 v
      ]

  -- the cell r is new
  new_made :
      (b c : ℕ → ℕ) (note : ℕ → A) (r : ℕ) (a : A) (p : List ℕ) → label a ≡ record { what = p; mark = n } → ((i : ℕ) → (i ≡ r → ⊥) → c i ≡ b i)
      → New (λ q. q ≡ p) b c (noted note r a)
  new_made b c note r a p e else i h =
      elim (cases_eq i r) [
        | inl z ↦ let here : label (noted note r a i) ≡ record { what = p; mark = n } = ap (λ k. label (noted note r a k)) z ∙ ap label (noted_same note r a) ∙ e in
            inr (ap (λ (x : Marked). x.mark) here, ap (λ (x : Marked). x.what) here)
        | inr z ↦ inl (omega (arith, else i z))
      ]

-- ---- growth

module _ {X Y : Type 0} (n : ℕ) where
  pub grown_none : (P Q : List ℕ → Type 0) (T : Tables X Y) (N : Notes) → Grown n P Q T N T N
  grown_none P Q T N = record {
    long = refl;
    held = λ i h. h;
    kept = λ i h. refl;
    new = λ i h. inl h;
    entry_long = refl;
    entry_held = λ e h. h;
    entry_kept = λ e h. refl;
    entry_new = λ e h. inl h;
  }

  pub grown_then :
      (P P' W Q Q' V : List ℕ → Type 0) (S T U : Tables X Y) (L N M : Notes)
      → ((q : List ℕ) → P q → W q) → ((q : List ℕ) → P' q → W q) → ((k : List ℕ) → Q k → V k) → ((k : List ℕ) → Q' k → V k)
      → Grown n P Q S L T N → Grown n P' Q' T N U M → Grown n W V S L U M
  grown_then P P' W Q Q' V S T U L N M p p' q q' G F = record {
    long = F.long ∙ G.long;
    held = λ i h. F.held i (G.held i h);
    kept = λ i h. F.kept i (G.held i h) ∙ G.kept i h;
    new =
        new_then (λ (a : Note). a.label) n P P' W (λ i. (cell S.nodes i).holders) (λ i. (cell T.nodes i).holders) (λ i. (cell U.nodes i).holders) N.node M.node p p'
        G.new F.kept F.new;
    entry_long = F.entry_long ∙ G.entry_long;
    entry_held = λ e h. F.entry_held e (G.entry_held e h);
    entry_kept = λ e h. F.entry_kept e (G.entry_held e h) ∙ G.entry_kept e h;
    entry_new =
        new_then (λ (a : EntryNote). a.label) n Q Q' V (λ e. (entry_cell S.entries e).holders) (λ e. (entry_cell T.entries e).holders) (λ e. (entry_cell U.entries e).holders) N.entry M.entry q q'
        G.entry_new F.entry_kept F.entry_new;
  }

  -- into wider bounds
  pub grown_to :
      (P W Q V : List ℕ → Type 0) (T U : Tables X Y) (N M : Notes) → ((q : List ℕ) → P q → W q) → ((k : List ℕ) → Q k → V k)
      → Grown n P Q T N U M → Grown n W V T N U M
  grown_to P W Q V T U N M p q G = grown_then P W W Q V V T U U N M M p (λ x w. w) q (λ x v. v) G (grown_none W V U M)

  -- what is clear stays clear, if nothing new falls there
  pub clear_grown :
      (P P' Q Q' : List ℕ → Type 0) (T U : Tables X Y) (N M : Notes) → Grown n P Q T N U M
      → ((q : List ℕ) → P q → P' q → ⊥) → ((k : List ℕ) → Q k → Q' k → ⊥) → Clear n P' Q' T N → Clear n P' Q' U M
  clear_grown P P' Q Q' T U N M G p q C = record {
    node = clear_then (λ (a : Note). a.label) n P P' (λ i. (cell T.nodes i).holders) (λ i. (cell U.nodes i).holders) N.node M.node p G.new G.kept C.node;
    entry =
        clear_then (λ (a : EntryNote). a.label) n Q Q' (λ e. (entry_cell T.entries e).holders) (λ e. (entry_cell U.entries e).holders) N.entry M.entry q
        G.entry_new G.entry_kept C.entry;
  }

  -- within narrower bounds
  pub clear_to :
      (P P' Q Q' : List ℕ → Type 0) (T : Tables X Y) (N : Notes) → ((q : List ℕ) → P' q → P q) → ((k : List ℕ) → Q' k → Q k)
      → Clear n P Q T N → Clear n P' Q' T N
  clear_to P P' Q Q' T N p q C = record {
    node = λ i h e v. C.node i h e (p (N.node i).label.what v);
    entry = λ x h e v. C.entry x h e (q (N.entry x).label.what v);
  }

  -- ---- what a cell is, it stays

  module _ (P Q : List ℕ → Type 0) (T U : Tables X Y) (N M : Notes) (G : Grown n P Q T N U M) where
    pub stands_grown : (i : ℕ) (p : List ℕ) (a : Part) → Stands T.nodes N.node i p a → Stands U.nodes M.node i p a
    stands_grown i p a s =
        let e = G.kept i s.held in
        record {
          held = G.held i s.held;
          prefix = ap (λ (b : Note). b.label.what) e ∙ s.prefix;
          settings = ap (λ (b : Note). b.settings) e ∙ s.settings;
          nodes = ap (λ (b : Note). b.nodes) e ∙ s.nodes;
          entries = ap (λ (b : Note). b.entries) e ∙ s.entries;
        }

    pub single_grown : (e : ℕ) (a : Part) → Single T N e a → Single U M e a
    single_grown e a s =
        let k = G.entry_kept e s.held in
        record {
          held = G.entry_held e s.held;
          settings = s.settings ∙ ap (λ (b : EntryNote). b.setting ∷ []) (sym k);
          nodes = s.nodes;
          entries = s.entries ∙ ap (λ (b : EntryNote). b.label ∷ []) (sym k);
        }

    pub is_grown : (b : Branch) (level : ℕ) (p : List ℕ) (a : Part) → Is T N b level p a → Is U M b level p a
    is_grown Nothing level p a h = h
    is_grown (Entry e) level p a h = (h.0, single_grown e.0 a h.1)
    is_grown (Child i) level p a h = (stands_grown i.0 p a h.0, h.1)

-- ---- the roots and the entries in hand, in any order

pub nodes_same : (cs : List NodeCell) (f s : ℕ) (R S : List ℕ) → ((i : ℕ) → occ i R ≡ occ i S) → Nodes cs f s R → Nodes cs f s S
nodes_same cs f s R S same H =
    record { counted = λ i. omega (arith, H.counted i, same i); childless = H.childless; falls = H.falls; narrow = H.narrow; short = H.short; chain = H.chain }

pub entries_same :
    {X Y : Type 0} (cs : List NodeCell) (es : List (EntryCell X Y)) (f s : ℕ) (E F : List ℕ) → ((e : ℕ) → occ e E ≡ occ e F)
    → Entries cs es f s E → Entries cs es f s F
entries_same cs es f s E F same H =
    record { counted = λ e. omega (arith, H.counted e, same e); filled = H.filled; emptied = H.emptied; short = H.short; chain = H.chain }

module _ {X Y : Type 0} (K : KeyKind) (kb : X → List ℕ) (vb : Y → List ℕ) where
  pub sits_same :
      (T : Tables X Y) (N : Notes) (R S E F : List ℕ) → ((i : ℕ) → occ i R ≡ occ i S) → ((e : ℕ) → occ e E ≡ occ e F)
      → Sits K kb vb T N R E → Sits K kb vb T N S F
  sits_same T N R S E F r e H = record {
    nodes = nodes_same T.nodes T.free T.spare R S r H.nodes;
    entries = entries_same T.nodes T.entries T.entry_free T.entry_spare E F e H.entries;
    entryless = H.entryless;
    means = H.means;
  }

-- ---- one cell of one table changes

-- the other table stays
abbrev pub EntriesStay : {X Y : Type 0} → Tables X Y → Tables X Y → Type 0
EntriesStay T U = (U.entries ≡ T.entries) × (U.entry_free ≡ T.entry_free) × (U.entry_spare ≡ T.entry_spare)

abbrev pub NodesStay : {X Y : Type 0} → Tables X Y → Tables X Y → Type 0
NodesStay T U = (U.nodes ≡ T.nodes) × (U.free ≡ T.free) × (U.spare ≡ T.spare)

-- one note more
abbrev pub with_node : Notes → ℕ → Note → Notes
with_node N r a = record { node = noted N.node r a; entry = N.entry }

abbrev pub with_entry : Notes → ℕ → EntryNote → Notes
with_entry N r a = record { node = N.node; entry = noted N.entry r a }

-- a free cell is not a held one
away : {C : Type 0} (c : ℕ → C) (holders : C → ℕ) (r : ℕ) → holders (c r) ≡ 0 → (i : ℕ) → 0 < holders (c i) → i ≡ r → ⊥
away c holders r free i h e = omega (arith, free, ap (λ (k : ℕ). holders (c k)) e)

module _ {X Y : Type 0} (T U : Tables X Y) where
  entries_to : EntriesStay T U → (cs : List NodeCell) (E : List ℕ) → Entries cs T.entries T.entry_free T.entry_spare E → Entries cs U.entries U.entry_free U.entry_spare E
  entries_to stay cs E H = rw (stay.0, stay.1, stay.2) H

  nodes_to : NodesStay T U → (R : List ℕ) → Nodes T.nodes T.free T.spare R → Nodes U.nodes U.free U.spare R
  nodes_to stay R H = rw (stay.0, stay.1, stay.2) H

  holders_to : T.nodes ≡ U.nodes → (i : ℕ) → (cell T.nodes i).holders ≡ (cell U.nodes i).holders
  holders_to e i = ap (λ (cs : List NodeCell). (cell cs i).holders) e

  entry_holders_to : T.entries ≡ U.entries → (e : ℕ) → (entry_cell T.entries e).holders ≡ (entry_cell U.entries e).holders
  entry_holders_to e i = ap (λ (es : List (EntryCell X Y)). (entry_cell es i).holders) e

  -- one holder more of a node
  module _ (j : ℕ) (done : NodeHeld j T.nodes T.free T.spare U.nodes U.free U.spare) (h : 0 < (cell T.nodes j).holders) (stay : EntriesStay T U) where
    pub node_held_grown : (n : ℕ) (P Q : List ℕ → Type 0) (N : Notes) → Grown n P Q T N U N
    node_held_grown n P Q N = record {
      long = ap length done.is ∙ length-set T.nodes j _;
      held = λ i p. rw done.is (at_each blank T.nodes j (one_more (cell T.nodes j)) (inside T.nodes j h) (λ k c. 0 < (cell T.nodes k).holders → 0 < c.holders) (λ q. omega arith) (λ k z q. q) i p);
      kept = λ i p. refl;
      new = λ i p. inl ((more_kept T.nodes U.nodes j h done.is i).held p);
      entry_long = ap length stay.0;
      entry_held = λ e p. omega (arith, entry_holders_to (sym stay.0) e);
      entry_kept = λ e p. refl;
      entry_new = λ e p. inl (omega (arith, entry_holders_to (sym stay.0) e));
    }

    pub node_held_sits : (K : KeyKind) (kb : X → List ℕ) (vb : Y → List ℕ) (N : Notes) (R E : List ℕ) → Sits K kb vb T N R E → Sits K kb vb U N (j ∷ R) E
    node_held_sits K kb vb N R E H = record {
      nodes = done.nodes R H.nodes;
      entries = entries_to stay U.nodes E (held_entries T.nodes U.nodes j h done.is T.entries T.entry_free T.entry_spare E H.entries);
      entryless = held_entryless T.nodes U.nodes j h done.is H.entryless;
      means =
          subst (λ (es : List (EntryCell X Y)). Means K kb vb U.nodes es N.node N.entry) (sym stay.0)
          (frame_more K kb vb T.nodes U.nodes T.entries N.node N.entry j h done.is H.means);
    }

  -- one holder more of an entry
  module _ (j : ℕ) (done : EntryHeld j T.entries T.entry_free T.entry_spare U.entries U.entry_free U.entry_spare) (h : 0 < (entry_cell T.entries j).holders) (stay : NodesStay T U) where
    pub entry_held_grown : (n : ℕ) (P Q : List ℕ → Type 0) (N : Notes) → Grown n P Q T N U N
    entry_held_grown n P Q N = record {
      long = ap length stay.0;
      held = λ i p. omega (arith, holders_to (sym stay.0) i);
      kept = λ i p. refl;
      new = λ i p. inl (omega (arith, holders_to (sym stay.0) i));
      entry_long = ap length done.is ∙ length-set T.entries j _;
      entry_held = λ e p. rw done.is (at_each blank_entry T.entries j _ (inside_entries T.entries j h) (λ k c. 0 < (entry_cell T.entries k).holders → 0 < c.holders) (λ q. omega arith) (λ k z q. q) e p);
      entry_kept = λ e p. refl;
      entry_new = λ e p. inl ((entry_more_kept T.entries U.entries j h done.is e).was p);
    }

    pub entry_held_sits : (K : KeyKind) (kb : X → List ℕ) (vb : Y → List ℕ) (N : Notes) (R E : List ℕ) → Sits K kb vb T N R E → Sits K kb vb U N R (j ∷ E)
    entry_held_sits K kb vb N R E H = record {
      nodes = nodes_to stay R H.nodes;
      entries = subst (λ (cs : List NodeCell). Entries cs U.entries U.entry_free U.entry_spare (j ∷ E)) (sym stay.0) (done.entries T.nodes E H.entries);
      entryless = subst Entryless (sym stay.0) H.entryless;
      means =
          subst (λ (cs : List NodeCell). Means K kb vb cs U.entries N.node N.entry) (sym stay.0)
          (frame_entry_more K kb vb T.nodes T.entries U.entries N.node N.entry j h done.is H.means);
    }

  -- a new node
  module _ (r : ℕ) (new : NodeCell) (done : NodeMade r new T.nodes T.free T.spare U.nodes U.free U.spare) (stay : EntriesStay T U) (N : Notes) (a : Note) where
    else_node : (i : ℕ) → (i ≡ r → ⊥) → (cell U.nodes i).holders ≡ (cell T.nodes i).holders
    else_node i z = ap (λ (cs : List NodeCell). (cell cs i).holders) done.is ∙ ap (λ (c : NodeCell). c.holders) (get_or-set_other T.nodes r i new blank z)

    pub node_made_grown : (n : ℕ) (p : List ℕ) → a.label ≡ record { what = p; mark = n } → Grown n (λ q. q ≡ p) (λ k. ⊥) T N U (with_node N r a)
    node_made_grown n p e = record {
      long = ap length done.is ∙ length-set T.nodes r new;
      held = λ i h. omega (arith, else_node i (away (cell T.nodes) (λ c. c.holders) r done.was_free i h));
      kept = λ i h. noted_other N.node r a i (away (cell T.nodes) (λ c. c.holders) r done.was_free i h);
      new = new_made (λ (b : Note). b.label) n (λ i. (cell T.nodes i).holders) (λ i. (cell U.nodes i).holders) N.node r a p e else_node;
      entry_long = ap length stay.0;
      entry_held = λ e p. omega (arith, entry_holders_to (sym stay.0) e);
      entry_kept = λ e p. refl;
      entry_new = λ e p. inl (omega (arith, entry_holders_to (sym stay.0) e));
    }

    pub node_made_sits :
        (K : KeyKind) (kb : X → List ℕ) (vb : Y → List ℕ) (R E : List ℕ) → 0 < new.holders → Fits K N.node N.entry new a
        → ((i : ℕ) → 0 < (cell T.nodes i).holders → (N.node i).label ≡ a.label → ⊥)
        → Sits K kb vb T N (kids new ++ R) (singles new ++ E) → Sits K kb vb U (with_node N r a) (r ∷ R) E
    node_made_sits K kb vb R E h fits fresh H = record {
      nodes = done.nodes R H.nodes;
      entries =
          entries_to stay U.nodes E
          (made_entries T.nodes U.nodes r new done.inside done.was_free done.is H.entryless T.entries T.entry_free T.entry_spare E H.entries);
      entryless = made_entryless T.nodes U.nodes r new done.inside done.was_free done.is H.entryless h;
      means =
          subst (λ (es : List (EntryCell X Y)). Means K kb vb U.nodes es (noted N.node r a) N.entry) (sym stay.0)
          (node_made_means K kb vb T.nodes T.entries N.node N.entry H.means r new T.free T.spare U.nodes U.free U.spare R a done H.nodes fits fresh);
    }

  -- a new entry
  module _ (r : ℕ) (new : EntryCell X Y) (done : EntryMade r new T.entries T.entry_free T.entry_spare U.entries U.entry_free U.entry_spare) (stay : NodesStay T U) (N : Notes) (a : EntryNote) where
    else_entry : (e : ℕ) → (e ≡ r → ⊥) → (entry_cell U.entries e).holders ≡ (entry_cell T.entries e).holders
    else_entry e z =
        ap (λ (es : List (EntryCell X Y)). (entry_cell es e).holders) done.is ∙ ap (λ (c : EntryCell X Y). c.holders) (get_or-set_other T.entries r e new blank_entry z)

    pub entry_made_grown : (n : ℕ) (k : List ℕ) → a.label ≡ record { what = k; mark = n } → Grown n (λ q. ⊥) (λ x. x ≡ k) T N U (with_entry N r a)
    entry_made_grown n k e = record {
      long = ap length stay.0;
      held = λ i p. omega (arith, holders_to (sym stay.0) i);
      kept = λ i p. refl;
      new = λ i p. inl (omega (arith, holders_to (sym stay.0) i));
      entry_long = ap length done.is ∙ length-set T.entries r new;
      entry_held = λ i h. omega (arith, else_entry i (away (entry_cell T.entries) (λ c. c.holders) r done.was_free i h));
      entry_kept = λ i h. noted_other N.entry r a i (away (entry_cell T.entries) (λ c. c.holders) r done.was_free i h);
      entry_new = new_made (λ (b : EntryNote). b.label) n (λ i. (entry_cell T.entries i).holders) (λ i. (entry_cell U.entries i).holders) N.entry r a k e else_entry;
    }

    pub entry_made_sits :
        (K : KeyKind) (kb : X → List ℕ) (vb : Y → List ℕ) (R E : List ℕ) → EntryFits kb vb new a
        → ((e : ℕ) → 0 < (entry_cell T.entries e).holders → (N.entry e).label ≡ a.label → ⊥)
        → Sits K kb vb T N R E → Sits K kb vb U (with_entry N r a) R (r ∷ E)
    entry_made_sits K kb vb R E fits fresh H = record {
      nodes = nodes_to stay R H.nodes;
      entries = subst (λ (cs : List NodeCell). Entries cs U.entries U.entry_free U.entry_spare (r ∷ E)) (sym stay.0) (done.entries T.nodes E H.entries);
      entryless = subst Entryless (sym stay.0) H.entryless;
      means =
          subst (λ (cs : List NodeCell). Means K kb vb cs U.entries N.node (noted N.entry r a)) (sym stay.0)
          (entry_made_means K kb vb T.nodes T.entries N.node N.entry H.means r new T.entry_free T.entry_spare U.entries U.entry_free U.entry_spare E a done H.entries fits fresh);
    }

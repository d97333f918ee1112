-- Merging digit after digit: what each digit may take for granted, and what the sixteen make. Assumes nothing.
use Rattle.std.proofs.Common.{◌≡◌, ℕ, suc, ◌+◌, ◌-◌, ◌*◌, ◌^◌, ◌<◌, ◌≤◌, Bool, true, false, cond, eqb, ltb, List, [], ◌∷◌, ◌++◌, length, Some, None, sym, refl, ap, ◌∙◌, subst, arith, length-append}
use mir.Val.{bool_byte}
use Rattle.std.proofs.lemmas.List.{length_push}
use Rattle.std.specs.List.{AllByRecursion}
use Rattle.std.proofs.lemmas.Bool.{and_from, cond-true, cond-false, le-ltb, lt-ltb, false≢true}
use Rattle.kinds.specs.Kinds.{KeyKind, ValueKind}
use Rattle.model.specs.Maps.{Setting, Map, same_map, merge}
use Rattle.model.specs.Tries.{digit, leads, at_digit}
use Rattle.model.specs.Sharing.{Part, Shared, below, first_same}
use Rattle.model.proofs.Images.Gets.{leads_push}
use Rattle.model.proofs.Images.Lists.{length_filter}
use Rattle.model.proofs.Marks.Keys.{same_map_true}
use Rattle.tables.specs.declared.cells.NodeCell.{NodeCell}
use Rattle.plans.specs.Plans.{bushy, crowd, portion, Told}
use Rattle.plans.proofs.Digits.{sound_at, at_merge, same_map_self}
use Rattle.plans.proofs.Crowds.{crowd_at}
use Rattle.plans.proofs.Sharing.{share_first, portion_bushy}
use Rattle.plans.proofs.Sizes.{capped_test}
use Rattle.branches.specs.declared.branch.Branch.{Branch}
use Rattle.branches.specs.States.{Tables, Notes, Led}
use Rattle.branches.specs.Branches.{Is, Built, GoesOn, SomePart, Stays, Kept, part_of}
use Rattle.branches.specs.Handfuls.{nothing_in_hand, with_branch, Assembling, Assembled}
use Rattle.branches.proofs.Growing.{is_grown, EntriesStay}
use Rattle.branches.proofs.Kept.{portion_kept}
use Rattle.branches.proofs.Gathering.{gathered_clear}
use Rattle.branches.proofs.Turning.{Turned, turned_none, turned_more, bits_left, in_hand_few, node_room, entry_room, turned_assembles, turned_assembled}
use Rattle.edits.specs.declared.estimate.Estimate.{Estimate}
use Rattle.edits.specs.Sets.{tally}
use Rattle.merges.specs.Merges.{Met, merged, MergeEstimated, MayMerge, MergeDone}

-- ---- over bare numbers

pub few_left : (ks r h l g : ℕ) → ks ≤ g → g < 16 → h + 1 ≡ l → r + 16 * l + 16 ≤ 65535 → (ks + r) + 16 * h + 16 ≤ 65535
few_left ks r h l g a b c d = omega arith

-- more settings than make no node, and no more than that
byte_is : (b : Bool) → bool_byte b ≡ cond b 1 0
byte_is true = refl
byte_is false = refl

pub whole_enough : (level size z : ℕ) → z ≡ bool_byte (ltb level 8) → z < size → cond (ltb level 8) 1 0 < size
whole_enough level size z e l = omega (arith, e, byte_is (ltb level 8), l)

pub not_enough : (level size z : ℕ) → z ≡ bool_byte (ltb level 8) → size ≤ z → size ≤ cond (ltb level 8) 1 0
not_enough level size z e l = omega (arith, e, byte_is (ltb level 8), l)

-- the settings at one digit are led by one digit more
module _ (K : KeyKind) (p : List ℕ) (g : ℕ) where
  led_one : (k : List ℕ) → Led K p k → eqb (digit (K.hash k) (length p)) g ≡ true → Led K (p ++ (g ∷ [])) k
  led_one k l e = leads_push K 0 p g k ∙ and_from (leads K 0 p k) (eqb (digit (K.hash k) (0 + length p)) g) l (ap (λ (d : ℕ). eqb (digit (K.hash k) d) g) (let z : 0 + length p ≡ length p = omega arith in z) ∙ e)

  pub led_at : (m : Map) → AllByRecursion (λ s. Led K p s.key) m → AllByRecursion (λ s. Led K (p ++ (g ∷ [])) s.key) (at_digit K (length p) m g)
  led_at [] a = tt
  led_at (s ∷ m) a = go (eqb (digit (K.hash s.key) (length p)) g) refl (led_at m a.1)
    where
      go : (b : Bool) → eqb (digit (K.hash s.key) (length p)) g ≡ b → AllByRecursion (λ s. Led K (p ++ (g ∷ [])) s.key) (at_digit K (length p) m g) → AllByRecursion (λ s. Led K (p ++ (g ∷ [])) s.key) (cond b (s ∷ at_digit K (length p) m g) (at_digit K (length p) m g))
      go true e r = (led_one s.key a.0 e, r)
      go false e r = r

few_roots : (r l : ℕ) → r + 16 * l + 16 ≤ 65535 → r ≤ 65535
few_roots r l a = omega arith

module _ {X Y : Type 0} (K : KeyKind) (V : ValueKind) (kb : X → List ℕ) (vb : Y → List ℕ) (T : Tables X Y) (ours base theirs : Branch) where
  -- ---- a part that a source has

  module _ (level : ℕ) (q : MayMerge K V kb vb T ours base theirs level) where
    abbrev M : Met K V kb vb T ours base theirs level
    M = q.met

    abbrev m : Map
    m = merged K V kb vb T ours base theirs level M

    abbrev sources : List Part
    sources = M.mine ∷ (M.other ∷ [])

    abbrev shares : Shared
    shares = portion K q.call level M.prefix sources m

    pub ours_stays : Stays K kb vb T ours
    ours_stays = record {
      notes = M.notes;
      roots = M.roots;
      in_hand = M.in_hand;
      level = level;
      prefix = M.prefix;
      part = M.mine;
      sits = M.sits;
      is = M.ours_is;
      few = few_roots (length M.roots) level q.few_roots;
      few_entries = few_roots (length M.in_hand) level q.few_in_hand;
    }

    pub theirs_stays : Stays K kb vb T theirs
    theirs_stays = record {
      notes = M.notes;
      roots = M.roots;
      in_hand = M.in_hand;
      level = level;
      prefix = M.prefix;
      part = M.other;
      sits = M.sits;
      is = M.theirs_is;
      few = few_roots (length M.roots) level q.few_roots;
      few_entries = few_roots (length M.in_hand) level q.few_in_hand;
    }

    pub ours_kept : m ≡ M.mine.settings → (U : Tables X Y) → Kept K kb vb T ours U → Built K kb vb q.call level M.prefix m shares T M.notes M.roots M.in_hand ours U
    ours_kept e U done =
        let s = portion_kept K kb vb q.call level M.prefix (M.other ∷ []) T M.notes M.roots M.in_hand ours M.mine M.sits M.ours_is in
        subst (λ (w : Map). Built K kb vb q.call level M.prefix w (portion K q.call level M.prefix sources w) T M.notes M.roots M.in_hand ours U) (sym e)
        (done.built q.call level M.prefix M.notes M.roots M.in_hand M.mine M.mine.settings (portion K q.call level M.prefix sources M.mine.settings) M.sits M.ours_is s.0 s.1.0 s.1.1)

    -- theirs as a whole, where it is a node or nothing at all
    whole_theirs : same_map M.mine.settings M.other.settings ≡ false → bushy level M.other.settings ≡ true → portion K q.call level M.prefix sources M.other.settings ≡ record { nodes = M.other.nodes; entries = M.other.entries; new_nodes = 0; new_entries = 0 }
    whole_theirs apart bush = portion_bushy K q.call level M.prefix sources M.other.settings bush ∙ share_first K q.call M.prefix sources M.other.settings level M.other
        (cond-false (same_map M.mine.settings M.other.settings) (Some M.mine) _ apart ∙ cond-true (same_map M.other.settings M.other.settings) (Some M.other) None (same_map_self M.other.settings))

    pub theirs_kept : m ≡ M.other.settings → same_map M.mine.settings m ≡ false → bushy level m ≡ true → (U : Tables X Y) → Kept K kb vb T theirs U → Built K kb vb q.call level M.prefix m shares T M.notes M.roots M.in_hand theirs U
    theirs_kept e apart bush U done =
        let s = whole_theirs (ap (same_map M.mine.settings) (sym e) ∙ apart) (ap (bushy level) (sym e) ∙ bush) in
        subst (λ (w : Map). Built K kb vb q.call level M.prefix w (portion K q.call level M.prefix sources w) T M.notes M.roots M.in_hand theirs U) (sym e)
        (done.built q.call level M.prefix M.notes M.roots M.in_hand M.other M.other.settings (portion K q.call level M.prefix sources M.other.settings) M.sits M.theirs_is
        (ap (part_of M.other.settings) s) (ap (λ (x : Shared). x.new_nodes) s) (ap (λ (x : Shared). x.new_entries) s))

    -- ---- what the estimate says

    module _ (c : Estimate) (E : MergeEstimated K V kb vb T ours base theirs level c) where
      told : Told K q.call level M.prefix M.mine M.other m (tally c)
      told = E.told M q.call

      pub estimate_ours : c.ours ≡ true → m ≡ M.mine.settings
      estimate_ours e = sym (same_map_true M.mine.settings m (sym told.ours ∙ e))

      pub estimate_theirs : c.theirs ≡ true → m ≡ M.other.settings
      estimate_theirs e = sym (same_map_true M.other.settings m (sym told.theirs ∙ e))

      pub not_ours : c.ours ≡ false → same_map M.mine.settings m ≡ false
      not_ours e = sym told.ours ∙ e

      pub is_bushy : ltb (cond (ltb level 8) 1 0) c.size ≡ bushy level m
      is_bushy = ap (ltb (cond (ltb level 8) 1 0)) told.size ∙ capped_test (ltb level 8) (length m)

      pub no_source : c.ours ≡ false → (c.theirs ≡ true → bushy level m ≡ false) → bushy level m ≡ true → first_same sources m ≡ None
      no_source e f b = cond-false (same_map M.mine.settings m) (Some M.mine) _ (not_ours e) ∙ cond-false (same_map M.other.settings m) (Some M.other) None (go (c.theirs) refl)
        where
          go : (t : Bool) → c.theirs ≡ t → same_map M.other.settings m ≡ false
          go true z = absurd (false≢true (sym (f z) ∙ b))
          go false z = sym told.theirs ∙ z

  -- ---- whatever the parts are

  pub done_ours : (level : ℕ) (c : Estimate) → MergeEstimated K V kb vb T ours base theirs level c → c.ours ≡ true → (U : Tables X Y) → Kept K kb vb T ours U → MergeDone K V kb vb T ours base theirs level ours U
  done_ours level c E e U done = record { built = λ q. ours_kept level q (estimate_ours level q c E e) U done }

  pub done_theirs : (level : ℕ) (c : Estimate) → MergeEstimated K V kb vb T ours base theirs level c → c.ours ≡ false → c.theirs ≡ true → cond (ltb level 8) 1 0 < c.size → (U : Tables X Y) → Kept K kb vb T theirs U → MergeDone K V kb vb T ours base theirs level theirs U
  done_theirs level c E e f g U done = record {
    built = λ q. theirs_kept level q (estimate_theirs level q c E f) (not_ours level q c E e) (sym (is_bushy level q c E) ∙ lt-ltb (cond (ltb level 8) 1 0) c.size g) U done;
  }

  -- ---- digit after digit

  module _ (h : ℕ) (q : MayMerge K V kb vb T ours base theirs (suc h)) where
    abbrev Q : Met K V kb vb T ours base theirs (suc h)
    Q = q.met

    abbrev n : ℕ
    n = q.call

    abbrev p : List ℕ
    p = Q.prefix

    abbrev result : Map
    result = merged K V kb vb T ours base theirs (suc h) Q

    abbrev two : List Part
    two = Q.mine ∷ (Q.other ∷ [])

    low : h < 8
    low = omega (arith, Q.deep)

    -- the digits before one are in hand
    pub record Midst (g : ℕ) (hand : NodeCell) (U : Tables X Y) : Type 0 where
      pub turned : Turned K kb vb n h p two result T Q.notes Q.roots Q.in_hand g hand U

    pub midst_none : (hand : NodeCell) → hand ≡ nothing_in_hand → Midst 0 hand T
    midst_none hand e = record { turned = subst (λ (c : NodeCell). Turned K kb vb n h p two result T Q.notes Q.roots Q.in_hand 0 c T) (sym e) (turned_none K kb vb n h p two result T Q.notes Q.roots Q.in_hand Q.deep Q.sits) }

    module _ (g : ℕ) (small : g < 16) (hand : NodeCell) (U : Tables X Y) (I : Midst g hand U) where
      abbrev N : Notes
      N = I.turned.gathered.notes

      abbrev R : List ℕ
      R = I.turned.ks ++ Q.roots

      abbrev E : List ℕ
      E = I.turned.xs ++ Q.in_hand

      -- what was a part is one still
      pub still : (b : Branch) (a : Part) → Is T Q.notes b (suc h) p a → Is U N b (suc h) p a
      still b a is = is_grown n _ _ T U Q.notes N I.turned.gathered.grown b (suc h) p a is

      some : (b : Branch) (a : Part) → Is T Q.notes b (suc h) p a → SomePart K kb vb U b (suc h)
      some b a is = record { notes = N; roots = R; in_hand = E; sits = I.turned.gathered.sits; prefix = p; part = a; deep = Q.deep; is = still b a is }

      pub ours_part : SomePart K kb vb U ours (suc h)
      ours_part = some ours Q.mine Q.ours_is

      pub base_part : SomePart K kb vb U base (suc h)
      base_part = some base Q.common Q.base_is

      pub theirs_part : SomePart K kb vb U theirs (suc h)
      theirs_part = some theirs Q.other Q.theirs_is

      pub midst_bits : (hand.datamap < 2 ^ g) × (hand.nodemap < 2 ^ g)
      midst_bits = bits_left K kb vb n h p two result T Q.notes Q.roots Q.in_hand Q.deep g hand U I.turned small

      pub goes : (b c : Branch) (a : Part) → Is T Q.notes b (suc h) p a → GoesOn K kb vb U b (suc h) g c → Is U N c h (p ++ (g ∷ [])) (below K p g a)
      goes b c a is on = subst (λ (l : ℕ). Is U N c l (p ++ (g ∷ [])) (below K p g a)) (let z : suc h - 1 ≡ h = omega arith in z) (on.on N R E I.turned.gathered.sits p a Q.deep (omega arith) (still b a is))

      pub calm_at : (m : Map) → crowd K (suc h) (length p) m ≡ false → crowd K h (length (p ++ (g ∷ []))) (at_digit K (length p) m g) ≡ false
      calm_at m e = ap (λ (d : ℕ). crowd K h d (at_digit K (length p) m g)) (let z : length (p ++ (g ∷ [])) ≡ suc (length p) = omega (arith, length_push p g) in z) ∙ crowd_at K h (length p) m g e small

      pub few_at : (m : Map) → length m ≤ 65535 → length (at_digit K (length p) m g) ≤ 65535
      few_at m e = omega (arith, e, length_filter (λ (s : Setting). eqb (digit (K.hash s.key) (length p)) g) m)

      pub at_is : at_digit K (length p) result g ≡ merge K V (at_digit K (length p) Q.mine.settings g) (at_digit K (length p) Q.common.settings g) (at_digit K (length p) Q.other.settings g)
      at_is = at_merge K V (length p) g Q.mine.settings Q.common.settings Q.other.settings Q.sound Q.other_sound

      module _ (c d e : Branch) (on : GoesOn K kb vb U ours (suc h) g c) (on_base : GoesOn K kb vb U base (suc h) g d) (on_theirs : GoesOn K kb vb U theirs (suc h) g e) where
        abbrev met_below : Met K V kb vb U c d e h
        met_below = record {
          prefix = p ++ (g ∷ []);
          mine = below K p g Q.mine;
          common = below K p g Q.common;
          other = below K p g Q.other;
          notes = N;
          roots = R;
          in_hand = E;
          sits = I.turned.gathered.sits;
          ours_is = goes ours c Q.mine Q.ours_is on;
          base_is = goes base d Q.common Q.base_is on_base;
          theirs_is = goes theirs e Q.other Q.theirs_is on_theirs;
          deep = omega (arith, length_push p g, Q.deep);
          sound = sound_at K V (length p) g Q.mine.settings Q.sound;
          common_sound = sound_at K V (length p) g Q.common.settings Q.common_sound;
          other_sound = sound_at K V (length p) g Q.other.settings Q.other_sound;
          calm = calm_at Q.mine.settings Q.calm;
          common_calm = calm_at Q.common.settings Q.common_calm;
          other_calm = calm_at Q.other.settings Q.other_calm;
          few = few_at Q.mine.settings Q.few;
          common_few = few_at Q.common.settings Q.common_few;
          other_few = few_at Q.other.settings Q.other_few;
        }

        abbrev shares_at : Map → Shared
        shares_at w = portion K n h (p ++ (g ∷ [])) (below K p g Q.mine ∷ (below K p g Q.other ∷ [])) w

        unfoldable pub may_below : MayMerge K V kb vb U c d e h
        may_below = record {
          met = met_below;
          call = n;
          clear = gathered_clear K kb vb n h p two result T Q.notes Q.roots Q.in_hand Q.deep g I.turned.xs I.turned.ks U I.turned.gathered q.clear;
          result_calm = ap (crowd K h (length (p ++ (g ∷ [])))) (sym at_is) ∙ calm_at result q.result_calm;
          led = subst (AllByRecursion (λ s. Led K (p ++ (g ∷ [])) s.key)) at_is (led_at K p g result q.led);
          room = subst (λ (w : Map). (shares_at w).new_nodes ≤ U.spare) at_is (node_room K kb vb n h p two result T Q.notes Q.roots Q.in_hand Q.deep g hand U I.turned small q.room);
          entry_room = subst (λ (w : Map). (shares_at w).new_entries ≤ U.entry_spare) at_is (entry_room K kb vb n h p two result T Q.notes Q.roots Q.in_hand Q.deep g hand U I.turned small q.entry_room);
          few_roots = subst (λ (y : ℕ). y + 16 * h + 16 ≤ 65535) (sym (length-append I.turned.ks Q.roots))
              (few_left (length I.turned.ks) (length Q.roots) h (suc h) g (in_hand_few K kb vb n h p two result T Q.notes Q.roots Q.in_hand Q.deep g hand U I.turned small).0 small (omega arith) q.few_roots);
          few_in_hand = subst (λ (y : ℕ). y + 16 * h + 16 ≤ 65535) (sym (length-append I.turned.xs Q.in_hand))
              (few_left (length I.turned.xs) (length Q.in_hand) h (suc h) g (in_hand_few K kb vb n h p two result T Q.notes Q.roots Q.in_hand Q.deep g hand U I.turned small).1 small (omega arith) q.few_in_hand);
        }

        pub midst_more : (r : Branch) (W : Tables X Y) → MergeDone K V kb vb U c d e h r W → Midst (g + 1) (with_branch hand g r) W
        unfolding may_below
        midst_more r W done = record {
          turned = turned_more K kb vb n h p two result T Q.notes Q.roots Q.in_hand Q.deep g hand U I.turned small r W
              (subst (λ (w : Map). Built K kb vb n h (p ++ (g ∷ [])) w (shares_at w) U N R E r W) (sym at_is) (done.built may_below));
        }

    -- ---- all sixteen

    module _ (hand : NodeCell) (U : Tables X Y) (I : Midst 16 hand U) (differs : bushy (suc h) result ≡ true → first_same two result ≡ None) where
      pub midst_ready : Assembling hand (suc h) U.nodes U.free U.spare
      midst_ready = turned_assembles K kb vb n h p two result T Q.notes Q.roots Q.in_hand Q.deep hand U I.turned differs q.room

      pub midst_built : (r : Branch) (W : Tables X Y) → EntriesStay U W → Assembled hand (suc h) r U.nodes U.free U.spare W.nodes W.free W.spare
          → Built K kb vb n (suc h) p result (portion K n (suc h) p two result) T Q.notes Q.roots Q.in_hand r W
      midst_built r W stay done = turned_assembled K kb vb n h p two result T Q.notes Q.roots Q.in_hand Q.deep hand U I.turned differs q.clear r W stay done

  -- ---- at whatever level

  pub record Underway (level g : ℕ) (hand : NodeCell) (U : Tables X Y) : Type 0 where
    pub so_far : (h : ℕ) → level ≡ suc h → (q : MayMerge K V kb vb T ours base theirs (suc h)) → Midst h q g hand U

  pub under_begun : (level : ℕ) (hand : NodeCell) → hand ≡ nothing_in_hand → Underway level 0 hand T
  under_begun level hand e = record { so_far = λ h f q. midst_none h q hand e }

  module _ (level : ℕ) (tall : 0 < level) where
    abbrev less : ℕ
    less = level - 1

    up : level ≡ suc less
    up = omega arith

    raised : MayMerge K V kb vb T ours base theirs level → MayMerge K V kb vb T ours base theirs (suc less)
    raised q = subst (MayMerge K V kb vb T ours base theirs) up q

    module _ (g : ℕ) (small : g < 16) (hand : NodeCell) (U : Tables X Y) (I : Underway level g hand U) where
      abbrev Level : Branch → Type 0
      Level b = SomePart K kb vb U b level

      pub some_ours : MayMerge K V kb vb T ours base theirs level → Level ours
      some_ours q = let r = raised q in subst (SomePart K kb vb U ours) (sym up) (ours_part less r g small hand U (I.so_far less up r))

      pub some_base : MayMerge K V kb vb T ours base theirs level → Level base
      some_base q = let r = raised q in subst (SomePart K kb vb U base) (sym up) (base_part less r g small hand U (I.so_far less up r))

      pub some_theirs : MayMerge K V kb vb T ours base theirs level → Level theirs
      some_theirs q = let r = raised q in subst (SomePart K kb vb U theirs) (sym up) (theirs_part less r g small hand U (I.so_far less up r))

      pub under_bits : MayMerge K V kb vb T ours base theirs level → (hand.datamap < 2 ^ g) × (hand.nodemap < 2 ^ g)
      under_bits q = let r = raised q in midst_bits less r g small hand U (I.so_far less up r)

      module _ (c d e : Branch) (on : GoesOn K kb vb U ours level g c) (on_base : GoesOn K kb vb U base level g d) (on_theirs : GoesOn K kb vb U theirs level g e) where
        lifted : (b x : Branch) (h : ℕ) → level ≡ suc h → GoesOn K kb vb U b level g x → GoesOn K kb vb U b (suc h) g x
        lifted b x h f = subst (λ (l : ℕ). GoesOn K kb vb U b l g x) f

        pub under_may : MayMerge K V kb vb T ours base theirs level → MayMerge K V kb vb U c d e less
        under_may q =
            let r = raised q in
            may_below less r g small hand U (I.so_far less up r) c d e (lifted ours c less up on) (lifted base d less up on_base) (lifted theirs e less up on_theirs)

        pub under_more : (r : Branch) (W : Tables X Y) → MergeDone K V kb vb U c d e less r W → (next : NodeCell) → next ≡ with_branch hand g r → Underway level (g + 1) next W
        under_more r W done next same = record {
          so_far = λ h f q.
              let done' = subst (λ (l : ℕ). MergeDone K V kb vb U c d e l r W) (let z : less ≡ h = omega (arith, f) in z) done in
              subst (λ (x : NodeCell). Midst h q (g + 1) x W) (sym same)
              (midst_more h q g small hand U (I.so_far h f q) c d e (lifted ours c h f on) (lifted base d h f on_base) (lifted theirs e h f on_theirs) r W done');
        }

    module _ (g : ℕ) (all : g ≡ 16) (hand : NodeCell) (U : Tables X Y) (I : Underway level g hand U) (c : Estimate) (E : MergeEstimated K V kb vb T ours base theirs level c) (away : c.ours ≡ false) (apart : c.theirs ≡ true → c.size ≤ cond (ltb level 8) 1 0) where
      at_end : (h : ℕ) → level ≡ suc h → (q : MayMerge K V kb vb T ours base theirs (suc h)) → Midst h q 16 hand U
      at_end h f q = subst (λ (i : ℕ). Midst h q i hand U) all (I.so_far h f q)

      -- where theirs has the part, it is no node
      no_node : (q : MayMerge K V kb vb T ours base theirs level) → c.theirs ≡ true → bushy level (merged K V kb vb T ours base theirs level q.met) ≡ false
      no_node q t = sym (is_bushy level q c E) ∙ le-ltb (cond (ltb level 8) 1 0) c.size (apart t)

      differs : (h : ℕ) (f : level ≡ suc h) (q : MayMerge K V kb vb T ours base theirs (suc h)) → bushy (suc h) (merged K V kb vb T ours base theirs (suc h) q.met) ≡ true → first_same (q.met.mine ∷ (q.met.other ∷ [])) (merged K V kb vb T ours base theirs (suc h) q.met) ≡ None
      differs h f q = no_source (suc h) q c (subst (λ (l : ℕ). MergeEstimated K V kb vb T ours base theirs l c) f E) away
          (λ t. sym (is_bushy (suc h) q c (subst (λ (l : ℕ). MergeEstimated K V kb vb T ours base theirs l c) f E)) ∙ le-ltb (cond (ltb (suc h) 8) 1 0) c.size (subst (λ (l : ℕ). c.size ≤ cond (ltb l 8) 1 0) f (apart t)))

      pub under_ready : MayMerge K V kb vb T ours base theirs level → Assembling hand level U.nodes U.free U.spare
      under_ready q = let r = raised q in subst (λ (l : ℕ). Assembling hand l U.nodes U.free U.spare) (sym up) (midst_ready less r hand U (at_end less up r) (differs less up r))

      pub under_done : (r : Branch) (W : Tables X Y) → EntriesStay U W → Assembled hand level r U.nodes U.free U.spare W.nodes W.free W.spare → MergeDone K V kb vb T ours base theirs level r W
      under_done r W stay done = subst (λ (l : ℕ). MergeDone K V kb vb T ours base theirs l r W) (sym up) (record {
        built = λ q. midst_built less q hand U (at_end less up q) (differs less up q) r W stay (subst (λ (l : ℕ). Assembled hand l r U.nodes U.free U.spare W.nodes W.free W.spare) up done);
      })

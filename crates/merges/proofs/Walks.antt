-- The row of a merge, chosen key by key. Assumes nothing.
use Rattle.std.proofs.Common.{◌≡◌, ℕ, ◌+◌, ◌<◌, ◌≤◌, Bool, true, false, cond, ◌&&◌, List, [], ◌∷◌, ◌++◌, map, length, get_or, drop, is_some, Some, None, IfSome, All, Option, sym, refl, ap, ap₂, ◌∙◌, subst, append_assoc, arith}
use Rattle.std.specs.List.{AllByRecursion, count_by}
use Rattle.std.proofs.Math.Bool.{and_assoc}
use Rattle.std.proofs.lemmas.Bool.{both_ways, cond-false}
use Rattle.std.proofs.lemmas.List.{map-append, length-map}
use Rattle.std.proofs.lemmas.List.Elements.{All-drop}
use Rattle.std.proofs.lemmas.List.Sums.{sum_by-append}
use Rattle.byte_rows.specs.Rows.{same}
use Rattle.byte_rows.proofs.Orders.{same_tells}
use Rattle.kinds.specs.Kinds.{KeyKind, ValueKind}
use Rattle.model.specs.Maps.{Setting, Map, look, same_found, same_map, decided, merge, Rises, Sound}
use Rattle.model.proofs.Maps.Found.{found_self}
use Rattle.model.proofs.Maps.Order.{Ahead}
use Rattle.model.proofs.Marks.Members.{all_join}
use Rattle.tables.specs.declared.cells.EntryCell.{EntryCell}
use Rattle.tables.specs.declared.cells.EntryId.{EntryId}
use Rattle.tables.specs.Chains.{occ}
use Rattle.tables.proofs.Occurrences.{occ_head, occ_later}
use Rattle.branches.specs.Branches.{SomeEntry}
use Rattle.branches.proofs.Settings.{lone}
use Rattle.edits.specs.Rowing.{setting_at, row_settings, value_held, Split}
use Rattle.edits.proofs.Places.{setting_in}
use Rattle.edits.proofs.RowParts.{found_at, look_place}
use Rattle.merges.specs.declared.choices.Choice.{Choice}
use Rattle.merges.specs.declared.choices.Choice.TheVariants.{Ours, Theirs, Joined}
use Rattle.merges.specs.declared.choices.Decision.{Decision}
use Rattle.merges.specs.declared.chosen.Chosen.{Chosen}
use Rattle.merges.specs.Choices.{is_new, Sourced, chosen, chosen_value, Decided}
use Rattle.merges.specs.Rowing.{choices_of, choices, nothing_chosen, And, ids_of, taken, Comes, HeadIs, Apt, Ordered, merged_rows}
use Rattle.merges.proofs.Firsts.{ahead_merge, sound_rest, look_first, look_there, merge_first, same_first}

all_later : (P : ℕ → Type 0) (Q : ℕ → Type 0) (xs : List ℕ) → ((e : ℕ) → P e → Q e) → AllByRecursion P xs → AllByRecursion Q xs
all_later P Q [] f a = tt
all_later P Q (x ∷ xs) f a = (f x a.0, all_later P Q xs f a.1)

-- each number of a row is in it
all_occ : (xs : List ℕ) → AllByRecursion (λ e. 0 < occ e xs) xs
all_occ [] = tt
all_occ (x ∷ xs) = (occ_head x xs, all_later (λ e. 0 < occ e xs) (λ e. 0 < occ e (x ∷ xs)) xs (λ e h. occ_later e x xs h) (all_occ xs))

all_same : (P : Setting → Type 0) (m : Map) → ((s : Setting) → P s) → AllByRecursion P m
all_same P [] f = tt
all_same P (s ∷ m) f = (f s, all_same P m f)

at_most_one : (w : Option Choice) → length (choices_of w) ≤ 1
at_most_one (Some x) = omega arith
at_most_one None = omega arith

module _ {X Y : Type 0} (K : KeyKind) (V : ValueKind) (kb : X → List ℕ) (vb : Y → List ℕ) (es : List (EntryCell X Y)) where
  -- ---- the base's entry of a key

  pub base_found :
      (ys k before : List ℕ) (own : Option EntryId) (after : List ℕ) → (F : Split K kb vb es ys k before own after) → Rises K (row_settings kb vb es ys)
      → look (row_settings kb vb es ys) k ≡ value_held kb vb es own
  base_found ys k before own after F up =
      look_place K V (row_settings kb vb es ys) k F.at (is_some own) (F.placed up) ∙ go own F.own_is (F.placed up).inside
    where
      go : (o : Option EntryId) → IfSome o (λ id. id.0 ≡ get_or ys F.at 0) → F.at + cond (is_some o) 1 0 ≤ length (row_settings kb vb es ys)
          → found_at (row_settings kb vb es ys) F.at (is_some o) ≡ value_held kb vb es o
      go None w h = refl
      go (Some id) w h =
          ap (λ (s : Setting). Some s.value) (setting_in kb vb es ys F.at (omega (arith, length-map ys (setting_at kb vb es))) ∙ ap (setting_at kb vb es) (sym w))

  -- ---- what comes first in a row

  module _ (o k : List ℕ) (own : Option EntryId) (C : Comes K kb vb es o k own) where
    comes_split : row_settings kb vb es o ≡ lone k (value_held kb vb es own) ++ row_settings kb vb es (drop (taken own) o)
    comes_split = go own C.row C.key_is
      where
        go : (w : Option EntryId) → o ≡ ids_of w ++ drop (taken w) o → IfSome w (λ id. (setting_at kb vb es id.0).key ≡ k)
            → row_settings kb vb es o ≡ lone k (value_held kb vb es w) ++ row_settings kb vb es (drop (taken w) o)
        go (Some e) r i = ap (row_settings kb vb es) r ∙ (λ t. record { key = i t; value = (setting_at kb vb es e.0).value } ∷ row_settings kb vb es (drop 1 o))
        go None r i = ap (row_settings kb vb es) r

    comes_long : length o ≡ taken own + length (drop (taken own) o)
    comes_long = go own C.row
      where
        go : (w : Option EntryId) → o ≡ ids_of w ++ drop (taken w) o → length o ≡ taken w + length (drop (taken w) o)
        go (Some e) r = omega (arith, ap length r)
        go None r = omega (arith, ap length r)

    comes_key : (e : EntryId) → own ≡ Some e → (setting_at kb vb es e.0).key ≡ k
    comes_key e s = subst (λ (w : Option EntryId). IfSome w (λ id. (setting_at kb vb es id.0).key ≡ k)) s C.key_is

    comes_all : (P : ℕ → Type 0) → AllByRecursion P o → (e : EntryId) → own ≡ Some e → P e.0
    comes_all P all e s = (subst (λ (w : Option EntryId). AllByRecursion P (ids_of w ++ drop (taken w) o)) s (subst (AllByRecursion P) C.row all)).0

    comes_rest : (P : ℕ → Type 0) → AllByRecursion P o → AllByRecursion P (drop (taken own) o)
    comes_rest P all = go own (subst (AllByRecursion P) C.row all)
      where
        go : (w : Option EntryId) → AllByRecursion P (ids_of w ++ drop (taken w) o) → AllByRecursion P (drop (taken w) o)
        go (Some e) a = a.1
        go None a = a

  -- ---- so far

  module _ (xs ys zs : List ℕ) where
    abbrev mine : Map
    mine = row_settings kb vb es xs

    abbrev other : Map
    other = row_settings kb vb es zs

    -- a key that is left in the rows o and t has there what it has in all
    abbrev pub Left : List ℕ → List ℕ → Setting → Type 0
    Left o t s = (look (row_settings kb vb es xs) s.key ≡ look (row_settings kb vb es o) s.key) × (look (row_settings kb vb es zs) s.key ≡ look (row_settings kb vb es t) s.key)

    -- the rows o and t are left
    pub record Walked (o t : List ℕ) (c : Chosen) : Type 0 where
      pub some : All (SomeEntry K kb vb es) o
      pub other_some : All (SomeEntry K kb vb es) t
      pub among : AllByRecursion (λ e. 0 < occ e xs) o
      pub other_among : AllByRecursion (λ e. 0 < occ e zs) t
      pub long : length c.row ≡ 32
      pub few : c.count + (length o + length t) ≤ 32
      pub new_is : c.new ≡ count_by is_new (choices c)
      pub sound : Sound K V (row_settings kb vb es o)
      pub other_sound : Sound K V (row_settings kb vb es t)
      pub settings : merged_rows K kb vb es V xs ys zs ≡ map (chosen V kb vb es) (choices c) ++ merged_rows K kb vb es V o ys t
      pub ours_is : same_map (row_settings kb vb es xs) (merged_rows K kb vb es V xs ys zs) ≡ (c.ours && same_map (row_settings kb vb es o) (merged_rows K kb vb es V o ys t))
      pub theirs_is : same_map (row_settings kb vb es zs) (merged_rows K kb vb es V xs ys zs) ≡ (c.theirs && same_map (row_settings kb vb es t) (merged_rows K kb vb es V o ys t))
      pub apt : AllByRecursion (Apt K kb vb es V xs zs) (choices c)
      pub left : AllByRecursion (Left o t) (row_settings kb vb es o)
      pub other_left : AllByRecursion (Left o t) (row_settings kb vb es t)

    module _ (order : Ordered K kb vb es V xs ys zs) where
      pub walk_begins : All (SomeEntry K kb vb es) xs → All (SomeEntry K kb vb es) zs → length xs + length zs ≤ 32 → (c : Chosen) → c ≡ nothing_chosen → Walked xs zs c
      walk_begins f g few c e = subst (Walked xs zs) (sym e) record {
        some = f;
        other_some = g;
        among = all_occ xs;
        other_among = all_occ zs;
        long = refl;
        few = omega arith;
        new_is = refl;
        sound = order.mine;
        other_sound = order.other;
        settings = refl;
        ours_is = refl;
        theirs_is = refl;
        apt = tt;
        left = all_same (Left xs zs) mine (λ s. (refl, refl));
        other_left = all_same (Left xs zs) other (λ s. (refl, refl));
      }

      module _ (o t : List ℕ) (c : Chosen) (W : Walked o t c) (key : X) (a b : Option EntryId) (H : HeadIs K kb vb es o t key a b) where
        abbrev k : List ℕ
        k = kb key

        abbrev o' : List ℕ
        o' = drop (taken a) o

        abbrev t' : List ℕ
        t' = drop (taken b) t

        long : length o + length t ≡ (taken a + taken b) + (length (drop (taken a) o) + length (drop (taken b) t))
        long = omega (arith, comes_long o k a H.mine, comes_long t k b H.other)

        ahead : Ahead K k (row_settings kb vb es o')
        ahead = H.mine.ahead W.sound.rises

        other_ahead : Ahead K k (row_settings kb vb es t')
        other_ahead = H.other.ahead W.other_sound.rises

        mine_split : row_settings kb vb es o ≡ lone k (value_held kb vb es a) ++ row_settings kb vb es o'
        mine_split = comes_split o k a H.mine

        other_split : row_settings kb vb es t ≡ lone k (value_held kb vb es b) ++ row_settings kb vb es t'
        other_split = comes_split t k b H.other

        -- ---- what the key has in all

        whole : (look (row_settings kb vb es xs) k ≡ look (row_settings kb vb es o) k) × (look (row_settings kb vb es zs) k ≡ look (row_settings kb vb es t) k)
        whole = go a b mine_split other_split H.some
          where
            go : (v w : Option EntryId) → row_settings kb vb es o ≡ lone k (value_held kb vb es v) ++ row_settings kb vb es (drop (taken v) o)
                → row_settings kb vb es t ≡ lone k (value_held kb vb es w) ++ row_settings kb vb es (drop (taken w) t) → 1 ≤ taken v + taken w
                → (look (row_settings kb vb es xs) k ≡ look (row_settings kb vb es o) k) × (look (row_settings kb vb es zs) k ≡ look (row_settings kb vb es t) k)
            go (Some e) w i j l = (subst (AllByRecursion (Left o t)) i W.left).0
            go None (Some e) i j l = (subst (AllByRecursion (Left o t)) j W.other_left).0
            go None None i j l = absurd (omega arith)

        whole_ours : look (row_settings kb vb es xs) k ≡ value_held kb vb es a
        whole_ours = whole.0 ∙ ap (λ (m : Map). look m k) mine_split ∙ look_there K V k (value_held kb vb es a) (row_settings kb vb es o') ahead

        whole_theirs : look (row_settings kb vb es zs) k ≡ value_held kb vb es b
        whole_theirs = whole.1 ∙ ap (λ (m : Map). look m k) other_split ∙ look_there K V k (value_held kb vb es b) (row_settings kb vb es t') other_ahead

        -- ---- the key is decided

        module _ (reads : K.readable (kb key) ≡ true) (before : List ℕ) (own : Option EntryId) (after : List ℕ) (F : Split K kb vb es ys (kb key) before own after) (d : Decision) (D : Decided V kb vb es a own b d)
            (c' : Chosen) (A : And c d c') where
          abbrev becomes : Option (List ℕ)
          becomes = decided V (value_held kb vb es a) (value_held kb vb es own) (value_held kb vb es b)

          merge_split : merged_rows K kb vb es V o ys t ≡ lone k becomes ++ merged_rows K kb vb es V o' ys t'
          merge_split =
              ap₂ (λ (x y : Map). merge K V x (row_settings kb vb es ys) y) mine_split other_split
              ∙ merge_first K V k reads (value_held kb vb es a) (value_held kb vb es b) (row_settings kb vb es o') (row_settings kb vb es ys) (row_settings kb vb es t')
              (subst (Sound K V) mine_split W.sound) (subst (Sound K V) other_split W.other_sound) ahead other_ahead
              ∙ ap (λ (x : Option (List ℕ)). lone k (decided V (value_held kb vb es a) x (value_held kb vb es b)) ++ merged_rows K kb vb es V o' ys t')
              (base_found ys k before own after F order.common)

          merge_ahead : Ahead K k (merged_rows K kb vb es V o' ys t')
          merge_ahead = ahead_merge K V k (row_settings kb vb es o') (row_settings kb vb es ys) (row_settings kb vb es t') ahead other_ahead

          -- the new choice

          chosen_lone : (w : Option Choice) → Sourced a b d.ours d.theirs w → map (chosen V kb vb es) (choices_of w) ≡ lone k (chosen_value V kb vb es w)
          chosen_lone None s = refl
          chosen_lone (Some (Ours e)) s = λ i. record { key = comes_key o k a H.mine e s i; value = (setting_at kb vb es e.0).value } ∷ []
          chosen_lone (Some (Theirs e)) s = λ i. record { key = comes_key t k b H.other e s.0 i; value = (setting_at kb vb es e.0).value } ∷ []
          chosen_lone (Some (Joined e f)) s = λ i. record { key = comes_key o k a H.mine e s.0 i; value = V.join (setting_at kb vb es e.0).value (setting_at kb vb es f.0).value } ∷ []

          not_ours : (j v : List ℕ) → j ≡ k → d.ours ≡ false → Some v ≡ becomes → look (row_settings kb vb es xs) j ≡ Some v → ⊥
          not_ours j v e f i q =
              both_ways d.ours f
              (D.ours_has ∙ ap (λ (x : Option (List ℕ)). same_found x becomes) (sym whole_ours ∙ ap (look (row_settings kb vb es xs)) (sym e) ∙ q ∙ i) ∙ found_self becomes)

          not_theirs : (j v : List ℕ) → j ≡ k → d.theirs ≡ false → Some v ≡ becomes → look (row_settings kb vb es zs) j ≡ Some v → ⊥
          not_theirs j v e f i q =
              both_ways d.theirs f
              (D.theirs_has ∙ ap (λ (x : Option (List ℕ)). same_found x becomes) (sym whole_theirs ∙ ap (look (row_settings kb vb es zs)) (sym e) ∙ q ∙ i) ∙ found_self becomes)

          apt_of : (w : Option Choice) → Sourced a b d.ours d.theirs w → chosen_value V kb vb es w ≡ becomes → AllByRecursion (Apt K kb vb es V xs zs) (choices_of w)
          apt_of None s v = tt
          apt_of (Some (Ours e)) s v = (comes_all o k a H.mine (λ i. 0 < occ i xs) W.among e s, tt)
          apt_of (Some (Theirs e)) s v = ((comes_all t k b H.other (λ i. 0 < occ i zs) W.other_among e s.0, not_ours (setting_at kb vb es e.0).key (setting_at kb vb es e.0).value (comes_key t k b H.other e s.0) s.1 v), tt)
          apt_of (Some (Joined e f)) s v =
              let j = comes_key o k a H.mine e s.0 in
              let both : List ℕ = V.join (setting_at kb vb es e.0).value (setting_at kb vb es f.0).value in (
                (
                  comes_all o k a H.mine (λ i. 0 < occ i xs) W.among e s.0,
                  (
                    comes_all t k b H.other (λ i. 0 < occ i zs) W.other_among f s.1.0,
                    (not_ours (setting_at kb vb es e.0).key both j s.1.1.0 v, not_theirs (setting_at kb vb es e.0).key both j s.1.1.1 v),
                  ),
                ),
                tt,
              )

          -- what is left
          left_on : (m : Map) → AllByRecursion (Left o t) m → Ahead K k m → AllByRecursion (Left o' t') m
          left_on [] l h = tt
          left_on (s ∷ m) l h =
              let n : same s.key k ≡ false = grind (arith, same_tells, K.before_not_self, h.0) in
              let ours : look (row_settings kb vb es o) s.key ≡ look (row_settings kb vb es o') s.key =
              ap (λ (r : Map). look r s.key) mine_split ∙ look_first K V k (value_held kb vb es a) (row_settings kb vb es o') ahead s.key
              ∙ cond-false (same s.key k) (value_held kb vb es a) (look (row_settings kb vb es o') s.key) n in
              let theirs : look (row_settings kb vb es t) s.key ≡ look (row_settings kb vb es t') s.key =
              ap (λ (r : Map). look r s.key) other_split ∙ look_first K V k (value_held kb vb es b) (row_settings kb vb es t') other_ahead s.key
              ∙ cond-false (same s.key k) (value_held kb vb es b) (look (row_settings kb vb es t') s.key) n in
              ((l.0.0 ∙ ours, l.0.1 ∙ theirs), left_on m l.1 h.1)

          rest_of : (P : Setting → Type 0) (x : Option (List ℕ)) (m : Map) → AllByRecursion P (lone k x ++ m) → AllByRecursion P m
          rest_of P (Some v) m h = h.1
          rest_of P None m h = h

          next_settings : merged_rows K kb vb es V xs ys zs ≡ map (chosen V kb vb es) (choices c') ++ merged_rows K kb vb es V o' ys t'
          next_settings =
              W.settings
              ∙ ap (λ (m : Map). map (chosen V kb vb es) (choices c) ++ m) (merge_split ∙ ap (λ (m : Map). m ++ merged_rows K kb vb es V o' ys t') (ap (lone k) (sym D.value) ∙ sym (chosen_lone d.choice D.source)))
              ∙ sym (append_assoc (map (chosen V kb vb es) (choices c)) (map (chosen V kb vb es) (choices_of d.choice)) (merged_rows K kb vb es V o' ys t'))
              ∙ ap (λ (m : Map). m ++ merged_rows K kb vb es V o' ys t') (sym (map-append (chosen V kb vb es) (choices c) (choices_of d.choice)) ∙ ap (map (chosen V kb vb es)) (sym A.choices_are))

          next_same :
              (all part rest : Map) (x : Option (List ℕ)) (so_far has next : Bool) → same_map all (merged_rows K kb vb es V xs ys zs) ≡ (so_far && same_map part (merged_rows K kb vb es V o ys t))
              → part ≡ lone k x ++ rest → Ahead K k rest → has ≡ same_found x becomes → next ≡ (so_far && has)
              → same_map all (merged_rows K kb vb es V xs ys zs) ≡ (next && same_map rest (merged_rows K kb vb es V o' ys t'))
          next_same all part rest x so_far has next i split h j e =
              i ∙ ap (λ (y : Bool). so_far && y) (ap₂ same_map split merge_split ∙ same_first K V k x becomes rest (merged_rows K kb vb es V o' ys t') h merge_ahead ∙ ap (λ (y : Bool). y && same_map rest (merged_rows K kb vb es V o' ys t')) (sym j))
              ∙ sym (and_assoc so_far has (same_map rest (merged_rows K kb vb es V o' ys t'))) ∙ ap (λ (y : Bool). y && same_map rest (merged_rows K kb vb es V o' ys t')) (sym e)

          pub walk_on : (u v : List ℕ) → u ≡ drop (taken a) o → v ≡ drop (taken b) t → Walked u v c'
          walk_on u v i j =
              subst (λ (l : List ℕ). Walked u l c') (sym j) (subst (λ (l : List ℕ). Walked l t' c') (sym i) record {
                some = All-drop (SomeEntry K kb vb es) (taken a) o W.some;
                other_some = All-drop (SomeEntry K kb vb es) (taken b) t W.other_some;
                among = comes_rest o k a H.mine (λ i. 0 < occ i xs) W.among;
                other_among = comes_rest t k b H.other (λ i. 0 < occ i zs) W.other_among;
                long = A.long ∙ W.long;
                few = omega (arith, A.count_is, W.few, long, at_most_one d.choice, H.some);
                new_is =
                    A.new_is ∙ ap (λ (n : ℕ). n + count_by is_new (choices_of d.choice)) W.new_is
                    ∙ sym (sum_by-append (λ x. cond (is_new x) 1 0) (choices c) (choices_of d.choice)) ∙ ap (count_by is_new) (sym A.choices_are);
                sound = sound_rest K V k (value_held kb vb es a) (row_settings kb vb es o') (subst (Sound K V) mine_split W.sound);
                other_sound = sound_rest K V k (value_held kb vb es b) (row_settings kb vb es t') (subst (Sound K V) other_split W.other_sound);
                settings = next_settings;
                ours_is = next_same mine (row_settings kb vb es o) (row_settings kb vb es o') (value_held kb vb es a) c.ours d.ours c'.ours W.ours_is mine_split ahead D.ours_has A.ours_is;
                theirs_is = next_same other (row_settings kb vb es t) (row_settings kb vb es t') (value_held kb vb es b) c.theirs d.theirs c'.theirs W.theirs_is other_split other_ahead D.theirs_has A.theirs_is;
                apt = subst (AllByRecursion (Apt K kb vb es V xs zs)) (sym A.choices_are) (all_join (Apt K kb vb es V xs zs) (choices c) (choices_of d.choice) W.apt (apt_of d.choice D.source D.value));
                left = left_on (row_settings kb vb es o') (rest_of (Left o t) (value_held kb vb es a) (row_settings kb vb es o') (subst (AllByRecursion (Left o t)) mine_split W.left)) ahead;
                other_left = left_on (row_settings kb vb es t') (rest_of (Left o t) (value_held kb vb es b) (row_settings kb vb es t') (subst (AllByRecursion (Left o t)) other_split W.other_left)) other_ahead;
              })

-- What a node is read from is the node of what was read. Assumes nothing.
use Rattle.std.proofs.Common.{◌≡◌, ℕ, zero, suc, ◌+◌, ◌-◌, ◌*◌, ◌^◌, ◌<◌, ◌≤◌, Bool, true, false, cond, ◌&&◌, ◌||◌, eqb, ltb, leb, List, [], ◌∷◌, ◌++◌, length, take, drop, sym, refl, ap, ◌∙◌, subst, ap₂, inl, inr, arith}
use lib.Dec.{eqb-suc-suc}
use lib.Bits.{bit_and}
use Rattle.std.specs.List.{AllByRecursion}
use Rattle.std.proofs.lemmas.Bool.{eqb-true, eq-eqb, ne_eqb, ltb-true, and_parts, both_ways, lt-ltb, le-ltb, leb-true, or_cases}
use Rattle.std.proofs.lemmas.List.{append-nil, length-append, append_assoc, length-take-le, take-append-drop, length-drop}
use Rattle.byte_rows.specs.Rows.{byte_row, in_bytes, number}
use Rattle.kinds.specs.Kinds.{KeyKind, ValueKind}
use Rattle.byte_rows.proofs.Numbers.{number_fits, read_bytes}
use Rattle.model.specs.declared.commands.TheConstants.{COLLISION, NODE}
use Rattle.model.specs.Maps.{Setting, Map, Readable}
use Rattle.model.specs.Tries.{digit, sixteen, leads, at_digit, one, many, branching, Uncrowded}
use Rattle.model.specs.Images.{entry, node}
use Rattle.model.specs.Reading.{got, digits_in, then, each, read_entry, rising, enough, read_parts, read_crowd, read_node, gather}
use Rattle.model.proofs.Images.Lists.{flat, all_both, filter_like, Mem, all_to, all_mem, all_from_mem, all_join, filter_passes, filter_append, length_filter, filter_within, mem_filter, mem_of_filter, apart_filter, flat_like, total_like, falls, total_falls}
use Rattle.model.proofs.Images.Bits.{flag, bits_of, bits_of_flags, flags_apart, sixteen_apart, digit_in}
use Rattle.model.proofs.Images.Rising.{KeyReads, gather_rising, filter_gather}
use Rattle.model.proofs.Images.Order.{place, all_placed, singles, node_form, node_is}
use Rattle.model.proofs.Images.Gets.{leads_push}
use Rattle.model.proofs.Images.Round.{least}
use Rattle.model.proofs.Images.Readings.{passed, Split, then_split, command_ran, byte_row_parts, entry_read, rising_read}
use Rattle.model.proofs.Images.Each.{Spread, each_spread}

alone_list : (ws : List ℕ) → length ws ≡ 1 → ws ≡ number ws ∷ []
alone_list [] e = absurd (omega arith)
alone_list (b ∷ []) e = ap (λ n. n ∷ []) (omega arith)
alone_list (b ∷ (c ∷ ws)) e = absurd (omega arith)

unset : (n g : ℕ) → flag n g ≡ false → AllByRecursion (λ k. eqb g k ≡ false) (digits_in n)
unset n g e =
    all_to (λ k. flag n k ≡ true) (λ k. eqb g k ≡ false) (λ k t. ne_eqb g k (λ q. both_ways (flag n g) e (ap (flag n) q ∙ t))) (digits_in n) (filter_passes (flag n) sixteen)

enough_filled : (h : ℕ) (as' bs : List ℕ) (u v : ℕ) → enough h as' bs ≡ true → 1 * length as' ≤ u → 2 * length bs ≤ v → least (suc h) ≤ u + v
enough_filled h as' bs u v t k l = go (eqb h 7) (eqb-suc-suc h 7) t
  where
    go : (b : Bool) → eqb (suc h) 8 ≡ b → cond b (ltb 0 (length as' + length bs)) (ltb 0 (length bs) || ltb 1 (length as')) ≡ true → least (suc h) ≤ u + v
    go true z q = rw z (omega (arith, ltb-true 0 (length as' + length bs) q))
    go false z q = rw z (elim (or_cases (ltb 0 (length bs)) (ltb 1 (length as')) q) [
      | inl w ↦ omega (arith, ltb-true 0 (length bs) w)
      | inr w ↦ omega (arith, ltb-true 1 (length as') w)
    ])

module _ (K : KeyKind) (V : ValueKind) where
  -- settings of a part at a prefix, as they were read
  pub record WellRead (p : List ℕ) (xs : List Setting) : Type 0 where
    pub led : AllByRecursion (λ s. leads K 0 p s.key ≡ true) xs
    pub reads : AllByRecursion (Readable K V) xs
    pub once : length (gather K xs) ≡ length xs
    pub uncrowded : Uncrowded K (gather K xs)

  -- one entry at a digit
  single_read : (p : List ℕ) (at : ℕ) (bs : List ℕ) (xs : List Setting) (to : ℕ) (rest : List ℕ) → read_entry K V (leads K 0 p) at bs ≡ got xs to rest →
      (bs ≡ flat entry (gather K xs) ++ rest) × (WellRead p xs × (length xs ≡ 1))
  single_read p at bs xs to rest e =
      let r = entry_read K V (leads K 0 p) at bs xs to rest e in
      let s : Setting = r.setting in
      subst (λ l. (bs ≡ flat entry (gather K l) ++ rest) × (WellRead p l × (length l ≡ 1))) (sym r.alone) (
        r.spelt ∙ ap (λ l. l ++ rest) (sym (append-nil (entry s))),
        (
          record { led = (r.fits, tt); reads = (r.reads, tt); once = refl; uncrowded = λ x. omega (arith, length_filter (λ t. eqb (K.hash t.key) x) (s ∷ [])) },
          refl,
        ),
      )

  crowd_read : (p : List ℕ) (at : ℕ) (bs : List ℕ) (xs : List Setting) (to : ℕ) (rest : List ℕ) → read_node K V 0 p at bs ≡ got xs to rest →
      (bs ≡ node K 0 (gather K xs) ++ rest) × (WellRead p xs × (2 ≤ length xs))
  crowd_read p at bs xs to rest e =
      let r = command_ran COLLISION 1 (λ w. read_crowd K V p at (number w)) at bs xs to rest e in
      let n : ℕ = number r.operands in
      let t = passed (leb 2 n && leb n 16) (rising K V p n (λ k. true) (at + (1 + 1)) r.left) 9 at xs to rest r.next in
      let o = and_parts (leb 2 n) (leb n 16) t.0 in
      let q = rising_read K V p n (λ k. true) (at + (1 + 1)) r.left xs to rest t.1 in
      let same : gather K xs ≡ xs = gather_rising K xs q.rises in
      let spelt : bs ≡ node K 0 xs ++ rest =
      r.spelt ∙ (ap₂ (λ u v. COLLISION ∷ (u ++ v)) (alone_list r.operands r.wide) q.spelt ∙ ap (λ k. COLLISION ∷ (k ∷ (flat entry xs ++ rest))) (sym q.counted)) in (
        subst (λ m. bs ≡ node K 0 m ++ rest) (sym same) spelt,
        (
          record {
            led = q.led;
            reads = q.reads;
            once = ap length same;
            uncrowded = λ x. rw same (omega (arith, length_filter (λ s. eqb (K.hash s.key) x) xs, q.counted, leb-true n 16 o.1));
          },
          omega (arith, q.counted, leb-true 2 n o.0),
        ),
      )

  -- the place of a setting that a longer prefix leads to
  led_place : (p : List ℕ) (d g : ℕ) (xs : List Setting) → d ≡ length p → AllByRecursion (λ s. leads K 0 (p ++ (g ∷ [])) s.key ≡ true) xs →
      AllByRecursion (λ s. (leads K 0 p s.key ≡ true) × (place K d s ≡ g)) xs
  led_place p d g xs e a =
      all_to _ _ (λ s l.
      let q = and_parts (leads K 0 p s.key) _ (sym (leads_push K 0 p g s.key) ∙ l) in
      (q.0, ap (λ n. place K n s) (omega arith) ∙ eqb-true _ g q.1)) xs a

  -- what is known of settings at a prefix, of an entry at a digit, and of a child
  abbrev Stands : List ℕ → Setting → Type 0
  Stands p s = (leads K 0 p s.key ≡ true) × Readable K V s

  abbrev Entry : List ℕ → ℕ → List Setting → Type 0
  Entry p g l = WellRead (p ++ (g ∷ [])) l × (length l ≡ 1)

  abbrev Child : List ℕ → ℕ → List Setting → Type 0
  Child p g l = WellRead (p ++ (g ∷ [])) l × (2 ≤ length l)

  read_dig : (p : List ℕ) (d g : ℕ) (xs : List Setting) → d ≡ length p → WellRead (p ++ (g ∷ [])) xs → AllByRecursion (λ s. place K d s ≡ g) xs
  read_dig p d g xs e s = all_to _ _ (λ t l. l.1) xs (led_place p d g xs e s.led)

  read_all : (p : List ℕ) (d g : ℕ) (xs : List Setting) → d ≡ length p → WellRead (p ++ (g ∷ [])) xs → AllByRecursion (Stands p) xs
  read_all p d g xs e s = all_both _ (Readable K V) (Stands p) (λ t l r. (l.0, r)) xs (led_place p d g xs e s.led) s.reads

  module _ (h d : ℕ) (p : List ℕ) (x y : ℕ) (ys cs : List Setting) (left mid rest : List ℕ)
      (sy : Spread (place K d) (Stands p) (λ l. flat entry (gather K l)) (Entry p) 1 (digits_in x) ys left mid)
      (sc : Spread (place K d) (Stands p) (λ l. node K h (gather K l)) (Child p) 2 (digits_in y) cs mid rest)
      (apart : bit_and x y ≡ 0) where
    -- what falls to a digit
    abbrev part : ℕ → Map
    part g = at_digit K d (gather K (ys ++ cs)) g

    stands : AllByRecursion (Stands p) (ys ++ cs)
    stands = all_join (Stands p) ys cs sy.all sc.all

    part_is : (g : ℕ) → part g ≡ gather K (falls (place K d) (ys ++ cs) g)
    part_is g = filter_gather K (λ k. eqb (digit (K.hash k) d) g) (ys ++ cs) (all_to (Stands p) (KeyReads K) (λ s r. r.1.0) (ys ++ cs) stands)

    record Known (g : ℕ) : Type 0 where
      one_is : one (part g) ≡ flag x g
      many_is : many (part g) ≡ flag y g
      once : length (part g) ≡ length (falls (place K d) (ys ++ cs) g)
      thin : Uncrowded K (part g)
      as_entry : flag x g ≡ true → gather K (falls (place K d) ys g) ≡ part g
      as_child : flag y g ≡ true → gather K (falls (place K d) cs g) ≡ part g

    known : (g : ℕ) → Mem g sixteen → Known g
    known g m = go (flag x g) (flag y g) refl refl
      where
        both : falls (place K d) (ys ++ cs) g ≡ falls (place K d) ys g ++ falls (place K d) cs g
        both = filter_append (λ s. eqb (place K d s) g) ys cs

        go : (a b : Bool) → flag x g ≡ a → flag y g ≡ b → Known g
        go true true e f = absurd (both_ways (flag y g) (flags_apart x y g apart e) f)
        go true false e f =
            let q : Entry p g (falls (place K d) ys g) = all_mem (λ k. Entry p k (falls (place K d) ys k)) (digits_in x) g sy.holds (mem_filter (flag x) sixteen g m e) in
            let here : falls (place K d) (ys ++ cs) g ≡ falls (place K d) ys g = both ∙ (ap (λ l. falls (place K d) ys g ++ l) (sc.misses g (unset y g f)) ∙ append-nil _) in
            let is : part g ≡ gather K (falls (place K d) ys g) = part_is g ∙ ap (gather K) here in
            let long : length (part g) ≡ 1 = ap length is ∙ (q.0.once ∙ q.1) in
            record {
              one_is = eq-eqb (length (part g)) 1 long ∙ sym e;
              many_is = le-ltb 1 (length (part g)) (omega arith) ∙ sym f;
              once = long ∙ (sym q.1 ∙ ap length (sym here));
              thin = λ v. omega (arith, length_filter (λ s. eqb (K.hash s.key) v) (part g));
              as_entry = λ _. sym is;
              as_child = λ t. absurd (both_ways (flag y g) f t);
            }
        go false true e f =
            let q : Child p g (falls (place K d) cs g) = all_mem (λ k. Child p k (falls (place K d) cs k)) (digits_in y) g sc.holds (mem_filter (flag y) sixteen g m f) in
            let here : falls (place K d) (ys ++ cs) g ≡ falls (place K d) cs g = both ∙ ap (λ l. l ++ falls (place K d) cs g) (sy.misses g (unset x g e)) in
            let is : part g ≡ gather K (falls (place K d) cs g) = part_is g ∙ ap (gather K) here in
            let long : length (part g) ≡ length (falls (place K d) cs g) = ap length is ∙ q.0.once in
            let two : 2 ≤ length (falls (place K d) cs g) = q.1 in
            record {
              one_is = ne_eqb (length (part g)) 1 (omega arith) ∙ sym e;
              many_is = lt-ltb 1 (length (part g)) (omega arith) ∙ sym f;
              once = long ∙ ap length (sym here);
              thin = subst (Uncrowded K) (sym is) q.0.uncrowded;
              as_entry = λ t. absurd (both_ways (flag x g) e t);
              as_child = λ _. sym is;
            }
        go false false e f =
            let here : falls (place K d) (ys ++ cs) g ≡ [] = both ∙ ap₂ (λ u v. u ++ v) (sy.misses g (unset x g e)) (sc.misses g (unset y g f)) in
            let is : part g ≡ [] = part_is g ∙ ap (gather K) here in
            let long : length (part g) ≡ 0 = ap length is in
            record {
              one_is = ne_eqb (length (part g)) 1 (omega arith) ∙ sym e;
              many_is = le-ltb 1 (length (part g)) (omega arith) ∙ sym f;
              once = ap length is ∙ ap length (sym here);
              thin = λ v. omega (arith, length_filter (λ s. eqb (K.hash s.key) v) (part g));
              as_entry = λ t. absurd (both_ways (flag x g) e t);
              as_child = λ t. absurd (both_ways (flag y g) f t);
            }

    pub once_all : length (gather K (ys ++ cs)) ≡ length (ys ++ cs)
    once_all =
        sym (total_falls (place K d) (gather K (ys ++ cs)) sixteen sixteen_apart (all_placed K d (gather K (ys ++ cs))))
        ∙ (total_like _ _ sixteen (all_from_mem _ sixteen (λ g m. (known g m).once))
        ∙ total_falls (place K d) (ys ++ cs) sixteen sixteen_apart (all_placed K d (ys ++ cs)))

    pub thin_all : Uncrowded K (gather K (ys ++ cs))
    thin_all v =
        subst (λ l. length l ≤ 16)
        (filter_within (λ s. eqb (K.hash s.key) v) (λ s. eqb (place K d s) (digit v d)) (λ s e. eq-eqb _ _ (ap (λ n. digit n d) (eqb-true _ v e))) (gather K (ys ++ cs)))
        ((known (digit v d) (digit_in v d)).thin v)

    singles_is : singles K d (gather K (ys ++ cs)) ≡ digits_in x
    singles_is = filter_like _ (flag x) sixteen (all_from_mem _ sixteen (λ g m. (known g m).one_is))

    branching_is : branching K d (gather K (ys ++ cs)) ≡ digits_in y
    branching_is = filter_like _ (flag y) sixteen (all_from_mem _ sixteen (λ g m. (known g m).many_is))

    pub data_is : x < 256 ^ 2 → bits_of (λ g. one (part g)) sixteen ≡ x
    data_is l = bits_of_flags _ x (all_from_mem _ sixteen (λ g m. sym (known g m).one_is)) l

    pub nodes_is : y < 256 ^ 2 → bits_of (λ g. many (part g)) sixteen ≡ y
    nodes_is l = bits_of_flags _ y (all_from_mem _ sixteen (λ g m. sym (known g m).many_is)) l

    pub left_is : left ≡ flat (λ g. flat entry (part g)) (singles K d (gather K (ys ++ cs))) ++ (flat (λ g. node K h (part g)) (branching K d (gather K (ys ++ cs))) ++ rest)
    left_is =
        rw (singles_is, branching_is)
        (sy.spelt ∙ ap₂ (λ u v. u ++ v)
        (flat_like _ _ (digits_in x) (all_from_mem _ (digits_in x) (λ g m. ap (flat entry) ((known g (mem_of_filter (flag x) sixteen g m)).as_entry (all_mem _ (digits_in x) g (filter_passes (flag x) sixteen) m)))))
        (sc.spelt ∙ ap (λ l. l ++ rest) (flat_like _ _ (digits_in y) (all_from_mem _ (digits_in y) (λ g m. ap (node K h) ((known g (mem_of_filter (flag y) sixteen g m)).as_child (all_mem _ (digits_in y) g (filter_passes (flag y) sixteen) m)))))))

    -- the bytes that x and y and what is left spell are the node of what was read
    pub spelt_node : d ≡ 7 - h → x < 256 ^ 2 → y < 256 ^ 2 → NODE ∷ (in_bytes 2 x ++ (in_bytes 2 y ++ left)) ≡ node K (suc h) (gather K (ys ++ cs)) ++ rest
    spelt_node deep small_x small_y =
        ap₂ (λ a b. NODE ∷ (in_bytes 2 a ++ (in_bytes 2 b ++ left))) (sym (data_is small_x)) (sym (nodes_is small_y))
        ∙ (ap (λ l. NODE ∷ (in_bytes 2 (bits_of (λ g. one (part g)) sixteen) ++ (in_bytes 2 (bits_of (λ g. many (part g)) sixteen) ++ l)))
        (left_is ∙ sym (append_assoc (flat (λ g. flat entry (part g)) (singles K d (gather K (ys ++ cs)))) (flat (λ g. node K h (part g)) (branching K d (gather K (ys ++ cs)))) rest))
        ∙ (ap (λ k. node_form K h k (gather K (ys ++ cs)) ++ rest) deep
        ∙ ap (λ l. l ++ rest) (sym (node_is K h (gather K (ys ++ cs))))))

    pub spread_read : WellRead p (ys ++ cs)
    spread_read = record {
      led = all_to (Stands p) (λ s. leads K 0 p s.key ≡ true) (λ s k. k.0) (ys ++ cs) stands;
      reads = all_to (Stands p) (Readable K V) (λ s k. k.1) (ys ++ cs) stands;
      once = once_all;
      uncrowded = thin_all;
    }

    pub spread_filled : enough h (digits_in x) (digits_in y) ≡ true → least (suc h) ≤ length (ys ++ cs)
    spread_filled t = rw (length-append ys cs) (enough_filled h (digits_in x) (digits_in y) (length ys) (length cs) t sy.long sc.long)

  -- a reading at each prefix that gives what spells its bytes
  abbrev ReadsNodes : ℕ → Type 0
  ReadsNodes h = (p : List ℕ) (at : ℕ) (bs : List ℕ) (xs : List Setting) (to : ℕ) (rest : List ℕ) → length p + h ≡ 8 → byte_row bs ≡ true →
      read_node K V h p at bs ≡ got xs to rest → (bs ≡ node K h (gather K xs) ++ rest) × (WellRead p xs × (least h ≤ length xs))

  entries_spread : (p : List ℕ) (d x : ℕ) → d ≡ length p → (at : ℕ) (bs : List ℕ) (zs : List Setting) (to : ℕ) (rest : List ℕ) → byte_row bs ≡ true →
      each (λ g. read_entry K V (leads K 0 (p ++ (g ∷ [])))) (digits_in x) at bs ≡ got zs to rest →
      Spread (place K d) (Stands p) (λ l. flat entry (gather K l)) (Entry p) 1 (digits_in x) zs bs rest
  entries_spread p d x deep at bs zs to rest b e =
      each_spread (place K d) (Stands p) (λ l. flat entry (gather K l)) (Entry p) 1 (λ g. read_entry K V (leads K 0 (p ++ (g ∷ []))))
      (λ g a l ys z m _ q. single_read (p ++ (g ∷ [])) a l ys z m q)
      (λ g l q. read_dig p d g l deep q.0) (λ g l q. read_all p d g l deep q.0) (λ g l q. omega (arith, q.1))
      (digits_in x) (apart_filter (flag x) sixteen sixteen_apart) at bs zs to rest b e

  children_spread : (h : ℕ) → ReadsNodes h → (p : List ℕ) (d y : ℕ) → d ≡ length p → length p + suc h ≡ 8 → (at : ℕ) (bs : List ℕ) (zs : List Setting) (to : ℕ) (rest : List ℕ) → byte_row bs ≡ true →
      each (λ g. read_node K V h (p ++ (g ∷ []))) (digits_in y) at bs ≡ got zs to rest →
      Spread (place K d) (Stands p) (λ l. node K h (gather K l)) (Child p) 2 (digits_in y) zs bs rest
  children_spread h ih p d y deep e at bs zs to rest b r =
      each_spread (place K d) (Stands p) (λ l. node K h (gather K l)) (Child p) 2 (λ g. read_node K V h (p ++ (g ∷ [])))
      (λ g a l ys z m k q.
      let i = ih (p ++ (g ∷ [])) a l ys z m (omega (arith, length-append p (g ∷ []))) k q in
      (i.0, (i.1.0, subst (λ n. cond n 1 2 ≤ length ys) (ne_eqb h 8 (omega arith)) i.1.1)))
      (λ g l q. read_dig p d g l deep q.0) (λ g l q. read_all p d g l deep q.0) (λ g l q. q.1)
      (digits_in y) (apart_filter (flag y) sixteen sixteen_apart) at bs zs to rest b r

  parts_read : (h : ℕ) → ReadsNodes h → (p : List ℕ) (at x y from : ℕ) (left : List ℕ) (xs : List Setting) (to : ℕ) (rest : List ℕ) → length p + suc h ≡ 8 →
      byte_row left ≡ true → x < 256 ^ 2 → y < 256 ^ 2 → read_parts K V (read_node K V h) h p at x y from left ≡ got xs to rest →
      (NODE ∷ (in_bytes 2 x ++ (in_bytes 2 y ++ left)) ≡ node K (suc h) (gather K xs) ++ rest) × (WellRead p xs × (least (suc h) ≤ length xs))
  parts_read h ih p at x y from left xs to rest e b small_x small_y r =
      let t = passed (eqb (bit_and x y) 0 && enough h (digits_in x) (digits_in y)) (then (each (λ g. read_entry K V (leads K 0 (p ++ (g ∷ [])))) (digits_in x) from left) (each (λ g. read_node K V h (p ++ (g ∷ []))) (digits_in y))) 9 at xs to rest r in
      let o = and_parts (eqb (bit_and x y) 0) (enough h (digits_in x) (digits_in y)) t.0 in
      joined (eqb-true (bit_and x y) 0 o.0) o.1
      (then_split (each (λ g. read_entry K V (leads K 0 (p ++ (g ∷ [])))) (digits_in x) from left) (each (λ g. read_node K V h (p ++ (g ∷ []))) (digits_in y)) xs to rest t.1)
    where
      deep : 7 - h ≡ length p
      deep = omega arith

      spread : (ys cs : List Setting) (mid : List ℕ) → bit_and x y ≡ 0 → enough h (digits_in x) (digits_in y) ≡ true → xs ≡ ys ++ cs →
          Spread (place K (7 - h)) (Stands p) (λ l. flat entry (gather K l)) (Entry p) 1 (digits_in x) ys left mid →
          Spread (place K (7 - h)) (Stands p) (λ l. node K h (gather K l)) (Child p) 2 (digits_in y) cs mid rest →
          (NODE ∷ (in_bytes 2 x ++ (in_bytes 2 y ++ left)) ≡ node K (suc h) (gather K xs) ++ rest) × (WellRead p xs × (least (suc h) ≤ length xs))
      spread ys cs mid apart full j sy sc =
          subst (λ l. (NODE ∷ (in_bytes 2 x ++ (in_bytes 2 y ++ left)) ≡ node K (suc h) (gather K l) ++ rest) × (WellRead p l × (least (suc h) ≤ length l))) (sym j) (
            spelt_node h (7 - h) p x y ys cs left mid rest sy sc apart refl small_x small_y,
            (spread_read h (7 - h) p x y ys cs left mid rest sy sc apart, spread_filled h (7 - h) p x y ys cs left mid rest sy sc apart full),
          )

      joined : bit_and x y ≡ 0 → enough h (digits_in x) (digits_in y) ≡ true →
          Split (each (λ g. read_entry K V (leads K 0 (p ++ (g ∷ [])))) (digits_in x) from left) (each (λ g. read_node K V h (p ++ (g ∷ []))) (digits_in y)) xs to rest →
          (NODE ∷ (in_bytes 2 x ++ (in_bytes 2 y ++ left)) ≡ node K (suc h) (gather K xs) ++ rest) × (WellRead p xs × (least (suc h) ≤ length xs))
      joined apart full s =
          let sy : Spread (place K (7 - h)) (Stands p) (λ l. flat entry (gather K l)) (Entry p) 1 (digits_in x) s.before left s.mid =
          entries_spread p (7 - h) x deep from left s.before s.mid_at s.mid b s.first in
          spread s.before s.after s.mid apart full s.joined sy
          (children_spread h ih p (7 - h) y deep e s.mid_at s.mid s.after to rest
          (byte_row_parts (flat (λ g. flat entry (gather K (falls (place K (7 - h)) s.before g))) (digits_in x)) s.mid (ap byte_row (sym sy.spelt) ∙ b)).1 s.second)

  -- two numbers of two bytes each
  pairs_read : (w : List ℕ) → length w ≡ 4 → byte_row w ≡ true →
      (in_bytes 2 (number (take 2 w)) ++ in_bytes 2 (number (drop 2 w)) ≡ w) × ((number (take 2 w) < 256 ^ 2) × (number (drop 2 w) < 256 ^ 2))
  pairs_read w wide row =
      let halves = byte_row_parts (take 2 w) (drop 2 w) (ap byte_row (take-append-drop 2 w) ∙ row) in
      let wide_x : length (take 2 w) ≡ 2 = length-take-le 2 w (omega arith) in
      let wide_y : length (drop 2 w) ≡ 2 = length-drop 2 w ∙ omega arith in (
        ap₂ (λ u v. u ++ v) (read_bytes 2 (take 2 w) _ wide_x halves.0 refl).1
            (read_bytes 2 (drop 2 w) _ wide_y halves.1 refl).1 ∙ take-append-drop 2 w,
        (
          subst (λ n. number (take 2 w) < 256 ^ n) wide_x (number_fits (take 2 w) halves.0),
          subst (λ n. number (drop 2 w) < 256 ^ n) wide_y (number_fits (drop 2 w) halves.1),
        ),
      )

  -- what a node is read from is the node of what was read
  pub node_read : (h : ℕ) → ReadsNodes h
  node_read zero p at bs xs to rest e b r = crowd_read p at bs xs to rest r
  node_read (suc h) p at bs xs to rest e b r =
      let c = command_ran NODE 4 (λ w. read_parts K V (read_node K V h) h p at (number (take 2 w)) (number (drop 2 w))) at bs xs to rest r in
      let rows = byte_row_parts c.operands c.left (and_parts (ltb NODE 256) (byte_row (c.operands ++ c.left)) (ap byte_row (sym c.spelt) ∙ b)).1 in
      let q = pairs_read c.operands c.wide rows.0 in
      let i = parts_read h (node_read h) p at (number (take 2 c.operands)) (number (drop 2 c.operands)) (at + (1 + 4)) c.left xs to rest e rows.1 q.1.0 q.1.1 c.next in
      (c.spelt ∙ (ap (λ l. NODE ∷ (l ++ c.left)) (sym q.0) ∙ i.0), i.1)

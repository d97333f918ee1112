-- The round trip: what a lawful map is saved as is accepted as that map. Assumes nothing.
use Rattle.std.proofs.Common.{◌≡◌, ℕ, zero, suc, ◌+◌, ◌-◌, ◌^◌, ◌<◌, ◌≤◌, Bool, true, false, cond, ◌&&◌, ◌||◌, eqb, ltb, leb, List, [], ◌∷◌, ◌++◌, length, take, drop, sym, refl, ap, ◌∙◌, subst, ap₂, arith}
use lib.Dec.{eqb-suc-suc}
use lib.Bits.{bit_and}
use Rattle.std.specs.List.{AllByRecursion}
use Rattle.std.proofs.lemmas.Bool.{eqb-true, eq-eqb, ltb-true, lt-ltb, le-ltb, and_from, le-leb, or_left, or_right}
use Rattle.std.proofs.lemmas.List.{append-nil, length-append, append_assoc, nil_from_length}
use Rattle.byte_rows.specs.Rows.{in_bytes, number}
use Rattle.kinds.specs.Kinds.{KeyKind, ValueKind}
use Rattle.byte_rows.proofs.Numbers.{in_bytes_number}
use Rattle.byte_rows.proofs.Orders.{same_decides}
use Rattle.model.specs.declared.commands.TheConstants.{COLLISION, END, HEADER, NODE}
use Rattle.model.specs.Maps.{Map, Readable}
use Rattle.model.specs.Tries.{sixteen, leads, at_digit, one, many, branching, Lawful}
use Rattle.model.specs.Images.{header, entry, node, root, image}
use Rattle.model.specs.Reading.{Read, got, fault, digits_in, prepend, then, each, read_entry, rising, enough, read_parts, read_crowd, read_node, accepted, gather, read_root, end_in, read_end, ended, body_in, read_whole, verdict, judge}
use Rattle.model.proofs.Images.Lists.{flat, all_to, all_from_mem, filter_passes, total, total_like, length_flat}
use Rattle.model.proofs.Images.Bits.{bits_of, digits_of_bits, bits_fit, apart_flags}
use Rattle.model.proofs.Images.Rising.{KeyReads}
use Rattle.model.proofs.Images.Order.{singles, node_is, order, length_spread, length_order, gather_order}
use Rattle.model.proofs.Images.Gets.{Gets, gets_at, then_gets, each_gets, command_runs, entry_gets, rising_gets, Good, good_part, crowd_fits}

-- how many settings a node with h levels below it has at least
abbrev pub least : ℕ → ℕ
least h = cond (eqb h 8) 1 2

pub least_two : (h : ℕ) → least h ≤ 2
least_two h = elim (eqb h 8) as (λ b. cond b 1 2 ≤ 2) [ true ↦ omega arith | false ↦ omega arith ]

total_ones : (gs : List ℕ) → total (λ g. 1) gs ≡ length gs
total_ones [] = refl
total_ones (g ∷ gs) = omega (arith, total_ones gs)

enough_from : (h : ℕ) (ss bs : List ℕ) (n : ℕ) → (bs ≡ [] → n ≡ length ss) → least (suc h) ≤ n → enough h ss bs ≡ true
enough_from h ss [] n e l = go (eqb h 7) (eqb-suc-suc h 7)
  where
    go : (b : Bool) → eqb (suc h) 8 ≡ b → cond b (ltb 0 (length ss + 0)) (ltb 0 0 || ltb 1 (length ss)) ≡ true
    go true z = lt-ltb 0 _ (omega (arith, e refl, subst (λ c. cond c 1 2 ≤ n) z l))
    go false z = or_right (ltb 0 0) _ (lt-ltb 1 _ (omega (arith, e refl, subst (λ c. cond c 1 2 ≤ n) z l)))
enough_from h ss (b ∷ bs) n e l =
    elim (eqb h 7) as (λ c. cond c (ltb 0 (length ss + suc (length bs))) (ltb 0 (suc (length bs)) || ltb 1 (length ss)) ≡ true) [
      | true ↦ lt-ltb 0 _ (omega arith)
      | false ↦ or_left (ltb 0 (suc (length bs))) (ltb 1 (length ss)) (lt-ltb 0 (suc (length bs)) (omega arith))
    ]

one_not_many : (m : Map) → one m ≡ true → many m ≡ false
one_not_many m e = le-ltb 1 (length m) (omega (arith, eqb-true (length m) 1 e))

module _ (K : KeyKind) (V : ValueKind) where
  -- a part of one setting is its entry
  single_gets : (ok : List ℕ → Bool) (m : Map) → length m ≡ 1 → AllByRecursion (Readable K V) m → AllByRecursion (λ s. ok s.key ≡ true) m → (at : ℕ) (rest : List ℕ) →
      Gets (read_entry K V ok at (flat entry m ++ rest)) m rest
  single_gets ok [] e r o at rest = absurd (omega arith)
  single_gets ok (s ∷ []) e r o at rest =
      subst (λ l. Gets (read_entry K V ok at (l ++ rest)) (s ∷ []) rest) (sym (append-nil (entry s))) (entry_gets K V ok s r.0 o.0 at rest)
  single_gets ok (s ∷ (t ∷ m)) e r o at rest = absurd (omega arith)

  -- a node with digits that are apart and enough is read part by part
  parts_run : (child : List ℕ → ℕ → List ℕ → Read) (h : ℕ) (p : List ℕ) (at x y to : ℕ) (rest ss ds : List ℕ) →
      digits_in x ≡ ss → digits_in y ≡ ds → bit_and x y ≡ 0 → enough h ss ds ≡ true →
      read_parts K V child h p at x y to rest ≡
      then (each (λ g. read_entry K V (leads K 0 (p ++ (g ∷ [])))) ss to rest) (each (λ g. child (p ++ (g ∷ []))) ds)
  parts_run child h p at x y to rest ss ds e f z t =
      let test : (eqb (bit_and x y) 0 && enough h (digits_in x) (digits_in y)) ≡ true =
      and_from _ _ (eq-eqb (bit_and x y) 0 z) (ap₂ (λ u v. enough h u v) e f ∙ t) in
      ap (λ b. cond b (then (each (λ g. read_entry K V (leads K 0 (p ++ (g ∷ [])))) (digits_in x) to rest) (each (λ g. child (p ++ (g ∷ []))) (digits_in y))) (fault 9 at)) test
      ∙ ap₂ (λ u v. then (each (λ g. read_entry K V (leads K 0 (p ++ (g ∷ [])))) u to rest) (each (λ g. child (p ++ (g ∷ []))) v)) e f

  alone : (d : ℕ) (m : Map) → branching K d m ≡ [] → length m ≡ length (singles K d m)
  alone d m z =
      let all = length_spread K d m (at_digit K d m) (λ g. refl) in
      let none : length (flat (at_digit K d m) (branching K d m)) ≡ 0 = ap (λ l. length (flat (at_digit K d m) l)) z in
      let ones : length (flat (at_digit K d m) (singles K d m)) ≡ length (singles K d m) =
      length_flat (at_digit K d m) (singles K d m)
      ∙ (total_like (λ g. length (at_digit K d m g)) (λ g. 1) (singles K d m)
      (all_to (λ g. one (at_digit K d m g) ≡ true) _ (λ g o. eqb-true _ 1 o) (singles K d m) (filter_passes (λ g. one (at_digit K d m g)) sixteen))
      ∙ total_ones (singles K d m)) in
      omega arith

  -- a node is read as the part's settings in image order
  pub node_gets : (h : ℕ) (p : List ℕ) (m : Map) → length p + h ≡ 8 → Good K V p m → least h ≤ length m → (at : ℕ) (rest : List ℕ) →
      Gets (read_node K V h p at (node K h m ++ rest)) (order K h m) rest
  node_gets zero p m e good l at rest =
      let alone : number (length m ∷ []) ≡ length m = omega arith in
      let fits : (leb 2 (length m) && leb (length m) 16) ≡ true =
      and_from _ _ (le-leb 2 (length m) l) (le-leb (length m) 16 (crowd_fits K V p m (omega arith) good)) in
      gets_at _ _ m rest
      (command_runs COLLISION 1 (λ w. read_crowd K V p at (number w)) at (length m ∷ []) (flat entry m ++ rest) refl
      ∙ (ap (λ n. read_crowd K V p at n (at + (1 + 1)) (flat entry m ++ rest)) alone
      ∙ ap (λ b. cond b (rising K V p (length m) (λ k. true) (at + (1 + 1)) (flat entry m ++ rest)) (fault 9 at)) fits))
      (rising_gets K V p m (λ k. true) good.rises good.reads good.led (all_from_mem _ m (λ s n. refl)) (at + (1 + 1)) rest)
  node_gets (suc h) p m e good l at rest =
      let part : ℕ → Map = at_digit K (7 - h) m in
      let ss : List ℕ = singles K (7 - h) m in
      let ds : List ℕ = branching K (7 - h) m in
      let x : ℕ = bits_of (λ g. one (part g)) sixteen in
      let y : ℕ = bits_of (λ g. many (part g)) sixteen in
      let bs : List ℕ = flat (λ g. flat entry (part g)) ss in
      let cs : List ℕ = flat (λ g. node K h (part g)) ds in
      let lower : (g : ℕ) → Good K V (p ++ (g ∷ [])) (part g) = λ g. good_part K V p m (7 - h) g (omega arith) good in
      let test : enough h ss ds ≡ true = enough_from h ss ds (length m) (alone (7 - h) m) l in
      gets_at _ _ (order K (suc h) m) rest
      (ap (λ b. read_node K V (suc h) p at (b ++ rest)) (node_is K h m)
      ∙ (ap (λ b. read_node K V (suc h) p at (NODE ∷ (in_bytes 2 x ++ (in_bytes 2 y ++ b)))) (append_assoc bs cs rest)
      ∙ (command_runs NODE 4 (λ w. read_parts K V (read_node K V h) h p at (number (take 2 w)) (number (drop 2 w))) at (in_bytes 2 x ++ in_bytes 2 y) (bs ++ (cs ++ rest)) refl
      ∙ (ap₂ (λ u v. read_parts K V (read_node K V h) h p at u v (at + (1 + 4)) (bs ++ (cs ++ rest)))
      (in_bytes_number 2 x (bits_fit (λ g. one (part g)))) (in_bytes_number 2 y (bits_fit (λ g. many (part g))))
      ∙ parts_run (read_node K V h) h p at x y (at + (1 + 4)) (bs ++ (cs ++ rest)) ss ds
      (digits_of_bits (λ g. one (part g))) (digits_of_bits (λ g. many (part g)))
      (apart_flags (λ g. one (part g)) (λ g. many (part g)) (λ g. one_not_many (part g))) test))))
      (then_gets _ (each (λ g. read_node K V h (p ++ (g ∷ []))) ds) (flat part ss) (flat (λ g. order K h (part g)) ds) (cs ++ rest) rest
      (each_gets (λ g. read_entry K V (leads K 0 (p ++ (g ∷ [])))) (λ g. flat entry (part g)) part ss
      (all_to (λ g. one (part g) ≡ true) _
      (λ g o. single_gets (leads K 0 (p ++ (g ∷ []))) (part g) (eqb-true _ 1 o) (lower g).reads (lower g).led) ss (filter_passes (λ g. one (part g)) sixteen))
      (at + (1 + 4)) (cs ++ rest))
      (λ to. each_gets (λ g. read_node K V h (p ++ (g ∷ []))) (λ g. node K h (part g)) (λ g. order K h (part g)) ds
      (all_to (λ g. many (part g) ≡ true) _
      (λ g o. node_gets h (p ++ (g ∷ [])) (part g) (rw (length-append p (g ∷ [])) (omega arith)) (lower g)
      (omega (arith, least_two h, ltb-true 1 (length (part g)) o))) ds (filter_passes (λ g. many (part g)) sixteen))
      to rest))

module _ (K : KeyKind) (V : ValueKind) where
  root_gets : (m : Map) → Lawful K V m → (at : ℕ) (rest : List ℕ) → Gets (read_root K V at (root K m ++ (END ∷ rest))) (order K 8 m) (END ∷ rest)
  root_gets [] law at rest = (at, ap (λ l. got l at (END ∷ rest)) (sym (nil_from_length (order K 8 []) (length_order K 8 []))))
  root_gets (s ∷ m) law at rest =
      node_gets K V 8 [] (s ∷ m) refl
      (record { led = all_from_mem _ (s ∷ m) (λ t n. refl); reads = law.reads; rises = law.rises; uncrowded = law.uncrowded }) (omega arith) at (END ∷ rest)

  end_runs : (n at : ℕ) → n < 2 ^ 32 → read_end n at (END ∷ in_bytes 4 n) ≡ got [] (at + (1 + 4)) []
  end_runs n at h =
      ap (λ l. read_end n at (END ∷ l)) (sym (append-nil (in_bytes 4 n)))
      ∙ (command_runs END 4 (end_in n at) at (in_bytes 4 n) [] refl
      ∙ ap (λ b. cond b (got [] (at + (1 + 4)) []) (fault 9 at)) (eq-eqb _ n (in_bytes_number 4 n h)))

  -- the image of a lawful map is accepted as that map
  pub round_trip : (m : Map) → Lawful K V m → judge K V (image K V m) ≡ accepted m
  round_trip m law =
      let body : List ℕ = root K m ++ (END ∷ in_bytes 4 (length m)) in
      let g : Gets (read_root K V (0 + (1 + 3)) body) (order K 8 m) (END ∷ in_bytes 4 (length m)) = root_gets m law (0 + (1 + 3)) (in_bytes 4 (length m)) in
      let head : read_whole K V (image K V m) ≡ ended (read_root K V (0 + (1 + 3)) body) =
      command_runs HEADER 3 (body_in K V) 0 (header K V) body refl
      ∙ ap (λ b. cond b (ended (read_root K V (0 + (1 + 3)) body)) (fault 7 0)) ((same_decides (header K V) _).1 refl) in
      let tail : read_end (length (order K 8 m)) g.0 (END ∷ in_bytes 4 (length m)) ≡ got [] (g.0 + (1 + 4)) [] =
      ap (λ n. read_end n g.0 (END ∷ in_bytes 4 (length m))) (length_order K 8 m) ∙ end_runs (length m) g.0 law.counted in
      ap (verdict K) (head ∙ (ap ended g.1 ∙ ap (prepend (order K 8 m)) tail))
      ∙ (ap (λ l. accepted (gather K l)) (append-nil (order K 8 m))
      ∙ ap accepted (gather_order K 8 m law.rises (all_to (Readable K V) (KeyReads K) (λ s r. r.0) m law.reads)))

  -- lawful maps with one image are one map
  pub same_image : (m m' : Map) → Lawful K V m → Lawful K V m' → image K V m ≡ image K V m' → m ≡ m'
  same_image m m' law law' e =
      let z : accepted m ≡ accepted m' = sym (round_trip m law) ∙ (ap (judge K V) e ∙ round_trip m' law') in
      cc

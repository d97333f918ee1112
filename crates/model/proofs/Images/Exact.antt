-- Exactness: what is accepted is the image of a lawful map. Assumes nothing.
use Rattle.std.proofs.Common.{◌≡◌, ℕ, ◌+◌, ◌^◌, ◌<◌, ◌≤◌, Bool, true, false, cond, eqb, ltb, List, [], ◌∷◌, ◌++◌, length, sym, refl, ap, ◌∙◌, subst, arith}
use Rattle.std.specs.List.{AllByRecursion}
use Rattle.std.proofs.lemmas.Bool.{eqb-true, and_parts}
use Rattle.std.proofs.lemmas.List.{append-nil, nil_from_length}
use Rattle.byte_rows.specs.Rows.{same, byte_row, in_bytes, number}
use Rattle.kinds.specs.Kinds.{KeyKind, ValueKind}
use Rattle.byte_rows.proofs.Numbers.{number_fits, read_bytes}
use Rattle.byte_rows.proofs.Orders.{same_decides}
use Rattle.model.specs.declared.commands.TheConstants.{END, HEADER, NODE}
use Rattle.model.specs.Maps.{Setting, Map, Readable}
use Rattle.model.specs.Images.{header, node, root, image}
use Rattle.model.specs.Reading.{Read, got, fault, read_node, accepted, gather, read_root, end_in, read_end, ended, body_in, read_whole, verdict, judge}
use Rattle.model.specs.Tries.{Lawful}
use Rattle.model.proofs.Images.Lists.{all_to}
use Rattle.model.proofs.Images.Rising.{KeyReads, gather_all, gather_rises}
use Rattle.model.proofs.Images.Readings.{no_fault, passed, prepend_split, command_ran, byte_row_parts}
use Rattle.model.proofs.Images.Nodes.{WellRead, node_read}

ended_split : (r : Read) (zs : List Setting) (to : ℕ) (rest : List ℕ) → ended r ≡ got zs to rest →
    (xs : List Setting) × (at : ℕ) × (left : List ℕ) × (ys : List Setting) × (r ≡ got xs at left) × (read_end (length xs) at left ≡ got ys to rest) × (zs ≡ xs ++ ys)
ended_split (got xs at left) zs to rest e =
    let s = prepend_split xs (read_end (length xs) at left) zs to rest e in
    (xs, at, left, s.0, refl, s.1, s.2)
ended_split (fault n at) zs to rest e = no_fault n at to zs rest e

verdict_split : (K : KeyKind) (r : Read) (m : Map) → verdict K r ≡ accepted m → (xs : List Setting) × (at : ℕ) × (left : List ℕ) × (r ≡ got xs at left) × (gather K xs ≡ m)
verdict_split K (got xs at left) m e = (xs, at, left, refl, cc)
verdict_split K (fault n at) m e = absurd (let z : ◌≡◌ {A = ℕ} 0 1 = cc in omega arith)

end_read : (n at : ℕ) (bs : List ℕ) (xs : List Setting) (to : ℕ) (rest : List ℕ) → byte_row bs ≡ true → read_end n at bs ≡ got xs to rest →
    (bs ≡ END ∷ in_bytes 4 n) × (xs ≡ []) × (n < 2 ^ 32)
end_read n at bs xs to rest b e =
    let c = command_ran END 4 (end_in n at) at bs xs to rest e in
    let w : List ℕ = c.operands in
    let p = passed (eqb (number w) n) (cond (eqb (length c.left) 0) (got [] (at + (1 + 4)) c.left) (fault 9 (at + (1 + 4)))) 9 at xs to rest c.next in
    let q = passed (eqb (length c.left) 0) (got [] (at + (1 + 4)) c.left) 9 (at + (1 + 4)) xs to rest p.1 in
    let none : c.left ≡ [] = nil_from_length c.left (eqb-true (length c.left) 0 q.0) in
    let is : number w ≡ n = eqb-true (number w) n p.0 in
    let row : byte_row w ≡ true = (byte_row_parts w c.left (and_parts (ltb END 256) (byte_row (w ++ c.left)) (ap byte_row (sym c.spelt) ∙ b)).1).0 in
    let spelt : in_bytes 4 n ≡ w = (read_bytes 4 w n c.wide row (sym is)).1 in
    let small : number w < 256 ^ 4 = subst (λ k. number w < 256 ^ k) c.wide (number_fits w row) in
    (c.spelt ∙ ap (λ l. END ∷ l) (ap (λ l. w ++ l) none ∙ (append-nil w ∙ sym spelt)), cc q.1, subst (λ k. k < 256 ^ 4) is small)

root_node : (K : KeyKind) (m : Map) → 1 ≤ length m → root K m ≡ node K 8 m
root_node K [] h = absurd (omega arith)
root_node K (s ∷ m) h = refl

module _ (K : KeyKind) (V : ValueKind) where
  no_settings : WellRead K V [] []
  no_settings = record { led = tt; reads = tt; once = refl; uncrowded = λ x. omega arith }

  root_read : (at : ℕ) (bs : List ℕ) (xs : List Setting) (to : ℕ) (rest : List ℕ) → byte_row bs ≡ true → read_root K V at bs ≡ got xs to rest →
      (bs ≡ root K (gather K xs) ++ rest) × WellRead K V [] xs
  root_read at [] xs to rest b e =
      let none : [] ≡ xs = cc in
      let left : [] ≡ rest = cc in
      subst (λ l. ([] ≡ root K (gather K l) ++ rest) × WellRead K V [] l) none (left, no_settings)
  root_read at (c ∷ bs) xs to rest b e = go (eqb c NODE) e
    where
      go : (t : Bool) → cond t (read_node K V 8 [] at (c ∷ bs)) (got [] at (c ∷ bs)) ≡ got xs to rest → (c ∷ bs ≡ root K (gather K xs) ++ rest) × WellRead K V [] xs
      go true z =
          let i = node_read K V 8 [] at (c ∷ bs) xs to rest refl b z in
          (i.0 ∙ ap (λ l. l ++ rest) (sym (root_node K (gather K xs) (omega (arith, i.1.1, i.1.0.once)))), i.1.0)
      go false z =
          let none : [] ≡ xs = cc in
          let left : c ∷ bs ≡ rest = cc in
          subst (λ l. (c ∷ bs ≡ root K (gather K l) ++ rest) × WellRead K V [] l) none (left, no_settings)

  whole_read : (bs : List ℕ) (zs : List Setting) (to : ℕ) (rest : List ℕ) → byte_row bs ≡ true → read_whole K V bs ≡ got zs to rest →
      (bs ≡ image K V (gather K zs)) × Lawful K V (gather K zs)
  whole_read bs zs to rest b e =
      let c = command_ran HEADER 3 (body_in K V) 0 bs zs to rest e in
      let p = passed (same c.operands (header K V)) (ended (read_root K V (0 + (1 + 3)) c.left)) 7 0 zs to rest c.next in
      let head : c.operands ≡ header K V = (same_decides _ _).0 p.0 in
      let row : byte_row c.left ≡ true = (byte_row_parts c.operands c.left (and_parts (ltb HEADER 256) (byte_row (c.operands ++ c.left)) (ap byte_row (sym c.spelt) ∙ b)).1).1 in
      go c.left row (c.spelt ∙ ap (λ l. HEADER ∷ (l ++ c.left)) head) (ended_split (read_root K V (0 + (1 + 3)) c.left) zs to rest p.1)
    where
      go : (left : List ℕ) → byte_row left ≡ true → bs ≡ HEADER ∷ (header K V ++ left) →
          (xs : List Setting) × (at : ℕ) × (l : List ℕ) × (ys : List Setting) × (read_root K V (0 + (1 + 3)) left ≡ got xs at l) × (read_end (length xs) at l ≡ got ys to rest) × (zs ≡ xs ++ ys) →
          (bs ≡ image K V (gather K zs)) × Lawful K V (gather K zs)
      go left row spelt s =
          let xs : List Setting = s.0 in
          let r = root_read (0 + (1 + 3)) left xs s.1 s.2 row s.4 in
          let q = end_read (length xs) s.1 s.2 s.3 to rest (byte_row_parts (root K (gather K xs)) s.2 (ap byte_row (sym r.0) ∙ row)).1 s.5 in
          let only : zs ≡ xs = s.6 ∙ (ap (λ l. xs ++ l) q.1 ∙ append-nil xs) in
          let reads : AllByRecursion (KeyReads K) xs = all_to (Readable K V) (KeyReads K) (λ t k. k.0) xs r.1.reads in
          subst (λ l. (bs ≡ image K V (gather K l)) × Lawful K V (gather K l)) (sym only) (
            spelt ∙ ap (λ l. HEADER ∷ (header K V ++ l)) (r.0 ∙ ap (λ l. root K (gather K xs) ++ l) (q.0 ∙ ap (λ n. END ∷ in_bytes 4 n) (sym r.1.once))),
            record {
              rises = gather_rises K xs reads;
              reads = gather_all K (Readable K V) xs r.1.reads;
              uncrowded = r.1.uncrowded;
              counted = subst (λ n. n < 2 ^ 32) (sym r.1.once) q.2;
            },
          )

  -- what is accepted is the image of a lawful map, and that map
  pub exact : (bs : List ℕ) (m : Map) → byte_row bs ≡ true → judge K V bs ≡ accepted m → (bs ≡ image K V m) × Lawful K V m
  exact bs m b e =
      let s = verdict_split K (read_whole K V bs) m e in
      subst (λ l. (bs ≡ image K V l) × Lawful K V l) s.4 (whole_read bs s.0 s.1 s.2 b s.3)

-- The header, the nodes and the end of an image, one after another. Assumes nothing.
use Rattle.std.proofs.Common.{◌≡◌, ℕ, ◌+◌, ◌<◌, ◌≤◌, List, [], ◌∷◌, ◌++◌, length, drop, Ok, Err, refl, ap, ◌∙◌, ap₂, arith}
use Rattle.byte_rows.specs.Rows.{in_bytes}
use Rattle.kinds.specs.Kinds.{KeyKind, ValueKind}
use Rattle.kinds.specs.declared.refusal.Refusal.TheVariants.{BufferTooShort}
use Rattle.model.specs.Maps.{Map}
use Rattle.model.specs.Images.{root, image}
use Rattle.branches.specs.declared.branch.Branch.{Branch}
use Rattle.branches.specs.States.{Tables}
use Rattle.branches.specs.Asked.{FewPart, Counted}
use Rattle.image_writer.specs.Puts.{Puts}
use Rattle.image_writer.specs.Nodes.{Measured, HasRoom, Written}
use Rattle.image_writer.specs.Saved.{Saved}
use Rattle.image_writer.proofs.Writes.{puts_as, puts_more, length_puts}
use Rattle.image_writer.proofs.Roots.{image_long}

module _ {X Y : Type 0} (K : KeyKind) (V : ValueKind) (kb : X → List ℕ) (vb : Y → List ℕ) (T : Tables X Y) (b : Branch) where
  pub count_small : (n : ℕ) → FewPart K kb vb T b 8 → Counted K kb vb T b 8 n → n ≤ 65535
  count_small n few C = omega (arith, few.few, C.number few.some.notes few.some.roots few.some.in_hand few.some.sits few.some.prefix few.some.part few.some.deep few.some.is)

  pub saved_whole :
      (old mid new next last : List ℕ) (k v n to end at done : ℕ) → k ≡ K.code → v ≡ V.code → Counted K kb vb T b 8 n
      → Puts old mid 0 (0x56 ∷ 4 ∷ k ∷ v ∷ []) to → Written K kb vb T b 8 (root K) mid to new end → Puts new next end (0x5A ∷ []) at → Puts next last at (in_bytes 4 n) done
      → Saved K V kb vb T b old last (Ok done)
  saved_whole old mid new next last k v n to end at done ek ev C h P e q = record {
    image_is = λ N R E S a is.
        let m : Map = a.settings in
        let whole : Puts old last 0 (image K V m) done =
        puts_as old last 0 ((0x56 ∷ 4 ∷ k ∷ v ∷ []) ++ (root K m ++ ((0x5A ∷ []) ++ in_bytes 4 n))) (image K V m) done
        (ap₂ (λ (x y : ℕ). 0x56 ∷ 4 ∷ x ∷ y ∷ (root K m ++ (0x5A ∷ in_bytes 4 n))) ek ev
        ∙ ap (λ (x : ℕ). 0x56 ∷ 4 ∷ K.code ∷ V.code ∷ (root K m ++ (0x5A ∷ in_bytes 4 x))) (C.number N R E S [] a refl is))
        (puts_more old mid 0 (0x56 ∷ 4 ∷ k ∷ v ∷ []) to h last (root K m ++ ((0x5A ∷ []) ++ in_bytes 4 n)) done
        (puts_more mid new to (root K m) end (P.puts N R E S [] a refl is) last ((0x5A ∷ []) ++ in_bytes 4 n) done (puts_more new next end (0x5A ∷ []) at e last (in_bytes 4 n) done q))) in
        let n_is : done ≡ length (image K V m) = omega (arith, whole.onward) in
        (n_is, (omega (arith, whole.within), whole.is ∙ ap (λ (z : ℕ). image K V m ++ drop z old) n_is));
  }

  -- ---- the buffer against the length

  module _ (r : ℕ) (long : Measured K kb vb T b 8 (image K V) r) where
    pub saved_short : (old : List ℕ) → length old < r → Saved K V kb vb T b old old (Err BufferTooShort)
    saved_short old h = record { image_is = λ N R E S a is. (refl, (omega (arith, long.long N R E S [] a refl is), refl)) }

    module _ (few : FewPart K kb vb T b 8) where
      long_here : r ≡ 9 + length (root K few.some.part.settings)
      long_here =
          long.long few.some.notes few.some.roots few.some.in_hand few.some.sits few.some.prefix few.some.part few.some.deep few.some.is
          ∙ image_long K V few.some.part.settings

      pub some_long : 9 ≤ r
      some_long = omega (arith, long_here)

      module _ (old mid header : List ℕ) (to : ℕ) (enough : r ≤ length old) (four : length header ≡ 4) (h : Puts old mid 0 header to) where
        -- there is room for the nodes
        pub nodes_fit : HasRoom K kb vb T b 8 (root K) to (length mid)
        nodes_fit = record { some = few.some; room = omega (arith, long_here, h.onward, length_puts old mid 0 header to h) }

        -- and for the end
        pub end_fits : (new : List ℕ) (end : ℕ) → Written K kb vb T b 8 (root K) mid to new end → end + 5 ≤ length new
        end_fits new end P =
            let p = P.puts few.some.notes few.some.roots few.some.in_hand few.some.sits few.some.prefix few.some.part few.some.deep few.some.is in
            omega (arith, long_here, h.onward, p.onward, length_puts old mid 0 header to h, length_puts mid new to (root K few.some.part.settings) end p)

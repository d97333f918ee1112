-- What is ahead of a reader as it goes on. Assumes nothing.
use Rattle.std.proofs.Common.{◌≡◌, ℕ, ◌+◌, ◌-◌, ◌≤◌, List, ◌∷◌, ◌++◌, length, get_or, take, drop, sym, ap, ◌∙◌, arith, length-append, length-drop}
use Rattle.std.proofs.lemmas.List.{drop-drop, get_or-drop}
use Rattle.std.proofs.Math.Seq.{drop-append_seam, take-append_seam}
use Rattle.image_reader.specs.Cursors.{Cursor}
use Rattle.image_loader.specs.Heads.{operands}
use Rattle.image_loader.specs.Ahead.{Ahead}

module _ (r : Cursor) (xs ys : List ℕ) (A : Ahead r (xs ++ ys)) where
  -- what is ahead is there
  pub ahead_fits : r.at + length xs ≤ length r.image
  ahead_fits =
      omega (arith, A.within, ap length A.is, length-drop r.at r.image, length-append xs ys)

  -- a reader that has passed the first of two rows
  pub ahead_past : (s : Cursor) → s.image ≡ r.image → s.at ≡ r.at + length xs → Ahead s ys
  ahead_past s image at = record {
    within = omega (arith, at, ap length image, ahead_fits);
    is = ap (drop s.at) image ∙ ap (λ (n : ℕ). drop n r.image) at
        ∙ sym (drop-drop (length xs) r.at r.image) ∙ ap (drop (length xs)) A.is
        ∙ drop-append_seam xs ys;
  }

-- a command with its operands
module _ (r : Cursor) (c : ℕ) (xs ys : List ℕ) (width : ℕ) (wide : width ≡ length xs)
    (A : Ahead r (c ∷ (xs ++ ys))) where
  pub command_fits : r.at + (1 + width) ≤ length r.image
  command_fits = omega (arith, ahead_fits r (c ∷ xs) ys A, wide)

  pub command_operands : operands r width ≡ xs
  command_operands =
      ap (λ (n : ℕ). take n (drop (r.at + 1) r.image))
      (let z : r.at + (1 + width) - (r.at + 1) ≡ length xs = omega (arith, wide) in z)
      ∙ ap (take (length xs)) (sym (drop-drop 1 r.at r.image) ∙ ap (drop 1) A.is)
      ∙ take-append_seam xs ys

  pub command_past : (s : Cursor) → s.image ≡ r.image → s.at ≡ r.at + (1 + width)
      → Ahead s ys
  command_past s image at = ahead_past r (c ∷ xs) ys A s image (omega (arith, at, wide))

-- the byte of the next command
pub ahead_byte : (r : Cursor) (c : ℕ) (xs : List ℕ) → Ahead r (c ∷ xs)
    → get_or r.image r.at 0 ≡ c
ahead_byte r c xs A =
    ap (λ (i : ℕ). get_or r.image i 0) (let z : r.at ≡ r.at + 0 = omega arith in z)
    ∙ sym (get_or-drop r.at r.image 0 0) ∙ ap (λ (l : List ℕ). get_or l 0 0) A.is

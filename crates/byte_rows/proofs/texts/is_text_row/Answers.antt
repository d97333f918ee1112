use Rattle.std.proofs.Common.{◌≡◌, ℕ, ◌&&◌, eqb, List, length, take, drop, replicate, Decides, ap, ◌∙◌, subst}
use Rattle.std.proofs.lemmas.List.{take_rest}
use Rattle.std.proofs.lemmas.Bool.{and_parts, eqb-true}
use Rattle.byte_rows.specs.Texts.{text_of}
use Rattle.byte_rows.proofs.Fillings.{text_row_is}
use Rattle.byte_rows.proofs.texts.is_text_row.Goals as goal

pub returns : goal.returns
returns c =
    let row : List ℕ = c.args.row.now in
    let w : ℕ = c.args.width in
    let n : ℕ = c.text_length-length.result in
    let z = c.all_zero-filling.result in
    let text : c.is_text-text.result ≡ text_of w (take n row) = c.is_text-text.ensures in
    let zeros : Decides z (drop n row ≡ replicate (length (drop n row)) 0) = subst (λ l. Decides z (l ≡ replicate (length l) 0)) (take_rest row n) c.all_zero-filling.ensures in
    record {
      test = ap (λ t. (t && eqb (length row) w) && z) text ∙ text_row_is w n row z c.text_length-length.ensures.within c.text_length-length.ensures.text zeros;
      long = λ h. eqb-true _ _ (and_parts c.is_text-text.result _ (and_parts (c.is_text-text.result && eqb (length row) w) z h).0).1;
    }

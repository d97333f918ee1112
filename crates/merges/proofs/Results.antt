-- What a merge of maps is where two of them are one, and how long it is at most. Assumes nothing.
use Rattle.std.proofs.Common.{◌≡◌, ℕ, ◌+◌, ◌≤◌, List, ◌++◌, length, Option, ◌∙◌, arith, length-append}
use lib.ListN.{length-map}
use Rattle.kinds.specs.Kinds.{KeyKind, ValueKind}
use Rattle.model.specs.Maps.{Setting, Map, keys, look, decided, merge, Sound}
use Rattle.model.proofs.Maps.Found.{found_tells}
use Rattle.model.proofs.Maps.Order.{sound_equal}
use Rattle.model.proofs.Maps.Edits.{sound_merge, look_merge}
use Rattle.edits.proofs.Estimates.{tabulate_long}

module _ (V : ValueKind) where
  decided_same : (o b : Option (List ℕ)) → decided V o b o ≡ o
  decided_same o b = grind (arith, found_tells)

  decided_theirs : (o t : Option (List ℕ)) → decided V o o t ≡ t
  decided_theirs o t = grind (arith, found_tells)

  decided_ours : (o t : Option (List ℕ)) → decided V o t t ≡ o
  decided_ours o t = grind (arith, found_tells)

module _ (K : KeyKind) (V : ValueKind) (o : Map) (go : Sound K V o) where
  -- ours is theirs
  pub merge_same : (b : Map) → merge K V o b o ≡ o
  merge_same b = sound_equal K V (merge K V o b o) o (sound_merge K V o b o go go) go λ k. look_merge K V o b o go go k ∙ decided_same V (look o k) (look b k)

  module _ (t : Map) (gt : Sound K V t) where
    -- ours is the base
    pub merge_theirs : merge K V o o t ≡ t
    merge_theirs = sound_equal K V (merge K V o o t) t (sound_merge K V o o t go gt) gt λ k. look_merge K V o o t go gt k ∙ decided_theirs V (look o k) (look t k)

    -- theirs is the base
    pub merge_ours : merge K V o t t ≡ o
    merge_ours = sound_equal K V (merge K V o t t) o (sound_merge K V o t t go gt) go λ k. look_merge K V o t t go gt k ∙ decided_ours V (look o k) (look t k)

-- a merge has at most the settings of ours and theirs
pub merged_long : (K : KeyKind) (V : ValueKind) (o b t : Map) → length (merge K V o b t) ≤ length o + length t
merged_long K V o b t =
    let key : Setting → List ℕ = λ s. s.key in
    omega (arith, tabulate_long K (keys o ++ keys t) (λ x. decided V (look o x) (look b x) (look t x)), length-append (keys o) (keys t), length-map o key, length-map t key)

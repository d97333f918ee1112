-- Bytes that begin with no entry. Assumes nothing.
use Rattle.std.proofs.Common.{◌≡◌, ℕ, ◌+◌, true, false, ◌&&◌, List, ◌∷◌, ◌++◌, length, take, drop, sym, ap, ◌∙◌, ap₂, arith, length-append}
use Rattle.std.proofs.Math.Seq.{take-append_seam, drop-append_seam}
use Rattle.kinds.specs.Kinds.{KeyKind, ValueKind}
use Rattle.model.specs.declared.commands.TheConstants.{HEADER, NODE, ENTRY, COLLISION, END}
use Rattle.sovindrate.specs.declared.commands.Command.TheVariants.{Header, Node, Entry, Crowd, End}
use Rattle.sovindrate.specs.Commands.{BeginWithNone}

-- operands that begin with no key and value
abbrev NoSetting : {X Y : Type 0} → (X → List ℕ) → (Y → List ℕ) → List ℕ → Type 0
NoSetting {X} {Y} kb vb bs = (x : X) (y : Y) (rest : List ℕ) → bs ≡ (kb x ++ vb y) ++ rest → ⊥

no_entry : {X Y : Type 0} (kb : X → List ℕ) (vb : Y → List ℕ) (bs : List ℕ) → NoSetting kb vb bs → BeginWithNone kb vb (ENTRY ∷ bs)
no_entry kb vb bs none (Header edition key value) rest e = let z : ◌≡◌ {A = ℕ} ENTRY HEADER = cc in omega arith
no_entry kb vb bs none (Node «data» nodes) rest e = let z : ◌≡◌ {A = ℕ} ENTRY NODE = cc in omega arith
no_entry kb vb bs none (Entry x y) rest e = none x y rest cc
no_entry kb vb bs none (Crowd entries) rest e = let z : ◌≡◌ {A = ℕ} ENTRY COLLISION = cc in omega arith
no_entry kb vb bs none (End entries) rest e = let z : ◌≡◌ {A = ℕ} ENTRY END = cc in omega arith

module _ {X Y : Type 0} (K : KeyKind) (V : ValueKind) (kb : X → List ℕ) (vb : Y → List ℕ) (keys : (x : X) → K.readable (kb x) ≡ true) (values : (y : Y) → V.readable (vb y) ≡ true) where
  wide : (x : X) (y : Y) → length (kb x ++ vb y) ≡ K.width + V.width
  wide x y = length-append (kb x) (vb y) ∙ ap₂ (λ m n. m + n) (K.reads_width (kb x) (keys x)) (V.reads_width (vb y) (values y))

  -- a key's bytes and a value's are read back
  both : (x : X) (y : Y) → (K.readable (take K.width (kb x ++ vb y)) && V.readable (drop K.width (kb x ++ vb y))) ≡ true
  both x y =
      let w : length (kb x) ≡ K.width = K.reads_width (kb x) (keys x) in
      ap₂ (λ a b. K.readable a && V.readable b)
      (ap (λ n. take n (kb x ++ vb y)) (sym w) ∙ take-append_seam (kb x) (vb y))
      (ap (λ n. drop n (kb x ++ vb y)) (sym w) ∙ drop-append_seam (kb x) (vb y))
      ∙ ap₂ (λ a b. a && b) (keys x) (values y)

  pub unread : (bs row : List ℕ) → row ≡ take (K.width + V.width) bs → (K.readable (take K.width row) && V.readable (drop K.width row)) ≡ false → BeginWithNone kb vb (ENTRY ∷ bs)
  unread bs row is bad = no_entry kb vb bs (λ x y rest e.
      let same : row ≡ kb x ++ vb y = is ∙ (ap₂ take (sym (wide x y)) e ∙ take-append_seam (kb x ++ vb y) rest) in
      let good : (K.readable (take K.width row) && V.readable (drop K.width row)) ≡ true = ap (λ r. K.readable (take K.width r) && V.readable (drop K.width r)) same ∙ both x y in
      let z : ◌≡◌ {A = ℕ} 0 1 = cc in omega arith)

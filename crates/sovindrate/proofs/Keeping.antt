-- The calls that were there, and those of the account behind them. Assumes nothing.
use Rattle.std.proofs.Common.{◌≡◌, ℕ, ◌+◌, List, [], ◌∷◌, ◌++◌, ap, sym, ◌∙◌, append_assoc, zero-add}
use Rattle.std.specs.List.{flat_map, range_with_len}
use Rattle.std.proofs.lemmas.List.{flat_map_more, map-id}
use Rattle.std.proofs.lemmas.List.FromFn.{map-range_with_len_more}
use Rattle.store.specs.Answers.{LentCall}
use Rattle.store.specs.declared.calls.Call.TheVariants.{Count, Save, Free}
use Rattle.sovindrate.specs.Closing.{place_calls, account_calls}

-- the calls about the places below p
abbrev pub calls_below : {X Y : Type 0} → ℕ → ℕ → List (LentCall X Y)
calls_below room p = flat_map (place_calls room) (range_with_len 0 p)

-- one place more
range_more : (p : ℕ) → range_with_len 0 (p + 1) ≡ range_with_len 0 p ++ (p ∷ [])
range_more p =
    sym (map-id (range_with_len 0 (p + 1))) ∙ map-range_with_len_more (λ x. x) 0 p p (zero-add p)
    ∙ ap (λ ps. ps ++ (p ∷ [])) (map-id (range_with_len 0 p))

module _ {X Y : Type 0} (room p : ℕ) (xs ys : List (LentCall X Y)) (below : ys ≡ xs ++ calls_below room p) where
  pub below_more : (zs ws : List (LentCall X Y)) → zs ≡ ys ++ (Count p ∷ []) → ws ≡ zs ++ (Save p room ∷ []) → ws ≡ xs ++ calls_below room (p + 1)
  below_more zs ws counted saved =
      saved ∙ ap (λ r. r ++ (Save p room ∷ [])) counted ∙ append_assoc ys (Count p ∷ []) (Save p room ∷ [])
      ∙ ap (λ r. r ++ place_calls room p) below ∙ flat_map_more (place_calls room) xs (range_with_len 0 p) p
      ∙ ap (λ ps. xs ++ flat_map (place_calls room) ps) (sym (range_more p))

  pub all_asked : (zs : List (LentCall X Y)) → p ≡ 64 → zs ≡ ys ++ (Free ∷ []) → zs ≡ xs ++ account_calls room
  unfolding account_calls
  all_asked zs last freed =
      freed ∙ ap (λ r. r ++ (Free ∷ [])) below ∙ append_assoc xs (calls_below room p) (Free ∷ [])
      ∙ ap (λ n. xs ++ (calls_below room n ++ (Free ∷ []))) last

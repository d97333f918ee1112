-- The entries of a collision node: as many as its count says, with keys that rise. Assumes nothing.
use Rattle.std.proofs.Common.{◌≡◌, ℕ, suc, ◌+◌, ◌-◌, ◌<◌, ◌≤◌, Bool, true, false, cond, ◌&&◌, leb, List, [], ◌∷◌, length, get_or, refl, ap, ◌∙◌, subst, arith}
use Rattle.byte_rows.specs.Rows.{number}
use Rattle.byte_rows.proofs.Numbers.{number_1}
use Rattle.kinds.specs.Kinds.{KeyKind, ValueKind}
use Rattle.kinds.specs.declared.refusal.Refusal.{Refusal}
use Rattle.kinds.specs.declared.refusal.Refusal.TheVariants.{Broken}
use Rattle.model.specs.declared.limits.TheConstants.{MOST_OF_A_HASH}
use Rattle.model.specs.Maps.{Setting}
use Rattle.model.specs.Reading.{Read, got, fault, with_first, rising, read_crowd}
use Rattle.image_reader.specs.Cursors.{Cursor}
use Rattle.image_reader.specs.Readings.{read_from, ReadingReaches, ReadingFaults}
use Rattle.image_reader.specs.Entries.{EntryReached}
use Rattle.image_reader.proofs.Readings.{reaches_itself, reaches_like, faults_through, faults_broken, faults_after, reaches_after}
use Rattle.image_reader.proofs.EntryReadings.{entry_led, any}

module _ (K : KeyKind) (V : ValueKind) (p : List ℕ) where
  -- ---- the count

  module _ (at : ℕ) (ws : List ℕ) (one : length ws ≡ 1) (r : Cursor) where
    abbrev many : ℕ
    many = get_or ws 0 0

    by_count : (t : Bool) → (leb 2 many && leb many MOST_OF_A_HASH) ≡ t →
        read_from (read_crowd K V p at (number ws)) r
        ≡ cond t (read_from (rising K V p many any) r) (fault 9 at)
    by_count t e =
        ap (λ n. read_from (read_crowd K V p at n) r) (number_1 ws one)
        ∙ ap (λ b. cond b (read_from (rising K V p many any) r) (fault 9 at)) e

    pub collision_broken : (x : Refusal) → x ≡ Broken at →
        (leb 2 many && leb many MOST_OF_A_HASH) ≡ false →
        ReadingFaults (read_crowd K V p at (number ws)) r x
    collision_broken x e bad =
        faults_broken (read_crowd K V p at (number ws)) r x at e (by_count false bad)

    pub collision_starts : (leb 2 many && leb many MOST_OF_A_HASH) ≡ true →
        ReadingReaches (read_crowd K V p at (number ws)) (rising K V p (many - 0) any) r r 0
    collision_starts good =
        let all : many - 0 ≡ many = omega arith in
        rw all
        (reaches_like _ (rising K V p many any) _ r r 0 (by_count true good)
        (reaches_itself (rising K V p many any) r))

  -- ---- one entry more

  module _ (f : ℕ → List ℕ → Read) (many i : ℕ) (some : i < many) (ok : List ℕ → Bool)
      (r s : Cursor) (o : ReadingReaches f (rising K V p (many - i) ok) r s i) where
    -- what follows an entry
    abbrev after : Setting → ℕ → List ℕ → Read
    after x = rising K V p (many - (i + 1)) (λ k. K.before x.key k)

    abbrev turn : ℕ → List ℕ → Read
    turn at bs = with_first at (entry_led K V p ok at bs) after

    next : ReadingReaches f turn r s i
    next =
        let more : many - i ≡ suc (many - (i + 1)) = omega arith in
        subst (λ n. ReadingReaches f (rising K V p n ok) r s i) more o

    pub rising_faults : (x : Refusal) → ReadingFaults (entry_led K V p ok) s x → ReadingFaults f r x
    rising_faults x w =
        faults_after f r s i turn next x
        (faults_through (λ q. with_first s.at q after) (λ n at. refl) turn _ s s x refl w)

    pub rising_reaches : (t : Cursor) (k : List ℕ) → EntryReached (entry_led K V p ok) s t k →
        ReadingReaches f (rising K V p (many - (i + 1)) (λ l. K.before k l)) r t (i + 1)
    rising_reaches t k g =
        reaches_after f r s i turn next (rising K V p (many - (i + 1)) (λ l. K.before k l)) t 1
        (record {
          settings = record { key = k; value = g.value } ∷ [];
          so_far = ap (λ q. with_first s.at q after) g.is;
          counted = refl;
          image = g.image;
          onward = omega (arith, g.onward);
          fits = λ h. g.fits;
        })

  pub rising_ends : (f : ℕ → List ℕ → Read) (many i : ℕ) (ok : List ℕ → Bool) (r s : Cursor) →
      many ≤ i → ReadingReaches f (rising K V p (many - i) ok) r s i →
      ReadingReaches f (got []) r s i
  rising_ends f many i ok r s h o =
      let none : many - i ≡ 0 = omega arith in
      subst (λ n. ReadingReaches f (rising K V p n ok) r s i) none o

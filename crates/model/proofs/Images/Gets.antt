-- What the readings give on the bytes that a map is saved as. Assumes nothing.
use Rattle.std.proofs.Common.{◌≡◌, ℕ, zero, suc, ◌+◌, ◌*◌, ◌/◌, ◌%◌, ◌^◌, ◌<◌, ◌≤◌, Bool, true, false, ◌&&◌, eqb, List, [], ◌∷◌, ◌++◌, length, take, drop, sym, refl, ap, ◌∙◌, subst, ap₂, pow-suc, arith}
use native.Mathlib.Nat.{div-div-eq-div-mul}
use lib.Arith.{mod-mul}
use Rattle.std.specs.List.{AllByRecursion}
use Rattle.std.proofs.lemmas.Bool.{eqb-true, eq-eqb, and_parts, le-ltb, and_from}
use Rattle.std.proofs.lemmas.List.{length-append, append_assoc, take_at, drop_at}
use Rattle.kinds.specs.Kinds.{KeyKind, ValueKind}
use Rattle.model.specs.declared.commands.TheConstants.{ENTRY}
use Rattle.model.specs.Maps.{Setting, Map, Rises, Readable}
use Rattle.model.specs.Tries.{filter, digit, leads, at_digit, Uncrowded}
use Rattle.model.specs.Images.{entry}
use Rattle.model.specs.Reading.{Read, got, prepend, then, each, command, entry_in, read_entry, with_first, rising}
use Rattle.model.proofs.Images.Lists.{flat, all_both, all_to, all_filter, filter_passes, filter_all, length_filter, filter_swap}
use Rattle.model.proofs.Images.Rising.{filter_rises}

-- a reading gives these settings, and this is left
abbrev pub Gets : Read → List Setting → List ℕ → Type 0
Gets r xs bs = (to : ℕ) × (r ≡ got xs to bs)

pub gets_at : (r r' : Read) (xs : List Setting) (bs : List ℕ) → r ≡ r' → Gets r' xs bs → Gets r xs bs
gets_at r r' xs bs e g = (g.0, e ∙ g.1)

pub then_gets : (r : Read) (f : ℕ → List ℕ → Read) (xs ys : List Setting) (mid rest : List ℕ) →
    Gets r xs mid → ((to : ℕ) → Gets (f to mid) ys rest) → Gets (then r f) (xs ++ ys) rest
then_gets r f xs ys mid rest g h = ((h g.0).0, ap (λ q. then q f) g.1 ∙ ap (prepend xs) (h g.0).1)

pub with_first_gets : (at : ℕ) (r : Read) (f : Setting → ℕ → List ℕ → Read) (x : Setting) (ys : List Setting) (mid rest : List ℕ) →
    Gets r (x ∷ []) mid → ((to : ℕ) → Gets (f x to mid) ys rest) → Gets (with_first at r f) (x ∷ ys) rest
with_first_gets at r f x ys mid rest g h = ((h g.0).0, ap (λ q. with_first at q f) g.1 ∙ ap (prepend (x ∷ [])) (h g.0).1)

pub each_gets : {A : Type 0} (f : A → ℕ → List ℕ → Read) (code : A → List ℕ) (part : A → List Setting) (xs : List A) →
    AllByRecursion (λ x. (at : ℕ) (rest : List ℕ) → Gets (f x at (code x ++ rest)) (part x) rest) xs →
    (at : ℕ) (rest : List ℕ) → Gets (each f xs at (flat code xs ++ rest)) (flat part xs) rest
each_gets f code part [] a at rest = (at, refl)
each_gets f code part (x ∷ xs) a at rest =
    rw (append_assoc (code x) (flat code xs) rest)
    (then_gets (f x at (code x ++ (flat code xs ++ rest))) (each f xs) (part x) (flat part xs) (flat code xs ++ rest) rest
    (a.0 at (flat code xs ++ rest)) (λ to. each_gets f code part xs a.1 to rest))

pub command_runs : (c w : ℕ) (f : List ℕ → ℕ → List ℕ → Read) (at : ℕ) (ws bs : List ℕ) → length ws ≡ w →
    command c w f at (c ∷ (ws ++ bs)) ≡ f ws (at + (1 + w)) bs
command_runs c w f at ws bs e =
    rw (eq-eqb c c refl, le-ltb (length (ws ++ bs)) w (omega (arith, length-append ws bs)), take_at ws bs w e, drop_at ws bs w e)

module _ (K : KeyKind) (V : ValueKind) where
  pub entry_gets : (ok : List ℕ → Bool) (s : Setting) → Readable K V s → ok s.key ≡ true → (at : ℕ) (rest : List ℕ) →
      Gets (read_entry K V ok at (entry s ++ rest)) (s ∷ []) rest
  entry_gets ok s r o at rest =
      let long : length (s.key ++ s.value) ≡ K.width + V.width =
      length-append s.key s.value ∙ rw (K.reads_width s.key r.0, V.reads_width s.value r.1) in
      let front : take K.width (s.key ++ s.value) ≡ s.key = take_at s.key s.value K.width (K.reads_width s.key r.0) in
      let back : drop K.width (s.key ++ s.value) ≡ s.value = drop_at s.key s.value K.width (K.reads_width s.key r.0) in (
        at + (1 + (K.width + V.width)),
        command_runs ENTRY (K.width + V.width) (entry_in K V ok at) at (s.key ++ s.value) rest long ∙ rw (front, back, r.0, r.1, o),
      )

  pub rising_gets : (p : List ℕ) (m : Map) (ok : List ℕ → Bool) → Rises K m → AllByRecursion (Readable K V) m → AllByRecursion (λ s. leads K 0 p s.key ≡ true) m →
      AllByRecursion (λ s. ok s.key ≡ true) m → (at : ℕ) (rest : List ℕ) → Gets (rising K V p (length m) ok at (flat entry m ++ rest)) m rest
  rising_gets p [] ok r a l o at rest = (at, refl)
  rising_gets p (s ∷ m) ok r a l o at rest =
      subst (λ l. Gets (rising K V p (suc (length m)) ok at l) (s ∷ m) rest) (sym (append_assoc (entry s) (flat entry m) rest))
      (with_first_gets at _ (λ x. rising K V p (length m) (λ k. K.before x.key k)) s m (flat entry m ++ rest) rest
      (entry_gets (λ k. leads K 0 p k && ok k) s a.0 (and_from _ _ l.0 o.0) at (flat entry m ++ rest))
      (λ to. rising_gets p m (λ k. K.before s.key k) r.1 a.1 l.1 r.0 to rest))

  -- a part at a prefix
  pub record Good (p : List ℕ) (m : Map) : Type 0 where
    pub led : AllByRecursion (λ s. leads K 0 p s.key ≡ true) m
    pub reads : AllByRecursion (Readable K V) m
    pub rises : Rises K m
    pub uncrowded : Uncrowded K m

and_true : (b : Bool) → (b && true) ≡ b
and_true true = refl
and_true false = refl

and_assoc : (a b c : Bool) → (a && (b && c)) ≡ ((a && b) && c)
and_assoc true b c = refl
and_assoc false b c = refl

pub leads_push : (K : KeyKind) (d : ℕ) (p : List ℕ) (g : ℕ) (k : List ℕ) → leads K d (p ++ (g ∷ [])) k ≡ (leads K d p k && eqb (digit (K.hash k) (d + length p)) g)
leads_push K d [] g k = and_true _ ∙ ap (λ x. eqb (digit (K.hash k) x) g) (omega arith)
leads_push K d (x ∷ p) g k =
    ap (λ b. eqb (digit (K.hash k) d) x && b) (leads_push K (d + 1) p g k)
    ∙ (and_assoc (eqb (digit (K.hash k) d) x) (leads K (d + 1) p k) _
    ∙ ap (λ n. (eqb (digit (K.hash k) d) x && leads K (d + 1) p k) && eqb (digit (K.hash k) n) g) (omega arith))

-- the hash that eight digits lead to
abbrev pub led_to : List ℕ → ℕ
led_to [] = 0
led_to (g ∷ p) = led_to p * 16 + g

hexes_pos : (w : ℕ) → 0 < 16 ^ w
hexes_pos zero = omega arith
hexes_pos (suc w) = omega (arith, hexes_pos w, pow-suc 16 w)

leads_to : (K : KeyKind) (d : ℕ) (p : List ℕ) (k : List ℕ) → leads K d p k ≡ true → (K.hash k / 16 ^ d) % 16 ^ length p ≡ led_to p
leads_to K d [] k l = omega arith
leads_to K d (g ∷ p) k l =
    let parts = and_parts (eqb (digit (K.hash k) d) g) (leads K (d + 1) p k) l in
    let next : K.hash k / 16 ^ d / 16 ≡ K.hash k / 16 ^ (d + 1) =
    div-div-eq-div-mul (K.hash k) (16 ^ d) 16 ∙ ap (λ x. K.hash k / x) (sym (pow-suc 16 d) ∙ ap (λ n. 16 ^ n) (omega arith)) in
    ap (λ x. (K.hash k / 16 ^ d) % x) (pow-suc 16 (length p))
    ∙ (mod-mul (K.hash k / 16 ^ d) (hexes_pos (length p)) (omega arith)
    ∙ ap₂ (λ x y. x * 16 + y) (ap (λ x. x % 16 ^ length p) next ∙ leads_to K (d + 1) p k parts.1) (eqb-true _ g parts.0))

pub led_hash : (K : KeyKind) (p : List ℕ) (k : List ℕ) → length p ≡ 8 → leads K 0 p k ≡ true → K.hash k ≡ led_to p
led_hash K p k e l =
    let all : (K.hash k / 16 ^ 0) % 16 ^ length p ≡ led_to p = leads_to K 0 p k l in
    let whole : (K.hash k / 1) % 16 ^ 8 ≡ led_to p = rw e at all in
    omega (arith, whole, K.hash_fits k)

module _ (K : KeyKind) (V : ValueKind) where
  pub good_part : (p : List ℕ) (m : Map) (d g : ℕ) → d ≡ length p → Good K V p m → Good K V (p ++ (g ∷ [])) (at_digit K d m g)
  good_part p m d g e good = record {
    led = all_both (λ s. leads K 0 p s.key ≡ true) (λ s. eqb (digit (K.hash s.key) d) g ≡ true) _
        (λ s a b. leads_push K 0 p g s.key ∙ and_from _ _ a (ap (λ n. eqb (digit (K.hash s.key) n) g) (omega arith) ∙ b))
        (at_digit K d m g) (all_filter _ _ m good.led) (filter_passes (λ s. eqb (digit (K.hash s.key) d) g) m);
    reads = all_filter _ _ m good.reads;
    rises = filter_rises K _ m good.rises;
    uncrowded = λ x. rw (filter_swap (λ s. eqb (K.hash s.key) x) (λ s. eqb (digit (K.hash s.key) d) g) m)
        (omega (arith, length_filter (λ s. eqb (digit (K.hash s.key) d) g) (filter (λ s. eqb (K.hash s.key) x) m), good.uncrowded x));
  }

  pub crowd_fits : (p : List ℕ) (m : Map) → length p ≡ 8 → Good K V p m → length m ≤ 16
  crowd_fits p m e good =
      rw (filter_all (λ s. eqb (K.hash s.key) (led_to p)) m
      (all_to (λ s. leads K 0 p s.key ≡ true) _ (λ s l. eq-eqb _ _ (led_hash K p s.key e l)) m good.led)) at (good.uncrowded (led_to p))

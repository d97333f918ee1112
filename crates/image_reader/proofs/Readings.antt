-- Readings one after another. Assumes nothing.
use Rattle.std.proofs.Common.{◌≡◌, ℕ, ◌+◌, List, [], ◌++◌, sym, refl, ap, ◌∙◌, arith}
use Rattle.std.proofs.lemmas.List.{length-append, append_assoc, append-nil}
use Rattle.kinds.specs.declared.refusal.Refusal.{Refusal}
use Rattle.kinds.specs.declared.refusal.Refusal.TheVariants.{Broken}
use Rattle.kinds.specs.Refusals.{shown}
use Rattle.model.specs.Maps.{Setting}
use Rattle.model.specs.Reading.{Read, got, fault, prepend, then}
use Rattle.image_reader.specs.Cursors.{Cursor}
use Rattle.image_reader.specs.Readings.{read_from, ReadingReaches, ReadingFaults}

pub prepend_none : (r : Read) → prepend [] r ≡ r
prepend_none (got xs at bs) = refl
prepend_none (fault n at) = refl

prepend_twice : (xs ys : List Setting) (r : Read) → prepend xs (prepend ys r) ≡ prepend (xs ++ ys) r
prepend_twice xs ys (got zs at bs) = ap (λ l. got l at bs) (sym (append_assoc xs ys zs))
prepend_twice xs ys (fault n at) = refl

-- nothing was read yet
pub reaches_itself : (f : ℕ → List ℕ → Read) (r : Cursor) → ReadingReaches f f r r 0
reaches_itself f r = record {
  settings = [];
  so_far = sym (prepend_none _);
  counted = refl;
  image = refl;
  onward = omega arith;
  fits = λ h. h;
}

-- a reading that is another one
pub reaches_like : (f g next : ℕ → List ℕ → Read) (r s : Cursor) (n : ℕ) →
    read_from f r ≡ read_from g r → ReadingReaches g next r s n → ReadingReaches f next r s n
reaches_like f g next r s n e o = record {
  settings = o.settings;
  so_far = e ∙ o.so_far;
  counted = o.counted;
  image = o.image;
  onward = o.onward;
  fits = o.fits;
}

-- a reading that goes on with another one, and keeps the faults of that one
pub faults_through : (h : Read → Read) → ((n at : ℕ) → h (fault n at) ≡ fault n at) →
    (f g : ℕ → List ℕ → Read) (r s : Cursor) (x : Refusal) → read_from f r ≡ h (read_from g s) →
    ReadingFaults g s x → ReadingFaults f r x
faults_through h keeps f g r s x e w = record {
  number = w.number;
  offset = w.offset;
  is = e ∙ (ap h w.is ∙ keeps w.number w.offset);
  shows = w.shows;
}

pub faults_like : (f g : ℕ → List ℕ → Read) (r s : Cursor) (x : Refusal) →
    read_from f r ≡ read_from g s → ReadingFaults g s x → ReadingFaults f r x
faults_like f g r s x e w = faults_through (λ q. q) (λ n at. refl) f g r s x e w

-- a command that is against a rule
pub faults_broken : (f : ℕ → List ℕ → Read) (r : Cursor) (x : Refusal) (at : ℕ) → x ≡ Broken at →
    read_from f r ≡ fault 9 at → ReadingFaults f r x
faults_broken f r x at e is = record { number = 9; offset = at; is = is; shows = ap shown e }

module _ (f : ℕ → List ℕ → Read) (r s : Cursor) (n : ℕ) (next : ℕ → List ℕ → Read)
    (o : ReadingReaches f next r s n) where
  -- what goes on and is a fault
  pub faults_after : (x : Refusal) → ReadingFaults next s x → ReadingFaults f r x
  faults_after x w = faults_through (prepend o.settings) (λ n at. refl) f next r s x o.so_far w

  -- what goes on and comes to another place
  pub reaches_after : (last : ℕ → List ℕ → Read) (t : Cursor) (m : ℕ) →
      ReadingReaches next last s t m → ReadingReaches f last r t (n + m)
  reaches_after last t m w = record {
    settings = o.settings ++ w.settings;
    so_far = o.so_far ∙ (ap (prepend o.settings) w.so_far ∙ prepend_twice o.settings w.settings _);
    counted = length-append o.settings w.settings ∙ omega (arith, o.counted, w.counted);
    image = w.image ∙ o.image;
    onward = omega (arith, o.onward, w.onward);
    fits = λ h. w.fits (o.fits h);
  }

-- a reading that begins with another one: to the end of that one
module _ (g next : ℕ → List ℕ → Read) (s : Cursor) where
  pub then_reaches : (t : Cursor) (m : ℕ) → ReadingReaches g (got []) s t m →
      ReadingReaches (λ at bs. then (g at bs) next) next s t m
  then_reaches t m w = record {
    settings = w.settings;
    so_far = ap (λ q. then q next) w.so_far
        ∙ ap (λ l. prepend l (read_from next t)) (append-nil w.settings);
    counted = w.counted;
    image = w.image;
    onward = w.onward;
    fits = w.fits;
  }

  pub then_faults : (x : Refusal) → ReadingFaults g s x →
      ReadingFaults (λ at bs. then (g at bs) next) s x
  then_faults x w = faults_through (λ q. then q next) (λ n at. refl) _ g s s x refl w

-- What must stand where a reading ends well. Assumes nothing.
use Rattle.std.proofs.Common.{◌≡◌, ℕ, zero, suc, ◌+◌, Bool, true, false, cond, ◌&&◌, eqb, ltb, List, [], ◌∷◌, ◌++◌, length, take, drop, sym, refl, ap, ◌∙◌, subst, ap₂, arith}
use Rattle.std.specs.List.{AllByRecursion}
use Rattle.std.proofs.lemmas.Bool.{eqb-true, and_parts, and_from, ltb-false}
use Rattle.std.proofs.lemmas.List.{append_assoc, length-take-le, take-append-drop}
use Rattle.byte_rows.specs.Rows.{byte_row}
use Rattle.kinds.specs.Kinds.{KeyKind, ValueKind}
use Rattle.model.specs.declared.commands.TheConstants.{ENTRY}
use Rattle.model.specs.Maps.{Setting, Rises, Readable}
use Rattle.model.specs.Tries.{leads}
use Rattle.model.specs.Images.{entry}
use Rattle.model.specs.Reading.{Read, got, fault, prepend, then, command, entry_in, read_entry, with_first, rising}
use Rattle.model.proofs.Images.Lists.{flat, all_to}
use Rattle.model.proofs.Images.Rising.{After}

pub no_fault : {C : Type 0} (n at to : ℕ) (xs : List Setting) (bs : List ℕ) → fault n at ≡ got xs to bs → C
no_fault n at to xs bs e = absurd (let z : ◌≡◌ {A = ℕ} 0 1 = cc in omega arith)

-- a test that was passed, where a fault would follow
pub passed : (b : Bool) (r : Read) (n at : ℕ) (xs : List Setting) (to : ℕ) (bs : List ℕ) → cond b r (fault n at) ≡ got xs to bs → (b ≡ true) × (r ≡ got xs to bs)
passed true r n at xs to bs e = (refl, e)
passed false r n at xs to bs e = no_fault n at to xs bs e

-- a test that was failed, where it leads to a fault
pub failed : (b : Bool) (r : Read) (n at : ℕ) (xs : List Setting) (to : ℕ) (bs : List ℕ) → cond b (fault n at) r ≡ got xs to bs → (b ≡ false) × (r ≡ got xs to bs)
failed true r n at xs to bs e = no_fault n at to xs bs e
failed false r n at xs to bs e = (refl, e)

pub record Split (r : Read) (f : ℕ → List ℕ → Read) (zs : List Setting) (to : ℕ) (rest : List ℕ) : Type 0 where
  pub before : List Setting
  pub after : List Setting
  pub mid_at : ℕ
  pub mid : List ℕ
  pub first : r ≡ got before mid_at mid
  pub second : f mid_at mid ≡ got after to rest
  pub joined : zs ≡ before ++ after

pub prepend_split : (xs : List Setting) (r : Read) (zs : List Setting) (to : ℕ) (rest : List ℕ) → prepend xs r ≡ got zs to rest →
    (ys : List Setting) × (r ≡ got ys to rest) × (zs ≡ xs ++ ys)
prepend_split xs (got ys at bs) zs to rest e = (ys, cc, cc)
prepend_split xs (fault n at) zs to rest e = no_fault n at to zs rest e

pub then_split : (r : Read) (f : ℕ → List ℕ → Read) (zs : List Setting) (to : ℕ) (rest : List ℕ) → then r f ≡ got zs to rest → Split r f zs to rest
then_split (got xs at bs) f zs to rest e =
    let s = prepend_split xs (f at bs) zs to rest e in
    record { before = xs; after = s.0; mid_at = at; mid = bs; first = refl; second = s.1; joined = s.2 }
then_split (fault n at) f zs to rest e = no_fault n at to zs rest e

pub record Led (at : ℕ) (r : Read) (f : Setting → ℕ → List ℕ → Read) (zs : List Setting) (to : ℕ) (rest : List ℕ) : Type 0 where
  pub setting : Setting
  pub more : List Setting
  pub after : List Setting
  pub mid_at : ℕ
  pub mid : List ℕ
  pub first : r ≡ got (setting ∷ more) mid_at mid
  pub second : f setting mid_at mid ≡ got after to rest
  pub joined : zs ≡ setting ∷ (more ++ after)

pub with_first_split : (at : ℕ) (r : Read) (f : Setting → ℕ → List ℕ → Read) (zs : List Setting) (to : ℕ) (rest : List ℕ) →
    with_first at r f ≡ got zs to rest → Led at r f zs to rest
with_first_split at (got [] t bs) f zs to rest e = no_fault 9 at to zs rest e
with_first_split at (got (x ∷ xs) t bs) f zs to rest e =
    let s = prepend_split (x ∷ xs) (f x t bs) zs to rest e in
    record { setting = x; more = xs; after = s.0; mid_at = t; mid = bs; first = refl; second = s.1; joined = s.2 }
with_first_split at (fault n t) f zs to rest e = no_fault n t to zs rest e

pub record Ran (c w : ℕ) (f : List ℕ → ℕ → List ℕ → Read) (at : ℕ) (bs : List ℕ) (xs : List Setting) (to : ℕ) (rest : List ℕ) : Type 0 where
  pub operands : List ℕ
  pub left : List ℕ
  pub spelt : bs ≡ c ∷ (operands ++ left)
  pub wide : length operands ≡ w
  pub next : f operands (at + (1 + w)) left ≡ got xs to rest

pub command_ran : (c w : ℕ) (f : List ℕ → ℕ → List ℕ → Read) (at : ℕ) (bs : List ℕ) (xs : List Setting) (to : ℕ) (rest : List ℕ) →
    command c w f at bs ≡ got xs to rest → Ran c w f at bs xs to rest
command_ran c w f at [] xs to rest e = no_fault 8 at to xs rest e
command_ran c w f at (b ∷ bs) xs to rest e =
    let p = passed (eqb b c) _ 9 at xs to rest e in
    let q = failed (ltb (length bs) w) _ 8 at xs to rest p.1 in
    record {
      operands = take w bs;
      left = drop w bs;
      spelt = ap₂ (λ x l. x ∷ l) (eqb-true b c p.0) (sym (take-append-drop w bs));
      wide = length-take-le w bs (ltb-false (length bs) w q.0);
      next = q.1;
    }

pub byte_row_parts : (xs ys : List ℕ) → byte_row (xs ++ ys) ≡ true → (byte_row xs ≡ true) × (byte_row ys ≡ true)
byte_row_parts [] ys h = (refl, h)
byte_row_parts (x ∷ xs) ys h =
    let p = and_parts (ltb x 256) (byte_row (xs ++ ys)) h in
    let q = byte_row_parts xs ys p.1 in
    (and_from _ _ p.0 q.0, q.1)

module _ (K : KeyKind) (V : ValueKind) where
  pub record Entered (ok : List ℕ → Bool) (bs : List ℕ) (xs : List Setting) (rest : List ℕ) : Type 0 where
    pub setting : Setting
    pub alone : xs ≡ setting ∷ []
    pub spelt : bs ≡ entry setting ++ rest
    pub reads : Readable K V setting
    pub fits : ok setting.key ≡ true

  pub entry_read : (ok : List ℕ → Bool) (at : ℕ) (bs : List ℕ) (xs : List Setting) (to : ℕ) (rest : List ℕ) → read_entry K V ok at bs ≡ got xs to rest → Entered ok bs xs rest
  entry_read ok at bs xs to rest e =
      let r = command_ran ENTRY (K.width + V.width) (entry_in K V ok at) at bs xs to rest e in
      let w : List ℕ = r.operands in
      let s : Setting = record { key = take K.width w; value = drop K.width w } in
      let p = passed (K.readable s.key && (V.readable s.value && ok s.key)) (got (s ∷ []) (at + (1 + (K.width + V.width))) r.left) 9 at xs to rest r.next in
      let q = and_parts (K.readable s.key) (V.readable s.value && ok s.key) p.0 in
      let o = and_parts (V.readable s.value) (ok s.key) q.1 in
      let left : r.left ≡ rest = cc p.1 in
      let alone : xs ≡ s ∷ [] = cc p.1 in
      record {
        setting = s;
        alone = alone;
        spelt = r.spelt ∙ ap₂ (λ u v. ENTRY ∷ (u ++ v)) (sym (take-append-drop K.width w)) left;
        reads = (q.0, o.0);
        fits = o.1;
      }

  abbrev pub First : (List ℕ → Bool) → List Setting → Type 0
  First ok [] = Unit {0}
  First ok (x ∷ xs) = ok x.key ≡ true

  all_after : (s : Setting) (xs : List Setting) → First (λ k. K.before s.key k) xs → Rises K xs → AllByRecursion (After K s) xs
  all_after s [] f r = tt
  all_after s (t ∷ xs) f r = (f, all_to (After K t) (After K s) (λ u h. K.before_onward s.key t.key u.key f h) xs r.0)

  pub record Rose (p : List ℕ) (n : ℕ) (ok : List ℕ → Bool) (bs : List ℕ) (xs : List Setting) (rest : List ℕ) : Type 0 where
    pub counted : length xs ≡ n
    pub spelt : bs ≡ flat entry xs ++ rest
    pub reads : AllByRecursion (Readable K V) xs
    pub led : AllByRecursion (λ s. leads K 0 p s.key ≡ true) xs
    pub rises : Rises K xs
    pub first : First ok xs

  pub rising_read : (p : List ℕ) (n : ℕ) (ok : List ℕ → Bool) (at : ℕ) (bs : List ℕ) (xs : List Setting) (to : ℕ) (rest : List ℕ) →
      rising K V p n ok at bs ≡ got xs to rest → Rose p n ok bs xs rest
  rising_read p zero ok at bs xs to rest e =
      let none : [] ≡ xs = cc in
      let left : bs ≡ rest = cc in
      subst (λ l. Rose p 0 ok bs l rest) none (record { counted = refl; spelt = left; reads = tt; led = tt; rises = tt; first = tt })
  rising_read p (suc n) ok at bs xs to rest e =
      let s = with_first_split at (read_entry K V (λ k. leads K 0 p k && ok k) at bs) (λ x. rising K V p n (λ k. K.before x.key k)) xs to rest e in
      let x : Setting = s.setting in
      let r = entry_read (λ k. leads K 0 p k && ok k) at bs (x ∷ s.more) s.mid_at s.mid s.first in
      let same : x ≡ r.setting = cc r.alone in
      let bare : s.more ≡ [] = cc r.alone in
      let i = rising_read p n (λ k. K.before x.key k) s.mid_at s.mid s.after to rest s.second in
      let o = and_parts (leads K 0 p r.setting.key) (ok r.setting.key) r.fits in
      subst (λ l. Rose p (suc n) ok bs l rest) (sym (s.joined ∙ ap (λ l. x ∷ (l ++ s.after)) bare))
      (record {
        counted = ap suc i.counted;
        spelt = r.spelt ∙ (ap₂ (λ u v. entry u ++ v) (sym same) i.spelt ∙ sym (append_assoc (entry x) (flat entry s.after) rest));
        reads = (subst (Readable K V) (sym same) r.reads, i.reads);
        led = (subst (λ u. leads K 0 p u.key ≡ true) (sym same) o.0, i.led);
        rises = (all_after x s.after i.first i.rises, i.rises);
        first = subst (λ u. ok u.key ≡ true) (sym same) o.1;
      })

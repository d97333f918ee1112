-- One key of a map in rising order is set or cleared, and the entries of its settings. Assumes nothing.
use Rattle.std.proofs.Common.{◌≡◌, ℕ, ◌+◌, Bool, true, false, cond, List, [], ◌∷◌, ◌++◌, map, length, Some, None, Option, sym, refl, ap, ◌∙◌, subst, ap₂, inl, inr, arith, length-append}
use mathlib.Core.List.Memᴰ
use Rattle.std.specs.List.{AllByRecursion}
use Rattle.std.proofs.lemmas.Bool.{cond-true, cond-false}
use Rattle.byte_rows.specs.Rows.{same}
use Rattle.byte_rows.proofs.Orders.{same_tells, same_decides}
use Rattle.kinds.specs.Kinds.{KeyKind, ValueKind}
use Rattle.model.specs.Maps.{Setting, Map, look, same_found, same_map, Rises, Readable, Sound}
use Rattle.model.specs.Sharing.{Marked, Part, Shared, ◌⊕◌, sum, mark_of, entry_from}
use Rattle.model.proofs.Maps.Found.{same_self, found_true, found_self, found_tells}
use Rattle.model.proofs.Maps.Order.{Ahead, Reads, look_ahead, sound_equal}
use Rattle.model.proofs.Marks.Members.{Mem, all_mem, mem_map}
use Rattle.model.proofs.Marks.Keys.{same_map_true}
use Rattle.plans.specs.Plans.{edited}
use Rattle.plans.proofs.Digits.{same_map_self, one_test}
use Rattle.plans.proofs.Edits.{sound_edited, look_edited}

-- what is found for a key, as a row of settings
abbrev pub lone : List ℕ → Option (List ℕ) → Map
lone k (Some v) = record { key = k; value = v } ∷ []
lone k None = []

-- every key of a map before a key
abbrev pub Behind : KeyKind → List ℕ → Map → Type 0
Behind K k m = AllByRecursion (λ s. K.before s.key k ≡ true) m

-- ---- rows one after another

all_front : {A : Type 0} (P : A → Type 0) (xs ys : List A) → AllByRecursion P (xs ++ ys) → AllByRecursion P xs
all_front P [] ys a = tt
all_front P (x ∷ xs) ys a = (a.0, all_front P xs ys a.1)

all_back : {A : Type 0} (P : A → Type 0) (xs ys : List A) → AllByRecursion P (xs ++ ys) → AllByRecursion P ys
all_back P [] ys a = a
all_back P (x ∷ xs) ys a = all_back P xs ys a.1

all_both : {A : Type 0} (P : A → Type 0) (xs ys : List A) → AllByRecursion P xs → AllByRecursion P ys → AllByRecursion P (xs ++ ys)
all_both P [] ys a b = b
all_both P (x ∷ xs) ys a b = (a.0, all_both P xs ys a.1 b)

all_lone : (P : Setting → Type 0) (k : List ℕ) (x : Option (List ℕ)) (m : Map) → ((v : List ℕ) → x ≡ Some v → P (record { key = k; value = v })) → AllByRecursion P m → AllByRecursion P (lone k x ++ m)
all_lone P k (Some v) m h a = (h v refl, a)
all_lone P k None m h a = a

-- one thing taken out of a row
all_without : {A : Type 0} (P : A → Type 0) (xs : List A) (y : A) (ys : List A) → AllByRecursion P (xs ++ (y ∷ ys)) → AllByRecursion P (xs ++ ys)
all_without P [] y ys a = a.1
all_without P (x ∷ xs) y ys a = (a.0, all_without P xs y ys a.1)

pub length_lone : (b a : Map) (k : List ℕ) (x : Option (List ℕ)) → length (b ++ (lone k x ++ a)) ≡ length b + (length (lone k x) + length a)
length_lone b a k x = length-append b (lone k x ++ a) ∙ ap (λ (n : ℕ). length b + n) (length-append (lone k x) a)

apart : (K : KeyKind) (a b : List ℕ) → K.before a b ≡ true → a ≡ b → ⊥
apart K a b h e = let z : ◌≡◌ {A = ℕ} 0 1 = cc (K.before_not_self a) in omega arith

module _ (K : KeyKind) (V : ValueKind) where
  rises_without : (b : Map) (s : Setting) (a : Map) → Rises K (b ++ (s ∷ a)) → Rises K (b ++ a)
  rises_without [] s a r = r.1
  rises_without (t ∷ b) s a r = (all_without (λ u. K.before t.key u.key ≡ true) b s a r.0, rises_without b s a r.1)

  sound_without : (b : Map) (s : Setting) (a : Map) → Sound K V (b ++ (s ∷ a)) → Sound K V (b ++ a)
  sound_without b s a g = record { rises = rises_without b s a g.rises; reads = all_without (Readable K V) b s a g.reads }

  -- a key between what comes before it and what comes after
  module _ (k : List ℕ) (key : K.readable k ≡ true) where
    rises_between : (b a : Map) (x : Option (List ℕ)) → Behind K k b → Ahead K k a → Rises K (b ++ a) → Rises K (b ++ (lone k x ++ a))
    rises_between [] a (Some v) f g r = (g, r)
    rises_between [] a None f g r = r
    rises_between (s ∷ b) a x f g r =
        let P : Setting → Type 0 = λ t. K.before s.key t.key ≡ true in
        (all_both P b (lone k x ++ a) (all_front P b a r.0) (all_lone P k x a (λ v e. f.0) (all_back P b a r.0)), rises_between b a x f.1 g r.1)

    reads_lone : (x : Option (List ℕ)) → Reads V x → (v : List ℕ) → x ≡ Some v → Readable K V (record { key = k; value = v })
    reads_lone x r v e = (key, subst (Reads V) e r)

    pub sound_between : (b a : Map) (x : Option (List ℕ)) → Behind K k b → Ahead K k a → Reads V x → Sound K V (b ++ a) → Sound K V (b ++ (lone k x ++ a))
    sound_between b a x f g r good = record {
      rises = rises_between b a x f g good.rises;
      reads = all_both (Readable K V) b (lone k x ++ a) (all_front (Readable K V) b a good.reads) (all_lone (Readable K V) k x a (reads_lone x r) (all_back (Readable K V) b a good.reads));
    }

  pub look_between : (k : List ℕ) (b a : Map) (x : Option (List ℕ)) → Behind K k b → Ahead K k a → (j : List ℕ) → look (b ++ (lone k x ++ a)) j ≡ cond (same j k) x (look (b ++ a) j)
  look_between k [] a (Some v) f g j = grind (arith, same_tells)
  look_between k [] a None f g j = let n = look_ahead K V k a g in grind (arith, same_tells)
  look_between k (s ∷ b) a x f g j = let i = look_between k b a x f.1 g j in let n = apart K s.key k f.0 in grind (arith, same_tells)

  lone_self : (k : List ℕ) (s : Setting) (a : Map) → s.key ≡ k → s ∷ a ≡ lone k (Some s.value) ++ a
  lone_self k s a e = λ i. record { key = e i; value = s.value } ∷ a

  pub look_none : (k : List ℕ) (b a : Map) → Behind K k b → Ahead K k a → look (b ++ a) k ≡ None
  look_none k b a f g = look_between k b a None f g k ∙ cond-true (same k k) None (look (b ++ a) k) (same_self k)

  pub look_one : (k : List ℕ) (b : Map) (s : Setting) (a : Map) → s.key ≡ k → Behind K k b → Ahead K k a → look (b ++ (s ∷ a)) k ≡ Some s.value
  look_one k b s a e f g =
      ap (λ (r : Map). look (b ++ r) k) (lone_self k s a e) ∙ look_between k b a (Some s.value) f g k
      ∙ cond-true (same k k) (Some s.value) (look (b ++ a) k) (same_self k)

  -- ---- one key set or cleared

  twice : (j k : List ℕ) (x y z : Option (List ℕ)) → cond (same j k) x (cond (same j k) y z) ≡ cond (same j k) x z
  twice j k x y z = go (same j k)
    where
      go : (t : Bool) → cond t x (cond t y z) ≡ cond t x z
      go true = refl
      go false = refl

  module _ (m : Map) (k : List ℕ) (good : Sound K V m) (key : K.readable k ≡ true) (x : Option (List ℕ)) (reads : Reads V x) where
    edited_is : (b a : Map) → Behind K k b → Ahead K k a → Sound K V (b ++ a) → ((j : List ℕ) → cond (same j k) x (look m j) ≡ cond (same j k) x (look (b ++ a) j)) → edited K m k x ≡ b ++ (lone k x ++ a)
    edited_is b a f g s h =
        sound_equal K V (edited K m k x) (b ++ (lone k x ++ a)) (sound_edited K V m k good key x reads) (sound_between k key b a x f g reads s)
        λ j. look_edited K V m k good key x reads j ∙ h j ∙ sym (look_between k b a x f g j)

    -- a key that the map does not have
    pub edited_split : (before after : Map) → m ≡ before ++ after → Behind K k before → Ahead K k after → edited K m k x ≡ before ++ (lone k x ++ after)
    edited_split b a e f g = edited_is b a f g (subst (Sound K V) e good) λ j. ap (λ (r : Map). cond (same j k) x (look r j)) e

    -- a key that it has
    pub edited_over : (before : Map) (s : Setting) (after : Map) → m ≡ before ++ (s ∷ after) → s.key ≡ k → Behind K k before → Ahead K k after → edited K m k x ≡ before ++ (lone k x ++ after)
    edited_over b s a e w f g =
        edited_is b a f g (sound_without b s a (subst (Sound K V) e good))
        λ j. ap (λ (r : Map). cond (same j k) x (look r j)) (e ∙ ap (λ (r : Map). b ++ r) (lone_self k s a w))
        ∙ ap (cond (same j k) x) (look_between k b a (Some s.value) f g j) ∙ twice j k x (Some s.value) (look (b ++ a) j)

    -- nothing changes exactly where the key has it already
    pub edited_same : same_map m (edited K m k x) ≡ same_found (look m k) x
    edited_same = one_test (same_map m (edited K m k x)) (same_found (look m k) x) there back
      where
        there : same_map m (edited K m k x) ≡ true → same_found (look m k) x ≡ true
        there e =
            let l : look m k ≡ x = ap (λ (r : Map). look r k) (same_map_true m (edited K m k x) e) ∙ look_edited K V m k good key x reads k ∙ cond-true (same k k) x (look m k) (same_self k) in
            ap (λ (y : Option (List ℕ)). same_found y x) l ∙ found_self x

        back : same_found (look m k) x ≡ true → same_map m (edited K m k x) ≡ true
        back e =
            let l : look m k ≡ x = found_true (look m k) x e in
            let alike : (j : List ℕ) → look m j ≡ look (edited K m k x) j = λ j. let i = look_edited K V m k good key x reads j in grind (arith, same_tells) in
            ap (same_map m) (sym (sound_equal K V m (edited K m k x) good (sound_edited K V m k good key x reads) alike)) ∙ same_map_self m

-- ---- the entries of settings

-- an entry of a source
abbrev pub old_entry : Part → Setting → Shared
old_entry a s = record { nodes = []; entries = record { what = s.key; mark = mark_of a.entries s.key } ∷ []; new_nodes = 0; new_entries = 0 }

-- an entry that the call n makes
abbrev pub new_entry : ℕ → Setting → Shared
new_entry n s = record { nodes = []; entries = record { what = s.key; mark = n } ∷ []; new_nodes = 0; new_entries = 1 }

module _ (K : KeyKind) where
  -- a rising map finds each of its settings
  pub look_mem : (m : Map) (s : Setting) → Rises K m → Mem s m → look m s.key ≡ Some s.value
  look_mem [] s r i = absurd (Memᴰ.not-nil i)
  look_mem (t ∷ m) s r i =
      elim (Memᴰ.cases_cons i) [
        | inl e ↦ ap (λ (u : Setting). look (t ∷ m) u.key) e ∙ cond-true (same t.key t.key) (Some t.value) (look m t.key) (same_self t.key) ∙ ap (λ (u : Setting). Some u.value) (sym e)
        | inr h ↦
            let n = apart K t.key s.key (all_mem (λ u. K.before t.key u.key ≡ true) m s r.0 h) in
            let j = look_mem m s r.1 h in
            grind (arith, same_tells)
      ]

  -- a setting that a source has
  pub entry_old : (n : ℕ) (a : Part) (rest : List Part) (s : Setting) → look a.settings s.key ≡ Some s.value → entry_from n (a ∷ rest) s ≡ old_entry a s
  entry_old n a rest s e =
      cond-true (same_found (look a.settings s.key) (Some s.value)) (old_entry a s) (entry_from n rest s)
      (ap (λ (y : Option (List ℕ)). same_found y (Some s.value)) e ∙ same_self s.value)

  pub entry_of_source : (n : ℕ) (a : Part) (rest : List Part) (s : Setting) → Rises K a.settings → Mem s a.settings → entry_from n (a ∷ rest) s ≡ old_entry a s
  entry_of_source n a rest s r i = entry_old n a rest s (look_mem a.settings s r i)

-- a setting that a source does not have
pub entry_else : (n : ℕ) (a : Part) (rest : List Part) (s : Setting) → (look a.settings s.key ≡ Some s.value → ⊥) → entry_from n (a ∷ rest) s ≡ entry_from n rest s
entry_else n a rest s other =
    elim (found_tells (look a.settings s.key) (Some s.value)) [
      | inl e ↦ absurd (other e.1)
      | inr e ↦ cond-false (same_found (look a.settings s.key) (Some s.value)) (old_entry a s) (entry_from n rest s) e.0
    ]

pub entry_new : (n : ℕ) (a : Part) (s : Setting) → (look a.settings s.key ≡ Some s.value → ⊥) → entry_from n (a ∷ []) s ≡ new_entry n s
entry_new n a s other = entry_else n a [] s other

-- ---- entries in a row: their marks are those of the source whose entries they are

module _ {X : Type 0} (K : KeyKind) (label : X → Marked) (setting : X → Setting) where
  -- each label has the key of its setting
  abbrev pub Labelled : List X → Type 0
  Labelled xs = AllByRecursion (λ e. (label e).what ≡ (setting e).key) xs

  pub mark_mem : (xs : List X) → Labelled xs → Rises K (map setting xs) → (e : X) → Mem e xs → mark_of (map label xs) (setting e).key ≡ (label e).mark
  mark_mem [] l r e i = absurd (Memᴰ.not-nil i)
  mark_mem (x ∷ xs) l r e i =
      elim (Memᴰ.cases_cons i) [
        | inl q ↦
            cond-true (same (label x).what (setting e).key) (label x).mark (mark_of (map label xs) (setting e).key)
            ((same_decides (label x).what (setting e).key).1 (l.0 ∙ ap (λ (y : X). (setting y).key) (sym q)))
            ∙ ap (λ (y : X). (label y).mark) (sym q)
        | inr h ↦
            let n = apart K (setting x).key (setting e).key (all_mem (λ (u : Setting). K.before (setting x).key u.key ≡ true) (map setting xs) (setting e) r.0 (mem_map setting xs e h)) in
            let j = mark_mem xs l.1 r.1 e h in
            let k = l.0 in
            grind (arith, same_tells)
      ]

  -- some of the entries of a source, as entries of a new node
  module _ (n : ℕ) (a : Part) (rest : List Part) (xs : List X) (labels : map label xs ≡ a.entries) (settings : map setting xs ≡ a.settings) (l : Labelled xs) (rises : Rises K a.settings) where
    pub entry_listed : (e : X) → Mem e xs → entry_from n (a ∷ rest) (setting e) ≡ record { nodes = []; entries = label e ∷ []; new_nodes = 0; new_entries = 0 }
    entry_listed e i =
        let w : (label e).what ≡ (setting e).key = all_mem (λ (y : X). (label y).what ≡ (setting y).key) xs e l i in
        let k : mark_of a.entries (setting e).key ≡ (label e).mark = ap (λ (r : List Marked). mark_of r (setting e).key) (sym labels) ∙ mark_mem xs l (subst (Rises K) (sym settings) rises) e i in
        entry_of_source K n a rest (setting e) rises (subst (Mem (setting e)) settings (mem_map setting xs e i))
        ∙ (λ t. record { nodes = []; entries = record { what = sym w t; mark = k t } ∷ []; new_nodes = 0; new_entries = 0 })

    pub entries_listed : (ys : List X) → AllByRecursion (λ e. Mem e xs) ys → sum (entry_from n (a ∷ rest)) (map setting ys) ≡ record { nodes = []; entries = map label ys; new_nodes = 0; new_entries = 0 }
    entries_listed [] m = refl
    entries_listed (e ∷ ys) m = ap₂ ◌⊕◌ (entry_listed e m.0) (entries_listed ys m.1)

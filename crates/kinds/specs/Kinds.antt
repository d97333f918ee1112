-- What a lawful kind of key and a lawful kind of value are: bytes, and what may be asked of bytes. Assumes nothing.
use Rattle.std.specs.Prelude.{◌≡◌, ℕ, ◌^◌, ◌<◌, ◌≤◌, Bool, true, false, List, length}
use Rattle.byte_rows.specs.Rows.{byte_row}

pub record KeyKind : Type 0 where
  -- the byte that names the kind in an image
  pub code : ℕ
  -- how many bytes a key has
  pub width : ℕ
  -- which rows are a key's bytes
  pub readable : List ℕ → Bool
  pub hash : List ℕ → ℕ
  -- whether a key comes before another
  pub before : List ℕ → List ℕ → Bool
  pub code_fits : code < 256
  pub some_width : 1 ≤ width
  pub width_fits : width ≤ 64
  pub reads_width : (k : List ℕ) → readable k ≡ true → length k ≡ width
  pub reads_bytes : (k : List ℕ) → readable k ≡ true → byte_row k ≡ true
  pub hash_fits : (k : List ℕ) → hash k < 2 ^ 32
  pub before_not_self : (k : List ℕ) → before k k ≡ false
  pub before_onward : (a b c : List ℕ) → before a b ≡ true → before b c ≡ true → before a c ≡ true
  pub before_or_after : (a b : List ℕ) → readable a ≡ true → readable b ≡ true → before a b ≡ false → before b a ≡ false → a ≡ b

pub record ValueKind : Type 0 where
  -- the byte that names the kind in an image
  pub code : ℕ
  -- how many bytes a value has
  pub width : ℕ
  -- which rows are a value's bytes
  pub readable : List ℕ → Bool
  -- what two values of one key become
  pub join : List ℕ → List ℕ → List ℕ
  pub code_fits : code < 256
  pub some_width : 1 ≤ width
  pub width_fits : width ≤ 64
  pub reads_width : (v : List ℕ) → readable v ≡ true → length v ≡ width
  pub reads_bytes : (v : List ℕ) → readable v ≡ true → byte_row v ≡ true
  pub join_reads : (a b : List ℕ) → readable a ≡ true → readable b ≡ true → readable (join a b) ≡ true
  pub join_assoc : (a b c : List ℕ) → readable a ≡ true → readable b ≡ true → readable c ≡ true → join (join a b) c ≡ join a (join b c)
  pub join_comm : (a b : List ℕ) → readable a ≡ true → readable b ≡ true → join a b ≡ join b a
  pub join_self : (a : List ℕ) → readable a ≡ true → join a a ≡ a

-- The three kinds of key. Assumes nothing.
use Rattle.std.specs.Prelude.{◌*◌, ◌%◌, ◌^◌}
use Rattle.std.proofs.Common.{lit<, lit≤}
use Rattle.byte_rows.specs.Rows.{earlier, lower, number, row_of}
use Rattle.byte_rows.specs.Texts.{fnv, text_row, unfilled}
use Rattle.byte_rows.proofs.Numbers as numbers
use Rattle.byte_rows.proofs.Orders.{earlier_not_self, earlier_onward, earlier_or_same}
use Rattle.byte_rows.proofs.Fillings as texts
use Rattle.kinds.specs.Kinds.{KeyKind}

-- a printable text of 1 to 24 bytes, filled with 00; hashed without the filling
abbrev pub path_kind : KeyKind
path_kind = record {
  code = 1;
  width = 24;
  readable = text_row 24;
  hash = λ k. fnv (unfilled k);
  before = earlier;
  code_fits = lit< tt;
  some_width = lit≤ tt;
  width_fits = lit≤ tt;
  reads_width = texts.row_length 24;
  reads_bytes = texts.row_bytes 24;
  hash_fits = λ k. texts.fnv_fits (unfilled k);
  before_not_self = earlier_not_self;
  before_onward = earlier_onward;
  before_or_after = λ a b _ _. earlier_or_same a b;
}

-- any number of 32 bits, in numerical order
abbrev pub id_kind : KeyKind
id_kind = record {
  code = 2;
  width = 4;
  readable = row_of 4;
  hash = λ k. number k * 0x9E3779B9 % 2 ^ 32;
  before = lower;
  code_fits = lit< tt;
  some_width = lit≤ tt;
  width_fits = lit≤ tt;
  reads_width = numbers.row_width 4;
  reads_bytes = numbers.row_bytes 4;
  hash_fits = λ k. numbers.modulo_2_32_fits (number k * 0x9E3779B9);
  before_not_self = numbers.lower_not_self;
  before_onward = numbers.lower_onward;
  before_or_after = numbers.lower_or_same 4;
}

-- any number of 8 bits, in numerical order; only four hashes, so that collisions are common
abbrev pub bobbin_kind : KeyKind
bobbin_kind = record {
  code = 3;
  width = 1;
  readable = row_of 1;
  hash = λ k. number k % 4;
  before = lower;
  code_fits = lit< tt;
  some_width = lit≤ tt;
  width_fits = lit≤ tt;
  reads_width = numbers.row_width 1;
  reads_bytes = numbers.row_bytes 1;
  hash_fits = λ k. numbers.modulo_4_fits (number k);
  before_not_self = numbers.lower_not_self;
  before_onward = numbers.lower_onward;
  before_or_after = numbers.lower_or_same 1;
}

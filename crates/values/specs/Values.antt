-- The three kinds of value. Assumes nothing.
use Rattle.std.proofs.Common.{lit<, lit≤}
use Rattle.byte_rows.specs.Rows.{row_of}
use Rattle.byte_rows.specs.Joins.{larger, either_flags, later}
use Rattle.byte_rows.proofs.Joins as joins
use Rattle.byte_rows.proofs.Numbers as numbers
use Rattle.kinds.specs.Kinds.{ValueKind}

-- a number of 32 bits; join is the larger
abbrev pub limit_kind : ValueKind
limit_kind = record {
  code = 1;
  width = 4;
  readable = row_of 4;
  join = larger;
  code_fits = lit< tt;
  some_width = lit≤ tt;
  width_fits = lit≤ tt;
  reads_width = numbers.row_width 4;
  reads_bytes = numbers.row_bytes 4;
  join_reads = joins.larger_reads 4;
  join_assoc = λ a b c _ _ _. joins.larger_assoc a b c;
  join_comm = joins.larger_comm 4;
  join_self = λ a _. joins.larger_self a;
}

-- 32 flags; join sets every flag that either has
abbrev pub flags_kind : ValueKind
flags_kind = record {
  code = 2;
  width = 4;
  readable = row_of 4;
  join = either_flags 4;
  code_fits = lit< tt;
  some_width = lit≤ tt;
  width_fits = lit≤ tt;
  reads_width = numbers.row_width 4;
  reads_bytes = numbers.row_bytes 4;
  join_reads = joins.either_reads;
  join_assoc = joins.either_assoc;
  join_comm = joins.either_comm;
  join_self = joins.either_self;
}

-- a stamp of 32 bits and then an offset of 16; join is the one with the larger stamp, at equal stamps the one with the larger offset
abbrev pub register_kind : ValueKind
register_kind = record {
  code = 3;
  width = 6;
  readable = row_of 6;
  join = later;
  code_fits = lit< tt;
  some_width = lit≤ tt;
  width_fits = lit≤ tt;
  reads_width = numbers.row_width 6;
  reads_bytes = numbers.row_bytes 6;
  join_reads = joins.later_reads;
  join_assoc = joins.later_assoc;
  join_comm = joins.later_comm;
  join_self = joins.later_self;
}

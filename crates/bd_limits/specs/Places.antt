-- Where the parts of an image stand, in blocks, and how long they are, in bytes.
use Rattle.std.specs.Prelude.{ℕ}

-- the first block of the first half of the log, after the superblocks
abbrev pub first_log_block : ℕ
first_log_block = 4

-- the first block of the second half of the log
abbrev pub second_log_block : ℕ
second_log_block = 68

-- a table before its entries
abbrev pub table_header_size : ℕ
table_header_size = 32

-- a table's entry
abbrev pub table_entry_size : ℕ
table_entry_size = 24

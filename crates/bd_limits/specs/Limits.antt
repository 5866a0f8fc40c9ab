-- The limits of the file system, in bytes where nothing else is said.
use Rattle.std.specs.Prelude.{ℕ, ◌^◌}

-- a path in a command
abbrev pub path_limit : ℕ
path_limit = 512

abbrev pub name_limit : ℕ
name_limit = 255

-- a key that is stored, and a prefix of keys
abbrev pub key_limit : ℕ
key_limit = 518

-- what is stored of a file under one key
abbrev pub block_limit : ℕ
block_limit = 1024

abbrev pub file_limit : ℕ
file_limit = 2 ^ 30

-- the greatest mode of a file or a directory
abbrev pub mode_limit : ℕ
mode_limit = 4095

-- what one `write` carries
abbrev pub write_limit : ℕ
write_limit = 2048

-- what one `read` asks for
abbrev pub read_limit : ℕ
read_limit = 4096

-- the names that one `list` gives
abbrev pub listing_limit : ℕ
listing_limit = 100

-- a line, without its newline
abbrev pub line_limit : ℕ
line_limit = 8192

abbrev pub script_limit : ℕ
script_limit = 16777216

-- what is taken of a script at once
abbrev pub piece_limit : ℕ
piece_limit = 4096

-- what waits in a node
abbrev pub buffer_limit : ℕ
buffer_limit = 32768

-- a leaf's entries
abbrev pub leaf_limit : ℕ
leaf_limit = 40960

-- the greatest level of a node
abbrev pub level_limit : ℕ
level_limit = 1000

-- the edges of a node
abbrev pub edge_limit : ℕ
edge_limit = 16

-- more than this that waits is flushed
abbrev pub soft_limit : ℕ
soft_limit = 16384

-- what one push moves
abbrev pub batch_limit : ℕ
batch_limit = 16384

-- from this much pending on, a shared child is copied
abbrev pub abundant_limit : ℕ
abundant_limit = 1024

-- up to this much that waits in the root, a `remove` or `truncate` flushes nothing
abbrev pub late_limit : ℕ
late_limit = 24576

-- the flush steps of one command
abbrev pub flush_limit : ℕ
flush_limit = 65536

-- what a message or an entry counts beside its own bytes
abbrev pub base_size : ℕ
base_size = 16

-- a node with at most so many edges has room for the halves of a child
abbrev pub room_edges : ℕ
room_edges = 14

-- a node with so many edges or more is split before anything goes below it
abbrev pub full_edges : ℕ
full_edges = 15

-- for what there is room in the root before a graft
abbrev pub graft_size : ℕ
graft_size = 1600

-- the nodes that are cached: kept in memory since they were read from slots or written there
abbrev pub cached_limit : ℕ
cached_limit = 64

-- the fewest slots of an image
abbrev pub slot_minimum : ℕ
slot_minimum = 24

-- the most slots of an image
abbrev pub slot_limit : ℕ
slot_limit = 65536

-- a slot
abbrev pub slot_size : ℕ
slot_size = 65536

-- a block of a device
abbrev pub block_size : ℕ
block_size = 4096

-- the blocks of an image before its first slot
abbrev pub first_slot_block : ℕ
first_slot_block = 132

-- the blocks of a slot
abbrev pub slot_blocks : ℕ
slot_blocks = 16

-- the most slots of a table
abbrev pub table_slot_limit : ℕ
table_slot_limit = 25

-- the blocks of a half of the log
abbrev pub log_blocks : ℕ
log_blocks = 64

-- the most blocks of the body of a batch in the log
abbrev pub body_block_limit : ℕ
body_block_limit = 62

-- The sizes that document 01 allows a store, and the mark of a free slot: each number has its home here.
use Rattle.std.specs.Prelude.{ℕ}

-- 1 to 8 subpools
abbrev pub max_subpools : ℕ
max_subpools = 8

-- slot sizes of 1 to 4,096 bytes
abbrev pub max_slot_size : ℕ
max_slot_size = 4096

-- 1 to 256 slots each
abbrev pub max_slots : ℕ
max_slots = 256

-- 1,048,576 store bytes at most
abbrev pub max_store_bytes : ℕ
max_store_bytes = 1048576

-- the lent length table marks a free slot with 65,535
abbrev pub store_free : ℕ
store_free = 65535

-- Addresses: how subpool and slot are put into one number, and which of its bits are read.
use Rattle.std.specs.Prelude.{◌%◌, ◌*◌, ◌+◌, ◌/◌, ℕ}

-- an address is subpool x 65,536 + slot
abbrev pub address_of : ℕ → ℕ → ℕ
address_of k i = k * 65536 + i

-- decoding keeps only bits 16 to 23, the subpool, and 0 to 7, the slot
abbrev pub pool_of : ℕ → ℕ
pool_of a = a / 65536 % 256

abbrev pub slot_of : ℕ → ℕ
slot_of a = a % 256

-- `INVALID_ADDR`, which belongs to the address type: subpool 255, slot 255
abbrev pub invalid_addr : ℕ
invalid_addr = 0xFFFFFFFF

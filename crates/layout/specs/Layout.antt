-- Where a subpool's rows and bytes lie in what is lent: subpool after subpool, slot after slot.
use Rattle.std.specs.Prelude.{ℕ, zero, suc, ◌+◌, ◌*◌, nat_lt, slice_index}
use Rattle.address.specs.Address.{pool_of, slot_of}
use Rattle.rules.specs.Tests.{unless}
use Rattle.layout.specs.declared.Setup.{Setup}

-- the slot size of subpool k, and how many slots it has
abbrev pub size_at : Setup → ℕ → ℕ
size_at su k = slice_index su.sizes k

abbrev pub slots_at : Setup → ℕ → ℕ
slots_at su k = slice_index su.slots k

-- how many rows of the length table, and how many bytes, the subpools before k take
unfoldable pub rows_before : Setup → ℕ → ℕ
rows_before su zero = 0
rows_before su (suc k) = rows_before su k + slots_at su k

unfoldable pub bytes_before : Setup → ℕ → ℕ
bytes_before su zero = 0
bytes_before su (suc k) = bytes_before su k + slots_at su k * size_at su k

-- all of them
abbrev pub all_rows : Setup → ℕ
all_rows su = rows_before su su.pools

abbrev pub all_bytes : Setup → ℕ
all_bytes su = bytes_before su su.pools

-- the row of the slot that an address names; the number of all rows where the setup has none
unfoldable pub row_of : Setup → ℕ → ℕ
row_of su a =
    unless (nat_lt (pool_of a) su.pools) (all_rows su)
    (unless (nat_lt (slot_of a) (slots_at su (pool_of a))) (all_rows su)
    (rows_before su (pool_of a) + slot_of a))

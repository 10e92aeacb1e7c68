-- The search of the lists for an address or for room.
-- A reader need not believe this file: contracts below the public calls cite it, no public call's promise does.
use Rattle.std.specs.Prelude.{Result, Ok, Err, ◌*◌, ◌+◌, ◌-◌, ℕ, eqb, leb, ltb, get_or, Bool, cond, List}
use Rattle.slots.specs.declared.StoreRefusal.{StoreRefusal}
use Rattle.address.specs.Address.{address_of, pool_of, slot_of}
use Rattle.layout.specs.Layout.{bytes_before, rows_before, size_at, slots_at}
use Rattle.layout.specs.Limits.{store_free}
use Rattle.rules.specs.Tests.{first_from, unless}
use Rattle.slots.specs.Pools.{Choice, Found, all_taken, held, into, no_pool, no_slot, too_large, vacant}
use Rattle.layout.specs.declared.Setup.{Setup}
use Rattle.slots.specs.declared.Cell.{Cell}
use Rattle.slots.specs.declared.StoreIdError.TheVariants.{InvalidSubpool, InvalidPacketIdx}
use Rattle.slots.specs.declared.StoreRefusal.TheVariants.{InvalidStoreId, DataTooLarge, StoreFull, DataDoesNotExist}

-- slot i of subpool k in the lent lists
abbrev pub cell_of : Setup → ℕ → ℕ → Cell
cell_of su k i =
    record {
      pool = k;
      slot = i;
      row = rows_before su k + i;
      from = bytes_before su k + i * size_at su k;
      size = size_at su k;
    }

-- where the packet of an address lies
unfoldable pub spot_of : Setup → ℕ → Found → Result Cell StoreRefusal
spot_of su a no_pool = Err (InvalidStoreId (InvalidSubpool (pool_of a)))
spot_of su a no_slot = Err (InvalidStoreId (InvalidPacketIdx (slot_of a)))
spot_of su a vacant = Err (DataDoesNotExist (address_of (pool_of a) (slot_of a)))
spot_of su a (held n b) = Ok (cell_of su (pool_of a) (slot_of a))

-- where a packet of n bytes goes
unfoldable pub room_of : Setup → ℕ → Choice → Result Cell StoreRefusal
room_of su n too_large = Err (DataTooLarge n)
room_of su n (all_taken k) = Err (StoreFull k)
room_of su n (into k i) = Ok (cell_of su k i)

-- the address is in the setup
unfoldable pub validated : Setup → ℕ → ℕ → Result Cell StoreRefusal
validated su k s =
    unless (ltb k su.pools) (Err (InvalidStoreId (InvalidSubpool k)))
    (unless (ltb s (slots_at su k)) (Err (InvalidStoreId (InvalidPacketIdx s)))
    (Ok (cell_of su k s)))

-- subpool k holds len bytes; row s from base on is free
abbrev pub fits : Setup → ℕ → ℕ → Bool
fits su len k = leb len (size_at su k)

abbrev pub free_row : List ℕ → ℕ → ℕ → Bool
free_row lens base s = eqb (get_or lens (base + s) 0) store_free

-- the lowest free slot of subpool k, or as many as it has
unfoldable pub free_slot : Setup → List ℕ → ℕ → ℕ
free_slot su lens k = first_from (free_row lens (rows_before su k)) 0 (slots_at su k)

abbrev pub has_free : Setup → List ℕ → ℕ → Bool
has_free su lens k = ltb (free_slot su lens k) (slots_at su k)

-- the last subpool that `add` tries, and one more
unfoldable pub last_tried : Setup → ℕ → ℕ
last_tried su k = cond su.spill su.pools (k + 1)

-- the first free slot in the subpools from first up to last
unfoldable pub room_in : Setup → List ℕ → ℕ → ℕ → Result Cell StoreRefusal
room_in su lens first last =
    let k = first_from (has_free su lens) first (last - first) in
    unless (ltb k last) (Err (StoreFull (last - 1))) (Ok (cell_of su k (free_slot su lens k)))

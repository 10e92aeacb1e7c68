-- The two lent lists read as subpools of slots, and subpools laid out as the two lists.
use Rattle.rules.specs.Lists.{each}
use Rattle.std.specs.Prelude.{◌*◌, ◌+◌, ℕ, eqb, drop, get_or, length, take, Bool, false, true, List, [], ◌++◌, ◌∷◌, ◌≡◌}
use Rattle.layout.specs.Layout.{all_bytes, all_rows, bytes_before, rows_before, size_at, slots_at}
use Rattle.layout.specs.Limits.{store_free}
use Rattle.slots.specs.Pools.{Pool, Slot, free, taken}
use Rattle.layout.specs.declared.Setup.{Setup}

-- size elements of a list, from a place on
unfoldable pub part : ℕ → ℕ → List ℕ → List ℕ
part from size st = take size (drop from st)

-- the list with ys, of which there are size, from a place on
unfoldable pub put : ℕ → ℕ → List ℕ → List ℕ → List ℕ
put from size ys st = take from st ++ (ys ++ drop size (drop from st))

-- the length in the table of slot i of subpool k, and its bytes in the store
unfoldable pub len_at : Setup → List ℕ → ℕ → ℕ → ℕ
len_at su le k i = get_or le (rows_before su k + i) 0

unfoldable pub bytes_at : Setup → List ℕ → ℕ → ℕ → List ℕ
bytes_at su st k i = part (bytes_before su k + i * size_at su k) (size_at su k) st

-- a slot of a length and raw bytes; the mark stands for a free one
unfoldable pub marked : Bool → ℕ → List ℕ → Slot
marked true w b = free b
marked false w b = taken w b

abbrev pub slot_from : ℕ → List ℕ → Slot
slot_from w b = marked (eqb w store_free) w b

-- slot i of subpool k, and subpool k
abbrev pub slot_in : Setup → List ℕ → List ℕ → ℕ → ℕ → Slot
slot_in su st le k i = slot_from (len_at su le k i) (bytes_at su st k i)

abbrev pub pool_in : Setup → List ℕ → List ℕ → ℕ → Pool
pool_in su st le k = record { size = size_at su k; slots = each (slot_in su st le k) 0 (slots_at su k) }

-- what a lent store and length table stand for
unfoldable pub view : Setup → List ℕ → List ℕ → List Pool
view su st le = each (pool_in su st le) 0 su.pools

-- and back: all bytes, and all lengths
abbrev pub raw_of : Slot → List ℕ
raw_of (free b) = b
raw_of (taken n b) = b

abbrev pub len_of : Slot → ℕ
len_of (free b) = store_free
len_of (taken n b) = n

abbrev pub slot_bytes : List Slot → List ℕ
slot_bytes [] = []
slot_bytes (x ∷ xs) = raw_of x ++ slot_bytes xs

abbrev pub slot_lens : List Slot → List ℕ
slot_lens [] = []
slot_lens (x ∷ xs) = len_of x ∷ slot_lens xs

unfoldable pub pool_bytes : List Pool → List ℕ
pool_bytes [] = []
pool_bytes (p ∷ ps) = slot_bytes p.slots ++ pool_bytes ps

unfoldable pub pool_lens : List Pool → List ℕ
pool_lens [] = []
pool_lens (p ∷ ps) = slot_lens p.slots ++ pool_lens ps

-- the lent lists with the subpools ps in them; what lies beyond the setup is as it was
unfoldable pub store_with : Setup → List ℕ → List Pool → List ℕ
store_with su st ps = pool_bytes ps ++ drop (all_bytes su) st

unfoldable pub lens_with : Setup → List ℕ → List Pool → List ℕ
lens_with su le ps = pool_lens ps ++ drop (all_rows su) le

-- The lent lists stand for ps, and nothing else moved. It composes, call after call.
pub record Leaves (su : Setup) (st le : List ℕ) (ps : List Pool) (st' le' : List ℕ) : Type 0 where
  pub seen : view su st' le' ≡ ps
  pub beyond : drop (all_bytes su) st' ≡ drop (all_bytes su) st
  pub beyond_lens : drop (all_rows su) le' ≡ drop (all_rows su) le
  pub same_length : length st' ≡ length st
  pub same_rows : length le' ≡ length le

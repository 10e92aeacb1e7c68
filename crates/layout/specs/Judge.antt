-- Refusals 1 to 3, each by one test, and their order. Store calls judge only the store's part of them.
use Rattle.std.specs.Prelude.{◌≡◌, ℕ, zero, suc, ◌+◌, Bool, true, ◌||◌, List, [], ◌∷◌, length, ◌==◌, nat_le, nat_lt, slice_index}
use Rattle.layout.specs.Layout.{all_bytes, all_rows, rows_before, size_at, slots_at}
use Rattle.layout.specs.Limits.{max_slot_size, max_slots, max_store_bytes, max_subpools, store_free}
use Rattle.rules.specs.Papers.{Outcome, judged_by, no, refused}
use Rattle.rules.specs.Tests.{all_below, all_of, unless}
use Rattle.layout.specs.declared.Setup.{Setup}

-- 1, BadSetup: 1 to 8 subpools, slot sizes strictly rising, 1 to 256 slots each, 1,048,576 bytes at most.
-- By: the size of the subpool before, and the subpool's own size and slots.
abbrev pub pool_ok : ℕ → ℕ → ℕ → Bool
pool_ok last size slots = all_of (nat_lt last size ∷ nat_le size max_slot_size ∷ nat_le 1 slots ∷ nat_le slots max_slots ∷ [])

-- before the first subpool the size is 0
unfoldable pub last_size : Setup → ℕ → ℕ
last_size su zero = 0
last_size su (suc k) = size_at su k

abbrev pub pool_ok_at : Setup → ℕ → Bool
pool_ok_at su k = pool_ok (last_size su k) (size_at su k) (slots_at su k)

unfoldable pub setup_ok : Setup → Bool
setup_ok su =
    all_of
    (nat_le 1 su.pools ∷
    nat_le su.pools max_subpools ∷
    all_below (pool_ok_at su) su.pools ∷
    nat_le (all_bytes su) max_store_bytes ∷
    [])

-- 2, BadBuffers: the lent store has all bytes of the setup, and the lent length table all rows
unfoldable pub buffers_ok : Setup → ℕ → ℕ → Bool
buffers_ok su room rows = all_of (nat_le (all_bytes su) room ∷ nat_le (all_rows su) rows ∷ [])

-- 3, StateDamaged: each length of the setup is free or within its slot
abbrev pub len_ok : ℕ → ℕ → Bool
len_ok size n = n == store_free || nat_le n size

-- that of row s from base on, and each of subpool k
abbrev pub row_ok : List ℕ → ℕ → ℕ → ℕ → Bool
row_ok lens base size s = len_ok size (slice_index lens (base + s))

abbrev pub pool_lens_ok : Setup → List ℕ → ℕ → Bool
pool_lens_ok su lens k = all_below (row_ok lens (rows_before su k) (size_at su k)) (slots_at su k)

unfoldable pub lens_ok : Setup → List ℕ → Bool
lens_ok su lens = all_below (pool_lens_ok su lens) su.pools

-- the first of them whose test fails, and else what the call comes to. `room` is the length of the lent store
unfoldable pub judged : {A : Type 0} → Setup → ℕ → List ℕ → Outcome A → Outcome A
judged su room lens o = judged_by (setup_ok su) (buffers_ok su room (length lens)) (lens_ok su lens) o

-- a fresh start knows the first two alone
unfoldable pub sized : {A : Type 0} → Setup → ℕ → ℕ → Outcome A → Outcome A
sized su room rows o = unless (setup_ok su) (refused (no 1 [])) (unless (buffers_ok su room rows) (refused (no 2 [])) o)

-- Neither of 1 and 2 is given: what a judged fresh start asks of its caller.
pub record Sized (su : Setup) (st lens : List ℕ) : Type 0 where
  pub setup : setup_ok su ≡ true
  pub buffers : buffers_ok su (length st) (length lens) ≡ true

-- None of 1 to 3 is given: what a judged call asks of its caller, and gives back.
pub record Sound (su : Setup) (st lens : List ℕ) : Type 0 where
  pub setup : setup_ok su ≡ true
  pub buffers : buffers_ok su (length st) (length lens) ≡ true
  pub lengths : lens_ok su lens ≡ true

-- A cell lies within what is lent.
use Prim.Native.Nat.{◌+◌, ◌<◌, ◌≤◌, suc, ℕ}
use Rattle.layout.proofs.Bounds.{Bounds}
use Rattle.layout.proofs.Layouts.{bytes_within, rows_within}
use Rattle.layout.specs.Layout.{size_at, slots_at}
use Rattle.layout.specs.Limits.{max_slot_size, max_slots, max_subpools, store_free}
use Rattle.slots.specs.Inside.{cell_of}
use lib.ListN.{get_or, length}
use mathlib.Core.List.{List}
use mathlib.Core.Logic.{◌⊎◌}
use mathlib.Core.Path.{◌≡◌, refl}
use native.Mathlib.Nat.{mul-le-mul_right}
use native.Mathlib.Omega.{arith}
use Rattle.layout.specs.declared.Setup.{Setup}
use Rattle.slots.specs.declared.Cell.{Cell}

-- a slot of the setup: its row and its bytes lie within what is lent
pub record Within (su : Setup) (room : ℕ) (lens : List ℕ) (c : Cell) : Type 0 where
  pub pool_fits : c.pool < su.pools
  pub few_pools : su.pools ≤ max_subpools
  pub slot_fits : c.slot < slots_at su c.pool
  pub few_slots : slots_at su c.pool ≤ max_slots
  pub is : c ≡ cell_of su c.pool c.slot
  pub row_fits : c.row < length lens
  pub bytes_fit : c.from + c.size ≤ room
  pub small : c.size ≤ max_slot_size
  pub len_ok : (get_or lens c.row 0 ≡ store_free) ⊎ (get_or lens c.row 0 ≤ c.size)

module _ (su : Setup) (room : ℕ) (lens : List ℕ) where
  pub within : Bounds su room lens → (k s : ℕ) → k < su.pools → s < slots_at su k → Within su room lens (cell_of su k s)
  within h k s l m =
      record {
        pool_fits = l;
        few_pools = h.few_pools;
        slot_fits = m;
        few_slots = (h.slots k l).1;
        is = refl;
        row_fits = let a = rows_within su k su.pools l in let b = h.rows_fit in omega arith;
        bytes_fit =
            let a = bytes_within su k su.pools l in
            let b = h.bytes_fit in let d = mul-le-mul_right {m = suc s} {n = slots_at su k} (size_at su k) m in omega arith;
        small = (h.sizes k l).1;
        len_ok = h.rows k s l m;
      }

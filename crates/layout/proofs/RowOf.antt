-- The row of an address: the cases of its rule, and whose row a row is.
use Rattle.std.proofs.Common.{◌≡◌, ℕ, zero, suc, ◌+◌, ◌-◌, ◌<◌, ◌≤◌, Bool, true, false, ltb, refl, not-suc-le-zero, arith, ltb-false, ltb-true, le-ltb, lt-ltb}
use Rattle.address.specs.Address.{invalid_addr, pool_of, slot_of}
use Rattle.layout.proofs.Cases.{SlotCase, has_slot, past_pools, past_slots, slot_case}
use Rattle.layout.proofs.Layouts.{rows_within}
use Rattle.layout.specs.Layout.{all_rows, row_of, rows_before, slots_at}
use Rattle.layout.specs.Limits.{max_subpools}
use Rattle.rules.specs.Tests.{unless}
use Rattle.layout.specs.declared.Setup.{Setup}

-- the setup has the slot that an address names
pub record Named (su : Setup) (a : ℕ) : Type 0 where
  pub pool : pool_of a < su.pools
  pub slot : slot_of a < slots_at su (pool_of a)

module _ (su : Setup) (a : ℕ) where
  pub row_no_pool : su.pools ≤ pool_of a → row_of su a ≡ all_rows su
  unfolding row_of unless
  row_no_pool l = rw (le-ltb _ _ l)

  pub row_no_slot : pool_of a < su.pools → slots_at su (pool_of a) ≤ slot_of a → row_of su a ≡ all_rows su
  unfolding row_of unless
  row_no_slot l m = rw (lt-ltb _ _ l, le-ltb _ _ m)

  pub row_named : Named su a → row_of su a ≡ rows_before su (pool_of a) + slot_of a
  unfolding row_of unless
  row_named n = rw (lt-ltb _ _ n.pool, lt-ltb _ _ n.slot)

  pub row_below : Named su a → row_of su a < all_rows su
  row_below n = let r = row_named n in let h = rows_within su (pool_of a) su.pools n.pool in let s = n.slot in omega arith

  -- a row below all is that of a slot in the setup
  pub below_named : row_of su a < all_rows su → Named su a
  below_named h = go (slot_case su (pool_of a) (slot_of a))
    where
      go : SlotCase su (pool_of a) (slot_of a) → Named su a
      go (past_pools l) = absurd (omega (arith, row_no_pool l))
      go (past_slots l m) = absurd (omega (arith, row_no_slot l m))
      go (has_slot l m) = record { pool = l; slot = m }

-- INVALID_ADDR names no slot, whatever the setup
pub invalid_no_row : (su : Setup) → su.pools ≤ max_subpools → row_of su invalid_addr ≡ all_rows su
invalid_no_row su l = row_no_pool su invalid_addr (omega arith)

-- each row of the setup is some slot's
pub record Owner (su : Setup) (n r : ℕ) : Type 0 where
  pub pool : ℕ
  pub slot : ℕ
  pub before : pool < n
  pub inside : slot < slots_at su pool
  pub at : rows_before su pool + slot ≡ r

pub owner : (su : Setup) (n r : ℕ) → r < rows_before su n → Owner su n r
unfolding rows_before
owner su zero r h = absurd (not-suc-le-zero h)
owner su (suc n) r h = go (ltb r (rows_before su n)) refl (owner su n r)
  where
    go : (b : Bool) → ltb r (rows_before su n) ≡ b → (r < rows_before su n → Owner su n r) → Owner su (suc n) r
    go true t rec =
        let o = rec (ltb-true _ _ t) in
        record { pool = o.pool; slot = o.slot; before = let l = o.before in omega arith; inside = o.inside; at = o.at }
    go false t rec =
        let l : rows_before su n ≤ r = ltb-false _ _ t in
        record { pool = n; slot = r - rows_before su n; before = omega arith; inside = omega arith; at = omega arith }

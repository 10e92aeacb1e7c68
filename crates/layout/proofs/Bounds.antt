-- What is known of the setup, the lengths of the lent lists and each length in the table, where none of refusals 1 to 3 is given.
use Rattle.std.proofs.Common.{◌≡◌, ℕ, zero, suc, ◌+◌, ◌<◌, ◌≤◌, Bool, true, false, ◌||◌, eqb, leb, ◌⊎◌, List, length, get_or, refl, inl, inr, ⊎_elim, zero-le, le_of_suc-le-suc, le_antisymm, eq-or-lt_of_le, arith, ltb-true, eqb-true, leb-true}
use Rattle.layout.proofs.Layouts.{setup_few}
use Rattle.layout.specs.Judge.{Sized, Sound, buffers_ok, last_size, len_ok, lens_ok, pool_lens_ok, pool_ok_at, row_ok, setup_ok}
use Rattle.layout.specs.Layout.{all_bytes, all_rows, bytes_before, rows_before, size_at, slots_at}
use Rattle.layout.specs.Limits.{max_slot_size, max_slots, max_subpools, store_free}
use Rattle.rules.proofs.All.{all_at, all_each}
use Rattle.layout.specs.declared.Setup.{Setup}

pub record Bounds (su : Setup) (room : ℕ) (lens : List ℕ) : Type 0 where
  pub few_pools : su.pools ≤ max_subpools
  pub sizes : (k : ℕ) → k < su.pools → (1 ≤ size_at su k) × (size_at su k ≤ max_slot_size)
  pub slots : (k : ℕ) → k < su.pools → (1 ≤ slots_at su k) × (slots_at su k ≤ max_slots)
  pub bytes_fit : bytes_before su su.pools ≤ room
  pub rows_fit : rows_before su su.pools ≤ length lens
  pub rows : (k s : ℕ) → k < su.pools → s < slots_at su k
      → (get_or lens (rows_before su k + s) 0 ≡ store_free) ⊎ (get_or lens (rows_before su k + s) 0 ≤ size_at su k)

-- a length that passes is free, or within its slot
or_cases : (size n : ℕ) → len_ok size n ≡ true → (n ≡ store_free) ⊎ (n ≤ size)
or_cases size n = go (eqb n store_free) refl
  where
    go : (b : Bool) → eqb n store_free ≡ b → (b || leb n size) ≡ true → (n ≡ store_free) ⊎ (n ≤ size)
    go true e q = inl (eqb-true n store_free e)
    go false e q = inr (leb-true n size q)

-- what a good setup says by itself
module _ (su : Setup) (ok : setup_ok su ≡ true) where
  pub setup_pool : (k : ℕ) → k < su.pools
      → (last_size su k < size_at su k) × (size_at su k ≤ max_slot_size) × (1 ≤ slots_at su k) × (slots_at su k ≤ max_slots)
  unfolding setup_ok
  setup_pool k l =
      let h = all_each _ (all_at (pool_ok_at su) su.pools (all_each _ ok).1.1.0 k l) in
      (ltb-true _ _ h.0, leb-true _ _ h.1.0, leb-true _ _ h.1.1.0, leb-true _ _ h.1.1.1.0)

  setup_rises : (k : ℕ) → suc k < su.pools → size_at su k < size_at su (suc k)
  unfolding last_size
  setup_rises k l = (setup_pool (suc k) l).0

  pub setup_rising : (j k : ℕ) → j ≤ k → k < su.pools → size_at su j ≤ size_at su k
  setup_rising j zero a l = rw (le_antisymm a zero-le) (omega arith)
  setup_rising j (suc k) a l =
      ⊎_elim (λ (e : j ≡ suc k). rw e (omega arith))
      (λ (m : j < suc k). let r = setup_rising j k (le_of_suc-le-suc m) (omega arith) in let t = setup_rises k l in omega arith)
      (eq-or-lt_of_le a)

pub buffers_fit : (su : Setup) (room rows : ℕ) → buffers_ok su room rows ≡ true → (all_bytes su ≤ room) × (all_rows su ≤ rows)
unfolding buffers_ok
buffers_fit su room rows q = let b = all_each _ q in (leb-true _ _ b.0, leb-true _ _ b.1.0)

pub bounds : {su : Setup} {st le : List ℕ} → Sound su st le → Bounds su (length st) le
unfolding lens_ok
bounds {su} {st} {le} ok =
    let b = buffers_fit su _ _ ok.buffers in
    record {
      few_pools = setup_few su ok.setup;
      sizes = λ k l. let h = setup_pool su ok.setup k l in (omega arith, h.1);
      slots = λ k l. let h = setup_pool su ok.setup k l in (h.2, h.3);
      bytes_fit = b.0;
      rows_fit = b.1;
      rows =
          λ k i l m. or_cases _ _
          (all_at (row_ok le (rows_before su k) (size_at su k)) (slots_at su k)
          (all_at (pool_lens_ok su le) su.pools ok.lengths k l) i m);
    }

-- what 1 and 2 say of the lengths
pub sized_fits : {su : Setup} {st le : List ℕ} → Sized su st le → (su.pools ≤ max_subpools) × (all_bytes su ≤ length st) × (all_rows su ≤ length le)
sized_fits {su} s = let b = buffers_fit su _ _ s.buffers in (setup_few su s.setup, b.0, b.1)

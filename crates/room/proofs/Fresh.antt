-- A fresh larger store is a fresh smaller one with fresh slots behind, and what the smaller setup says of its slots.
use Rattle.rules.proofs.Each.{length_each}
use Prim.Native.Nat.{◌+◌, ◌-◌, ◌<◌, ◌≤◌, suc, zero, ℕ}
use Rattle.room.specs.Room.{Named, Roomier}
use Rattle.rules.proofs.All.{all_at, all_each}
use Rattle.schedule.specs.Judge.{setup_ok}
use Rattle.schedule.specs.declared.Setup.{Setup}
use Rattle.address.specs.Address.{pool_of, slot_of}
use Rattle.store.specs.Calls.{fresh_pool, fresh_pools}
use Rattle.layout.specs.Judge.{pool_ok_at, setup_ok as store_setup_ok}
use Rattle.layout.specs.Layout.{slots_at}
use Rattle.room.specs.Grown.{NamedAt, Narrow, Slotted, grow, shape}
use Rattle.slots.specs.Pools.{Pool, free}
use Rattle.rules.specs.Lists.{each}
use borrow.Author.Tests.{leb-true}
use lib.ListN.{length, length-replicate, replicate, replicate-append-replicate}
use mathlib.Core.Bool.{true}
use mathlib.Core.List.{List, ◌++◌}
use mathlib.Core.Path.{◌≡◌, refl}
use native.Mathlib.Nat.{not-suc-le-zero}
use native.Mathlib.Omega.{arith}

grow_each : (f g : ℕ → Pool) (h : ℕ → ℕ) (n i : ℕ)
    → ((k : ℕ) → k < i + n → g k ≡ record { size = (f k).size; slots = (f k).slots ++ replicate (h k) (free (replicate (f k).size 0)) })
    → each g i n ≡ grow (each h i n) (each f i n)
unfolding each grow
grow_each f g h zero i e = refl
grow_each f g h (suc n) i e = rw (e i (omega arith), grow_each f g h n (suc i) (λ k l. e k (omega arith)))

shape_each : (f : ℕ → Pool) (h : ℕ → ℕ) (n i : ℕ) → ((k : ℕ) → length (f k).slots ≡ h k) → shape (each f i n) ≡ each h i n
unfolding each shape
shape_each f h zero i e = refl
shape_each f h (suc n) i e = rw (e i, shape_each f h n (suc i) e)

narrow_each : (f : ℕ → ℕ) (n i : ℕ) → ((k : ℕ) → k < i + n → f k ≤ 256) → Narrow (each f i n)
unfolding each
narrow_each f zero i h = tt
narrow_each f (suc n) i h = (h i (omega arith), narrow_each f n (suc i) (λ k l. h k (omega arith)))

named_each : (f : ℕ → ℕ) (n i k t s : ℕ) → i + k ≡ t → k < n → s < f t → NamedAt (each f i n) k s
unfolding each
named_each f zero i k t s e l h = absurd (not-suc-le-zero l)
named_each f (suc n) i zero t s e l h = let q : t ≡ i = omega arith in rw q at h
named_each f (suc n) i (suc k) t s e l h = named_each f n (suc i) k t s (omega arith) (omega arith) h

pool_grow : (z n m : ℕ) (z' : ℕ) → z' ≡ z → n ≤ m
    → ◌≡◌ {A = Pool} (record { size = z'; slots = replicate m (free (replicate z' 0)) })
    (record { size = z; slots = replicate n (free (replicate z 0)) ++ replicate (m - n) (free (replicate z 0)) })
pool_grow z n m z' e l = let q : n + (m - n) ≡ m = omega arith in rw (e, replicate-append-replicate, q)

-- how many more slots the larger has in each subpool
abbrev pub more_of : Setup → Setup → List ℕ
more_of su lu = each (λ k. slots_at lu.store k - slots_at su.store k) 0 su.store.pools

pub fresh_grow : (su lu : Setup) → Roomier su lu → fresh_pools lu.store ≡ grow (more_of su lu) (fresh_pools su.store)
unfolding fresh_pools
fresh_grow su lu r =
    rw r.same_pools
    (grow_each (fresh_pool su.store) (fresh_pool lu.store) (λ k. slots_at lu.store k - slots_at su.store k) su.store.pools 0
    (λ k l. pool_grow _ _ _ _ (r.same_sizes k (omega arith)) (r.more_slots k (omega arith))))

-- the smaller's slots
module _ (su : Setup) where
  abbrev pub slots_of : List ℕ
  slots_of = each (slots_at su.store) 0 su.store.pools

  pub fresh_shape : shape (fresh_pools su.store) ≡ slots_of
  unfolding fresh_pools
  fresh_shape = shape_each (fresh_pool su.store) (slots_at su.store) su.store.pools 0 (λ k. length-replicate _ _)

  pub slotted_by : (a : ℕ) → Named su a → Slotted slots_of a
  unfolding Slotted
  slotted_by a h = named_each (slots_at su.store) su.store.pools 0 (pool_of a) (pool_of a) (slot_of a) (omega arith) (omega (arith, h.0)) h.1

  pub few_slots : setup_ok su ≡ true → Narrow slots_of
  unfolding setup_ok store_setup_ok
  few_slots e =
      let p = (all_each _ (all_each _ e).0).1.1.0 in
      narrow_each (slots_at su.store) su.store.pools 0
      (λ k l. leb-true _ _ (all_each _ (all_at (pool_ok_at su.store) su.store.pools p k (omega arith))).1.1.1.0)

  pub few_pools : setup_ok su ≡ true → length slots_of ≤ 256
  unfolding setup_ok store_setup_ok
  few_pools e =
      let h : su.store.pools ≤ 8 = leb-true _ _ (all_each _ (all_each _ e).0).1.0 in
      rw (length_each (slots_at su.store) su.store.pools 0) (omega arith)

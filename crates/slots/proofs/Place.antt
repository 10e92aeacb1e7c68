-- The cases of the searches: an address in the setup, and a free slot.
use Rattle.std.specs.Prelude.{Result, Ok, Err}
use Prim.Native.Nat.{◌+◌, ◌-◌, ◌<◌, ◌≤◌, ℕ}
use Rattle.address.specs.Address.{address_of, pool_of, slot_of}
use Rattle.layout.proofs.Cases.{SlotCase, has_slot, past_pools, past_slots, slot_case}
use Rattle.layout.proofs.Layouts.{rows_within}
use Rattle.layout.specs.Layout.{all_rows, rows_before, slots_at}
use Rattle.layout.specs.Limits.{store_free}
use Rattle.rules.proofs.First.{first_end_from, first_stop_from}
use Rattle.rules.proofs.Order.{passed}
use Rattle.rules.specs.Tests.{unless}
use Rattle.slots.proofs.Find.{find_held, find_no_pool, find_no_slot, find_vacant}
use Rattle.slots.specs.Inside.{cell_of, free_slot, has_free, last_tried, room_in, spot_of, validated}
use Rattle.slots.specs.Pools.{find, held, no_pool, no_slot, vacant}
use Rattle.slots.specs.View.{bytes_at, view}
use borrow.Author.Tests.{le-ltb, lt-ltb, ltb-true}
use lib.ListN.{get_or, length}
use mathlib.Core.Bool.{Bool, cond, false, true}
use mathlib.Core.List.{List}
use mathlib.Core.Logic.{◌⊎◌, inl, inr, ⊎_elim}
use mathlib.Core.Path.{◌∙◌, ◌≡◌, ap, ap₂, subst, sym}
use native.Mathlib.Omega.{arith}
use Rattle.layout.specs.declared.Setup.{Setup}
use Rattle.slots.specs.declared.Cell.{Cell}
use Rattle.slots.specs.declared.StoreRefusal.{StoreRefusal}
use Rattle.slots.specs.declared.StoreRefusal.TheVariants.{DataDoesNotExist, InvalidStoreId, StoreFull}
use Rattle.slots.specs.declared.StoreIdError.TheVariants.{InvalidSubpool, InvalidPacketIdx}

at_same : (x y : Cell) → ◌≡◌ {A = Result Cell StoreRefusal} (Ok x) (Ok y) → x ≡ y
at_same x y e = cc

refused_same : (e d : StoreRefusal) → ◌≡◌ {A = Result Cell StoreRefusal} (Err e) (Err d) → e ≡ d
refused_same e d q = cc

no_cell : (e : StoreRefusal) (c : Cell) → ◌≡◌ {A = Result Cell StoreRefusal} (Err e) (Ok c) → ⊥
no_cell e c q = let z : ◌≡◌ {A = ℕ} 0 1 = cc in omega arith

module _ (su : Setup) (k s : ℕ) where
  pub valid_pool : su.pools ≤ k → Err (InvalidStoreId (InvalidSubpool k)) ≡ validated su k s
  unfolding validated unless
  valid_pool l = rw (le-ltb _ _ l)

  pub valid_slot : k < su.pools → slots_at su k ≤ s → Err (InvalidStoreId (InvalidPacketIdx s)) ≡ validated su k s
  unfolding validated unless
  valid_slot l m = rw (lt-ltb _ _ l, le-ltb _ _ m)

  pub valid_yes : k < su.pools → s < slots_at su k → Ok (cell_of su k s) ≡ validated su k s
  unfolding validated unless
  valid_yes l m = rw (lt-ltb _ _ l, lt-ltb _ _ m)

  -- a cell that is found is the one that is named
  pub valid_at : (c : Cell) → validated su k s ≡ Ok c → (k < su.pools) × (s < slots_at su k) × (c ≡ cell_of su k s)
  unfolding validated
  valid_at c q =
      let a = passed _ _ _ _ (no_cell _ c) q in
      let b = passed _ _ _ _ (no_cell _ c) a.1 in
      (ltb-true _ _ a.0, ltb-true _ _ b.0, sym (at_same _ _ b.1))

module _ (su : Setup) (lens : List ℕ) (first last : ℕ) where
  pub room_at : (k : ℕ) → first ≤ k → k < last → ((j : ℕ) → first ≤ j → j < k → has_free su lens j ≡ false) → has_free su lens k ≡ true
      → Ok (cell_of su k (free_slot su lens k)) ≡ room_in su lens first last
  unfolding room_in unless
  room_at k a l h e = rw (← (first_stop_from (has_free su lens) first last k a l h e), lt-ltb k last l)

  pub room_full : (k : ℕ) → first ≤ last → last ≤ k → ((j : ℕ) → first ≤ j → j < k → has_free su lens j ≡ false)
      → Err (StoreFull (last - 1)) ≡ room_in su lens first last
  unfolding room_in unless
  room_full k a l h = rw (← (first_end_from (has_free su lens) first last k a l h), le-ltb last last (omega arith))

pub last_bounds : (su : Setup) (k : ℕ) → k < su.pools → (k < last_tried su k) × (last_tried su k ≤ su.pools)
unfolding last_tried
last_bounds su k l = go su.spill
  where
    go : (b : Bool) → (k < cond b su.pools (k + 1)) × (cond b su.pools (k + 1) ≤ su.pools)
    go true = (l, omega arith)
    go false = (omega arith, omega arith)

-- what `validate` answers of copies of an address's numbers says what the view finds, and so what `locate` answers
module _ (su : Setup) (st le : List ℕ) (a k s : ℕ) (p : k ≡ pool_of a) (q : s ≡ slot_of a) where
  pub invalid_cases : (e : StoreRefusal) → validated su k s ≡ Err e
      → ((find (view su st le) a ≡ no_pool) × (e ≡ InvalidStoreId (InvalidSubpool (pool_of a))))
      ⊎ ((find (view su st le) a ≡ no_slot) × (e ≡ InvalidStoreId (InvalidPacketIdx (slot_of a))))
  invalid_cases e v = go (slot_case su (pool_of a) (slot_of a)) (sym v ∙ ap₂ (validated su) p q)
    where
      go : SlotCase su (pool_of a) (slot_of a) → Err e ≡ validated su (pool_of a) (slot_of a)
          → ((find (view su st le) a ≡ no_pool) × (e ≡ InvalidStoreId (InvalidSubpool (pool_of a))))
          ⊎ ((find (view su st le) a ≡ no_slot) × (e ≡ InvalidStoreId (InvalidPacketIdx (slot_of a))))
      go (past_pools l) w = inl (find_no_pool su st le (pool_of a) (slot_of a) l, refused_same _ _ (w ∙ sym (valid_pool su _ _ l)))
      go (past_slots l m) w = inr (find_no_slot su st le (pool_of a) (slot_of a) l m, refused_same _ _ (w ∙ sym (valid_slot su _ _ l m)))
      go (has_slot l m) w = absurd (no_cell e _ (w ∙ sym (valid_yes su _ _ l m)))

  named : (c : Cell) → validated su k s ≡ Ok c → (pool_of a < su.pools) × (slot_of a < slots_at su (pool_of a)) ×
      (c ≡ cell_of su (pool_of a) (slot_of a))
  named c v = valid_at su (pool_of a) (slot_of a) c (ap₂ (validated su) (sym p) (sym q) ∙ v)

  pub vacant_there : (c : Cell) → validated su k s ≡ Ok c → get_or le c.row 0 ≡ store_free → find (view su st le) a ≡ vacant
  vacant_there c v e =
      let i = named c v in
      find_vacant su st le (pool_of a) (slot_of a) i.0 i.1 (ap (λ (x : Cell). get_or le x.row 0) (sym i.2) ∙ e)

  pub held_there : (c : Cell) → validated su k s ≡ Ok c → (get_or le c.row 0 ≡ store_free → ⊥)
      → find (view su st le) a ≡ held (get_or le c.row 0) (bytes_at su st (pool_of a) (slot_of a))
  held_there c v e =
      let i = named c v in
      let r : get_or le c.row 0 ≡ get_or le (rows_before su (pool_of a) + slot_of a) 0 = ap (λ (x : Cell). get_or le x.row 0) i.2 in
      find_held su st le (pool_of a) (slot_of a) i.0 i.1 (λ g. e (r ∙ g)) ∙ ap (λ (n : ℕ). held n (bytes_at su st (pool_of a) (slot_of a))) (sym r)

  pub found_invalid : (e : StoreRefusal) → validated su k s ≡ Err e → Err e ≡ spot_of su a (find (view su st le) a)
  unfolding spot_of
  found_invalid e v = ⊎_elim (λ h. rw (h.0, h.1)) (λ h. rw (h.0, h.1)) (invalid_cases e v)

  pub found_vacant : (n : ℕ) (c : Cell) → n ≡ address_of k s → validated su k s ≡ Ok c → get_or le c.row 0 ≡ store_free
      → Err (DataDoesNotExist n) ≡ spot_of su a (find (view su st le) a)
  unfolding spot_of
  found_vacant n c e v f = rw (vacant_there c v f) (ap (λ (m : ℕ). Err (DataDoesNotExist m)) (e ∙ ap₂ address_of p q))

  pub found_held : (c : Cell) → validated su k s ≡ Ok c → (get_or le c.row 0 ≡ store_free → ⊥) → Ok c ≡ spot_of su a (find (view su st le) a)
  unfolding spot_of
  found_held c v f = rw (held_there c v f) (ap Ok (named c v).2)

pub row_inside : (su : Setup) (le : List ℕ) (k s : ℕ) (c : Cell) → all_rows su ≤ length le → validated su k s ≡ Ok c → c.row < length le
row_inside su le k s c h v =
    let i = valid_at su k s c v in
    let r = rows_within su k su.pools i.0 in
    subst (λ (x : Cell). x.row < length le) (sym i.2) (omega arith)

-- The row of an address: two addresses of one row, and what the view finds by it.
use Prim.Native.Nat.{◌+◌, ◌<◌, ◌≤◌, ℕ}
use Rattle.address.specs.Address.{pool_of, slot_of}
use Rattle.layout.proofs.Bounds.{bounds}
use Rattle.layout.proofs.Cases.{SlotCase, has_slot, past_pools, past_slots, slot_case}
use Rattle.layout.proofs.RowOf.{Named, below_named, owner, row_below, row_named, row_no_pool, row_no_slot}
use Rattle.layout.specs.Judge.{Sound}
use Rattle.layout.specs.Layout.{all_rows, row_of, rows_before, size_at}
use Rattle.layout.specs.Limits.{max_slot_size, store_free}
use Rattle.lookup.proofs.Within.{Within, within}
use Rattle.rules.proofs.Cases.{eq_or_ne}
use Rattle.slots.proofs.Find.{find_held, find_no_pool, find_no_slot, find_vacant}
use Rattle.slots.proofs.Lists.{part_length}
use Rattle.slots.specs.Inside.{cell_of}
use Rattle.slots.specs.Pools.{Found, find, held, no_pool, no_slot, vacant}
use Rattle.slots.specs.View.{bytes_at, view}
use Rattle.store.proofs.Slots.{rows_apart}
use lib.ListN.{get_or, length}
use mathlib.Core.List.{List}
use mathlib.Core.Logic.{◌⊎◌, inl, inr, ⊎_elim}
use mathlib.Core.Path.{◌∙◌, ◌≡◌, subst, sym}
use native.Mathlib.Omega.{arith}
use Rattle.layout.specs.declared.Setup.{Setup}

-- one slot has one row, and one row is of one slot
abbrev pub SameSlot : ℕ → ℕ → Type 0
SameSlot a b = (pool_of a ≡ pool_of b) × (slot_of a ≡ slot_of b)

pub slot_row : (su : Setup) (a b : ℕ) → SameSlot a b → row_of su a ≡ row_of su b
unfolding row_of
slot_row su a b e = rw (e.0, e.1)

pub row_slot : (su : Setup) (a b : ℕ) → row_of su a < all_rows su → (SameSlot a b → ⊥) → row_of su b ≡ row_of su a → ⊥
row_slot su a b h o e =
    let n = below_named su a h in
    let m = below_named su b (rw e h) in
    rows_apart su (pool_of a) (slot_of a) (pool_of b) (slot_of b) n.slot m.slot o (sym (row_named su a n) ∙ sym e ∙ row_named su b m)

-- what an address finds, by its row of the length table
abbrev pub RowSays : Setup → List ℕ → ℕ → Found → Type 0
RowSays su le a no_pool = row_of su a ≡ all_rows su
RowSays su le a no_slot = row_of su a ≡ all_rows su
RowSays su le a vacant = (row_of su a < all_rows su) × (get_or le (row_of su a) 0 ≡ store_free)
RowSays su le a (held n b) = (row_of su a < all_rows su) × (get_or le (row_of su a) 0 ≡ n) × (n ≤ length b) × (n ≤ max_slot_size)

module _ (su : Setup) (st le : List ℕ) (ok : Sound su st le) (a : ℕ) where
  bytes_long : Within su (length st) le (cell_of su (pool_of a) (slot_of a)) →
      length (bytes_at su st (pool_of a) (slot_of a)) ≡ size_at su (pool_of a)
  unfolding bytes_at
  bytes_long c = part_length _ _ st c.bytes_fit

  says_at : Named su a → RowSays su le a (find (view su st le) a)
  says_at n =
      ⊎_elim
      (λ (e : get_or le (rows_before su (pool_of a) + slot_of a) 0 ≡ store_free).
      rw (find_vacant su st le (pool_of a) (slot_of a) n.pool n.slot e) (row_below su a n, rw (row_named su a n) e))
      (λ (o : get_or le (rows_before su (pool_of a) + slot_of a) 0 ≡ store_free → ⊥).
      let c = within su (length st) le (bounds ok) (pool_of a) (slot_of a) n.pool n.slot in
      let z : length (bytes_at su st (pool_of a) (slot_of a)) ≡ size_at su (pool_of a) = bytes_long c in
      let m : get_or le (rows_before su (pool_of a) + slot_of a) 0 ≤ size_at su (pool_of a) = ⊎_elim (λ e. absurd (o e)) (λ l. l) c.len_ok in
      let y = c.small in
      rw (find_held su st le (pool_of a) (slot_of a) n.pool n.slot o) (row_below su a n, rw (row_named su a n), omega arith, omega arith))
      (eq_or_ne (get_or le (rows_before su (pool_of a) + slot_of a) 0) store_free)

  pub row_says : RowSays su le a (find (view su st le) a)
  row_says = go (slot_case su (pool_of a) (slot_of a))
    where
      go : SlotCase su (pool_of a) (slot_of a) → RowSays su le a (find (view su st le) a)
      go (past_pools l) = rw (find_no_pool su st le (pool_of a) (slot_of a) l) (row_no_pool su a l)
      go (past_slots l m) = rw (find_no_slot su st le (pool_of a) (slot_of a) l m) (row_no_slot su a l m)
      go (has_slot l m) = says_at (record { pool = l; slot = m })

pub row_plain : (su : Setup) (st le : List ℕ) → Sound su st le → (r : ℕ) → r < all_rows su
    → (get_or le r 0 ≡ store_free) ⊎ (get_or le r 0 ≤ max_slot_size)
row_plain su st le ok r h =
    let o = owner su su.pools r h in
    let b = bounds ok in
    let z = b.sizes o.pool o.before in
    subst (λ (q : ℕ). (get_or le q 0 ≡ store_free) ⊎ (get_or le q 0 ≤ max_slot_size)) o.at
    (⊎_elim (λ e. inl e) (λ l. inr (omega (arith, z.1))) (b.rows o.pool o.slot o.before o.inside))

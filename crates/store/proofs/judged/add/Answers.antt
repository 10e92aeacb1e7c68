-- `store::judged::add` meets its contract.
use Prim.Native.Nat.{◌≤◌, ℕ}
use Rattle.layout.proofs.Bounds.{bounds}
use Rattle.slots.proofs.Lists.{cut_length, put_back, written}
use Rattle.std.proofs.Common.{rules}
use Rattle.store.proofs.Chosen.{add_at, add_refused, room_found}
use lib.ListN.{length}
use mathlib.Core.Path.{◌∙◌, refl, subst, sym}
use native.Mathlib.Omega.{arith}
use Rattle.store.proofs.judged.add.Goals as goal

pub choose-requires : goal.choose-requires
choose-requires c =
    let h = bounds c.requires in
    (c.requires.setup, h.few_pools, h.rows_fit)

pub overflow_add-end : goal.overflow_add-end
overflow_add-end c = omega (arith, (room_found _ _ _ c.requires _ _ (c.in_ok-cell.ensures c.args.store.now)).inside.bytes_fit)

pub overflow_cast-lens : goal.overflow_cast-lens
overflow_cast-lens c =
    let k = room_found _ _ _ c.requires _ _ (c.in_ok-cell.ensures c.args.store.now) in
    omega (arith, k.inside.small, k.holds)

pub offset_bounds-lens-row : goal.offset_bounds-lens-row
offset_bounds-lens-row c = omega (arith, (room_found _ _ _ c.requires _ _ (c.in_ok-cell.ensures c.args.store.now)).inside.row_fits)

pub bounds-lens-row : goal.bounds-lens-row
bounds-lens-row c = (room_found _ _ _ c.requires _ _ (c.in_ok-cell.ensures c.args.store.now)).inside.row_fits

pub slice_bounds-copy_in-end : goal.slice_bounds-copy_in-end
slice_bounds-copy_in-end c = (room_found _ _ _ c.requires _ _ (c.in_ok-cell.ensures c.args.store.now)).inside.bytes_fit

pub copy_in-requires : goal.copy_in-requires
copy_in-requires c =
    let k = room_found _ _ _ c.requires _ _ (c.in_ok-cell.ensures c.args.store.now) in
    subst (λ (n : ℕ). length c.args.packet.now ≤ n) (sym (cut_length _ _ _ k.inside.bytes_fit)) k.holds

pub address_of-requires : goal.address_of-requires
address_of-requires c =
    let k = room_found _ _ _ c.requires _ _ (c.in_ok-cell.ensures c.args.store.now) in
    (omega (arith, k.inside.pool_fits, k.inside.few_pools), omega (arith, k.inside.slot_fits, k.inside.few_slots))

pub returns-in_err-cell : goal.returns-in_err-cell
returns-in_err-cell c = search (rules, add_refused _ _ _ _ _ (c.in_err-cell.ensures c.args.store.now))

pub returns : goal.returns
returns c =
    let k = room_found _ _ _ c.requires _ _ (c.in_ok-cell.ensures c.args.store.now) in
    let s = c.in_ok-cell.cell in
    add_at _ _ _ _ c.requires _ k _ _ _ c.address_of.ensures
    (put_back _ _ _ _ _ (c.copy_in.ensures ∙ written s.from s.size c.args.store.now _)) refl

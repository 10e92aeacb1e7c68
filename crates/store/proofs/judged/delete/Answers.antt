-- `store::judged::delete` meets its contract.
use Rattle.layout.proofs.Bounds.{bounds}
use Rattle.lookup.proofs.Packets.{packet_found}
use Rattle.slots.proofs.Lists.{filled, put_back}
use Rattle.std.proofs.Common.{rules}
use Rattle.store.proofs.Promises.{delete_at, delete_refused}
use mathlib.Core.Path.{◌∙◌, refl}
use native.Mathlib.Omega.{arith}
use Rattle.store.proofs.judged.delete.Goals as goal

pub locate-requires : goal.locate-requires
locate-requires c = let h = bounds c.requires in (h.few_pools, h.rows_fit)

pub overflow_add-end : goal.overflow_add-end
overflow_add-end c = omega (arith, (packet_found _ _ _ c.requires _ _ (c.in_ok-cell.ensures c.args.store.now)).inside.bytes_fit)

pub offset_bounds-lens-row : goal.offset_bounds-lens-row
offset_bounds-lens-row c = omega (arith, (packet_found _ _ _ c.requires _ _ (c.in_ok-cell.ensures c.args.store.now)).inside.row_fits)

pub bounds-lens-row : goal.bounds-lens-row
bounds-lens-row c = (packet_found _ _ _ c.requires _ _ (c.in_ok-cell.ensures c.args.store.now)).inside.row_fits

pub slice_bounds-zero_fill-end : goal.slice_bounds-zero_fill-end
slice_bounds-zero_fill-end c = (packet_found _ _ _ c.requires _ _ (c.in_ok-cell.ensures c.args.store.now)).inside.bytes_fit

pub returns-in_err-cell : goal.returns-in_err-cell
returns-in_err-cell c = search (rules, delete_refused _ _ _ _ _ (c.in_err-cell.ensures c.args.store.now))

pub returns : goal.returns
returns c =
    let k = packet_found _ _ _ c.requires _ _ (c.in_ok-cell.ensures c.args.store.now) in
    delete_at _ _ _ _ c.requires _ k _ _
    (put_back _ _ _ _ _ (c.zero_fill.ensures ∙ filled _ _ _ _ k.inside.bytes_fit)) refl

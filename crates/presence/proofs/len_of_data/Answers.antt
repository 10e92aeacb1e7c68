-- `presence::len_of_data` meets its contract.
use Rattle.layout.proofs.Bounds.{bounds}
use Rattle.slots.proofs.Place.{row_inside}
use mathlib.Core.Path.{sym}
use native.Mathlib.Omega.{arith}
use Rattle.std.proofs.Common.{rules, ◌<◌, length}
use Rattle.presence.proofs.Asks.{len_refused, len_held, len_vacant}
use Rattle.presence.proofs.len_of_data.Goals as goal

pub validate-requires : goal.validate-requires
validate-requires c = (bounds c.requires).few_pools

pub returns-in_err-cell : goal.returns-in_err-cell
returns-in_err-cell c =
    let a = c.args in
    search (rules, len_refused _ a.store.now a.lens.now a.addr _ _ c.decode-a.ensures.0 c.decode-a.ensures.1 _ (sym c.in_err-cell.ensures))

pub offset_bounds-lens-row : goal.offset_bounds-lens-row
offset_bounds-lens-row c =
    let inside : c.in_ok-cell.cell.row < length c.args.lens.now =
    row_inside _ c.args.lens.now _ _ _ (bounds c.requires).rows_fit (sym c.in_ok-cell.ensures) in
    omega (arith, inside)

pub bounds-lens-row : goal.bounds-lens-row
bounds-lens-row c = row_inside _ c.args.lens.now _ _ _ (bounds c.requires).rows_fit (sym c.in_ok-cell.ensures)

pub returns-then-w : goal.returns-then-w
returns-then-w c =
    len_vacant _ c.args.store.now _ _ _ _ c.decode-a.ensures.0 c.decode-a.ensures.1 _ (sym c.in_ok-cell.ensures) c.if-w.true

pub returns : goal.returns
returns c =
    len_held _ c.args.store.now _ _ _ _ c.decode-a.ensures.0 c.decode-a.ensures.1 _ (sym c.in_ok-cell.ensures) c.if-w.false _
    c.from.ensures

-- `slots::search::locate` meets its contract.
use Prim.Native.Nat.{◌<◌}
use Rattle.slots.proofs.Place.{found_held, found_invalid, found_vacant, row_inside}
use lib.ListN.{length}
use mathlib.Core.Path.{sym}
use Rattle.std.proofs.lemmas.Result.{err_from_is_err_and}
use native.Mathlib.Omega.{arith}
use Rattle.slots.proofs.search.locate.Goals as goal

pub offset_bounds-lens-row : goal.offset_bounds-lens-row
offset_bounds-lens-row c =
    let inside : c.in_ok-cell.cell.row < length c.args.lens.now =
    row_inside _ c.args.lens.now _ _ _ c.requires.1 (sym c.in_ok-cell.ensures) in
    omega (arith, inside)

pub bounds-lens-row : goal.bounds-lens-row
bounds-lens-row c = row_inside _ c.args.lens.now _ _ _ c.requires.1 (sym c.in_ok-cell.ensures)

pub returns-then-lens-row : goal.returns-then-lens-row
returns-then-lens-row c =
    λ st. found_vacant _ st _ _ _ _ c.decode-a.ensures.0
    c.decode-a.ensures.1 _ _ c.encode.ensures
    (sym c.in_ok-cell.ensures) c.if-lens-row.true

pub returns-in_err-cell : goal.returns-in_err-cell
returns-in_err-cell c =
    λ st.
    let p = err_from_is_err_and c.from_residual.result c.from_residual.ensures.1 in
    rw (p.1, p.2)
    (found_invalid _ st _ _ _ _ c.decode-a.ensures.0
    c.decode-a.ensures.1 _
    (sym c.in_err-cell.ensures))

pub returns : goal.returns
returns c =
    λ st. found_held _ st _ _ _ _ c.decode-a.ensures.0
    c.decode-a.ensures.1 _
    (sym c.in_ok-cell.ensures)
    c.if-lens-row.false

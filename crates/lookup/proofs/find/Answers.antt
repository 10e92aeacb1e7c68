-- `lookup::find` meets its contract.
use Rattle.layout.proofs.Bounds.{bounds}
use Rattle.lookup.proofs.Finding.{finds_at, finds_refused}
use Rattle.lookup.proofs.Packets.{packet_found}
use Rattle.std.proofs.Common.{rules}
use native.Mathlib.Omega.{arith}
use Rattle.lookup.proofs.find.Goals as goal

pub locate-requires : goal.locate-requires
locate-requires c = let h = bounds c.requires in (h.few_pools, h.rows_fit)

pub offset_bounds-lens-row : goal.offset_bounds-lens-row
offset_bounds-lens-row c = omega (arith, (packet_found _ _ _ c.requires _ _ (c.in_ok-cell.ensures c.args.store.now)).inside.row_fits)

pub bounds-lens-row : goal.bounds-lens-row
bounds-lens-row c = (packet_found _ _ _ c.requires _ _ (c.in_ok-cell.ensures c.args.store.now)).inside.row_fits

pub returns-in_err-cell : goal.returns-in_err-cell
returns-in_err-cell c = search (rules, finds_refused _ _ _ _ _ (c.in_err-cell.ensures c.args.store.now))

pub returns : goal.returns
returns c = finds_at _ _ _ _ _ (packet_found _ _ _ c.requires _ _ (c.in_ok-cell.ensures c.args.store.now)) _ c.from.ensures

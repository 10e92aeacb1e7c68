-- `store::judged::fresh` meets its contract.
use Rattle.std.proofs.Common.{arith, sym}
use Rattle.std.proofs.Math.Seq.{length-take-le}
use Rattle.layout.proofs.Bounds.{sized_fits}
use Rattle.slots.proofs.Lists.{front_filled}
use Rattle.store.proofs.Start.{fresh_leaves}
use Rattle.store.proofs.judged.fresh.Goals as goal

pub slice_bounds-zero_fill-end-2 : goal.slice_bounds-zero_fill-end-2
slice_bounds-zero_fill-end-2 c = let w = sized_fits c.requires in sym (length-take-le _ _ (omega arith))

pub slice_bounds-mark_free-end-2 : goal.slice_bounds-mark_free-end-2
slice_bounds-mark_free-end-2 c = let w = sized_fits c.requires in sym (length-take-le _ _ (omega arith))

pub returns : goal.returns
returns c =
    let w = sized_fits c.requires in
    fresh_leaves _ _ _ c.requires _ _
    (front_filled _ _ _ _ _ c.bytes_before-all.ensures.0 w.1 c.zero_fill.ensures)
    (front_filled _ _ _ _ _ c.rows-rows.ensures w.2 c.mark_free.ensures)

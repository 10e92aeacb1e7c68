-- `marks::bytes_left` meets its contract.
use Rattle.std.proofs.Common.{◌<◌, length, arith, inl, inr}
use Rattle.marks.proofs.Marking.{row_inside, tells_none, tells_one}
use Rattle.marks.proofs.bytes_left.Goals as goal

pub returns-then-all-place : goal.returns-then-all-place
returns-then-all-place c = tells_none _ _ _ (inl (omega (arith, c.requires.0.rows)))

pub offset_bounds-lens-place : goal.offset_bounds-lens-place
offset_bounds-lens-place c =
    let inside : c.args.place < length c.args.lens.now = row_inside _ _ _ c.requires.1 (omega (arith, c.requires.0.rows)) in
    omega arith

pub bounds-lens-place : goal.bounds-lens-place
bounds-lens-place c = row_inside _ _ _ c.requires.1 (omega (arith, c.requires.0.rows))

pub returns-then-left-lt-MARK : goal.returns-then-left-lt-MARK
returns-then-left-lt-MARK c = tells_one _ _ _ (omega (arith, c.requires.0.rows)) (omega arith) c.requires.1 _ c.from.ensures

pub returns-else-left-lt-MARK : goal.returns-else-left-lt-MARK
returns-else-left-lt-MARK c = tells_none _ _ _ (inr (omega arith))

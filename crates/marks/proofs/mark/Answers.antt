-- `marks::mark` meets its contract.
use Rattle.std.proofs.Common.{◌<◌, length, arith, inl, inr}
use Rattle.marks.proofs.Marking.{deletes_none, deletes_one, row_inside}
use Rattle.std.proofs.lemmas.List.{set-get_or}
use Rattle.marks.proofs.mark.Goals as goal

pub offset_bounds-lens-place : goal.offset_bounds-lens-place
offset_bounds-lens-place c =
    let inside : c.args.place < length c.args.lens.now = row_inside _ _ _ c.requires.1 (omega (arith, c.requires.0.rows)) in
    omega arith

pub bounds-lens-place : goal.bounds-lens-place
bounds-lens-place c = row_inside _ _ _ c.requires.1 (omega (arith, c.requires.0.rows))

pub returns-then-w-lt-MARK : goal.returns-then-w-lt-MARK
returns-then-w-lt-MARK c = deletes_one _ _ _ (omega (arith, c.requires.0.rows)) (omega arith) _ (omega arith)

pub returns-else-w-lt-MARK : goal.returns-else-w-lt-MARK
returns-else-w-lt-MARK c = rw set-get_or (deletes_none _ _ _ (inr (omega arith)))

pub returns-else-place-all : goal.returns-else-place-all
returns-else-place-all c = deletes_none _ _ _ (inl (omega (arith, c.requires.0.rows)))

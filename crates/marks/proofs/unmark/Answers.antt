-- `marks::unmark` meets its contract.
use Rattle.std.proofs.Common.{◌≤◌, arith, length, sym}
use Rattle.layout.proofs.Layouts.{setup_few}
use Rattle.marks.proofs.Marking.{rows_inside}
use Rattle.marks.specs.Inside.{bare}
use Rattle.std.proofs.lemmas.List.Edits.{map_over_more}
use Rattle.std.proofs.Math.Seq.{length-take-le}
use Rattle.marks.proofs.Unmarking.{restores, unmarked_front}
use Rattle.std.proofs.lemmas.Grind.{common_steps}
use Rattle.marks.proofs.unmark.Goals as goal

pub rows-n-requires : goal.rows-n-requires
rows-n-requires c = setup_few _ c.requires.marks.sound.setup

pub slice_bounds-w-items-end : goal.slice_bounds-w-items-end
slice_bounds-w-items-end c = omega (arith, rows_inside c.requires, c.rows-n.ensures)

pub slice_bounds-w-items-end-2 : goal.slice_bounds-w-items-end-2
slice_bounds-w-items-end-2 c = sym (length-take-le _ _ (omega (arith, rows_inside c.requires, c.rows-n.ensures)))

pub loop-w-preserved : goal.loop-w-preserved
loop-w-preserved c = grind (arith, common_steps, map_over_more bare)

pub returns : goal.returns
returns c =
    let inside : c.rows-n.result ≤ length c.args.lens.now = omega (arith, rows_inside c.requires, c.rows-n.ensures) in
    restores _ _ _ (rw (← c.rows-n.ensures) (unmarked_front _ _ inside _ (grind (arith, common_steps))))

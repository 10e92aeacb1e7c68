-- `selection::window::end` meets its contract, by whether the window has an end.
use Rattle.rows.proofs.Rows.{length_unpack}
use Rattle.selection.specs.Windows.{end_of}
use Rattle.selection.proofs.window.end.Goals as goal
use mathlib.Core.Logic.{⊎_elim}
use mathlib.Core.Path.{sym}

pub returns-in-FromTo : goal.returns-in-FromTo
unfolding end_of
returns-in-FromTo c = ⊎_elim (λ w. rw w.1 c.up_to.ensures.1) (λ w. rw w c.up_to.ensures.1) c.in-FromTo.is

pub returns-in-All : goal.returns-in-All
unfolding end_of
returns-in-All c =
    let n = sym (length_unpack c.args.count c.args.rows.now) in
    ⊎_elim (λ w. rw w n) (λ w. rw w.1 n) c.in-All.is

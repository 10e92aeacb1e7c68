-- `selection::window::start` meets its contract, by whether the window has a start.
use Rattle.selection.specs.Windows.{start_of}
use Rattle.selection.proofs.window.start.Goals as goal
use mathlib.Core.Logic.{⊎_elim}
use mathlib.Core.Path.{refl}

pub returns-in-FromTo : goal.returns-in-FromTo
unfolding start_of
returns-in-FromTo c = ⊎_elim (λ w. rw w.1 c.below.ensures.1) (λ w. rw w c.below.ensures.1) c.in-FromTo.is

pub returns-in-All : goal.returns-in-All
unfolding start_of
returns-in-All c = ⊎_elim (λ w. rw w refl) (λ w. rw w.1 refl) c.in-All.is

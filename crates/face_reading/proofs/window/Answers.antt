-- `face_reading::window` meets its contract.
use Rattle.face_reading.specs.Reading.{window_from}
use Rattle.face_reading.proofs.window.Goals as goal

pub returns-in-true-true : goal.returns-in-true-true
unfolding window_from
returns-in-true-true c = rw (c.in-true-true.is-0, c.in-true-true.is-1)

pub returns-in-true-false : goal.returns-in-true-false
unfolding window_from
returns-in-true-false c = rw (c.in-true-false.is-0, c.in-true-false.is-1)

pub returns-in-false-true : goal.returns-in-false-true
unfolding window_from
returns-in-false-true c = rw (c.in-false-true.is-0, c.in-false-true.is-1)

pub returns-in-false-false : goal.returns-in-false-false
unfolding window_from
returns-in-false-false c = rw (c.in-false-false.is-0, c.in-false-false.is-1)

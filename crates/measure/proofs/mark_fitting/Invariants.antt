-- `measure::mark_fitting` meets its contract.
use Rattle.measure.proofs.Measuring.{Measuring}
use Rattle.measure.proofs.mark_fitting.Given as goal

abbrev pub invariant-loop-i : goal.invariant-loop-i
invariant-loop-i l = Measuring l.setup l.store l.initial.lens l.rows l.n l.cap l.delete l.used l.i l.lens

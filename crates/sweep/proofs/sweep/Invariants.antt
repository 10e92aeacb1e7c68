-- `sweep::sweep` meets its contract.
use Rattle.sweep.proofs.Sweeping.{Going}
use Rattle.sweep.proofs.sweep.Given as goal

abbrev pub invariant-loop-i : goal.invariant-loop-i
invariant-loop-i l = Going l.setup l.initial.store l.initial.lens l.rows l.count l.initial.i l.i-end l.store l.lens l.c l.i

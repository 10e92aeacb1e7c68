-- `handing::hand_out` meets its contract.
use Rattle.handing.proofs.Turning.{Turning}
use Rattle.handing.proofs.hand_out.Given as goal

abbrev pub invariant-loop-i : goal.invariant-loop-i
invariant-loop-i l =
    Turning l.setup l.initial.store l.initial.lens l.initial.log l.rows l.m l.delete l.on l.store l.lens l.log l.at l.i

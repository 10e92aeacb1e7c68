-- `utc::place` meets its contract. The loop's invariant: the days of the whole ones so far and what is left make all days.
use Rattle.std.proofs.Common.{◌≡◌, ◌+◌, ◌-◌, ◌≤◌}
use Rattle.utc.specs.Inside.{days_from}
use Rattle.utc.proofs.place.Given as goal

abbrev pub invariant-loop-left : goal.invariant-loop-left
invariant-loop-left g l = record {
  sum : days_from g.days_of l.first (l.at - l.first) + l.left ≡ l.days;
  few : l.at + l.left ≤ l.first + l.days;
  from : l.first ≤ l.at;
}

abbrev pub decreases-loop-left : goal.decreases-loop-left
decreases-loop-left g l = l.left

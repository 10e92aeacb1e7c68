-- `report::records::all` meets its contract: what the records behind place i come to on top of the totals so far is what all come to.
use Rattle.std.proofs.Common.{◌-◌, ◌≡◌}
use Rattle.shift_totals.specs.Tally.{tally_from}
use Rattle.report.proofs.records.all.Given as goal

abbrev pub invariant-loop-i : goal.invariant-loop-i
invariant-loop-i g l = tally_from l.log l.i (l.n - l.i) l.t ≡ tally_from l.log 0 l.n l.initial.t

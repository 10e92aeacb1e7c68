-- `text::input::read_full` meets its contract.
use Rattle.std.proofs.Common.{length, ◌-◌, ◌≤◌}
use Rattle.text.proofs.input.read_full.Given as goal

abbrev pub invariant-loop-done : goal.invariant-loop-done
invariant-loop-done g l = l.done ≤ length l.room

abbrev pub decreases-loop-done : goal.decreases-loop-done
decreases-loop-done g l = length l.initial.room - l.done

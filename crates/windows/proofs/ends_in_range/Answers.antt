-- `windows::ends_in_range` meets its contract.
use Rattle.rules.proofs.Passing.{fails, passes}
use Rattle.windows.specs.Windowing.{ends_in_range}
use Rattle.windows.proofs.ends_in_range.Goals as goal

pub returns-in-All : goal.returns-in-All
unfolding ends_in_range
returns-in-All c = rw c.in-All.is

pub returns-then-in_range : goal.returns-then-in_range
unfolding ends_in_range
returns-then-in_range c = rw (c.in-FromTo.is, passes c.in_range.ensures c.if-in_range.true) c.in_range-then-in_range.ensures

pub returns-else-in_range : goal.returns-else-in_range
unfolding ends_in_range
returns-else-in_range c = rw (c.in-FromTo.is, fails c.in_range.ensures c.if-in_range.false) c.if-in_range.false

pub returns-in-From : goal.returns-in-From
unfolding ends_in_range
returns-in-From c = rw c.in-From.is c.in_range-in-From.ensures

pub returns-in-To : goal.returns-in-To
unfolding ends_in_range
returns-in-To c = rw c.in-To.is c.in_range-in-To.ensures

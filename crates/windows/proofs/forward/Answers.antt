-- `windows::forward` meets its contract.
use Rattle.windows.proofs.Openings.{both_judged}
use Rattle.windows.specs.Windowing.{forward}
use Rattle.windows.proofs.forward.Goals as goal

pub not_after-requires-clause-in_range : goal.not_after-requires-clause-in_range
not_after-requires-clause-in_range c = (both_judged _ _ _ c.in-FromTo.is c.requires).0

pub not_after-requires-clause-in_range_2 : goal.not_after-requires-clause-in_range_2
not_after-requires-clause-in_range_2 c = (both_judged _ _ _ c.in-FromTo.is c.requires).1

pub returns-in-All : goal.returns-in-All
unfolding forward
returns-in-All c = rw c.in-All.is

pub returns-in-FromTo : goal.returns-in-FromTo
unfolding forward
returns-in-FromTo c = rw c.in-FromTo.is c.not_after.ensures

pub returns-in-From : goal.returns-in-From
unfolding forward
returns-in-From c = rw c.in-From.is

pub returns-in-To : goal.returns-in-To
unfolding forward
returns-in-To c = rw c.in-To.is

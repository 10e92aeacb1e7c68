-- `report::records::one` meets its contract.
use Rattle.shift_totals.specs.Tally.{tally_found}
use Rattle.report.proofs.records.one.Goals as goal

pub returns-in-Some : goal.returns-in-Some
unfolding tally_found
returns-in-Some g c = rw c.in-Some.is c.with.ensures

pub returns-in-None : goal.returns-in-None
unfolding tally_found
returns-in-None g c = rw c.in-None.is

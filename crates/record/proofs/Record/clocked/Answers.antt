-- `record::Record::clocked` meets its contract.
use Rattle.rules.proofs.Passing.{fails, passes}
use Rattle.record.proofs.Changing.{clock_bad, clock_damaged, clock_done}
use Rattle.record.proofs.Record.clocked.Goals as goal

pub returns-then-not-times_in_range : goal.returns-then-not-times_in_range
returns-then-not-times_in_range c =
    clock_damaged c.args.t c.args.self (fails c.times_in_range.ensures c.if-not-times_in_range.true)

pub returns-then-not-in_range : goal.returns-then-not-in_range
returns-then-not-in_range c =
    clock_bad c.args.t c.args.self (passes c.times_in_range.ensures c.if-not-times_in_range.false)
    (fails c.in_range.ensures c.if-not-in_range.true)

pub returns : goal.returns
returns c =
    clock_done c.args.t c.args.self (passes c.times_in_range.ensures c.if-not-times_in_range.false)
    (passes c.in_range.ensures c.if-not-in_range.false)

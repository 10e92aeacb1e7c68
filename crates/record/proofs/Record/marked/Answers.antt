-- `record::Record::marked` meets its contract.
use Rattle.rules.proofs.Passing.{fails, passes}
use Rattle.record.proofs.Changing.{mark_damaged, mark_done}
use Rattle.record.proofs.Record.marked.Goals as goal

pub returns-then-not-times_in_range : goal.returns-then-not-times_in_range
returns-then-not-times_in_range c =
    mark_damaged c.args.on c.args.self (fails c.times_in_range.ensures c.if-not-times_in_range.true)

pub returns : goal.returns
returns c = mark_done c.args.on c.args.self (passes c.times_in_range.ensures c.if-not-times_in_range.false)

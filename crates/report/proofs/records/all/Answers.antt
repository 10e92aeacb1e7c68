-- `report::records::all` meets its contract.
use Rattle.std.proofs.Common.{arith}
use Rattle.report.proofs.Tallying.{tally_last, tally_next}
use Rattle.report.proofs.records.all.Goals as goal

pub loop-i-preserved : goal.loop-i-preserved
loop-i-preserved g c = tally_next _ _ _ _ _ _ _ (omega arith) c.record_at.ensures c.one-t.ensures c.loop-i.invariant

pub returns : goal.returns
returns g c = tally_last _ _ _ _ _ (omega arith) c.count-n.ensures c.loop-i.invariant

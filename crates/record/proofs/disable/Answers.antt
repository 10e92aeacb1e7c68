-- `record::disable` meets its contract.
use Rattle.std.proofs.Common.{rules}
use Rattle.record.proofs.Changing.{done_in_place, refused_in_place}
use Rattle.record.proofs.disable.Goals as goal

pub returns-in_err-r : goal.returns-in_err-r
returns-in_err-r c = search (rules, refused_in_place _ _ _ c.in_err-r.ensures)

pub returns : goal.returns
returns c = done_in_place _ _ _ c.in_ok-r.ensures

-- `reading::modify` meets its contract.
use Rattle.std.proofs.Common.{rules}
use Rattle.reading.proofs.Lending.{modify_at, modify_refused}
use Rattle.reading.proofs.modify.Goals as goal

pub returns-in_err-s : goal.returns-in_err-s
returns-in_err-s c = search (rules, modify_refused _ _ _ _ _ c.in_err-s.ensures)

pub returns : goal.returns
returns c = modify_at _ _ _ _ _ c.in_ok-s.ensures

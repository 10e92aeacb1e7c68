-- `utc::date_of` meets its contract.
use Rattle.std.proofs.Common.{arith, rules}
use Rattle.utc.proofs.Steps.{dated, some_month, some_year}
use Rattle.utc.proofs.date_of.Goals as goal

pub place-year-requires-whole : goal.place-year-requires-whole
place-year-requires-whole c = λ κs. (search rules, (omega arith, (λ k h. tt, (λ k r e. e, λ k. some_year k))))

pub place-month-requires-whole : goal.place-month-requires-whole
place-month-requires-whole c = λ κs. (search rules, (omega arith, (λ k h. tt, (λ k r e. search rules, λ k. some_month _ k))))

pub returns : goal.returns
returns c = rw (← c.from.ensures) (dated _ _ _ c.place-year.ensures c.place-month.ensures)

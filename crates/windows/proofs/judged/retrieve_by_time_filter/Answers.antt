-- `windows::judged::retrieve_by_time_filter` meets its contract.
use mathlib.Core.Path.{refl}
use Rattle.std.proofs.Common.{rules}
use Rattle.windows.proofs.Retrieving.{retrieve_at, retrieve_refused}
use Rattle.windows.proofs.judged.retrieve_by_time_filter.Goals as goal

pub returns-in_err-x : goal.returns-in_err-x
returns-in_err-x c s q = search (rules, retrieve_refused c.args.w _ c.in_err-x.ensures _ s q _ refl)

pub returns : goal.returns
returns c s q =
    retrieve_at c.args.w _ c.in_ok-x.ensures _ s q _ _ refl c.rows_in.ensures.row
    c.rows_in.ensures.many

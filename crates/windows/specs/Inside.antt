-- A window as it is opened: in moments, or refused with 4 or 15.
-- A reader need not believe this file: contracts below the public calls cite it, no public call's promise does.
use Rattle.std.specs.Prelude.{Result, Ok, Err, [], ◌≡◌}
use Rattle.record.specs.declared.ScheduleRefusal.{ScheduleRefusal}
use Rattle.record.specs.Refusals.{paper}
use Rattle.rules.specs.Papers.{Outcome, done, refused}
use Rattle.selection.specs.Inside.{EndsInRange}
use Rattle.selection.specs.declared.MomentWindow.{MomentWindow}
use Rattle.windows.specs.Windowing.{windowed}
use Rattle.windows.specs.declared.TimeWindow.{TimeWindow}

-- the window in moments, or which of 4 and 15 every call with it is given
unfoldable pub opened_as : Result MomentWindow ScheduleRefusal → Outcome MomentWindow
opened_as (Ok w) = done [] w
opened_as (Err e) = refused (paper e)

abbrev pub Ends : Result MomentWindow ScheduleRefusal → Type 0
Ends (Ok w) = EndsInRange w
Ends (Err e) = Unit {0}

pub record Opens (w : TimeWindow) (r : Result MomentWindow ScheduleRefusal) : Type 0 where
  pub same : opened_as r ≡ windowed w (λ x. done [] x)
  pub ends : Ends r

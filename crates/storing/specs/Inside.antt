-- Which refusal an insertion gives that stores nothing.
-- A reader need not believe this file: contracts below the public calls cite it, no public call's promise does.
use Rattle.std.specs.Prelude.{List}
use Rattle.record.specs.Refusals.{paper}
use Rattle.record.specs.declared.ScheduleRefusal.{ScheduleRefusal}
use Rattle.rules.specs.Papers.{Outcome, Paper, done, refused}
use Rattle.slots.specs.Pools.{Pool}

-- the store's refusal, and where it has none the schedule's own
unfoldable pub first_paper : Outcome (List Pool) → ScheduleRefusal → Paper
first_paper (refused p) own = p
first_paper (done vs ps) own = paper own

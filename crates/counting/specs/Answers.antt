-- Document 01's number and values for a count: 0 for one that is no refusal.
use Rattle.std.specs.Prelude.{Result, Ok, Err, ℕ, [], ◌∷◌}
use Rattle.record.specs.declared.ScheduleRefusal.{ScheduleRefusal}
use Rattle.record.specs.Refusals.{paper}
use Rattle.rules.specs.Papers.{Paper, no}

unfoldable pub counted_paper : Result ℕ ScheduleRefusal → Paper
counted_paper (Ok n) = no 0 (n ∷ [])
counted_paper (Err e) = paper e

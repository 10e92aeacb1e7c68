-- Document 01's number and values for what a deletion of several entries answers: 0 for one that is no refusal.
use Rattle.std.specs.Prelude.{Result, Ok, Err, ◌∷◌}
use Rattle.record.specs.declared.ScheduleRefusal.{ScheduleRefusal}
use Rattle.sweep.specs.declared.Tally.{Tally}
use Rattle.record.specs.Refusals.{paper}
use Rattle.rules.specs.Papers.{Paper, no}
use Rattle.sweep.specs.Answers.{last_paper}

unfoldable pub cleared_paper : Result Tally ScheduleRefusal → Paper
cleared_paper (Ok t) = no 0 (t.deleted ∷ t.missing ∷ (last_paper t.last).number ∷ (last_paper t.last).values)
cleared_paper (Err e) = paper e

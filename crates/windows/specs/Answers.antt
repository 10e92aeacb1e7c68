-- Document 01's number and values for what a retrieval answers: 0 for one that is no refusal.
use Rattle.std.specs.Prelude.{Result, Ok, Err, [], ◌∷◌}
use Rattle.record.specs.declared.ScheduleRefusal.{ScheduleRefusal}
use Rattle.selection.specs.declared.Part.{Part}
use Rattle.record.specs.Refusals.{paper}
use Rattle.rules.specs.Papers.{Paper, no}

unfoldable pub retrieved_paper : Result Part ScheduleRefusal → Paper
retrieved_paper (Ok x) = no 0 (x.first ∷ x.number ∷ [])
retrieved_paper (Err e) = paper e

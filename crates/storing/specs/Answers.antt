-- Document 01's number and values for what an insertion by bytes answers: 0 for one that is no refusal.
use Rattle.std.specs.Prelude.{Result, Ok, Err, [], ◌∷◌}
use Rattle.record.specs.declared.ScheduleRefusal.{ScheduleRefusal}
use Rattle.rows.specs.declared.TcInfo.{TcInfo}
use Rattle.record.specs.Refusals.{paper}
use Rattle.rules.specs.Papers.{Paper, no}

unfoldable pub inserted_paper : Result TcInfo ScheduleRefusal → Paper
inserted_paper (Ok i) = no 0 (i.addr ∷ i.request_id ∷ [])
inserted_paper (Err e) = paper e

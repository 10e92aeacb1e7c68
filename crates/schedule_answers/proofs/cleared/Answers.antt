-- `schedule_answers::cleared` meets its contract.
use Rattle.deletions.specs.Answers.{cleared_paper}
use Rattle.face_words.proofs.Told.{told}
use Rattle.schedule_answers.proofs.Carried.{carry_is, last_few}
use mathlib.Core.Path.{refl}
use Rattle.schedule_answers.proofs.cleared.Goals as goal

pub returns-in-Ok : goal.returns-in-Ok
unfolding cleared_paper
returns-in-Ok c = told cleared_paper c.in-Ok.is (carry_is _ c.behind.ensures c.last.ensures refl refl (last_few _))

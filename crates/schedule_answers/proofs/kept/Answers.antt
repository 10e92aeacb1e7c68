-- `schedule_answers::kept` meets its contract.
use Rattle.by_id.specs.Answers.{freed_paper}
use Rattle.schedule_answers.proofs.Carried.{carry_is, store_few}
use mathlib.Core.Path.{refl}
use Rattle.schedule_answers.proofs.kept.Goals as goal

pub returns : goal.returns
unfolding freed_paper
returns c = carry_is _ c.behind.ensures c.store_refusal.ensures refl refl (store_few _)

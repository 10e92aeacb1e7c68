-- `check_code::step` meets its contract: the rule of the table at one number.
use Rattle.check_code.proofs.Lookup.{next}
use Rattle.check_code.proofs.step.Goals as goal

pub returns : goal.returns
returns c = next _ _ _ c.entry.ensures

-- `check_code::of_word` meets its contract: four bytes are folded into four, and those go through the table.
use Rattle.check_code.proofs.Folding.{by_bytes}
use Rattle.check_code.proofs.of_word.Goals as goal

pub returns : goal.returns
returns c =
    by_bytes _ _ _ _ _ _ _ c.half.ensures c.to_be_bytes.ensures c.step.ensures c.step-2.ensures c.step-3.ensures c.step-4.ensures

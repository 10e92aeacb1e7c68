-- `check_code::fold::half` meets its contract.
use Rattle.std.proofs.Common.{arith}
use Rattle.check_code.proofs.Folding.{fold4_keeps}
use Rattle.check_code.proofs.fold.half.Goals as goal

pub returns : goal.returns
returns c = fold4_keeps c.args.w (omega arith)

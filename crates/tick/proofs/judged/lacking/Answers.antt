-- `tick::judged::lacking` meets its contract.
use Rattle.tick.proofs.Lacking.{lack_fits, lack_none, lack_short}
use native.Mathlib.Omega.{arith}
use Rattle.tick.proofs.judged.lacking.Goals as goal

pub returns-then-n-lt1 : goal.returns-then-n-lt1
returns-then-n-lt1 c = lack_none _ _ _ _ c.if-n-lt1.true

pub returns-then-t-cap : goal.returns-then-t-cap
returns-then-t-cap c = lack_fits _ _ _ _ _ (omega arith) c.first_total-t.ensures c.if-t-cap.true

pub returns : goal.returns
returns c = lack_short _ _ _ _ _ (omega arith) c.first_total-t.ensures (omega arith)

-- `sweep::last_of` meets its contract.
use Rattle.sweep.proofs.Absence.{tells_last, tells_none}
use Rattle.sweep.proofs.last_of.Goals as goal

pub returns-then-c-eq0 : goal.returns-then-c-eq0
returns-then-c-eq0 c = tells_none _ _ c.if-c-eq0.true

pub returns : goal.returns
returns c = rw c.err.ensures.value (tells_last _ _ _ _ c.find.ensures.same c.if-c-eq0.false)

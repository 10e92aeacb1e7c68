-- `log_reader::between` meets its contract.
use Rattle.log_reader.proofs.Counted.{lies}
use Rattle.log_reader.specs.Finding.{between}
use borrow.Author.Tests.{le-ltb, lt-ltb}
use native.Mathlib.Omega.{arith}
use Rattle.log_reader.proofs.between.Goals as goal

pub returns-then-log-end : goal.returns-then-log-end
unfolding between
returns-then-log-end c = simp (lt-ltb _ _ c.if-log-end.true)

pub returns-then-end-at : goal.returns-then-end-at
unfolding between
returns-then-end-at c = simp (le-ltb _ _ c.if-log-end.false, lt-ltb _ _ c.if-end-at.true)

pub returns : goal.returns
returns c = lies _ _ _ _ _ (omega arith) (omega arith) c.read.ensures.same c.read-2.ensures.same

-- `schedule::tests::setup_ok` meets its contract.
use mathlib.Core.Bool.{and-true}
use borrow.Author.Tests.{le-leb, lt-leb}
use Rattle.rules.proofs.Passing.{fails, passes}
use Rattle.rules.specs.Tests.{all_of}
use Rattle.schedule.specs.Judge.{setup_ok}
use Rattle.schedule.proofs.tests.setup_ok.Goals as goal

pub returns-then-not-setup_ok : goal.returns-then-not-setup_ok
unfolding setup_ok all_of
returns-then-not-setup_ok c = simp (fails c.setup_ok.ensures c.if-not-setup_ok.true)

pub returns-then-setup-lt1 : goal.returns-then-setup-lt1
unfolding setup_ok all_of
returns-then-setup-lt1 c =
    simp (passes c.setup_ok.ensures c.if-not-setup_ok.false, lt-leb _ _ c.if-setup-lt1.true)

pub returns : goal.returns
unfolding setup_ok all_of
returns c =
    simp (passes c.setup_ok.ensures c.if-not-setup_ok.false, le-leb _ _ c.if-setup-lt1.false, and-true)

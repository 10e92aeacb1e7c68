-- `schedule::tests::buffers_ok` meets its contract.
use mathlib.Core.Bool.{and-true}
use native.Mathlib.Omega.{arith}
use Rattle.rules.proofs.Passing.{fails, passes}
use Rattle.rules.specs.Tests.{all_of}
use Rattle.schedule.specs.Judge.{buffers_ok}
use Rattle.schedule.proofs.Facts.{setup_facts}
use Rattle.schedule.proofs.tests.buffers_ok.Goals as goal

pub buffers_ok-requires : goal.buffers_ok-requires
buffers_ok-requires c = (setup_facts c.args.setup c.requires).0

pub returns-then-not-buffers_ok : goal.returns-then-not-buffers_ok
unfolding buffers_ok all_of
returns-then-not-buffers_ok c = simp (fails c.buffers_ok.ensures c.if-not-buffers_ok.true)

pub overflow_mul-result : goal.overflow_mul-result
overflow_mul-result c = let h = setup_facts c.args.setup c.requires in omega arith

pub returns : goal.returns
unfolding buffers_ok all_of
returns c =
    simp (passes c.buffers_ok.ensures c.if-not-buffers_ok.false, and-true)

-- `schedule::tests::state_ok` meets its contract.
use mathlib.Core.Bool.{and-true}
use borrow.Author.Tests.{le-leb, lt-leb}
use Rattle.rules.proofs.Passing.{fails, passes}
use Rattle.rules.specs.Tests.{all_of}
use Rattle.schedule.specs.Judge.{state_ok}
use Rattle.schedule.proofs.Facts.{setup_facts}
use Rattle.schedule.proofs.tests.state_ok.Goals as goal

pub returns-then-setup-rec : goal.returns-then-setup-rec
unfolding state_ok all_of
returns-then-setup-rec c = simp (lt-leb _ _ c.if-setup-rec.true)

pub returns-then-not-times_in_range : goal.returns-then-not-times_in_range
unfolding state_ok all_of
returns-then-not-times_in_range c =
    simp (le-leb _ _ c.if-setup-rec.false, fails c.times_in_range.ensures c.if-not-times_in_range.true)

pub returns-then-not-in_order : goal.returns-then-not-in_order
unfolding state_ok all_of
returns-then-not-in_order c =
    simp (
      le-leb _ _ c.if-setup-rec.false,
      passes c.times_in_range.ensures c.if-not-times_in_range.false,
      fails c.in_order.ensures c.if-not-in_order.true,
    )

pub lens_ok-requires : goal.lens_ok-requires
lens_ok-requires c =
    ((setup_facts c.args.setup c.requires.setup).0, c.requires.lens_fit)

pub returns : goal.returns
unfolding state_ok all_of
returns c =
    simp (
      le-leb _ _ c.if-setup-rec.false,
      passes c.times_in_range.ensures c.if-not-times_in_range.false,
      passes c.in_order.ensures c.if-not-in_order.false,
      and-true,
    )
    c.lens_ok.ensures

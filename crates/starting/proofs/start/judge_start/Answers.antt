-- `starting::start::judge_start` meets its contract: each test that was passed is one more line of `start_in`.
use mathlib.Core.Bool.{true}
use mathlib.Core.Path.{◌≡◌}
use Rattle.rules.proofs.Passing.{fails, passes}
use Rattle.schedule.specs.Judge.{buffers_ok, setup_ok}
use Rattle.starting.proofs.Starting.{start_bad_clock, start_bad_margin, start_fine, start_no_buffers, start_no_setup}
use Rattle.starting.proofs.start.judge_start.Goals as goal
use Rattle.starting.proofs.start.judge_start.Goals.{then-not-in_range-via-else-not-in_range+then-not-in_range-2, then-not-in_range-via-then-not-in_range}

pub returns-then-not-setup_ok : goal.returns-then-not-setup_ok
returns-then-not-setup_ok c = start_no_setup _ _ _ _ _ _ (fails c.setup_ok.ensures c.if-not-setup_ok.true)

pub returns-then-not-buffers_ok : goal.returns-then-not-buffers_ok
returns-then-not-buffers_ok c =
    start_no_buffers _ _ _ _ _ _ (passes c.setup_ok.ensures c.if-not-setup_ok.false)
    (fails c.buffers_ok.ensures c.if-not-buffers_ok.true)

pub returns-then-not-in_range : goal.returns-then-not-in_range
returns-then-not-in_range c =
    let setup_fine : setup_ok c.args.setup ≡ true = passes c.setup_ok.ensures c.if-not-setup_ok.false in
    let buffers_fine : buffers_ok c.args.setup c.args.room c.args.lens c.args.rows ≡ true = passes c.buffers_ok.ensures c.if-not-buffers_ok.false in
    elim c.then-not-in_range.branch [
      | then-not-in_range-via-then-not-in_range w ↦
          start_bad_clock _ _ _ _ _ _ setup_fine buffers_fine (fails c.in_range.ensures w.if-not-in_range.true)
      | then-not-in_range-via-else-not-in_range+then-not-in_range-2 w ↦
          start_bad_margin _ _ _ _ _ _ setup_fine buffers_fine (passes c.in_range.ensures w.if-not-in_range.false)
          (fails w.in_range-else-not-in_range.ensures w.if-not-in_range-2.true)
    ]

pub returns : goal.returns
returns c =
    start_fine _ _ _ _ _ _ (passes c.setup_ok.ensures c.if-not-setup_ok.false)
    (passes c.buffers_ok.ensures c.if-not-buffers_ok.false) (passes c.in_range.ensures c.if-not-in_range.false)
    (passes c.in_range-else-not-in_range.ensures c.if-not-in_range-2.false)

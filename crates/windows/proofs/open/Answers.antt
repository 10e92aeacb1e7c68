-- `windows::open` meets its contract.
use mathlib.Core.Bool.{true}
use mathlib.Core.Path.{◌≡◌}
use Rattle.rules.proofs.Passing.{fails, passes}
use Rattle.windows.specs.Windowing.{ends_in_range}
use Rattle.windows.proofs.Openings.{open_at, open_bad, open_reversed}
use Rattle.windows.proofs.open.Goals as goal

pub returns-then-not-ends_in_range : goal.returns-then-not-ends_in_range
returns-then-not-ends_in_range c = open_bad c.args.w (fails c.ends_in_range.ensures c.if-not-ends_in_range.true)

pub returns-then-not-forward : goal.returns-then-not-forward
returns-then-not-forward c =
    let fine : ends_in_range c.args.w ≡ true = passes c.ends_in_range.ensures c.if-not-ends_in_range.false in
    open_reversed c.args.w fine (fails c.forward.ensures c.if-not-forward.true)

pub returns : goal.returns
returns c =
    let fine : ends_in_range c.args.w ≡ true = passes c.ends_in_range.ensures c.if-not-ends_in_range.false in
    open_at c.args.w _ fine (passes c.forward.ensures c.if-not-forward.false)
    c.moments.ensures.0 c.moments.ensures.1

-- `rows::judge::in_order` meets its contract. The invariant of both loops is `Inside.Passed`.
use Prim.Native.Nat.{◌*◌, ◌+◌}
use Rattle.rows.specs.Entries.{unpack}
use Rattle.rows.specs.Inside.{Passed}
use Rattle.rows.proofs.judge.in_order.Given as goal
use mathlib.Core.Path.{◌≡◌}

abbrev pub invariant-loop-four : goal.invariant-loop-four
invariant-loop-four l = (l.i ≡ l.four-index * 4) × Passed (unpack l.fn.count l.fn.rows) l.i l.secs l.nanos

abbrev pub invariant-loop-s : goal.invariant-loop-s
invariant-loop-s l = Passed (unpack l.fn.count l.fn.rows) (l.i + l.s-index) l.secs l.nanos

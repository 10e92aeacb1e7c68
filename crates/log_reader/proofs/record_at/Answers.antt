-- `log_reader::record_at` meets its contract.
use mathlib.Core.Path.{◌∙◌}
use Rattle.log_reader.proofs.Counted.{found, not_found, some_counted}
use native.Mathlib.Omega.{arith}
use Rattle.log_reader.proofs.record_at.Goals as goal

pub returns-then-i-n : goal.returns-then-i-n
returns-then-i-n c = not_found _ _ (omega arith)

pub overflow_mul-i : goal.overflow_mul-i
overflow_mul-i c =
    let a = c.args in
    let s = some_counted a.log.now a.i (omega arith) in
    omega (arith, s.room)

pub overflow_add-i : goal.overflow_add-i
overflow_add-i c =
    let a = c.args in
    let s = some_counted a.log.now a.i (omega arith) in
    omega (arith, s.room)

pub read-at-requires : goal.read-at-requires
read-at-requires c =
    let a = c.args in
    let s = some_counted a.log.now a.i (omega arith) in
    (omega (arith, s.room), omega arith)

pub end_of-requires : goal.end_of-requires
end_of-requires c =
    let a = c.args in
    let s = some_counted a.log.now a.i (omega arith) in
    (omega arith, c.count-n.ensures ∙ s.same, omega (arith, s.room))

pub returns : goal.returns
returns c = found _ _ _ _ _ (omega arith) c.read-at.ensures.same c.end_of.ensures c.between.ensures

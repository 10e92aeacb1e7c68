-- `marks::unmark` meets its contract.
use Rattle.std.proofs.Common.{◌≡◌, ◌++◌, drop, take}
use Rattle.std.specs.Prelude.{map}
use Rattle.marks.specs.Inside.{bare}
use Rattle.marks.proofs.unmark.Given as goal

abbrev pub invariant-loop-w : goal.invariant-loop-w
invariant-loop-w l = l.w-items ≡ map bare (take l.w-index l.initial.w-items) ++ drop l.w-index l.initial.w-items

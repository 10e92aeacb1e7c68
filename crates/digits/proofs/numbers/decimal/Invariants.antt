-- `digits::numbers::decimal` meets its contract. The loop's invariant: what is left, written behind the digits so far, is the number of all.
use Rattle.std.proofs.Common.{◌≡◌, drop}
use Rattle.digits.specs.Digits.{digits}
use Rattle.digits.proofs.numbers.decimal.Given as goal

abbrev pub invariant-loop-b : goal.invariant-loop-b
invariant-loop-b l = digits l.v (drop l.b-index l.b-items) ≡ digits 0 (drop l.at l.text)

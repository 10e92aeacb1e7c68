-- `digits::numbers::decimal` meets its contract.
use Rattle.std.proofs.Common.{◌∙◌, sym}
use Rattle.digits.proofs.Laws.{digits_end, digits_more, digits_stop, held_is}
use Rattle.digits.proofs.numbers.decimal.Goals as goal

pub returns-then-not-is_ascii_digit : goal.returns-then-not-is_ascii_digit
returns-then-not-is_ascii_digit c =
    let l = c.loop-b in
    sym (digits_stop _ l.v l.b-index c.loop-b-test.true c.if-not-is_ascii_digit.ensures.cases) ∙ l.invariant

pub loop-b-preserved : goal.loop-b-preserved
loop-b-preserved c =
    let l = c.loop-b in
    let k = c.if-not-is_ascii_digit.ensures.cases in
    let h = held_is l.v c.from.result in
    digits_more _ l.v _ l.b-index c.loop-b-test.true k.0 k.1 (cc) ∙ l.invariant

pub returns : goal.returns
returns c = let l = c.loop-b in sym (digits_end _ l.v l.b-index c.loop-b-test.false) ∙ l.invariant

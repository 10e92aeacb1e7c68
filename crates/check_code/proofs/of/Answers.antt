-- `check_code::of` meets its contract: a word more of the bytes.
use Rattle.std.proofs.Common.{◌∙◌, arith}
use Rattle.check_code.proofs.Folding.{into8, start8}
use Rattle.check_code.proofs.Taking.{taken}
use Rattle.check_code.specs.CheckCode.{check_code}
use Rattle.check_code.proofs.of.Goals as goal

pub returns-in_default : goal.returns-in_default
unfolding check_code
returns-in_default c = c.rest.ensures

pub loop-next-init : goal.loop-next-init
unfolding check_code
loop-next-init c =
    let v = c.from_be_bytes-word in
    let t = taken 0xFFFF _ _ c.args.bytes.now _ _ c.in-Some.ensures.cases (λ i. omega (arith, c.type_inv.bytes i)) v.ensures (start8 v.result) in
    record { same = t.same; bytes = t.bytes }

pub loop-next-preserved : goal.loop-next-preserved
loop-next-preserved c =
    let l = c.loop-next in
    let t =
    taken _ _ _ _ _ _ c.in-Some-split_first_chunk.ensures.cases l.invariant.bytes c.from_be_bytes.ensures (into8 l.word _ _ c.whole.ensures) in
    record { same = t.same ∙ l.invariant.same; bytes = t.bytes }

-- `slots::bytes::copy_in` meets its contract.
use Rattle.std.proofs.Common.{◌∙◌, arith}
use Rattle.slots.proofs.Lists.{front_end}
use Rattle.slots.proofs.bytes.copy_in.Goals as goal

pub returns : goal.returns
returns c = c.loop-i.invariant.1 ∙ front_end c.args.packet.now c.args.part.now c.loop-i.i (omega arith)

-- `packet_tests::header_bits` meets its contract.
use Prim.Native.Nat.{◌/◌, ℕ}
use Rattle.packet_tests.proofs.Bits.{bits_are}
use Rattle.packet_tests.specs.Tests.{header_bits}
use Rattle.words.specs.Words.{number}
use lib.Dec.{eqb}
use mathlib.Core.Path.{◌∙◌, ap}
use Rattle.packet_tests.proofs.header_bits.Goals as goal

pub returns : goal.returns
unfolding header_bits
returns c = ap (λ (x : ℕ). eqb (x / 2048) 3) c.read.ensures.same ∙ bits_are (number 2 0 c.args.bytes.now)

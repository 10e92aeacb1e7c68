-- `words::read` meets its contract. The loop's invariant: `v` is the number of the bytes so far, and fits their bits.
use Rattle.std.proofs.Common.{◌≡◌, ◌*◌, ◌<◌, ◌^◌}
use Rattle.words.specs.Words.{number}
use Rattle.words.proofs.read.Given as goal

abbrev pub invariant-loop-b : goal.invariant-loop-b
invariant-loop-b l = record { same : l.v ≡ number l.b-index l.at l.bytes; below : l.v < 2 ^ (8 * l.b-index) }

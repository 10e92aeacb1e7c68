-- `slots::bytes::zero_fill` meets its contract.
use Rattle.std.proofs.Common.{◌≡◌, ◌++◌, drop, length, replicate}
use Rattle.slots.proofs.bytes.zero_fill.Given as goal

abbrev pub invariant-loop-byte : goal.invariant-loop-byte
invariant-loop-byte l = (length l.part ≡ length l.initial.part) × (l.part ≡ replicate l.byte-index 0 ++ drop l.byte-index l.initial.part)

-- `slots::bytes::copy_in` meets its contract.
use Rattle.std.proofs.Common.{◌≡◌, ◌++◌, drop, length, take}
use Rattle.slots.proofs.bytes.copy_in.Given as goal

abbrev pub invariant-loop-i : goal.invariant-loop-i
invariant-loop-i l = (length l.part ≡ length l.initial.part) × (l.part ≡ take l.i l.packet ++ drop l.i l.initial.part)

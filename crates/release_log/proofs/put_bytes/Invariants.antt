-- `release_log::put_bytes` meets its contract. The loop's invariant: what is left to copy makes of the log now what the whole makes of it at entry.
use Rattle.std.proofs.Common.{◌≡◌, ◌+◌, drop, length}
use lib.Seq.{sets}
use Rattle.release_log.proofs.put_bytes.Given as goal

abbrev pub invariant-loop-i : goal.invariant-loop-i
invariant-loop-i l = (length l.log ≡ length l.initial.log) × (sets l.log (l.at + l.i) (drop l.i l.s) ≡ sets l.initial.log l.at l.s)

-- `face_reading::is_narrow` meets its contract.
use Rattle.std.proofs.Common.{◌<◌, ℕ}
use Rattle.face_reading.proofs.Narrow.{Fits16}
use Rattle.face_reading.proofs.is_narrow.Given as goal

abbrev pub invariant-loop-i : goal.invariant-loop-i
invariant-loop-i l = (j : ℕ) → j < l.i → Fits16 l.words j

-- `face_words::telling::put` meets its contract.
use Rattle.std.proofs.Common.{◌≡◌, ◌++◌, drop, length, take}
use Rattle.face_words.specs.Inside.{eight}
use Rattle.face_words.proofs.telling.put.Given as goal

abbrev pub invariant-loop-i : goal.invariant-loop-i
invariant-loop-i l = (length l.answer ≡ length l.initial.answer) × (l.answer ≡ take l.i (eight l.words.values) ++ drop l.i l.initial.answer)

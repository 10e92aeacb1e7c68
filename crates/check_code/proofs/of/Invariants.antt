-- `check_code::of` meets its contract. The loop's invariant: what is left, fed to the code of the word, gives the code of all.
use Rattle.std.proofs.Common.{◌≡◌, ℕ, ◌<◌, get_or, length}
use Rattle.check_code.specs.CheckCode.{check_code, feed_all}
use Rattle.check_code.specs.Inside.{feed8}
use Rattle.check_code.proofs.of.Given as goal

abbrev pub invariant-loop-next : goal.invariant-loop-next
invariant-loop-next l = record { same : feed_all (feed8 0 l.word) l.left ≡ check_code l.bytes; bytes : (i : ℕ) → get_or l.left i 0 < 256 }

abbrev pub decreases-loop-next : goal.decreases-loop-next
decreases-loop-next l = length l.left

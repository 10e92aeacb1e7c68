-- Seconds and their two's complement, as the machine counts.
use Prim.Native.Nat.{ℕ}
use Rattle.record.specs.Refusals.{word_of}
use lib.IntN.{ℤ}
use mathlib.Core.Path.{◌∙◌, ◌≡◌, ap}
use mir.Facts.{to_z-of_z}
use mir.Syntax.{w64}
use mir.Val.{SFits, of_z, to_z}

pub held_word : (z : ℤ) (w : ℕ) → SFits w64 z → w ≡ word_of (to_z w64 (of_z w64 z)) → w ≡ word_of z
held_word z w f e = e ∙ ap word_of (to_z-of_z f)

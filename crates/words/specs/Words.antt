-- Numbers of several bytes, high byte first: one definition over the width for reading, and one for writing.
-- `lib.Seq.sets l at bs` is l with bs from `at` on, and all else as it was.
use Rattle.std.specs.Prelude.{◌%◌, ◌*◌, ◌+◌, ◌/◌, ◌<◌, ◌^◌, suc, zero, ℕ, get_or, List, [], ◌++◌, ◌∷◌, ◌≡◌}

-- the number that k bytes from `at` on are
unfoldable pub number : ℕ → ℕ → List ℕ → ℕ
number zero at s = 0
number (suc k) at s = number k at s * 256 + get_or s (at + k) 0

-- the k low bytes of v
unfoldable pub bytes_of : ℕ → ℕ → List ℕ
bytes_of zero v = []
bytes_of (suc k) v = bytes_of k (v / 256) ++ (v % 256 ∷ [])

-- what a reading promises: that number, which has no more bits than the bytes
pub record Reads (width at : ℕ) (s : List ℕ) (r : ℕ) : Type 0 where
  pub same : r ≡ number width at s
  pub below : r < 2 ^ (8 * width)

-- The code after the bytes of a word, high byte first: what the functions that take several bytes at once tell one another.
-- A reader need not believe this file: no caller of this crate sees what it says.
use Rattle.std.specs.Int.{to_be_bytes, w32, w64}
use Rattle.std.specs.Prelude.{ℕ}
use Rattle.check_code.specs.CheckCode.{feed_all}

-- the code c after the four bytes of w
unfoldable pub feed4 : ℕ → ℕ → ℕ
feed4 c w = feed_all c (to_be_bytes w32 w)

-- the code c after the eight bytes of w
unfoldable pub feed8 : ℕ → ℕ → ℕ
feed8 c w = feed_all c (to_be_bytes w64 w)

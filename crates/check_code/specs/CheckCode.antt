-- The check code, one bit at a time (document 01, module 1; ECSS-E-ST-70-41C's packet error control): CRC-16 with the
-- polynomial 0x1021, from 0xFFFF, high bit first, nothing reflected, no final exclusive-or.
use Rattle.std.specs.Prelude.{◌%◌, ◌*◌, ◌/◌, suc, zero, ℕ, List, fold}
use Rattle.rules.specs.Lists.{each}
use Rattle.std.specs.Int.Bits.{bit_xor}

-- one bit: the top bit of sixteen falls out, the rest moves up, and the polynomial is added where that bit was set
unfoldable pub shift : ℕ → ℕ
shift c = bit_xor (c / 32768 * 0x1021) (c % 32768 * 2)

abbrev pub shifts : ℕ → ℕ → ℕ
shifts zero c = c
shifts (suc k) c = shifts k (shift c)

-- a byte goes in at the top, and eight bits are shifted out
unfoldable pub feed : ℕ → ℕ → ℕ
feed c b = shifts 8 (bit_xor c (b * 256))

abbrev pub feed_all : ℕ → List ℕ → ℕ
feed_all = fold feed

unfoldable pub check_code : List ℕ → ℕ
check_code bs = feed_all 0xFFFF bs

-- the table's rule: at k it has what eight shifts make of k in the high byte
unfoldable pub shifted8 : ℕ → ℕ
shifted8 k = shifts 8 (k * 256)

unfoldable pub table_of : List ℕ
table_of = each shifted8 0 256

-- The table's rule, proved once over all its numbers, at each lookup; and one byte more by it.
use Rattle.std.proofs.Common.{◌≡◌, ◌∙◌, ℕ, ◌%◌, ◌*◌, ◌/◌, ◌<◌, ap, arith, get_or, refl, sym, zero-add}
use Rattle.std.specs.Int.Bits.{bit_xor}
use Rattle.check_code.proofs.Xor.{feed_by_table}
use Rattle.check_code.specs.CheckCode.{feed, shift, shifted8, table_of}
use Rattle.check_code.specs.declared.table.TheConstants.{TABLE}
use Rattle.rules.proofs.Each.{each_at}
use Rattle.rules.specs.Lists.{each}

-- antt computes the rule at all 256 places and holds the table against it
pub table_is : TABLE.now ≡ table_of
unfolding table_of each shifted8 shift
table_is = refl

pub entry_is : (k : ℕ) → k < 256 → get_or table_of k 0 ≡ shifted8 k
unfolding table_of
entry_is k h = each_at shifted8 0 256 0 k h ∙ ap shifted8 (zero-add k)

pub next : (code b r : ℕ) → r ≡ shifted8 (bit_xor (code / 256) b) → bit_xor (code * 256 % 65536) r ≡ feed code b
next code b r e =
    let low : code * 256 % 65536 ≡ code % 256 * 256 = omega arith in
    rw (low, e) (sym (feed_by_table code b))

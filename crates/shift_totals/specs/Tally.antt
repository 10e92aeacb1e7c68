-- The totals of a shift: each record of a release log counts once, by its flag (document 01, "The release tick and its log").
use Rattle.std.specs.Prelude.{Option, Some, None, ◌+◌, suc, zero, ℕ, eqb, ltb, cond, List}
use Rattle.log_reader.specs.declared.Item.{Item}
use Rattle.log_reader.specs.Finding.{counted, found_in}
use Rattle.shift_totals.specs.declared.Totals.{Totals}

-- one more; a total stops at the largest number there is
unfoldable pub more : ℕ → ℕ
more n = cond (ltb n 18446744073709551615) (n + 1) n

-- flag 1: released, and behind a missing packet if there was one before
abbrev pub with_released : Totals → Totals
with_released t =
    record {
      released = more t.released;
      discarded = t.discarded;
      missing = t.missing;
      behind = cond (eqb t.missing 0) t.behind (more t.behind);
    }

-- flag 0: due while disabled
abbrev pub with_discarded : Totals → Totals
with_discarded t = record { released = t.released; discarded = more t.discarded; missing = t.missing; behind = t.behind }

-- flag 2: the packet is missing
abbrev pub with_missing : Totals → Totals
with_missing t = record { released = t.released; discarded = t.discarded; missing = more t.missing; behind = t.behind }

unfoldable pub tally : ℕ → Totals → Totals
tally flag t = cond (eqb flag 1) (with_released t) (cond (eqb flag 0) (with_discarded t) (with_missing t))

unfoldable pub tally_found : Option Item → Totals → Totals
tally_found (Some it) t = tally it.flag t
tally_found None t = t

-- n records of a log from record i on
unfoldable pub tally_from : List ℕ → ℕ → ℕ → Totals → Totals
tally_from log i zero t = t
tally_from log i (suc n) t = tally_from log (i + 1) n (tally_found (found_in log i) t)

unfoldable pub tally_log : List ℕ → Totals → Totals
tally_log log t = tally_from log 0 (counted log) t

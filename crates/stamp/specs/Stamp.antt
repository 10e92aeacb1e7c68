-- What a time stamp says (document 01, module 3; CCSDS 301.0-B, section 3.3, the day segmented code with its epoch at 1958).
use Rattle.std.specs.Prelude.{Option, Some, None, ◌%◌, ◌*◌, ◌+◌, ◌/◌, ℕ, eqb, leb, ◌*ℤ◌, ◌+ℤ◌, ◌-ℤ◌, pos, ℤ, get_or, length, cond, List, ◌≡◌}
use Rattle.rules.specs.Tests.{unless}
use Rattle.time.specs.Time.{InRange}
use Rattle.words.specs.Words.{number}
use Rattle.time.specs.declared.UnixTime.{UnixTime}
use Rattle.stamp.specs.declared.Stamp.{Stamp}

-- seconds = (day - 4,383) x 86,400 + ms / 1000; day 4,383 from 1958 is the first of 1970
abbrev pub secs_of : ℕ → ℕ → ℤ
secs_of day ms = (pos day -ℤ pos 4383) *ℤ pos 86400 +ℤ pos (ms / 1000)

-- nanoseconds = (ms % 1000) x 1,000,000
abbrev pub time_at : ℕ → ℕ → UnixTime
time_at day ms = record { secs = secs_of day ms; nanos = ms % 1000 * 1000000 }

-- behind the first byte a day of w bytes, and a 32-bit millisecond: 5 + w bytes in all.
-- Short input, or a millisecond above 86,399,999: refused
unfoldable pub stamp_at : ℕ → List ℕ → Option Stamp
stamp_at w s =
    unless (leb (5 + w) (length s)) None
    (unless (leb (number 4 (1 + w) s) 86399999) None
    (Some (record { time = time_at (number w 1 s) (number 4 (1 + w) s); len = 5 + w })))

-- first byte 0x40: 16-bit day; 0x44: 24-bit day; other first bytes: refused
unfoldable pub stamp_of : List ℕ → Option Stamp
stamp_of s = cond (eqb (get_or s 0 0) 0x40) (stamp_at 2 s) (cond (eqb (get_or s 0 0) 0x44) (stamp_at 3 s) None)

-- what a reading promises: that stamp, whose time is in range
abbrev pub Timely : Option Stamp → Type 0
Timely (Some x) = InRange x.time
Timely None = Unit {0}

pub record Reads (s : List ℕ) (r : Option Stamp) : Type 0 where
  pub same : r ≡ stamp_of s
  pub timely : Timely r

pub record ReadsWidth (w : ℕ) (s : List ℕ) (r : Option Stamp) : Type 0 where
  pub same : r ≡ stamp_at w s
  pub timely : Timely r

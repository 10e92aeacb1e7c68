-- The words of setup and record, and the ends of a window, as include/silotwist.h lays them out. Every word is taken whole, never cut to a width.
use Rattle.std.specs.Prelude.{◌*◌, ◌+◌, ◌-◌, ℕ, eqb, ltb, negsuc, pos, ℤ, get_or, length, Bool, false, not, true, List}
use Rattle.layout.specs.Limits.{max_subpools}
use Rattle.rules.specs.Lists.{each}
use Rattle.windows.specs.declared.TimeWindow.{TimeWindow}
use Rattle.windows.specs.declared.TimeWindow.TheVariants.{All, From, FromTo, To}
use Rattle.record.specs.declared.Record.{Record}
use Rattle.schedule.specs.declared.Setup.{Setup}
use Rattle.layout.specs.declared.Setup.{Setup as StoreSetup}
use Rattle.time.specs.declared.UnixTime.{UnixTime}

-- word i
abbrev pub word : List ℕ → ℕ → ℕ
word ws i = get_or ws i 0

-- a switch: 0 is off, all else on
unfoldable pub switched : ℕ → Bool
switched w = not (eqb w 0)

-- the setup for n subpools has 3 + 2n words, no fewer and no more
unfoldable pub well_counted : List ℕ → Bool
well_counted ws = eqb (length ws) (3 + 2 * word ws 0)

-- every second word from a place on, one for each subpool
unfoldable pub column : ℕ → List ℕ → List ℕ
column from ws = each (λ k. word ws (from + 2 * k)) 0 max_subpools

-- [0] subpools, [1] spilling; for subpool k, [3 + 2k] its slots and [4 + 2k] its slot size
abbrev pub store_setup : List ℕ → StoreSetup
store_setup ws = record { pools = word ws 0; sizes = column 4 ws; slots = column 3 ws; spill = switched (word ws 1) }

-- [2] entries
abbrev pub setup_from : List ℕ → Setup
setup_from ws = record { store = store_setup ws; entries = word ws 2 }

-- a signed second from its two's complement
unfoldable pub signed_by : Bool → ℕ → ℤ
signed_by true w = pos w
signed_by false w = negsuc (18446744073709551615 - w)

abbrev pub signed : ℕ → ℤ
signed w = signed_by (ltb w 9223372036854775808) w

-- [0] count, [1] clock seconds, [2] clock nanoseconds, [3] margin seconds, [4] margin nanoseconds, [5] enabled
abbrev pub record_words : ℕ
record_words = 6

unfoldable pub record_from : List ℕ → Record
record_from ws =
    record {
      count = word ws 0;
      clock = record { secs = signed (word ws 1); nanos = word ws 2 };
      margin = record { secs = word ws 3; nanos = word ws 4 };
      enabled = switched (word ws 5);
    }

-- a window has a start if has-from and an end if has-to; an end that it has not is not looked at
unfoldable pub window_from : Bool → UnixTime → Bool → UnixTime → TimeWindow
window_from true f true t = FromTo f t
window_from true f false t = From f
window_from false f true t = To t
window_from false f false t = All

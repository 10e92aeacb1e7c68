-- The fresh start: it knows 1, 2 and 4 only. It zeroes the store and all entry rows, marks every slot free, and is enabled with the
-- given clock and margin.
use Rattle.std.specs.Prelude.{ℕ, ◌&&◌, true, List, []}
use Rattle.record.specs.declared.Record.{Record}
use Rattle.rules.specs.Papers.{Outcome, Paper, done, no, refused}
use Rattle.rules.specs.Tests.{unless}
use Rattle.store.specs.Calls.{fresh_pools}
use Rattle.time.specs.Time.{in_range, margin_in_range}
use Rattle.time.specs.declared.Margin.{Margin}
use Rattle.time.specs.declared.UnixTime.{UnixTime}
use Rattle.schedule.specs.Judge.{buffers_ok, setup_ok}
use Rattle.schedule.specs.Promise.{WritesOver}
use Rattle.schedule.specs.State.{State}
use Rattle.schedule.specs.declared.Setup.{Setup}

abbrev pub fresh_state : Setup → UnixTime → Margin → State
fresh_state su clock margin = record { pools = fresh_pools su.store; entries = []; clock = clock; margin = margin; enabled = true }

-- by the lengths of the lent store, length table and rows
unfoldable pub start_in : Setup → ℕ → ℕ → ℕ → UnixTime → Margin → Outcome State
start_in su room lens rows clock margin =
    unless (setup_ok su) (refused (no 1 []))
    (unless (buffers_ok su room lens rows) (refused (no 2 []))
    (unless (in_range clock && margin_in_range margin) (refused (no 4 []))
    (done [] (fresh_state su clock margin))))

-- what it promises: what every call that writes does, over all entry rows of the setup, which are vacated
abbrev pub Starts : Setup → Record → List ℕ → List ℕ → List ℕ → Outcome State → Paper → Record → List ℕ → List ℕ → List ℕ → Type 0
Starts su r = WritesOver su.entries su r

-- Where a tick hands out, the reader of the log that it leaves finds the records handed out, and no more.
use Rattle.std.specs.Prelude.{◌<◌, ◌^◌, ℕ, get_or, Bool, List, ◌≡◌}
use Rattle.release_log.specs.Log.{LogRecord}
use Rattle.log_reader.specs.Laws.{FindsAll}
use Rattle.record.specs.declared.Record.{Record}
use Rattle.rules.specs.Papers.{Paper}
use Rattle.schedule.specs.Judge.{judging}
use Rattle.schedule.specs.State.{State, state_of}
use Rattle.schedule.specs.declared.Setup.{Setup}
use Rattle.tick.specs.Promise.{Ticks}
use Rattle.tick.specs.Tick.{tick_in, usable}
use Rattle.time.specs.Time.{instant}
use Rattle.turn.specs.Turns.{always, handout, leave}

-- the records that a tick hands out, by its limit, whether packets are deleted, the log that it is lent, and the state
abbrev pub out_of : ℕ → Bool → List ℕ → State → List LogRecord
out_of limit del log s = (handout (leave del) (always s.enabled) (instant s.clock) limit 8 (usable log) s.entries s.pools).records

-- words, as every lent slice of words has by its type
abbrev pub Words : List ℕ → Type 0
Words ro = (i : ℕ) → get_or ro i 0 < 2 ^ 64

-- by the promise of the public call, of a tick that is no refusal
unfoldable pub TickIsFound : Type 0
TickIsFound =
    (su : Setup) (r : Record) (st le ro lo : List ℕ) (limit : ℕ) (del : Bool) (p : Paper) (r' : Record) (st' le' ro' lo' : List ℕ) → Words ro
    → Ticks su r st le ro lo (judging su r st le ro (tick_in limit del lo)) p r' st' le' ro' lo' → p.number ≡ 0
    → FindsAll lo' (out_of limit del lo (state_of su r st le ro))

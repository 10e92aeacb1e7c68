-- What the lent tables and the record stand for: the store's subpools, the entries in release-time order, and the record.
use Rattle.std.specs.Prelude.{ℕ, length, Bool, List}
use Rattle.record.specs.declared.Record.{Record}
use Rattle.slots.specs.Pools.{Pool}
use Rattle.slots.specs.View.{view}
use Rattle.rows.specs.Entries.{Entry, unpack}
use Rattle.time.specs.declared.Margin.{Margin}
use Rattle.time.specs.declared.UnixTime.{UnixTime}
use Rattle.schedule.specs.declared.Setup.{Setup}

pub record State : Type 0 where
  pub pools : List Pool
  pub entries : List Entry
  pub clock : UnixTime
  pub margin : Margin
  pub enabled : Bool

unfoldable pub state_of : Setup → Record → List ℕ → List ℕ → List ℕ → State
state_of su r st le ro =
    record {
      pools = view su.store st le;
      entries = unpack r.count ro;
      clock = r.clock;
      margin = r.margin;
      enabled = r.enabled;
    }

-- the record of a state
abbrev pub record_of : State → Record
record_of s = record { count = length s.entries; clock = s.clock; margin = s.margin; enabled = s.enabled }

-- a state with other subpools, or other entries
abbrev pub with_pools : List Pool → State → State
with_pools ps s = record { pools = ps; entries = s.entries; clock = s.clock; margin = s.margin; enabled = s.enabled }

abbrev pub with_entries : List Entry → State → State
with_entries es s = record { pools = s.pools; entries = es; clock = s.clock; margin = s.margin; enabled = s.enabled }

-- a record with another number of entries
abbrev pub with_count : ℕ → Record → Record
with_count n r = record { count = n; clock = r.clock; margin = r.margin; enabled = r.enabled }

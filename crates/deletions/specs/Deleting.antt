-- The deletions by window and `reset`: every entry that they cover goes.
use Rattle.std.specs.Prelude.{Bool, false, List, []}
use Rattle.rules.specs.Papers.{Outcome, done}
use Rattle.rows.specs.Entries.{Entry}
use Rattle.selection.specs.Windows.{in_window, outside}
use Rattle.schedule.specs.State.{State, with_entries, with_pools}
use Rattle.sweep.specs.Sweep.{sweep, tally, unswept}
use Rattle.windows.specs.Windowing.{windowed}
use Rattle.windows.specs.declared.TimeWindow.{TimeWindow}

-- the packets of the entries `gone` are deleted, and the entries `left` stay
unfoldable pub clear_in : List Entry → List Entry → State → Outcome State
clear_in gone left s =
    let x = sweep gone (unswept s.pools) in
    done (tally x) (with_entries left (with_pools x.pools s))

unfoldable pub delete_window_in : TimeWindow → State → Outcome State
delete_window_in w s = windowed w (λ tw. clear_in (in_window tw s.entries) (outside tw s.entries) s)

-- a state enabled or disabled; `reset` also disables
abbrev pub enabled_as : Bool → State → State
enabled_as b s = record { pools = s.pools; entries = s.entries; clock = s.clock; margin = s.margin; enabled = b }

unfoldable pub reset_in : State → Outcome State
reset_in s = clear_in s.entries [] (enabled_as false s)

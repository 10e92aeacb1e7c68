-- What requests of every kind, and repeated ticks, are answered by the definitions, computed.
use Rattle.check_code.specs.CheckCode.{check_code, feed, shift}
use Rattle.counting.specs.Counting.{count_in}
use Rattle.gate.specs.Entering.{enter, insert_stored_in, timed}
use Rattle.insertions.specs.Inserting.{activity, insert_unwrapped_in}
use Rattle.release_log.specs.Log.{log_bytes, offsets, record_bytes, records, total}
use Rattle.lookup.specs.Calls.{if_held, if_named}
use Rattle.packet.specs.Packet.{data_of, read_of}
use Rattle.packet_tests.specs.Tests.{check_bytes, header_bits, total_in_bounds, version_nibble}
use Rattle.reading.specs.Reading.{read_in}
use Rattle.record.specs.Record.{clock_in, mark_in}
use Rattle.rules.specs.Lists.{each}
use Rattle.rules.specs.Papers.{after, says, through}
use Rattle.rules.specs.Tests.{all_below, all_of, unless}
use Rattle.scheduler.specs.Steps.{carried, looked, run, step, ticked}
use Rattle.slots.specs.Pools.{choose, find_at, over}
use Rattle.stamp.specs.Stamp.{stamp_at, stamp_of}
use Rattle.store.specs.Calls.{add_in, delete_in, fresh_pools, modify_in, place}
use Rattle.store.specs.Edits.{edit_at}
use Rattle.storing.specs.Entered.{entered}
use Rattle.table.specs.Before.{below}
use Rattle.table_edit.specs.Edits.{insert_sorted, without}
use Rattle.tick.specs.Tick.{first_lacks, handed_out, tick_in}
use Rattle.turn.specs.Turns.{handout, leave}
use Rattle.words.specs.Words.{bytes_of, number}
use Rattle.wrapped.specs.Wrapped.{insert_wrapped_in, opened, stamped}
use Rattle.starting.specs.Starting.{fresh_state}
use mathlib.Core.Path.{◌≡◌, refl}
use Rattle.by_id.specs.ById.{delete_by_id_in, delete_keeping_in, freed, take_in}
use Rattle.deletions.specs.Deleting.{clear_in, delete_window_in, reset_in}
use Rattle.presence.specs.Presence.{has_in, len_in}
use Rattle.selection.specs.Match.{first_match, is_match, last_match, victim}
use Rattle.selection.specs.Windows.{end_of, filter, first_row, start_of, within}
use Rattle.sweep.specs.Sweep.{sweep, swept}
use Rattle.windows.specs.Windowing.{ends_in_range, forward, retrieve_in, window_of, windowed}
use Rattle.witness.specs.Every.{answers, handed, loaded, logs, requests, small, two_seconds}
use Rattle.demands.specs.Following.{stands}
use Rattle.schedule.specs.State.{state_of}
use Rattle.scheduler.specs.Laws.{ticks}
use Rattle.slots.specs.View.{bytes_at, len_at, marked, part, view}
use Rattle.layout.specs.Layout.{bytes_before, rows_before}
use Rattle.rows.specs.Entries.{unpack}
use mathlib.Core.Bool.{Bool, false, true}
use Rattle.witness.specs.Given.{secs}

pub answered_as : (run small requests (fresh_state small (secs 10) two_seconds)).answers ≡ answers
unfolding activity add_in after all_below all_of below bytes_of carried check_bytes check_code choose clear_in clock_in count_in data_of
    delete_by_id_in delete_in
    delete_keeping_in delete_window_in each edit_at end_of ends_in_range enter entered feed filter find_at first_lacks first_match first_row forward
    freed
    fresh_pools handed_out handout has_in header_bits if_held if_named insert_sorted insert_stored_in insert_unwrapped_in insert_wrapped_in is_match
    last_match leave len_in log_bytes looked mark_in modify_in number offsets opened over place read_in read_of record_bytes records reset_in
    retrieve_in run says shift stamp_at stamp_of stamped start_of step sweep swept take_in through tick_in ticked timed total total_in_bounds unless
    version_nibble victim window_of windowed within without
answered_as = refl

pub handed_as : (del : Bool) → (run small (ticks 2 del logs) (stands small loaded)).answers ≡ handed
unfolding activity add_in after all_below all_of below bytes_at bytes_before bytes_of carried check_bytes check_code choose clear_in clock_in
    count_in data_of
    delete_by_id_in delete_in delete_keeping_in delete_window_in each edit_at end_of ends_in_range enter entered feed filter find_at first_lacks
    first_match
    first_row forward freed fresh_pools handed_out handout has_in header_bits if_held if_named insert_sorted insert_stored_in insert_unwrapped_in
    insert_wrapped_in is_match last_match leave len_at len_in log_bytes looked mark_in marked modify_in number offsets opened over part place read_in
    read_of record_bytes records reset_in retrieve_in rows_before run says shift stamp_at stamp_of stamped start_of state_of step sweep swept take_in
    through tick_in ticked timed total total_in_bounds unless unpack version_nibble victim view window_of windowed within without
handed_as true = refl
handed_as false = refl

-- Requests, one at a time: every call of document 01 but the fresh start, dispatched to the calls' own definitions.
use Rattle.std.specs.Prelude.{ℕ, Bool, false, true, List, [], ◌∷◌}
use Rattle.deletions.specs.Deleting.{delete_window_in, reset_in}
use Rattle.by_id.specs.ById.{delete_by_id_in, delete_keeping_in}
use Rattle.windows.specs.Windowing.{retrieve_in}
use Rattle.windows.specs.declared.TimeWindow.{TimeWindow}
use Rattle.insertions.specs.Inserting.{insert_unwrapped_in}
use Rattle.gate.specs.Entering.{insert_stored_in}
use Rattle.wrapped.specs.Wrapped.{insert_wrapped_in}
use Rattle.record.specs.Record.{clock_in, mark_in}
use Rattle.record.specs.declared.Record.{Record}
use Rattle.rules.specs.Papers.{Outcome, Paper, after, through, says}
use Rattle.counting.specs.Counting.{count_in}
use Rattle.schedule.specs.State.{State, record_of, with_pools}
use Rattle.schedule.specs.declared.Setup.{Setup}
use Rattle.store.specs.Calls.{add_in, delete_in, modify_in}
use Rattle.presence.specs.Presence.{has_in, len_in}
use Rattle.reading.specs.Reading.{read_in}
use Rattle.slots.specs.Pools.{Pool}
use Rattle.tick.specs.Tick.{Logged, tick_in}
use Rattle.time.specs.declared.UnixTime.{UnixTime}

pub data Request : Type 0 where
  -- the store's own calls; `modify` with what is written through it, and `read` with the buffer that is lent
  add : List ℕ → Request
  read : ℕ → List ℕ → Request
  modify : ℕ → List ℕ → Request
  delete has_element_at len_of_data : ℕ → Request
  -- the record's
  set_clock : UnixTime → Request
  enable disable : Request
  -- the schedule's: insertions by a wrapped packet, by a time and a packet, by a time, a request ID and an address
  count : Request
  insert_wrapped : List ℕ → Request
  insert_unwrapped : UnixTime → List ℕ → Request
  insert_stored : UnixTime → ℕ → ℕ → Request
  retrieve delete_window : TimeWindow → Request
  reset : Request
  delete_keeping delete_by_id : ℕ → Request
  -- the tick: the limit on records, whether packets are deleted, and the log that is lent
  tick : ℕ → Bool → List ℕ → Request

-- the buffer that a request lends: to `read`, or the log to the tick
unfoldable pub buffer_of : Request → List ℕ
buffer_of (add d) = []
buffer_of (read a buf) = buf
buffer_of (modify a d) = []
buffer_of (delete a) = []
buffer_of (has_element_at a) = []
buffer_of (len_of_data a) = []
buffer_of (set_clock t) = []
buffer_of enable = []
buffer_of disable = []
buffer_of count = []
buffer_of (insert_wrapped p) = []
buffer_of (insert_unwrapped t p) = []
buffer_of (insert_stored t id a) = []
buffer_of (retrieve w) = []
buffer_of (delete_window w) = []
buffer_of reset = []
buffer_of (delete_keeping id) = []
buffer_of (delete_by_id id) = []
buffer_of (tick limit del log) = log

-- what a request is answered, with the lent buffer as it is afterwards
pub record Answer : Type 0 where
  pub paper : Paper
  pub buffer : List ℕ

pub record Stepped : Type 0 where
  pub answer : Answer
  pub state : State

-- an outcome with the state that it leaves; it lends no buffer
unfoldable pub carried : State → Outcome State → Stepped
carried s o = record { answer = record { paper = says o; buffer = [] }; state = after o s (λ t. t) }

-- the tick's, with the log that it leaves
unfoldable pub ticked : State → List ℕ → Outcome Logged → Stepped
ticked s log o = record { answer = record { paper = says o; buffer = after o log (λ x. x.log) }; state = after o s (λ x. x.state) }

-- one that changes nothing, with the buffer that it leaves
unfoldable pub looked : {A : Type 0} → State → Outcome A → List ℕ → Stepped
looked s o buf = record { answer = record { paper = says o; buffer = buf }; state = s }

abbrev pub with_record : State → Record → State
with_record s r = record { pools = s.pools; entries = s.entries; clock = r.clock; margin = r.margin; enabled = r.enabled }

abbrev pub of_pools : State → Outcome (List Pool) → Outcome State
of_pools s o = through (λ ps. with_pools ps s) o

abbrev pub of_record : State → Outcome Record → Outcome State
of_record s o = through (with_record s) o

unfoldable pub step : Setup → Request → State → Stepped
step su (add d) s = carried s (of_pools s (add_in su.store.spill s.pools d))
step su (read a buf) s = looked s (read_in s.pools a buf) (after (read_in s.pools a buf) buf (λ b. b))
step su (modify a d) s = carried s (of_pools s (modify_in s.pools a d))
step su (delete a) s = carried s (of_pools s (delete_in s.pools a))
step su (has_element_at a) s = looked s (has_in s.pools a) []
step su (len_of_data a) s = looked s (len_in s.pools a) []
step su (set_clock t) s = carried s (of_record s (clock_in t (record_of s)))
step su enable s = carried s (of_record s (mark_in true (record_of s)))
step su disable s = carried s (of_record s (mark_in false (record_of s)))
step su count s = looked s (count_in s) []
step su (insert_wrapped p) s = carried s (insert_wrapped_in su p s)
step su (insert_unwrapped t p) s = carried s (insert_unwrapped_in su t p s)
step su (insert_stored t id a) s = carried s (insert_stored_in su t id a s)
step su (retrieve w) s = looked s (retrieve_in w s) []
step su (delete_window w) s = carried s (delete_window_in w s)
step su reset s = carried s (reset_in s)
step su (delete_keeping id) s = carried s (delete_keeping_in id s)
step su (delete_by_id id) s = carried s (delete_by_id_in id s)
step su (tick limit del log) s = ticked s log (tick_in limit del log s)

-- one after another
pub record Ran : Type 0 where
  pub answers : List Answer
  pub state : State

abbrev pub answered : Answer → Ran → Ran
answered a r = record { answers = a ∷ r.answers; state = r.state }

unfoldable pub run : Setup → List Request → State → Ran
run su [] s = record { answers = []; state = s }
run su (q ∷ qs) s = answered (step su q s).answer (run su qs (step su q s).state)

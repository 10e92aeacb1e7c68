-- What changes the record alone: setting the clock, enable, disable. They see the record alone: 3 for its clock and margin, 4.
use Rattle.std.specs.Prelude.{Bool, ◌&&◌, [], ◌≡◌, Result, Ok, Err}
use Rattle.rules.specs.Papers.{Outcome, Paper, after, done, no, refused, says}
use Rattle.rules.specs.Tests.{unless}
use Rattle.time.specs.Time.{in_range, margin_in_range}
use Rattle.time.specs.declared.UnixTime.{UnixTime}
use Rattle.record.specs.Refusals.{paper}
use Rattle.record.specs.declared.ScheduleRefusal.{ScheduleRefusal}
use Rattle.record.specs.declared.Record.{Record}

-- the record's clock and margin are in range
abbrev pub times_in_range : Record → Bool
times_in_range r = in_range r.clock && margin_in_range r.margin

abbrev pub with_clock : UnixTime → Record → Record
with_clock t r = record { count = r.count; clock = t; margin = r.margin; enabled = r.enabled }

abbrev pub with_mark : Bool → Record → Record
with_mark on r = record { count = r.count; clock = r.clock; margin = r.margin; enabled = on }

-- setting the clock: it may be set back
unfoldable pub clock_in : UnixTime → Record → Outcome Record
clock_in t r = unless (times_in_range r) (refused (no 3 [])) (unless (in_range t) (refused (no 4 [])) (done [] (with_clock t r)))

-- enable and disable
unfoldable pub mark_in : Bool → Record → Outcome Record
mark_in on r = unless (times_in_range r) (refused (no 3 [])) (done [] (with_mark on r))

-- a change that answers the record after it: its answer's number and values, and that record, or the one that was where it refuses
unfoldable pub changed_paper : Result Record ScheduleRefusal → Paper
changed_paper (Ok next) = no 0 []
changed_paper (Err e) = paper e

unfoldable pub record_after : Record → Result Record ScheduleRefusal → Record
record_after r (Ok next) = next
record_after r (Err e) = r

-- what a change promises: its answer, and the record after it
pub record Changes (o : Outcome Record) (r : Record) (p : Paper) (r' : Record) : Type 0 where
  pub answer : p ≡ says o
  pub next : r' ≡ after o r (λ x. x)

-- `silotwist::delete_calls::silotwist_delete_window` meets its contract.
use Rattle.deletions.specs.Deleting.{delete_window_in}
use Rattle.face_reading.specs.Reading.{window_from}
use Rattle.face.proofs.ScheduleCalls.{changes_at, changes_no_room, changes_short}
use Rattle.face_reading.proofs.Seconds.{held_time}
use mathlib.Core.Path.{◌∙◌, ap₂, refl}
use Rattle.silotwist.proofs.delete_calls.silotwist_delete_window.Goals as goal

pub returns-then-answer-lt8 : goal.returns-then-answer-lt8
returns-then-answer-lt8 c = changes_no_room _ c.if-answer-lt8.true

pub returns-then-record-lt6 : goal.returns-then-record-lt6
returns-then-record-lt6 c =
    changes_short _ c.if-answer-lt8.false c.setup-su.ensures c.if-record-lt6.true refl
    c.short.ensures.0 c.short.ensures.1

pub returns : goal.returns
returns c =
    let a = c.args in
    let from = held_time a.from_secs a.from_nanos _ c.ranges.from_secs c.time-from.ensures in
    let to = held_time a.to_secs a.to_nanos _ c.ranges.to_secs c.time-to.ensures in
    changes_at (λ v su. delete_window_in v) (c.window-v.ensures ∙ ap₂ (λ x y. window_from a.has_from x a.has_to y) from to)
    c.if-answer-lt8.false c.setup-su.ensures c.if-record-lt6.false c.record-r.ensures
    c.delete_by_time_filter-a.ensures
    c.cleared-w.ensures c.with_count.ensures.number
    c.with_count.ensures.words c.with_count.ensures.written

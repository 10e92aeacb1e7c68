-- What each change comes to, by the tests that it made; and that a refusal keeps the record.
use Rattle.std.specs.Prelude.{Result, Ok, Err}
use Rattle.record.specs.declared.ScheduleRefusal.{ScheduleRefusal}
use mathlib.Core.Bool.{Bool, false, true}
use mathlib.Core.Path.{◌≡◌, ◌∙◌, ap}
use Rattle.rules.proofs.Order.{refusal_keeps}
use Rattle.rules.specs.Papers.{Outcome, Paper, after, says}
use Rattle.rules.specs.Tests.{unless}
use Rattle.lookup.specs.Refusals.{paper as store_paper}
use Rattle.slots.specs.declared.StoreRefusal.TheVariants.{StateDamaged}
use Rattle.time.specs.Time.{in_range}
use Rattle.time.specs.declared.UnixTime.{UnixTime}
use Rattle.record.specs.Record.{Changes, changed_paper, clock_in, mark_in, record_after, times_in_range, with_clock, with_mark}
use Rattle.record.specs.Refusals.{done_paper, paper}
use Rattle.record.specs.declared.Record.{Record}
use Rattle.record.specs.declared.ScheduleRefusal.TheVariants.{BadTime, Store}

-- what a change comes to, as the answer that hands the next record out
abbrev Comes : Outcome Record → Record → Result Record ScheduleRefusal → Type 0
Comes o r c = Changes o r (changed_paper c) (record_after r c)

module _ (on : Bool) (r : Record) where
  pub mark_done : times_in_range r ≡ true → Comes (mark_in on r) r (Ok (with_mark on r))
  unfolding mark_in unless says after changed_paper record_after
  mark_done e = record { answer = rw e; next = rw e }

  pub mark_damaged : times_in_range r ≡ false → Comes (mark_in on r) r (Err (Store StateDamaged))
  unfolding mark_in unless says after changed_paper record_after paper store_paper
  mark_damaged e = record { answer = rw e; next = rw e }

module _ (t : UnixTime) (r : Record) where
  pub clock_done : times_in_range r ≡ true → in_range t ≡ true → Comes (clock_in t r) r (Ok (with_clock t r))
  unfolding clock_in unless says after changed_paper record_after
  clock_done e i = record { answer = rw (e, i); next = rw (e, i) }

  pub clock_bad : times_in_range r ≡ true → in_range t ≡ false → Comes (clock_in t r) r (Err BadTime)
  unfolding clock_in unless says after changed_paper record_after paper
  clock_bad e i = record { answer = rw (e, i); next = rw (e, i) }

  pub clock_damaged : times_in_range r ≡ false → Comes (clock_in t r) r (Err (Store StateDamaged))
  unfolding clock_in unless says after changed_paper record_after paper store_paper
  clock_damaged e = record { answer = rw e; next = rw e }

-- a change that refuses keeps the record
pub change_keeps : (o : Outcome Record) (r : Record) (p : Paper) (r' : Record) → Changes o r p r' → (p.number ≡ 0 → ⊥) → r' ≡ r
change_keeps o r p r' c n = c.next ∙ refusal_keeps o r (λ x. x) (λ e. n (ap (λ (x : Paper). x.number) c.answer ∙ e))

-- In place: what was refused left the record, and else it holds the one after.
pub refused_in_place : (o : Outcome Record) (r : Record) (e : ScheduleRefusal) → Comes o r (Err e) → Changes o r (done_paper (Err e)) r
unfolding changed_paper record_after done_paper
refused_in_place o r e c = c

pub done_in_place : (o : Outcome Record) (r next : Record) → Comes o r (Ok next) → Changes o r (done_paper (Ok tt)) next
unfolding changed_paper record_after done_paper
done_in_place o r next c = c

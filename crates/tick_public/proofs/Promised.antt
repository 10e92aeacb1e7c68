-- The public tick: judged, and then carried out.
use Rattle.std.specs.Prelude.{Err}
use Prim.Native.Nat.{ℕ}
use mathlib.Core.List.{List}
use mathlib.Core.Path.{refl}
use Rattle.record.specs.declared.Record.{Record}
use Rattle.record.specs.declared.ScheduleRefusal.{ScheduleRefusal}
use Rattle.rules.specs.Papers.{Outcome, Paper, after, through, says}
use Rattle.schedule.proofs.Judging.{judging_refused}
use Rattle.schedule.proofs.Promises.{judging_fine, writes}
use Rattle.schedule.specs.Judge.{Judges, Sound, judging}
use Rattle.schedule.specs.State.{State}
use Rattle.schedule.specs.declared.Setup.{Setup}
use Rattle.tick.specs.Promise.{TickDoes, Ticks, left, tick_paper}
use Rattle.tick.specs.Tick.{Logged}

module _ (su : Setup) (r : Record) (st le ro lo : List ℕ) (call : State → Outcome Logged) where
  pub ticks : (p : Paper) (r' : Record) (st' le' ro' lo' : List ℕ) → Sound su r st le ro → TickDoes su r st le ro lo call p r' st' le' ro' lo'
      → Ticks su r st le ro lo (judging su r st le ro call) p r' st' le' ro' lo'
  ticks p r' st' le' ro' lo' s d =
      let w = writes su r st le ro (λ x. left (call x)) p r' st' le' ro' s d.tables in
      rw (judging_fine su r st le ro call s)
      (record { tables = rw (judging_fine su r st le ro (λ x. left (call x)) s) at w; log = d.log })

  pub ticks_refused : (e : ScheduleRefusal) → Judges su r st le ro (Err e)
      → Ticks su r st le ro lo (judging su r st le ro call) (tick_paper (Err e)) r st le ro lo
  unfolding says after through tick_paper
  ticks_refused e j =
      rw (judging_refused su r st le ro call e j)
      (record { tables = record { answer = refl; next = refl; store = refl; lens = refl; rows = refl }; log = refl })

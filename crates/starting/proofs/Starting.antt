-- What a fresh start comes to, by what its tests said.
use Rattle.std.specs.Prelude.{Ok, Err}
use Prim.Native.Nat.{ℕ}
use lib.ListN.{length}
use mathlib.Core.Bool.{false, true}
use mathlib.Core.List.{List}
use mathlib.Core.Path.{◌≡◌, ◌∙◌, ap, refl, sym}
use Rattle.record.specs.Refusals.{done_paper, paper}
use Rattle.record.specs.declared.Record.{Record}
use Rattle.record.specs.declared.ScheduleRefusal.{ScheduleRefusal}
use Rattle.record.specs.declared.ScheduleRefusal.TheVariants.{BadTime, Store}
use Rattle.rules.specs.Papers.{after, says}
use Rattle.rules.specs.Tests.{unless}
use Rattle.laid.proofs.Laid.{lens_laid, store_laid}
use Rattle.store.specs.Calls.{fresh_pools}
use Rattle.lookup.specs.Refusals.{paper as store_paper}
use Rattle.slots.specs.View.{Leaves}
use Rattle.slots.specs.declared.StoreRefusal.TheVariants.{BadBuffers, BadSetup}
use Rattle.table_edit.specs.Edits.{after_remove}
use Rattle.rows.specs.Entries.{relaid}
use Rattle.time.specs.Time.{in_range, margin_in_range}
use Rattle.time.specs.declared.Margin.{Margin}
use Rattle.time.specs.declared.UnixTime.{UnixTime}
use Rattle.starting.specs.Inside.{StartJudges, start_record, started_as}
use Rattle.schedule.specs.Judge.{buffers_ok, setup_ok}
use Rattle.starting.specs.Starting.{Starts, start_in}
use Rattle.schedule.specs.declared.Setup.{Setup}
use Rattle.schedule.proofs.Facts.{long_enough}
use Rattle.table_edit.proofs.Stays.{without_all}
use Rattle.schedule.proofs.Promises.{refused_writes}

-- what the judging answers, by the tests that it made
module _ (su : Setup) (room lens rows : ℕ) (c : UnixTime) (m : Margin) where
  pub start_no_setup : setup_ok su ≡ false → StartJudges su room lens rows c m (Err (Store BadSetup))
  unfolding started_as start_in unless paper store_paper
  start_no_setup p = record { same = rw p; passed = tt }

  module _ (p : setup_ok su ≡ true) where
    pub start_no_buffers : buffers_ok su room lens rows ≡ false → StartJudges su room lens rows c m (Err (Store BadBuffers))
    unfolding started_as start_in unless paper store_paper
    start_no_buffers q = record { same = rw (p, q); passed = tt }

    module _ (q : buffers_ok su room lens rows ≡ true) where
      pub start_bad_clock : in_range c ≡ false → StartJudges su room lens rows c m (Err BadTime)
      unfolding started_as start_in unless paper
      start_bad_clock t = record { same = rw (p, q, t); passed = tt }

      pub start_bad_margin : in_range c ≡ true → margin_in_range m ≡ false → StartJudges su room lens rows c m (Err BadTime)
      unfolding started_as start_in unless paper
      start_bad_margin t n = record { same = rw (p, q, t, n); passed = tt }

      pub start_fine : in_range c ≡ true → margin_in_range m ≡ true → StartJudges su room lens rows c m (Ok tt)
      unfolding started_as start_in unless
      start_fine t n = record { same = rw (p, q, t, n); passed = (p, q) }

-- the promise
module _ (su : Setup) (r : Record) (st le ro : List ℕ) (c : UnixTime) (m : Margin) where
  pub start_refused : (e : ScheduleRefusal) → StartJudges su (length st) (length le) (length ro) c m (Err e)
      → Starts su r st le ro (start_in su (length st) (length le) (length ro) c m) (done_paper (Err e)) r st le ro
  unfolding started_as done_paper
  start_refused e j =
      refused_writes su.entries su r st le ro (start_in su (length st) (length le) (length ro) c m) (paper e) (sym j.same)

  pub start_done : StartJudges su (length st) (length le) (length ro) c m (Ok tt) → (n : Record) (st' le' ro' : List ℕ) → n ≡ start_record c m
      → Leaves su.store st le (fresh_pools su.store) st' le' → ro' ≡ after_remove ro su.entries 0 su.entries
      → Starts su r st le ro (start_in su (length st) (length le) (length ro) c m) (done_paper (Ok tt)) n st' le' ro'
  unfolding started_as says after done_paper
  start_done j n st' le' ro' e l k =
      let w = long_enough su (length st) (length le) (length ro) j.passed.0 j.passed.1 in
      rw (← j.same)
      (record {
        answer = refl;
        next = e;
        store = store_laid su.store st le (fresh_pools su.store) st' le' l;
        lens = lens_laid su.store st le (fresh_pools su.store) st' le' l w.lens_fit;
        rows = k ∙ ap (relaid ro su.entries) (without_all ro su.entries);
      })

-- What a verdict says: which tests passed, and what the call comes to.
use Rattle.std.specs.Prelude.{Result, Ok, Err}
use Prim.Native.Nat.{ℕ}
use lib.ListN.{length}
use mathlib.Core.Bool.{false, true}
use mathlib.Core.List.{List}
use mathlib.Core.Path.{◌≡◌, ◌∙◌, ap, sym}
use Rattle.record.proofs.Numbers.{has_number}
use Rattle.record.specs.Refusals.{paper, done_paper}
use Rattle.record.specs.declared.Record.{Record}
use Rattle.record.specs.declared.ScheduleRefusal.{ScheduleRefusal}
use Rattle.record.specs.declared.ScheduleRefusal.TheVariants.{Store}
use Rattle.rules.proofs.Order.{all_passed, one_failed}
use Rattle.rules.specs.Papers.{Outcome, judged_by, refused, says}
use Rattle.rules.specs.Tests.{unless}
use Rattle.lookup.specs.Refusals.{paper as store_paper}
use Rattle.slots.specs.declared.StoreRefusal.TheVariants.{BadBuffers, BadSetup, StateDamaged}
use Rattle.schedule.specs.Judge.{Judges, Sound, buffers_ok, judging, setup_ok, state_ok}
use Rattle.schedule.specs.State.{State, state_of}
use Rattle.schedule.specs.declared.Setup.{Setup}

module _ (su : Setup) (r : Record) (st le ro : List ℕ) where
  -- what `judge` answers, by the tests that it made
  pub no_setup : setup_ok su ≡ false → Judges su r st le ro (Err (Store BadSetup))
  unfolding done_paper paper store_paper judging judged_by unless says
  no_setup p = rw p

  pub no_buffers : setup_ok su ≡ true → buffers_ok su (length st) (length le) (length ro) ≡ false
      → Judges su r st le ro (Err (Store BadBuffers))
  unfolding done_paper paper store_paper judging judged_by unless says
  no_buffers p q = rw (p, q)

  pub damaged : setup_ok su ≡ true → buffers_ok su (length st) (length le) (length ro) ≡ true → state_ok su r le ro ≡ false
      → Judges su r st le ro (Err (Store StateDamaged))
  unfolding done_paper paper store_paper judging judged_by unless says
  damaged p q t = rw (p, q, t)

  pub all_fine : setup_ok su ≡ true → buffers_ok su (length st) (length le) (length ro) ≡ true → state_ok su r le ro ≡ true
      → Judges su r st le ro (Ok tt)
  unfolding done_paper judging judged_by unless says
  all_fine p q t = rw (p, q, t)

  -- fine: what a judged call asks
  pub sound_by : Judges su r st le ro (Ok tt) → Sound su r st le ro
  unfolding judging done_paper
  sound_by j =
      let h = all_passed (setup_ok su) (buffers_ok su (length st) (length le) (length ro)) (state_ok su r le ro) j in
      record { setup = h.0; buffers = h.1; state = h.2 }

  -- refused: what the whole call comes to
  pub judging_refused : {A : Type 0} (call : State → Outcome A) (e : ScheduleRefusal) → Judges su r st le ro (Err e)
      → judging su r st le ro call ≡ refused (paper e)
  unfolding judging done_paper
  judging_refused call e j =
      one_failed (setup_ok su) (buffers_ok su (length st) (length le) (length ro)) (state_ok su r le ro) (call (state_of su r st le ro)) (paper e)
      (has_number e) j

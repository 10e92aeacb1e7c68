-- The laws of the scheduler for the tick: it keeps a fitting state so, does what the step of its request says, keeps everything where
-- it refuses, and has one outcome only.
use Rattle.std.specs.Prelude.{Result, Err}
use Rattle.record.specs.declared.ScheduleRefusal.{ScheduleRefusal}
use Rattle.tick.specs.declared.Handed.{Handed}
use Rattle.rules.proofs.Cases.{either}
use Prim.Native.Nat.{ℕ}
use Rattle.record.specs.declared.Record.{Record}
use Rattle.rules.proofs.Order.{through_after, through_says, refusal_keeps}
use Rattle.rules.specs.Papers.{Outcome, Paper, through, refused, says}
use Rattle.rules.specs.Tests.{unless}
use Rattle.schedule.proofs.Promises.{judging_fine}
use Rattle.schedule.specs.Judge.{Sound, judging}
use Rattle.schedule.specs.State.{State, state_of, with_pools}
use Rattle.schedule.specs.declared.Setup.{Setup}
use Rattle.scheduler.proofs.Calls.{with_entries_lem, with_pools_lem}
use Rattle.scheduler.proofs.OneOutcome.{one_outcome}
use Rattle.scheduler.proofs.OneToOne.{one_ticked}
use Rattle.scheduler.proofs.RefusalKeeps.{call_keeps}
use Rattle.scheduler.proofs.Standing.{outcome_sound, outcome_state, sound_fits}
use Rattle.store_laws.proofs.Fitting.{delete_fits}
use Rattle.scheduler.specs.Fits.{Fits, Gives}
use Rattle.store_laws.specs.Fits.{PoolsFit}
use Rattle.scheduler.specs.Laws.{Same, StepsAs}
use Rattle.scheduler.specs.Steps.{step, tick, ticked}
use Rattle.scheduler.specs.Words.{CarriesWords}
use Rattle.slots.specs.Pools.{Pool}
use Rattle.layout.specs.declared.Setup.{Setup as StoreSetup}
use Rattle.rows.proofs.Order.{drop_ordered}
use Rattle.rows.specs.Entries.{Entry}
use Rattle.tick.specs.Promise.{Ticks, left, tick_paper}
use Rattle.tick.specs.Tick.{Logged, handed_out, tick_in, usable}
use Rattle.time.specs.Time.{instant}
use Rattle.store_laws.proofs.Wiped.{deleted_is}
use Rattle.handing.specs.Handing.{after_all}
use Rattle.turn.specs.Turns.{Handout, always, handout, leave}
use Rattle.turns_laws.proofs.Split.{splits}
use lib.ListN.{length, length-drop, take}
use mathlib.Core.Bool.{Bool, false, true}
use mathlib.Core.List.{List, [], ◌∷◌}
use mathlib.Core.Path.{◌∙◌, ◌≡◌, ap, sym}
use native.Mathlib.Omega.{arith}

-- ---- it keeps a fitting state so

leave_fits : (su : StoreSetup) (del : Bool) (ps : List Pool) (a : ℕ) → PoolsFit su 0 ps → PoolsFit su 0 (leave del ps a)
unfolding leave
leave_fits su false ps a f = f
leave_fits su true ps a f = rw (deleted_is ps a) at (delete_fits su ps f a)

after_all_fits : (su : StoreSetup) (del : Bool) (es : List Entry) (ps : List Pool) → PoolsFit su 0 ps → PoolsFit su 0 (after_all (leave del) es ps)
unfolding after_all
after_all_fits su del [] ps f = f
after_all_fits su del (e ∷ es) ps f = after_all_fits su del es (leave del ps e.addr) (leave_fits su del ps e.addr f)

module _ (su : Setup) (s : State) (f : Fits su s) (limit : ℕ) (del : Bool) (log : List ℕ) where
  out : Handout
  out = handout (leave del) (always s.enabled) (instant s.clock) limit 8 (usable log) s.entries s.pools

  hands_gives : Gives su (left (handed_out log s out))
  unfolding handed_out through out
  hands_gives =
      let x = splits (leave del) (always s.enabled) (instant s.clock) limit 8 (usable log) s.entries s.pools in
      let n = length out.records in
      with_entries_lem su (with_pools out.pools s) out.left
      (with_pools_lem su s out.pools f (rw x.pools_are (after_all_fits su.store del (take n s.entries) s.pools f.pools)))
      (rw x.left_is (drop_ordered 0 n s.entries f.kept))
      (omega (arith, f.few, ap length x.left_is, length-drop n s.entries))

  unless_left : (b : Bool) (p : Paper) (o : Outcome Logged) → Gives su (left o) → Gives su (left (unless b (refused p) o))
  unfolding through
  unless_left b p o g = either (λ (x : Outcome Logged). Gives su (left x)) b o (refused p) (λ e. g) (λ e. tt)

  pub tick_gives : Gives su (left (tick_in limit del log s))
  unfolding tick_in out
  tick_gives = unless_left _ _ _ (unless_left _ _ _ hands_gives)

-- ---- outcome and step

module _ (su : Setup) (r : Record) (st le ro lo : List ℕ) (limit : ℕ) (del : Bool) (p : Paper) (r' : Record) (st' le' ro' lo' : List ℕ)
    (w : Ticks su r st le ro lo (judging su r st le ro (tick_in limit del lo)) p r' st' le' ro' lo') where
  -- on a sound scheduler it does what the step of its request says, the log included
  pub tick_steps : Sound su r st le ro → StepsAs su r st le ro (tick limit del lo) p r' st' le' ro'
      × (lo' ≡ (step su (tick limit del lo) (state_of su r st le ro)).answer.buffer)
  unfolding step ticked
  tick_steps s =
      let x : State = state_of su r st le ro in
      let o : Outcome Logged = tick_in limit del lo x in
      let v = rw (judging_fine su r st le ro (tick_in limit del lo) s) at w in
      let g = tick_gives su x (sound_fits su r st le ro s) limit del lo in (
        record {
          sound = outcome_sound su r st le ro s p r' st' le' ro' (left o) g v.tables;
          answer = v.tables.answer ∙ through_says (λ (y : Logged). y.state) o;
          state = outcome_state su r st le ro s p r' st' le' ro' (left o) g v.tables ∙ through_after (λ (y : Logged). y.state) o x;
        },
        v.log,
      )

  -- a refusal changes no lent byte and no record, nor the log
  pub tick_keeps : (p.number ≡ 0 → ⊥) → Same r r' st st' le le' ro ro' × (lo' ≡ lo)
  tick_keeps above =
      let o : Outcome Logged = judging su r st le ro (tick_in limit del lo) in
      let e : p ≡ says o = w.tables.answer ∙ through_says (λ (y : Logged). y.state) o in (
        call_keeps su r st le ro p r' st' le' ro' above (left o) w.tables,
        w.log ∙ refusal_keeps o lo (λ (y : Logged). y.log) (λ z. above (ap (λ (y : Paper). y.number) e ∙ z)),
      )

  -- one outcome only: two results that the promise allows are equal
  pub one_tick : (q : Paper) (r'' : Record) (st'' le'' ro'' lo'' : List ℕ)
      → Ticks su r st le ro lo (judging su r st le ro (tick_in limit del lo)) q r'' st'' le'' ro'' lo''
      → (p ≡ q) × Same r'' r' st'' st' le'' le' ro'' ro' × (lo' ≡ lo'')
  one_tick q r'' st'' le'' ro'' lo'' v =
      let o : Outcome State = left (judging su r st le ro (tick_in limit del lo)) in
      let s = one_outcome su r st le ro p q r' r'' st' le' ro' st'' le'' ro'' o w.tables v.tables in
      (s.0, s.1, w.log ∙ sym v.log)

-- and by the answers themselves
pub one_tick_answer : (su : Setup) (r : Record) (st le ro lo : List ℕ) (limit : ℕ) (del : Bool) (a b : Result Handed ScheduleRefusal)
    → CarriesWords Err a → CarriesWords Err b → (r₁ r₂ : Record) (st₁ le₁ ro₁ lo₁ st₂ le₂ ro₂ lo₂ : List ℕ)
    → Ticks su r st le ro lo (judging su r st le ro (tick_in limit del lo)) (tick_paper a) r₁ st₁ le₁ ro₁ lo₁
    → Ticks su r st le ro lo (judging su r st le ro (tick_in limit del lo)) (tick_paper b) r₂ st₂ le₂ ro₂ lo₂
    → (a ≡ b) × Same r₂ r₁ st₂ st₁ le₂ le₁ ro₂ ro₁ × (lo₁ ≡ lo₂)
one_tick_answer su r st le ro lo limit del a b i j r₁ r₂ st₁ le₁ ro₁ lo₁ st₂ le₂ ro₂ lo₂ w v =
    let e = one_tick su r st le ro lo limit del (tick_paper a) r₁ st₁ le₁ ro₁ lo₁ w (tick_paper b) r₂ st₂ le₂ ro₂ lo₂ v in
    (one_ticked a b i j e.0, e.1, e.2)

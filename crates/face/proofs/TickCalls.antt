-- The release tick over words, from the tick's own promise.
use Prim.Native.Nat.{◌<◌, ◌≤◌, ℕ}
use Rattle.record.specs.declared.Record.{Record}
use Rattle.rules.specs.Papers.{Outcome, Paper, after, through, judged_by, refused}
use Rattle.rules.specs.Tests.{unless}
use Rattle.schedule.specs.Judge.{buffers_ok, judging, setup_ok, state_ok}
use Rattle.schedule.specs.State.{State}
use Rattle.schedule.specs.declared.Setup.{Setup}
use Rattle.tick.specs.Promise.{Ticks, left}
use Rattle.tick.specs.Tick.{Logged}
use Rattle.face.proofs.Answering.{no_room, with_room}
use Rattle.face.proofs.ScheduleCalls.{changes, changes_no_room, changes_short, judged_is, judged_of, short_is, worded}
use Rattle.face.specs.Face.{answering}
use Rattle.face_reading.specs.Inside.{ReadsSetup, Stands, short_paper}
use Rattle.face_words.specs.Inside.{eight, words_of}
use Rattle.face_reading.specs.Reading.{record_from, word}
use Rattle.face.specs.ScheduleFace.{count_written, judged_call, schedule_call}
use Rattle.face.specs.TickFace.{TickFaces}
use Rattle.face_words.specs.declared.Words.{Words}
use lib.ListN.{drop, length, set}
use mathlib.Core.Bool.{Bool, false, true}
use mathlib.Core.List.{List, ◌++◌}
use mathlib.Core.Path.{◌∙◌, ◌≡◌, ap, refl, sym}

-- the scheduler's part of an outcome, through an order of refusals
left_unless : (b : Bool) (p : Paper) (o : Outcome Logged) → left (unless b (refused p) o) ≡ unless b (refused p) (left o)
unfolding through unless
left_unless true p o = refl
left_unless false p o = refl

left_by : (a b c : Bool) (o : Outcome Logged) → left (judged_by a b c o) ≡ judged_by a b c (left o)
unfolding judged_by
left_by a b c o = simp left_unless

left_judging : (su : Setup) (r : Record) (st le ro : List ℕ) (call : State → Outcome Logged)
    → left (judging su r st le ro call) ≡ judging su r st le ro (λ s. left (call s))
unfolding judging
left_judging su r st le ro call = left_by (setup_ok su) (buffers_ok su (length st) (length le) (length ro)) (state_ok su r le ro) _

module _ (an sw rw₀ st le ro : List ℕ) (call : Setup → State → Outcome Logged) where
  left_judged : left (judged_call an sw rw₀ st le ro call) ≡ judged_call an sw rw₀ st le ro (λ su s. left (call su s))
  unfolding judged_call schedule_call answering
  left_judged = simp (left_unless, left_judging)

  log_is : (lo : List ℕ) (su : Setup) (r : Record) (lo' : List ℕ) → 8 ≤ length an → ReadsSetup sw su → 6 ≤ length rw₀ → Stands (record_from rw₀) r
      → lo' ≡ after (judging su r st le ro (call su)) lo (λ x. x.log) → lo' ≡ after (judged_call an sw rw₀ st le ro call) lo (λ x. x.log)
  unfolding judged_call schedule_call
  log_is lo su r lo' h s l t x =
      let f = judged_of st le ro call in
      x
      ∙ ap (λ o. after o lo (λ v. v.log)) (judged_is st le ro call sw rw₀ su r s t l ∙ sym (with_room an (worded sw rw₀ f) h))

module _ {an sw rw₀ st le ro lo : List ℕ} (call : Setup → State → Outcome Logged) where
  pub ticks_no_room : length an < 8
      → TickFaces sw (word rw₀ 0) (judged_call an sw rw₀ st le ro call) (count_written rw₀) rw₀ st le ro lo an 2 rw₀ st le ro lo an
  unfolding judged_call schedule_call after
  ticks_no_room h =
      let e = no_room an (worded sw rw₀ (judged_of st le ro call)) h in
      record { tables = rw (left_judged an sw rw₀ st le ro call) (changes_no_room (λ su s. left (call su s)) h); log = rw e }

  pub ticks_short : {su : Setup} {w : Words} {n : ℕ} {an' : List ℕ} → 8 ≤ length an → ReadsSetup sw su → length rw₀ < 6
      → w ≡ words_of (short_paper su) → n ≡ w.number → an' ≡ eight w.values ++ drop 8 an
      → TickFaces sw (word rw₀ 0) (judged_call an sw rw₀ st le ro call) (count_written rw₀) rw₀ st le ro lo an n rw₀ st le ro lo an'
  unfolding judged_call schedule_call after
  ticks_short {su} h r l e i j =
      let f = judged_of st le ro call in
      let q = with_room an (worded sw rw₀ f) h ∙ short_is sw rw₀ f su r l in
      record {
        tables = rw (left_judged an sw rw₀ st le ro call) (changes_short (λ su s. left (call su s)) h r l e i j);
        log = rw q;
      }

  pub ticks : {su : Setup} {r r' : Record} {p : Paper} {w : Words} {n : ℕ} {rw' st' le' ro' lo' an' : List ℕ} → 8 ≤ length an
      → ReadsSetup sw su → 6 ≤ length rw₀ → Stands (record_from rw₀) r
      → Ticks su r st le ro lo (judging su r st le ro (call su)) p r' st' le' ro' lo'
      → w ≡ words_of p → n ≡ w.number → an' ≡ eight w.values ++ drop 8 an → rw' ≡ set rw₀ 0 r'.count
      → TickFaces sw (word rw₀ 0) (judged_call an sw rw₀ st le ro call) (count_written rw₀) rw₀ st le ro lo an n rw' st' le' ro' lo' an'
  ticks {su} {r} {r'} {lo' = lo'} h s l t x e i j a =
      let y = rw (left_judging su r st le ro (call su)) at x.tables in
      record {
        tables = rw (left_judged an sw rw₀ st le ro call) (changes (λ su s. left (call su s)) h s l t y e i j a);
        log = log_is an sw rw₀ st le ro call lo su r lo' h s l t x.log;
      }

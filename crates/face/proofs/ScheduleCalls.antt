-- The scheduler's calls over words, from the scheduler's own promises.
use Prim.Native.Nat.{◌<◌, ◌≤◌, ℕ}
use Rattle.record.specs.Record.{times_in_range}
use Rattle.record.specs.declared.Record.{Record}
use Rattle.rules.proofs.All.{and_left}
use Rattle.rules.specs.Papers.{Outcome, Paper, after, done, judged_by, no, refused, says}
use Rattle.rules.specs.Tests.{all_of, unless}
use Rattle.schedule.specs.Judge.{buffers_ok, judging, setup_ok, state_ok}
use Rattle.schedule.specs.Promise.{Writes}
use Rattle.schedule.specs.State.{State, record_of}
use Rattle.schedule.specs.declared.Setup.{Setup}
use Rattle.layout.specs.Judge.{setup_ok as store_setup_ok}
use Rattle.slots.specs.View.{lens_with, store_with}
use Rattle.rows.specs.Entries.{relaid}
use Rattle.face.proofs.Answering.{answers, answers_no_room, no_room, with_room}
use Rattle.face_reading.proofs.Standing.{stands_same}
use Rattle.face.specs.Face.{Answers}
use Rattle.face_reading.specs.Inside.{ReadsSetup, Stands, fine, short_paper}
use Rattle.face_words.specs.Inside.{eight, words_of}
use Rattle.face_reading.specs.Reading.{record_from, setup_from, store_setup, well_counted, word}
use Rattle.face.specs.RecordFace.{long_enough}
use Rattle.face.specs.ScheduleFace.{ScheduleFaces, count_written, judged_call, schedule_call}
use Rattle.face_words.specs.declared.Words.{Words}
use borrow.Author.Tests.{le-leb, lt-leb}
use lib.Dec.{leb}
use lib.ListN.{drop, length, set}
use lib.Seq.{set-get_or}
use mathlib.Core.Bool.{Bool, ◌&&◌, cond, false, true}
use mathlib.Core.List.{List, [], ◌++◌}
use mathlib.Core.Path.{◌∙◌, ◌≡◌, ap, ap₂, refl, sym}

store_bad : (su : Setup) → store_setup_ok su.store ≡ false → setup_ok su ≡ false
unfolding setup_ok all_of
store_bad su e = rw e

setup_same : (sw : List ℕ) (su : Setup) → ReadsSetup sw su → fine sw ≡ true → su ≡ setup_from sw
setup_same sw su r f = ap₂ (λ s n. record { store = s; entries = n }) (r.store.same f) r.entries

well : (sw : List ℕ) → fine sw ≡ true → well_counted sw ≡ true
unfolding fine
well sw f = and_left (well_counted sw) (store_setup_ok (store_setup sw)) f

module _ {A : Type 0} (sw rw₀ : List ℕ) (call : Setup → Record → Outcome A) where
  -- what the call comes to, of the words
  abbrev pub worded : Outcome A
  worded =
      unless (well_counted sw) (refused (no 1 []))
      (unless (setup_ok (setup_from sw)) (refused (no 1 []))
      (unless (long_enough rw₀) (refused (no 2 [])) (call (setup_from sw) (record_from rw₀))))

  bad_by : (a b : Bool) (o : Outcome A) → (a && b) ≡ false → (b ≡ false → setup_ok (setup_from sw) ≡ false)
      → unless a (refused (no 1 [])) (unless (setup_ok (setup_from sw)) (refused (no 1 [])) o) ≡ refused (no 1 [])
  unfolding unless
  bad_by true b o e h = rw (h e)
  bad_by false b o e h = refl

  worded_bad : fine sw ≡ false → worded ≡ refused (no 1 [])
  unfolding fine
  worded_bad f = bad_by (well_counted sw) (store_setup_ok (store_setup sw)) _ f (store_bad (setup_from sw))

  pub short_is : (su : Setup) → ReadsSetup sw su → length rw₀ < 6 → worded ≡ refused (short_paper su)
  unfolding unless short_paper
  short_is su r l = go (fine sw) refl
    where
      pick : (b : Bool) → ◌≡◌ {A = Outcome A} (unless b (refused (no 1 [])) (refused (no 2 []))) (refused (no (cond b 2 1) []))
      pick true = refl
      pick false = refl

      go : (b : Bool) → fine sw ≡ b → worded ≡ refused (no (cond (setup_ok su) 2 1) [])
      go true f = rw (setup_same sw su r f, well sw f, lt-leb 6 (length rw₀) l) (pick (setup_ok (setup_from sw)))
      go false f = worded_bad f ∙ sym (ap (λ b. refused (no (cond b 2 1) [])) (store_bad su (r.store.bad f)))

  module _ (bad : (su : Setup) (r : Record) → setup_ok su ≡ false → call su r ≡ refused (no 1 [])) (r : Record)
      (stood : (su : Setup) → call su r ≡ call su (record_from rw₀)) where
    pub worded_is : (su : Setup) → ReadsSetup sw su → 6 ≤ length rw₀ → call su r ≡ worded
    unfolding unless
    worded_is su s l = go (fine sw) refl
      where
        pick : (b : Bool) → setup_ok (setup_from sw) ≡ b → call (setup_from sw) r ≡ unless b (refused (no 1 [])) (call (setup_from sw)
            (record_from rw₀))
        pick true e = stood (setup_from sw)
        pick false e = bad (setup_from sw) r e

        go : (b : Bool) → fine sw ≡ b → call su r ≡ worded
        go true f = rw (setup_same sw su s f, well sw f, le-leb 6 (length rw₀) l) (pick (setup_ok (setup_from sw)) refl)
        go false f = bad su r (store_bad su (s.store.bad f)) ∙ sym (worded_bad f)

  -- the store's setup matters only where 1 is not due
  pub worded_store : (B : Type 0) (su : Setup) → ReadsSetup sw su → (b : B) (f : _ → A → B)
      → after worded b (f su.store) ≡ after worded b (f (store_setup sw))
  unfolding after
  worded_store B su r b f = go (fine sw) refl
    where
      go : (x : Bool) → fine sw ≡ x → after worded b (f su.store) ≡ after worded b (f (store_setup sw))
      go true e = rw (r.store.same e)
      go false e = rw (worded_bad e)

module _ {A : Type 0} (an sw rw₀ : List ℕ) (call : Setup → Record → Outcome A) where
  pub asks_no_room : length an < 8 → Answers (schedule_call an sw rw₀ call) an 2 an
  unfolding schedule_call
  asks_no_room h = answers_no_room an (worded sw rw₀ call) h

  pub asks_short : (su : Setup) (w : Words) (n : ℕ) (an' : List ℕ) → 8 ≤ length an → ReadsSetup sw su → length rw₀ < 6
      → w ≡ words_of (short_paper su) → n ≡ w.number → an' ≡ eight w.values ++ drop 8 an → Answers (schedule_call an sw rw₀ call) an n an'
  unfolding schedule_call says
  asks_short su w n an' h r l e i j = answers an (worded sw rw₀ call) (short_paper su) w n an' h (rw (short_is sw rw₀ call su r l)) e i j

  pub asks_done : (su : Setup) (r : Record) (p : Paper) (w : Words) (n : ℕ) (an' : List ℕ) → 8 ≤ length an → call su r ≡ worded sw rw₀ call
      → p ≡ says (call su r) → w ≡ words_of p
      → n ≡ w.number → an' ≡ eight w.values ++ drop 8 an → Answers (schedule_call an sw rw₀ call) an n an'
  unfolding schedule_call
  asks_done su r p w n an' h q s e i j = answers an (worded sw rw₀ call) p w n an' h (s ∙ ap says q) e i j

-- what judging comes to, of a record that stands for another
bad_judged : {A : Type 0} (su : Setup) (r : Record) (st le ro : List ℕ) (call : State → Outcome A) → setup_ok su ≡ false
    → judging su r st le ro call ≡ refused (no 1 [])
unfolding judging judged_by unless
bad_judged su r st le ro call e = rw e

damaged : (su : Setup) (r : Record) (le ro : List ℕ) → times_in_range r ≡ false → state_ok su r le ro ≡ false
unfolding state_ok all_of
damaged su r le ro e = rw e (go (leb r.count su.entries))
  where
    go : (b : Bool) → (b && false) ≡ false
    go true = refl
    go false = refl

stands_judged : {A : Type 0} (su : Setup) (x r : Record) (st le ro : List ℕ) (call : State → Outcome A) → Stands x r
    → judging su r st le ro call ≡ judging su x st le ro call
unfolding judging judged_by unless
stands_judged su x r st le ro call s =
    stands_same (λ y. judging su y st le ro call)
    (judged_by (setup_ok su) (buffers_ok su (length st) (length le) (length ro)) false (refused (no 3 []))) x r s (λ y e. rw (damaged su y le ro e))

module _ {A : Type 0} (st le ro : List ℕ) (call : Setup → State → Outcome A) where
  abbrev pub judged_of : Setup → Record → Outcome A
  judged_of su r = judging su r st le ro (call su)

  pub judged_is : (sw rw₀ : List ℕ) (su : Setup) (r : Record) → ReadsSetup sw su → Stands (record_from rw₀) r → 6 ≤ length rw₀
      → judged_of su r ≡ worded sw rw₀ judged_of
  judged_is sw rw₀ su r s t l =
      worded_is sw rw₀ judged_of (λ v y e. bad_judged v y st le ro (call v) e) r
      (λ v. stands_judged v (record_from rw₀) r st le ro (call v) t) su s l

-- calls that only answer
module _ {A : Type 0} (an sw rw₀ st le ro : List ℕ) (call : Setup → State → Outcome A) where
  pub looks_no_room : length an < 8 → Answers (judged_call an sw rw₀ st le ro call) an 2 an
  unfolding judged_call
  looks_no_room h = asks_no_room an sw rw₀ (judged_of st le ro call) h

  pub looks_short : {su : Setup} {w : Words} {n : ℕ} {an' : List ℕ} → 8 ≤ length an → ReadsSetup sw su → length rw₀ < 6
      → w ≡ words_of (short_paper su) → n ≡ w.number → an' ≡ eight w.values ++ drop 8 an
      → Answers (judged_call an sw rw₀ st le ro call) an n an'
  unfolding judged_call
  looks_short {su} {w} {n} {an'} = asks_short an sw rw₀ (judged_of st le ro call) su w n an'

  pub looks : {su : Setup} {r : Record} {p : Paper} {w : Words} {n : ℕ} {an' : List ℕ} → 8 ≤ length an → ReadsSetup sw su → 6 ≤ length rw₀
      → Stands (record_from rw₀) r → p ≡ says (judging su r st le ro (call su)) → w ≡ words_of p
      → n ≡ w.number → an' ≡ eight w.values ++ drop 8 an → Answers (judged_call an sw rw₀ st le ro call) an n an'
  unfolding judged_call
  looks {su} {r} {p} {w} {n} {an'} h s l t q e i j =
      asks_done an sw rw₀ (judged_of st le ro call) su r p w n an' h (judged_is st le ro call sw rw₀ su r s t l) q e i j

-- calls that write
module _ {an sw rw₀ st le ro : List ℕ} (call : Setup → Record → Outcome State) {k : ℕ} {written : State → List ℕ} where
  pub faces_no_room : length an < 8 → ScheduleFaces sw k (schedule_call an sw rw₀ call) written rw₀ st le ro an 2 rw₀ st le ro an
  unfolding schedule_call after
  faces_no_room h =
      let e = no_room an (worded sw rw₀ call) h in
      record { answer = asks_no_room an sw rw₀ call h; words = rw e; store = rw e; lens = rw e; rows = rw e }

  pub faces_short : {su : Setup} {w : Words} {n : ℕ} {an' : List ℕ} → 8 ≤ length an → ReadsSetup sw su → length rw₀ < 6
      → w ≡ words_of (short_paper su) → n ≡ w.number → an' ≡ eight w.values ++ drop 8 an
      → ScheduleFaces sw k (schedule_call an sw rw₀ call) written rw₀ st le ro an n rw₀ st le ro an'
  unfolding schedule_call after
  faces_short {su} {w} {n} {an'} h r l e i j =
      let q = with_room an (worded sw rw₀ call) h ∙ short_is sw rw₀ call su r l in
      record { answer = asks_short an sw rw₀ call su w n an' h r l e i j; words = rw q; store = rw q; lens = rw q; rows = rw q }

  pub faces_done : {su : Setup} (r : Record) {p : Paper} {w : Words} {n : ℕ} {rw' st' le' ro' an' : List ℕ} → 8 ≤ length an → ReadsSetup sw su
      → call su r ≡ worded sw rw₀ call → p ≡ says (call su r) → w ≡ words_of p → n ≡ w.number → an' ≡ eight w.values ++ drop 8 an
      → rw' ≡ after (call su r) rw₀ written → st' ≡ after (call su r) st (λ s. store_with su.store st s.pools)
      → le' ≡ after (call su r) le (λ s. lens_with su.store le s.pools) → ro' ≡ after (call su r) ro (λ s. relaid ro k s.entries)
      → ScheduleFaces sw k (schedule_call an sw rw₀ call) written rw₀ st le ro an n rw' st' le' ro' an'
  unfolding schedule_call
  faces_done {su} r {p} {w} {n} {rw'} {st'} {le'} {ro'} {an'} h t q s e i j a b d f =
      let o = with_room an (worded sw rw₀ call) h in
      record {
        answer = asks_done an sw rw₀ call su r p w n an' h q s e i j;
        words = rw (o, ← q) a;
        store = rw o (rw q at b ∙ worded_store sw rw₀ call (List ℕ) su t st (λ v s. store_with v st s.pools));
        lens = rw o (rw q at d ∙ worded_store sw rw₀ call (List ℕ) su t le (λ v s. lens_with v le s.pools));
        rows = rw (o, ← q) f;
      }

-- the count, written always: a refusal's is the one that was there
count_after : (rw₀ : List ℕ) (r r' : Record) (o : Outcome State) → r.count ≡ word rw₀ 0 → r' ≡ after o r record_of
    → set rw₀ 0 r'.count ≡ after o rw₀ (count_written rw₀)
unfolding after
count_after rw₀ r r' (refused p) e q = rw (q, e) (set-get_or rw₀ 0 0)
count_after rw₀ r r' (done vs s) e q = rw q

pub stands_count : (rw₀ : List ℕ) (r : Record) → Stands (record_from rw₀) r → r.count ≡ word rw₀ 0
unfolding record_from
stands_count rw₀ r s = s.count

module _ {an sw rw₀ st le ro : List ℕ} (call : Setup → State → Outcome State) where
  pub changes_no_room : {written : State → List ℕ} → length an < 8
      → ScheduleFaces sw (word rw₀ 0) (judged_call an sw rw₀ st le ro call) written rw₀ st le ro an 2 rw₀ st le ro an
  unfolding judged_call
  changes_no_room h = faces_no_room (judged_of st le ro call) h

  pub changes_short : {written : State → List ℕ} {su : Setup} {w : Words} {n : ℕ} {an' : List ℕ} → 8 ≤ length an → ReadsSetup sw su
      → length rw₀ < 6 → w ≡ words_of (short_paper su) → n ≡ w.number → an' ≡ eight w.values ++ drop 8 an
      → ScheduleFaces sw (word rw₀ 0) (judged_call an sw rw₀ st le ro call) written rw₀ st le ro an n rw₀ st le ro an'
  unfolding judged_call
  changes_short = faces_short (judged_of st le ro call)

  pub carries : {written : State → List ℕ} {su : Setup} {r r' : Record} {p : Paper} {w : Words} {n : ℕ} {rw' st' le' ro' an' : List ℕ}
      → 8 ≤ length an → ReadsSetup sw su → 6 ≤ length rw₀ → Stands (record_from rw₀) r
      → Writes su r st le ro (judging su r st le ro (call su)) p r' st' le' ro'
      → w ≡ words_of p → n ≡ w.number → an' ≡ eight w.values ++ drop 8 an → rw' ≡ after (judging su r st le ro (call su)) rw₀ written
      → ScheduleFaces sw (word rw₀ 0) (judged_call an sw rw₀ st le ro call) written rw₀ st le ro an n rw' st' le' ro' an'
  unfolding judged_call
  carries {su = su} {r = r} h s l t x e i j a =
      faces_done (judged_of st le ro call) r h s
      (judged_is st le ro call sw rw₀ su r s t l) x.answer e i j a x.store x.lens
      (x.rows ∙ ap (λ m. after (judging su r st le ro (call su)) ro (λ v. relaid ro m v.entries)) (stands_count rw₀ r t))

  pub changes : {su : Setup} {r r' : Record} {p : Paper} {w : Words} {n : ℕ} {rw' st' le' ro' an' : List ℕ} → 8 ≤ length an
      → ReadsSetup sw su → 6 ≤ length rw₀ → Stands (record_from rw₀) r → Writes su r st le ro (judging su r st le ro (call su)) p r' st' le' ro'
      → w ≡ words_of p → n ≡ w.number → an' ≡ eight w.values ++ drop 8 an → rw' ≡ set rw₀ 0 r'.count
      → ScheduleFaces sw (word rw₀ 0) (judged_call an sw rw₀ st le ro call) (count_written rw₀) rw₀ st le ro an n rw' st' le' ro' an'
  changes {su} {r} {r'} h s l t x e i j a =
      carries h s l t x e i j
      (a ∙ count_after rw₀ r r' (judging su r st le ro (call su)) (stands_count rw₀ r t) x.next)

-- the same, where an argument was made from C's parameters
pub looks_at : {A X : Type 0} (an sw rw₀ st le ro : List ℕ) (F : X → Setup → State → Outcome A) {x y : X} → x ≡ y → {su : Setup} {r : Record}
    {p : Paper} {w : Words} {n : ℕ} {an' : List ℕ} → 8 ≤ length an → ReadsSetup sw su → 6 ≤ length rw₀ → Stands (record_from rw₀) r
    → p ≡ says (judging su r st le ro (F x su)) → w ≡ words_of p → n ≡ w.number → an' ≡ eight w.values ++ drop 8 an
    → Answers (judged_call an sw rw₀ st le ro (F y)) an n an'
looks_at an sw rw₀ st le ro F {x} e h s l t q d i j = rw (← e) (looks an sw rw₀ st le ro (F x) h s l t q d i j)

pub changes_at : {X : Type 0} {an sw rw₀ st le ro : List ℕ} (F : X → Setup → State → Outcome State) {x y : X} → x ≡ y → {su : Setup}
    {r r' : Record} {p : Paper} {w : Words} {n : ℕ} {rw' st' le' ro' an' : List ℕ} → 8 ≤ length an
    → ReadsSetup sw su → 6 ≤ length rw₀ → Stands (record_from rw₀) r → Writes su r st le ro (judging su r st le ro (F x su)) p r' st' le' ro'
    → w ≡ words_of p → n ≡ w.number → an' ≡ eight w.values ++ drop 8 an → rw' ≡ set rw₀ 0 r'.count
    → ScheduleFaces sw (word rw₀ 0) (judged_call an sw rw₀ st le ro (F y)) (count_written rw₀) rw₀ st le ro an n rw' st' le' ro' an'
changes_at F {x} e h s l t q d i j k = rw (← e) (changes (F x) h s l t q d i j k)

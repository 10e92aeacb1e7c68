-- Demand 1 over the C face, for every function and anything lent.
use Prim.Native.Nat.{◌≤◌, ℕ}
use Rattle.demands.specs.Calling.{lent_to}
use Rattle.face.proofs.Once.{refusal_keeps_all, refused_read_keeps, refused_record_keeps, refused_store_keeps, refused_tick_keeps_all}
use Rattle.face.specs.Face.{Answers, answered, answering, roomy}
use Rattle.face.specs.RecordFace.{long_enough, record_call}
use Rattle.face.specs.ScheduleFace.{judged_call, schedule_call}
use Rattle.face.specs.StoreFace.{part_in, store_call}
use Rattle.face_demands.proofs.FaceParting.{part_keeps}
use Rattle.face_demands.proofs.FaceSame.{same_lent}
use Rattle.face_demands.specs.FaceCalling.{FaceAnswer, FaceCalls, FaceLent, FaceLooks, FaceParts, FacePromised, FaceReads, FaceRecords, FaceRequest, FaceSchedules, FaceStores, FaceTicks, count, delete_by_id, delete_by_id_keep, delete_window, disable, enable, fresh, insert_stored, insert_unwrapped, insert_wrapped, request, reset, set_clock, store_add, store_delete, store_has, store_len, store_modify, store_part, store_read, tick, window}
use Rattle.face_demands.specs.FaceDemands.{EveryFaceCallAnswers, FaceAnswered}
use Rattle.face_demands.specs.FaceStanding.{call_of, request_of}
use Rattle.face_reading.specs.Reading.{record_from, setup_from, store_setup, well_counted}
use Rattle.face_words.specs.Padding.{answer_words, padded}
use Rattle.layout.specs.Judge.{judged}
use Rattle.layout.specs.declared.Setup.{Setup as StoreSetup}
use Rattle.lookup.specs.Calls.{judging as store_judging, packet_in}
use Rattle.record.specs.declared.Record.{Record}
use Rattle.rules.proofs.Order.{through_says}
use Rattle.rules.specs.Papers.{Outcome, done, judged_by, no, refused, says}
use Rattle.rules.specs.Tests.{unless}
use Rattle.schedule.specs.Judge.{buffers_ok, judging, setup_ok}
use Rattle.schedule.specs.State.{State, state_of}
use Rattle.schedule.specs.declared.Setup.{Setup}
use Rattle.scheduler.proofs.Numbers.{clock_numbered, judged_most, mark_numbered, own_add, own_by_id, own_count, own_delete, own_has, own_held, own_keeping, own_len, own_read, own_reset, own_retrieve, own_stored, own_tick, own_unless, own_unwrapped, own_window, own_wrapped}
use Rattle.scheduler.specs.Laws.{Own}
use Rattle.scheduler.specs.Steps.{buffer_of}
use Rattle.slots.specs.Pools.{Pool, find}
use Rattle.slots.specs.View.{view}
use Rattle.starting.specs.Starting.{fresh_state, start_in}
use Rattle.tick.specs.Tick.{Logged}
use Rattle.time.specs.Time.{in_range, margin_in_range}
use Rattle.time.specs.declared.Margin.{Margin}
use Rattle.time.specs.declared.UnixTime.{UnixTime}
use borrow.Author.Tests.{lt-leb}
use lib.ListN.{drop, length, length-append, length-replicate, length-take}
use lib.Seq.{drop-append_seam}
use mathlib.Core.Bool.{Bool, ◌&&◌, false, true}
use mathlib.Core.List.{List, [], ◌++◌}
use mathlib.Core.Path.{◌∙◌, ◌≡◌, ap, refl, subst}
use native.Mathlib.Omega.{arith}

pub padded_long : (vs : List ℕ) → length (padded vs) ≡ answer_words
unfolding padded
padded_long vs = simp (length-take, length-append, length-replicate) (omega arith)

padded_behind : (vs ws : List ℕ) → drop answer_words (padded vs ++ ws) ≡ ws
padded_behind vs ws = subst (λ n. drop n (padded vs ++ ws) ≡ ws) (padded_long vs) (drop-append_seam (padded vs) ws)

answered_behind : (an vs : List ℕ) → drop answer_words (answered an vs) ≡ drop answer_words an
unfolding answered unless
answered_behind an vs = go (roomy an)
  where
    go : (b : Bool) → drop answer_words (unless b an (padded vs ++ drop answer_words an)) ≡ drop answer_words an
    go true = padded_behind vs (drop answer_words an)
    go false = refl

-- what a call comes to: a number of the table, and 2 where the answer is too short
record Judges {A : Type 0} (an : List ℕ) (o : Outcome A) : Type 0 where
  most : (says o).number ≤ 20
  short : roomy an ≡ false → o ≡ refused (no 2 [])

most_unless : {A : Type 0} (b : Bool) (n : ℕ) (o : Outcome A) → n ≤ 20 → (says o).number ≤ 20 → (says (unless b (refused (no n [])) o)).number ≤ 20
unfolding unless says
most_unless true n o h k = k
most_unless false n o h k = h

answering_judges : {A : Type 0} (an : List ℕ) (o : Outcome A) → (says o).number ≤ 20 → Judges an (answering an o)
unfolding answering unless
answering_judges an o h = record { most = most_unless (roomy an) 2 o (omega arith) h; short = λ e. rw e }

store_judges : {A : Type 0} (an sw st le : List ℕ) (call : StoreSetup → List Pool → Outcome A)
    → ((ps : List Pool) → Own (call (store_setup sw) ps)) → Judges an (store_call an sw st le call)
unfolding store_call store_judging judged
store_judges an sw st le call h =
    answering_judges an _ (most_unless (well_counted sw) 1 _ (omega arith) (judged_most _ _ _ _ (h (view (store_setup sw) st le))))

record_judges : (an ws : List ℕ) (call : Record → Outcome Record) → (says (call (record_from ws))).number ≤ 20 → Judges an (record_call an ws call)
unfolding record_call
record_judges an ws call h = answering_judges an _ (most_unless (long_enough ws) 2 _ (omega arith) h)

schedule_judges : {A : Type 0} (an sw ws : List ℕ) (call : Setup → Record → Outcome A)
    → (says (call (setup_from sw) (record_from ws))).number ≤ 20 → Judges an (schedule_call an sw ws call)
unfolding schedule_call
schedule_judges an sw ws call h =
    answering_judges an _
    (most_unless (well_counted sw) 1 _ (omega arith)
    (most_unless (setup_ok (setup_from sw)) 1 _ (omega arith) (most_unless (long_enough ws) 2 _ (omega arith) h)))

state_judges : {A : Type 0} (an sw ws st le ro : List ℕ) (call : Setup → State → Outcome A) → ((s : State) → Own (call (setup_from sw) s))
    → Judges an (judged_call an sw ws st le ro call)
unfolding judged_call judging
state_judges an sw ws st le ro call h =
    schedule_judges an sw ws _ (judged_most _ _ _ _ (h (state_of (setup_from sw) (record_from ws) st le ro)))

-- the fresh start gives 1, 2 and 4
start_judges : (an sw ws : List ℕ) (a b d : ℕ) (c : UnixTime) (m : Margin)
    → Judges an (schedule_call an sw ws (λ su r. start_in su a b d c m))
unfolding start_in judged_by unless
start_judges an sw ws a b d c m =
    let su = setup_from sw in
    schedule_judges an sw ws (λ su r. start_in su a b d c m)
    (judged_most (setup_ok su) (buffers_ok su a b d) true (unless (in_range c &&
    margin_in_range m) (refused (no 4 [])) (done [] (fresh_state su c m)))
    (own_unless (in_range c && margin_in_range m) (refused (no 4 [])) (done [] (fresh_state su c m)) (omega arith, omega arith) tt))

own_packet : (ps : List Pool) (a : ℕ) → Own (packet_in ps a)
unfolding packet_in
own_packet ps a = own_held a (find ps a) _ (λ n b. tt)

own_part : (a : ℕ) (su : StoreSetup) (ps : List Pool) → Own (part_in a su ps)
unfolding part_in
own_part a su ps = own_held a (find ps a) _ (λ n b. tt)

module _ (sw an : List ℕ) (t : FaceLent) (x : FaceAnswer) (u : FaceLent) where
  -- number and words as they must be, and nothing lent changed by a refusal
  answers : {A : Type 0} (o : Outcome A) (lent : List ℕ) → Judges an o → Answers o an x.number x.words
      → ((x.number ≡ 0 → ⊥) → (u ≡ t) × (x.buffer ≡ lent)) → FaceAnswered an lent x t u
  unfolding answered unless says
  answers o lent j a k =
      record {
        in_table = rw a.number j.most;
        kept = k;
        behind = ap (drop answer_words) a.words ∙ answered_behind an (says o).values;
        short = λ h.
            let r : roomy an ≡ false = lt-leb answer_words (length an) h in
            (a.number ∙ ap (λ (o : Outcome _). (says o).number) (j.short r), a.words ∙ rw r);
      }

  looks : {A : Type 0} (o : Outcome A) → Judges an o → FaceLooks sw an t x u o → FaceAnswered an [] x t u
  looks o j c = answers o [] j c.answer (λ h. (c.lent, c.buffer))

  reads : (o : Outcome (List ℕ)) (buf : List ℕ) → Judges an o → FaceReads sw an t x u o buf → FaceAnswered an buf x t u
  reads o buf j c = answers o buf j c.read.answer (λ h. (c.lent, refused_read_keeps c.read h))

  parts : (o : Outcome (Unit {0})) (ys : List ℕ) → Judges an o → FaceParts sw an t x u o ys → FaceAnswered an [] x t u
  parts o ys j c =
      answers o [] j c.answer
      (λ h. (
        c.lent
            ∙ ap (λ (st : List ℕ). record { rec = t.rec; store = st; lens = t.lens; rows = t.rows }) (part_keeps x ys t.store h),
        c.buffer,
      ))

  stores : (o : Outcome (List Pool)) → Judges an o → FaceStores sw an t x u o → FaceAnswered an [] x t u
  stores o j c =
      answers o [] j c.tables.answer
      (λ h. let k = refused_store_keeps c.tables h in (same_lent t u c.rec k.0 k.1 c.rows, c.buffer))

  records : (o : Outcome Record) (f : Record → List ℕ) → Judges an o → FaceRecords sw an t x u o f → FaceAnswered an [] x t u
  records o f j c =
      answers o [] j c.words.answer
      (λ h. (same_lent t u (refused_record_keeps c.words h) c.store c.lens c.rows, c.buffer))

  schedules : (n : ℕ) (o : Outcome State) (f : State → List ℕ) → Judges an o → FaceSchedules sw an t x u n o f → FaceAnswered an [] x t u
  schedules n o f j c =
      answers o [] j c.tables.answer
      (λ h. let k = refusal_keeps_all c.tables h in (same_lent t u k.0 k.1 k.2 k.3, c.buffer))

  ticks : (o : Outcome Logged) (f : State → List ℕ) (log : List ℕ) → Judges an o → FaceTicks sw an t x u o f log
      → FaceAnswered an log x t u
  ticks o f log j c =
      let a = c.tables.tables.answer in
      let e = through_says (λ (y : Logged). y.state) o in
      answers o log j
      (record { number = a.number ∙ ap (λ p. p.number) e; words = a.words ∙ ap (λ p. answered an p.values) e })
      (λ h. let k = refused_tick_keeps_all c.tables h in (same_lent t u k.0.0 k.0.1 k.0.2 k.0.3, k.1))

  abbrev in_store : {A : Type 0} (call : StoreSetup → List Pool → Outcome A) → ((ps : List Pool) → Own (call (store_setup sw) ps))
      → Judges an (store_call an sw t.store t.lens call)
  in_store call h = store_judges an sw t.store t.lens call h

  abbrev in_state : {A : Type 0} (call : Setup → State → Outcome A) → ((s : State) → Own (call (setup_from sw) s))
      → Judges an (judged_call an sw t.rec t.store t.lens t.rows call)
  in_state call h = state_judges an sw t.rec t.store t.lens t.rows call h

  asked : (q : FaceRequest) → FaceCalls sw an q t x u → FaceAnswered an (buffer_of (request_of q)) x t u
  unfolding FaceCalls buffer_of request_of
  asked (store_add d) c = stores _ (in_store _ (λ ps. own_add _ ps d)) c
  asked (store_read a buf) c = reads _ buf (in_store _ (λ ps. own_read ps a buf)) c
  asked (store_modify a) c = looks _ (in_store _ (λ ps. own_packet ps a)) c
  asked (store_part a ys) c = parts _ ys (in_store (part_in a) (own_part a (store_setup sw))) c
  asked (store_delete a) c = stores _ (in_store _ (λ ps. own_delete ps a)) c
  asked (store_has a) c = looks _ (in_store _ (λ ps. own_has ps a)) c
  asked (store_len a) c = looks _ (in_store _ (λ ps. own_len ps a)) c
  asked (set_clock k) c = records _ _ (record_judges an t.rec _ (clock_numbered k (record_from t.rec)).most) c
  asked enable c = records _ _ (record_judges an t.rec _ (mark_numbered true (record_from t.rec)).most) c
  asked disable c = records _ _ (record_judges an t.rec _ (mark_numbered false (record_from t.rec)).most) c
  asked count c = looks _ (in_state _ own_count) c
  asked (insert_wrapped p) c = schedules _ _ _ (in_state _ (own_wrapped (setup_from sw) p)) c
  asked (insert_unwrapped k p) c = schedules _ _ _ (in_state _ (own_unwrapped (setup_from sw) k p)) c
  asked (insert_stored k id a) c = schedules _ _ _ (in_state _ (own_stored (setup_from sw) k id a)) c
  asked (window f from g to) c = looks _ (in_state _ (own_retrieve _)) c
  asked (delete_window f from g to) c = schedules _ _ _ (in_state _ (own_window _)) c
  asked reset c = schedules _ _ _ (in_state _ own_reset) c
  asked (delete_by_id_keep id) c = schedules _ _ _ (in_state _ (own_keeping id)) c
  asked (delete_by_id id) c = schedules _ _ _ (in_state _ (own_by_id id)) c
  asked (tick log limit del) c = ticks _ _ log (in_state _ (own_tick limit del log)) c

pub every_face_call_answers : EveryFaceCallAnswers
unfolding EveryFaceCallAnswers FacePromised lent_to call_of
every_face_call_answers sw an (fresh clock margin) t x u c =
    schedules sw an t x u _ _ _ (start_judges an sw t.rec (length t.store) (length t.lens) (length t.rows) clock margin) c
every_face_call_answers sw an (request q) t x u c = asked sw an t x u q c

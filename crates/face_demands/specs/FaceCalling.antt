-- What a call of the C face (include/silotwist.h) may do to what is lent, by its own promise; and such calls one after another.
use Rattle.std.specs.Prelude.{ℕ, eqb, length, take, Bool, false, true, List, [], ◌∷◌, ◌≡◌}
use Rattle.by_id.specs.ById.{delete_by_id_in, delete_keeping_in}
use Rattle.counting.specs.Counting.{count_in}
use Rattle.deletions.specs.Deleting.{delete_window_in, reset_in}
use Rattle.face.specs.Face.{Answers}
use Rattle.face.specs.RecordFace.{RecordFaces, clock_written, mark_written, record_call}
use Rattle.face.specs.ScheduleFace.{ScheduleFaces, all_written, count_written, judged_call, reset_written, schedule_call}
use Rattle.face.specs.StoreFace.{BufferFaces, StoreFaces, part_in, store_call}
use Rattle.face.specs.TickFace.{TickFaces}
use Rattle.face_reading.specs.Reading.{window_from, word}
use Rattle.gate.specs.Entering.{insert_stored_in}
use Rattle.insertions.specs.Inserting.{insert_unwrapped_in}
use Rattle.layout.specs.declared.Setup.{Setup as StoreSetup}
use Rattle.lookup.specs.Calls.{packet_in}
use Rattle.presence.specs.Presence.{has_in, len_in}
use Rattle.reading.specs.Reading.{read_in}
use Rattle.record.specs.Record.{clock_in, mark_in}
use Rattle.record.specs.declared.Record.{Record}
use Rattle.rules.specs.Papers.{Outcome}
use Rattle.rules.specs.Tests.{unless}
use Rattle.schedule.specs.State.{State}
use Rattle.schedule.specs.declared.Setup.{Setup}
use Rattle.slots.specs.Pools.{Pool, over}
use Rattle.slots.specs.View.{part, put}
use Rattle.starting.specs.Starting.{start_in}
use Rattle.store.specs.Calls.{add_in, delete_in}
use Rattle.tick.specs.Tick.{Logged, tick_in}
use Rattle.time.specs.declared.Margin.{Margin}
use Rattle.time.specs.declared.UnixTime.{UnixTime}
use Rattle.windows.specs.Windowing.{retrieve_in}
use Rattle.wrapped.specs.Wrapped.{insert_wrapped_in}

-- the functions of the header but the fresh start, by what each is given beside setup, record, store, lens, rows and answer
pub data FaceRequest : Type 0 where
  -- the store's: `read` with the buffer that is lent, `part` with the bytes that the caller then writes himself
  store_add : List ℕ → FaceRequest
  store_read : ℕ → List ℕ → FaceRequest
  store_modify : ℕ → FaceRequest
  store_part : ℕ → List ℕ → FaceRequest
  store_delete store_has store_len : ℕ → FaceRequest
  -- the record's
  set_clock : UnixTime → FaceRequest
  enable disable : FaceRequest
  -- the schedule's; a window by has_from and from, has_to and to
  count : FaceRequest
  insert_wrapped : List ℕ → FaceRequest
  insert_unwrapped : UnixTime → List ℕ → FaceRequest
  insert_stored : UnixTime → ℕ → ℕ → FaceRequest
  window delete_window : Bool → UnixTime → Bool → UnixTime → FaceRequest
  reset : FaceRequest
  delete_by_id_keep delete_by_id : ℕ → FaceRequest
  -- the tick: the log that is lent, the limit, and whether packets are deleted
  tick : List ℕ → ℕ → Bool → FaceRequest

-- what is lent and stays between calls: the record's words, the store, its length table, the entry rows
pub record FaceLent : Type 0 where
  pub rec : List ℕ
  pub store : List ℕ
  pub lens : List ℕ
  pub rows : List ℕ

-- what a call answers: the number that it returns, and the answer's words and the buffer as they are afterwards
pub record FaceAnswer : Type 0 where
  pub number : ℕ
  pub words : List ℕ
  pub buffer : List ℕ

-- what the caller himself writes after `part`, where it returned 0: ys over the bytes of his store from the place that the answer's first word
-- names, as many as its second says. Fewer leave the rest, and what goes further is no part of the request
unfoldable pub written_at : ℕ → ℕ → List ℕ → List ℕ → List ℕ
written_at from n ys st = put from n (over (take n ys) (part from n st)) st

unfoldable pub caller_writes : FaceAnswer → List ℕ → List ℕ → List ℕ
caller_writes x ys st = unless (eqb x.number 0) st (written_at (word x.words 0) (word x.words 1) ys st)

-- a setup's words sw, an answer's words an and t are lent; x is answered and u left. What is not lent to a function is as it was
module _ (sw an : List ℕ) (t : FaceLent) (x : FaceAnswer) (u : FaceLent) where
  -- nothing but the answer is written
  pub record FaceLooks {A : Type 0} (o : Outcome A) : Type 0 where
    pub answer : Answers o an x.number x.words
    pub lent : u ≡ t
    pub buffer : x.buffer ≡ []

  -- the buffer of `read`
  pub record FaceReads (o : Outcome (List ℕ)) (buf : List ℕ) : Type 0 where
    pub read : BufferFaces o buf an x.number x.buffer x.words
    pub lent : u ≡ t

  -- `part`, and what the caller then writes
  pub record FaceParts (o : Outcome (Unit {0})) (ys : List ℕ) : Type 0 where
    pub answer : Answers o an x.number x.words
    pub lent : u ≡ record { rec = t.rec; store = caller_writes x ys t.store; lens = t.lens; rows = t.rows }
    pub buffer : x.buffer ≡ []

  -- store and length table
  pub record FaceStores (o : Outcome (List Pool)) : Type 0 where
    pub tables : StoreFaces sw o t.store t.lens an x.number u.store u.lens x.words
    pub rec : u.rec ≡ t.rec
    pub rows : u.rows ≡ t.rows
    pub buffer : x.buffer ≡ []

  -- the record
  pub record FaceRecords (o : Outcome Record) (written : Record → List ℕ) : Type 0 where
    pub words : RecordFaces o written t.rec an x.number u.rec x.words
    pub store : u.store ≡ t.store
    pub lens : u.lens ≡ t.lens
    pub rows : u.rows ≡ t.rows
    pub buffer : x.buffer ≡ []

  -- all four; of the rows the first k held entries
  pub record FaceSchedules (k : ℕ) (o : Outcome State) (written : State → List ℕ) : Type 0 where
    pub tables : ScheduleFaces sw k o written t.rec t.store t.lens t.rows an x.number
        u.rec u.store u.lens u.rows x.words
    pub buffer : x.buffer ≡ []

  -- and the log
  pub record FaceTicks (o : Outcome Logged) (written : State → List ℕ) (log : List ℕ) : Type 0 where
    pub tables : TickFaces sw (word t.rec 0) o written t.rec t.store t.lens t.rows log an x.number
        u.rec u.store u.lens u.rows x.buffer x.words

-- what a call of the store, of the record and of the schedule comes to
module _ (sw an : List ℕ) (t : FaceLent) where
  abbrev pub of_store : {A : Type 0} → (StoreSetup → List Pool → Outcome A) → Outcome A
  of_store call = store_call an sw t.store t.lens call

  abbrev pub of_record : (Record → Outcome Record) → Outcome Record
  of_record call = record_call an t.rec call

  abbrev pub of_schedule : {A : Type 0} → (Setup → State → Outcome A) → Outcome A
  of_schedule call = judged_call an sw t.rec t.store t.lens t.rows call

  abbrev pub of_start : UnixTime → Margin → Outcome State
  of_start clock margin =
      schedule_call an sw t.rec (λ su r. start_in su (length t.store) (length t.lens) (length t.rows) clock margin)

-- what a call of the schedule that changes no more of the record than the count promises
abbrev pub Counts : List ℕ → List ℕ → FaceLent → FaceAnswer → FaceLent → (Setup → State → Outcome State) → Type 0
Counts sw an t x u call = FaceSchedules sw an t x u (word t.rec 0) (of_schedule sw an t call) (count_written t.rec)

-- the promise of a request's function, with setup sw, answer an and t lent, allows the answer x and leaves u
unfoldable pub FaceCalls : List ℕ → List ℕ → FaceRequest → FaceLent → FaceAnswer → FaceLent → Type 0
FaceCalls sw an (store_add d) t x u = FaceStores sw an t x u (of_store sw an t (λ su ps. add_in su.spill ps d))
FaceCalls sw an (store_read a buf) t x u = FaceReads sw an t x u (of_store sw an t (λ su ps. read_in ps a buf)) buf
FaceCalls sw an (store_modify a) t x u = FaceLooks sw an t x u (of_store sw an t (λ su ps. packet_in ps a))
FaceCalls sw an (store_part a ys) t x u = FaceParts sw an t x u (of_store sw an t (part_in a)) ys
FaceCalls sw an (store_delete a) t x u = FaceStores sw an t x u (of_store sw an t (λ su ps. delete_in ps a))
FaceCalls sw an (store_has a) t x u = FaceLooks sw an t x u (of_store sw an t (λ su ps. has_in ps a))
FaceCalls sw an (store_len a) t x u = FaceLooks sw an t x u (of_store sw an t (λ su ps. len_in ps a))
FaceCalls sw an (set_clock c) t x u = FaceRecords sw an t x u (of_record sw an t (clock_in c)) (clock_written t.rec)
FaceCalls sw an enable t x u = FaceRecords sw an t x u (of_record sw an t (mark_in true)) (mark_written t.rec)
FaceCalls sw an disable t x u = FaceRecords sw an t x u (of_record sw an t (mark_in false)) (mark_written t.rec)
FaceCalls sw an count t x u = FaceLooks sw an t x u (of_schedule sw an t (λ su. count_in))
FaceCalls sw an (insert_wrapped p) t x u = Counts sw an t x u (λ su. insert_wrapped_in su p)
FaceCalls sw an (insert_unwrapped c p) t x u = Counts sw an t x u (λ su. insert_unwrapped_in su c p)
FaceCalls sw an (insert_stored c id a) t x u = Counts sw an t x u (λ su. insert_stored_in su c id a)
FaceCalls sw an (window f from g to) t x u = FaceLooks sw an t x u (of_schedule sw an t (λ su. retrieve_in (window_from f from g to)))
FaceCalls sw an (delete_window f from g to) t x u = Counts sw an t x u (λ su. delete_window_in (window_from f from g to))
FaceCalls sw an reset t x u =
    FaceSchedules sw an t x u (word t.rec 0) (of_schedule sw an t (λ su. reset_in)) (reset_written t.rec)
FaceCalls sw an (delete_by_id_keep id) t x u = Counts sw an t x u (λ su. delete_keeping_in id)
FaceCalls sw an (delete_by_id id) t x u = Counts sw an t x u (λ su. delete_by_id_in id)
FaceCalls sw an (tick log limit del) t x u =
    FaceTicks sw an t x u (of_schedule sw an t (λ su. tick_in limit del log)) (count_written t.rec) log

-- every function of the header: the fresh start, or a request's
pub data FaceCall : Type 0 where
  fresh : UnixTime → Margin → FaceCall
  request : FaceRequest → FaceCall

unfoldable pub FacePromised : List ℕ → List ℕ → FaceCall → FaceLent → FaceAnswer → FaceLent → Type 0
FacePromised sw an (fresh clock margin) t x u = FaceSchedules sw an t x u (word sw 2) (of_start sw an t clock margin) (all_written t.rec)
FacePromised sw an (request q) t x u = FaceCalls sw an q t x u

-- a request, and the answer's words that are lent with it
pub record Asked : Type 0 where
  pub request : FaceRequest
  pub answer : List ℕ

-- one call, and then what the rest says of what it left
pub record FaceThen (sw : List ℕ) (q : Asked) (t : FaceLent) (x : FaceAnswer) (rest : FaceLent → Type 0) : Type 0 where
  pub left : FaceLent
  pub call : FaceCalls sw q.answer q.request t x left
  pub others : rest left

-- calls one after another, each with the same setup and with what the call before left
unfoldable pub FaceRuns : List ℕ → List Asked → FaceLent → List FaceAnswer → FaceLent → Type 0
FaceRuns sw [] t [] u = u ≡ t
FaceRuns sw [] t (x ∷ xs) u = ⊥
FaceRuns sw (q ∷ qs) t [] u = ⊥
FaceRuns sw (q ∷ qs) t (x ∷ xs) u = FaceThen sw q t x (λ v. FaceRuns sw qs v xs u)

-- a fresh start that returned 0, over anything lent
pub record FaceBegins (sw : List ℕ) (clock : UnixTime) (margin : Margin) (t u : FaceLent) : Type 0 where
  pub lent : List ℕ
  pub answer : FaceAnswer
  pub starts : FacePromised sw lent (fresh clock margin) t answer u
  pub not_refused : answer.number ≡ 0

-- Each call of the C face, over words that are as many as they must be, is its request's call over what the words stand for; and so are calls one
-- after another.
use Prim.Native.Nat.{ℕ}
use Rattle.demands.specs.Calling.{Calls, Lent, Promised, Runs, StoreChanges}
use Rattle.demands.specs.Calling as D
use Rattle.face.specs.Face.{Answers, roomy}
use Rattle.face.specs.RecordFace.{clock_written, long_enough, mark_written}
use Rattle.face.specs.ScheduleFace.{count_written, reset_written}
use Rattle.face.specs.StoreFace.{part_in}
use Rattle.face_demands.proofs.FaceParting.{alike, part_tells, part_writes}
use Rattle.face_demands.specs.FaceCalling.{Asked, FaceAnswer, FaceCalls, FaceLent, FaceParts, FaceRequest, FaceRuns, count, delete_by_id, delete_by_id_keep, delete_window, disable, enable, insert_stored, insert_unwrapped, insert_wrapped, of_store, reset, set_clock, store_add, store_delete, store_has, store_len, store_modify, store_part, store_read, tick, window}
use Rattle.face_demands.specs.FaceDemands.{AllRoomy, FaceRunsStand, WordsStand}
use Rattle.face_demands.specs.FaceStanding.{ahead, part_at, request_of, stands_for, told_of, values_of}
use Rattle.face_laws.proofs.FaceCalls.{add_face, clock_face, count_face, delete_by_id_face, delete_face, delete_keeping_face, delete_window_face, disable_face, enable_face, has_face, insert_stored_face, insert_unwrapped_face, insert_wrapped_face, len_face, modify_face, read_face, reset_face, retrieve_face, tick_face}
use Rattle.face_laws.proofs.Wording.{stored_is}
use Rattle.face_laws.specs.Standing.{CallsBy, Counted, standing}
use Rattle.face_reading.specs.Reading.{record_from, setup_from, store_setup, well_counted, window_from}
use Rattle.face_words.specs.Padding.{answer_words, padded}
use Rattle.layout.specs.declared.Setup.{Setup as StoreSetup}
use Rattle.lookup.specs.Calls.{judging as store_judging, packet_in}
use Rattle.record.specs.declared.Record.{Record}
use Rattle.rules.specs.Papers.{Outcome, Paper, after, done, refused, says}
use Rattle.rules.specs.Tests.{unless}
use Rattle.schedule.specs.State.{State}
use Rattle.scheduler.specs.Steps.{Answer}
use Rattle.store.specs.Calls.{modify_in}
use Rattle.store_laws.proofs.WrittenThrough.{written_through}
use Rattle.tied.specs.Lending.{lending, told}
use lib.Dec.{eqb}
use lib.ListN.{drop, length, length-set, set}
use mathlib.Core.Bool.{Bool, false, true}
use mathlib.Core.List.{List, [], ◌++◌, ◌∷◌}
use mathlib.Core.Option.{Option, none}
use mathlib.Core.Path.{◌∙◌, ◌≡◌, ap, ap₂, refl, subst, sym}

-- a call is its request's over what the words stand for, and its answer is told; the record has its words again
record FaceStands (sw : List ℕ) (q : Asked) (t : FaceLent) (x : FaceAnswer) (u : FaceLent) : Type 0 where
  answer : Answer
  tells : x ≡ told_of sw q answer
  call : Calls (setup_from sw) (request_of q.request) (stands_for t) answer (stands_for u)
  rec : long_enough u.rec ≡ true

-- a record's words that are written are as many as they were
pub left_long : {A : Type 0} (o : Outcome A) (ws : List ℕ) (f : A → List ℕ) → ((y : A) → long_enough (f y) ≡ true) → long_enough ws ≡ true
    → long_enough (after o ws f) ≡ true
unfolding after
left_long (refused p) ws f g h = h
left_long (done vs y) ws f g h = g y

set_long : (ws : List ℕ) (i v : ℕ) → long_enough ws ≡ true → long_enough (set ws i v) ≡ true
set_long ws i v h = rw (length-set ws i v) h

values_plain : (su : StoreSetup) (q : FaceRequest) (p : Paper) → part_at q ≡ none → values_of su q p ≡ p.values
unfolding ahead unless
values_plain su q p e = go (eqb p.number 0) (part_at q) e
  where
    go : (b : Bool) (m : Option ℕ) → m ≡ none → unless b p.values (ahead su m p.values) ≡ p.values
    go true m e = rw e
    go false m e = refl

module _ (sw an : List ℕ) (t : FaceLent) (x : FaceAnswer) (u : FaceLent) (room : roomy an ≡ true) (well : well_counted sw ≡ true)
    (long : long_enough t.rec ≡ true) where
  counted : Counted an sw t.rec
  counted = record { answer = room; setup = well; rec = long }

  abbrev Stands : FaceRequest → Type 0
  Stands q = FaceStands sw (record { request = q; answer = an }) t x u

  -- the call's promise over what is lent, with a buffer and what is left
  abbrev By : FaceRequest → List ℕ → Lent → Type 0
  By q b v = CallsBy (setup_from sw) (D.request (request_of q)) (stands_for t) an x.number x.words b v

  by : (q : FaceRequest) → part_at q ≡ none → long_enough u.rec ≡ true → (b : List ℕ) (v : Lent) → x.buffer ≡ b → stands_for u ≡ v → By q b v
      → Stands q
  unfolding Promised
  by q e l b v f g c =
      record {
        answer = told c.paper b;
        tells = λ i.
            record {
              number = c.number i;
              words =
                  (c.words ∙ ap (λ vs. padded vs ++ drop answer_words an) (sym (values_plain (store_setup sw) q c.paper e))) i;
              buffer = f i;
            };
        call = subst (λ (w : Lent). Calls (setup_from sw) (request_of q) (stands_for t) (told c.paper b) w) (sym g) c.promised;
        rec = l;
      }

  -- by what a call leaves: all as it was, all but the store and its lengths, all but the record, anything
  stays : (q : FaceRequest) → part_at q ≡ none → u ≡ t → (b : List ℕ) → x.buffer ≡ b → By q b (stands_for t) → Stands q
  stays q e l b f c = by q e (subst (λ (v : FaceLent). long_enough v.rec ≡ true) (sym l) long) b (stands_for t) f (ap stands_for l) c

  stores : (q : FaceRequest) → part_at q ≡ none → u.rec ≡ t.rec → u.rows ≡ t.rows → x.buffer ≡ []
      → By q [] (lending (record_from t.rec) u.store u.lens t.rows) → Stands q
  stores q e r o f c =
      by q e (subst (λ (ws : List ℕ). long_enough ws ≡ true) (sym r) long) [] _ f
      (λ i. standing (r i) u.store u.lens (o i)) c

  records : (q : FaceRequest) → part_at q ≡ none → long_enough u.rec ≡ true → u.store ≡ t.store → u.lens ≡ t.lens → u.rows ≡ t.rows
      → x.buffer ≡ [] → By q [] (standing u.rec t.store t.lens t.rows) → Stands q
  records q e l s m o f c = by q e l [] _ f (λ i. standing u.rec (s i) (m i) (o i)) c

  -- the record's words afterwards
  counts_long : (o : Outcome State) → u.rec ≡ after o t.rec (count_written t.rec) → long_enough u.rec ≡ true
  counts_long o e = rw e (left_long o t.rec (count_written t.rec) (λ y. set_long t.rec 0 (length y.entries) long) long)

  reset_long : (o : Outcome State) → u.rec ≡ after o t.rec (reset_written t.rec) → long_enough u.rec ≡ true
  reset_long o e =
      rw e
      (left_long o t.rec (reset_written t.rec)
      (λ y. set_long (set t.rec 0 (length y.entries)) 5 0 (set_long t.rec 0 (length y.entries) long)) long)

  mark_long : (o : Outcome Record) → u.rec ≡ after o t.rec (mark_written t.rec) → long_enough u.rec ≡ true
  mark_long o e = rw e (left_long o t.rec (mark_written t.rec) (λ y. set_long t.rec 5 _ long) long)

  clock_long : (o : Outcome Record) → u.rec ≡ after o t.rec (clock_written t.rec) → long_enough u.rec ≡ true
  clock_long o e =
      rw e (left_long o t.rec (clock_written t.rec) (λ y. set_long (set t.rec 1 _) 2 _ (set_long t.rec 1 _ long)) long)

  -- `part` is modify, with what the caller writes
  part_stands : (a : ℕ) (ys : List ℕ) → FaceParts sw an t x u (of_store sw an t (part_in a)) ys → Stands (store_part a ys)
  unfolding Calls request_of part_at ahead
  part_stands a ys c =
      let su = store_setup sw in
      let o = store_judging su t.store t.lens (part_in a su) in
      let k = store_judging su t.store t.lens (λ ps. packet_in ps a) in
      let g =
      subst (λ (o : Outcome (Unit {0})). Answers o an x.number x.words) (stored_is an sw t.store t.lens room well (part_in a))
      c.answer in
      let m = alike su t.store t.lens a in
      let e = part_tells su t.store a an x room o k m g in
      let w = part_writes su t.store a an x room o k m g ys in
      record {
        answer = told (says k) [];
        tells = λ i. record { number = e.0 i; words = e.1 i; buffer = c.buffer i };
        call =
            subst (λ (v : Lent). StoreChanges (setup_from sw) (stands_for t) (told (says k) []) v (λ ps. modify_in ps a ys))
            (sym (ap stands_for c.lent ∙ ap (λ (st : List ℕ). lending (record_from t.rec) st t.lens t.rows) w))
            (record { tables = written_through su t.store t.lens a ys; rec = refl; rows = refl; buffer = refl });
        rec = subst (λ (v : FaceLent). long_enough v.rec ≡ true) (sym c.lent) long;
      }

  stands : (q : FaceRequest) → FaceCalls sw an q t x u → Stands q
  unfolding FaceCalls request_of part_at
  stands (store_add d) c =
      stores (store_add d) refl c.rec c.rows c.buffer
      (add_face an sw t.store t.lens t.rows (record_from t.rec) room well _ _ d _ _ c.tables)
  stands (store_read a buf) c =
      stays (store_read a buf) refl c.lent x.buffer refl
      (read_face an sw t.store t.lens t.rows (record_from t.rec) room well _ _ a buf _ c.read)
  stands (store_modify a) c =
      stays (store_modify a) refl c.lent [] c.buffer
      (modify_face an sw t.store t.lens t.rows (record_from t.rec) room well _ _ a c.answer)
  stands (store_part a ys) c = part_stands a ys c
  stands (store_delete a) c =
      stores (store_delete a) refl c.rec c.rows c.buffer
      (delete_face an sw t.store t.lens t.rows (record_from t.rec) room well _ _ a _ _ c.tables)
  stands (store_has a) c =
      stays (store_has a) refl c.lent [] c.buffer
      (has_face an sw t.store t.lens t.rows (record_from t.rec) room well _ _ a c.answer)
  stands (store_len a) c =
      stays (store_len a) refl c.lent [] c.buffer
      (len_face an sw t.store t.lens t.rows (record_from t.rec) room well _ _ a c.answer)
  stands (set_clock k) c =
      records (set_clock k) refl (clock_long _ c.words.words) c.store c.lens c.rows c.buffer
      (clock_face an t.rec room long (setup_from sw) t.store t.lens t.rows _ _ _ k c.words)
  stands enable c =
      records enable refl (mark_long _ c.words.words) c.store c.lens c.rows c.buffer
      (enable_face an t.rec room long (setup_from sw) t.store t.lens t.rows _ _ _ c.words)
  stands disable c =
      records disable refl (mark_long _ c.words.words) c.store c.lens c.rows c.buffer
      (disable_face an t.rec room long (setup_from sw) t.store t.lens t.rows _ _ _ c.words)
  stands count c =
      stays count refl c.lent [] c.buffer (count_face an sw t.rec t.store t.lens t.rows counted _ _ c.answer)
  stands (insert_wrapped p) c =
      by (insert_wrapped p) refl (counts_long _ c.tables.words) [] (stands_for u) c.buffer refl
      (insert_wrapped_face an sw t.rec t.store t.lens t.rows counted _ _ _ _ _ _ p c.tables)
  stands (insert_unwrapped k p) c =
      by (insert_unwrapped k p) refl (counts_long _ c.tables.words) [] (stands_for u) c.buffer refl
      (insert_unwrapped_face an sw t.rec t.store t.lens t.rows counted _ _ _ _ _ _ k p c.tables)
  stands (insert_stored k id a) c =
      by (insert_stored k id a) refl (counts_long _ c.tables.words) [] (stands_for u) c.buffer refl
      (insert_stored_face an sw t.rec t.store t.lens t.rows counted _ _ _ _ _ _ k id a c.tables)
  stands (window f from g to) c =
      stays (window f from g to) refl c.lent [] c.buffer
      (retrieve_face an sw t.rec t.store t.lens t.rows counted _ _ (window_from f from g to) c.answer)
  stands (delete_window f from g to) c =
      by (delete_window f from g to) refl (counts_long _ c.tables.words) [] (stands_for u) c.buffer refl
      (delete_window_face an sw t.rec t.store t.lens t.rows counted _ _ _ _ _ _ (window_from f from g to) c.tables)
  stands reset c =
      by reset refl (reset_long _ c.tables.words) [] (stands_for u) c.buffer refl
      (reset_face an sw t.rec t.store t.lens t.rows counted _ _ _ _ _ _ c.tables)
  stands (delete_by_id_keep id) c =
      by (delete_by_id_keep id) refl (counts_long _ c.tables.words) [] (stands_for u) c.buffer refl
      (delete_keeping_face an sw t.rec t.store t.lens t.rows counted _ _ _ _ _ _ id c.tables)
  stands (delete_by_id id) c =
      by (delete_by_id id) refl (counts_long _ c.tables.words) [] (stands_for u) c.buffer refl
      (delete_by_id_face an sw t.rec t.store t.lens t.rows counted _ _ _ _ _ _ id c.tables)
  stands (tick log limit del) c =
      by (tick log limit del) refl (counts_long _ c.tables.tables.words) x.buffer (stands_for u) refl refl
      (tick_face an sw t.rec t.store t.lens t.rows counted _ _ _ _ _ _ limit del log _ c.tables)

all_stand : (sw : List ℕ) (qs : List Asked) (t : FaceLent) (xs : List FaceAnswer) (u : FaceLent) → well_counted sw ≡ true
    → long_enough t.rec ≡ true → AllRoomy qs → FaceRuns sw qs t xs u → FaceRunsStand sw qs t xs u
unfolding FaceRuns Runs
all_stand sw [] t [] u w l a r = record { answers = []; told = refl; runs = ap stands_for r }
all_stand sw [] t (x ∷ xs) u w l a r = absurd r
all_stand sw (q ∷ qs) t [] u w l a r = absurd r
all_stand sw (q ∷ qs) t (x ∷ xs) u w l a r =
    let f = stands sw q.answer t x r.left a.0 w l q.request r.call in
    let h = all_stand sw qs r.left xs u w f.rec a.1 r.others in
    record {
      answers = f.answer ∷ h.answers;
      told = ap₂ ◌∷◌ f.tells h.told;
      runs = record { left = stands_for r.left; call = f.call; others = h.runs };
    }

pub words_stand : WordsStand
unfolding WordsStand
words_stand sw qs t xs u w l a r = all_stand sw qs t xs u w l a r

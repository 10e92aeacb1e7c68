-- Every promise of the C face can be kept, whatever is lent, of one call and of any number of calls.
use Prim.Native.Nat.{ℕ}
use Rattle.face.specs.Face.{answered, answering}
use Rattle.face.specs.ScheduleFace.{all_written, count_written, schedule_call}
use Rattle.face_demands.specs.FaceCalling.{Asked, FaceAnswer, FaceCalls, FaceLent, FaceLooks, FacePromised, FaceRecords, FaceRequest, FaceRuns, FaceSchedules, FaceStores, caller_writes, count, delete_by_id, delete_by_id_keep, delete_window, disable, enable, fresh, insert_stored, insert_unwrapped, insert_wrapped, of_schedule, of_start, of_store, request, reset, set_clock, store_add, store_delete, store_has, store_len, store_modify, store_part, store_read, tick, window}
use Rattle.face_demands.specs.FaceDemands.{FaceResult, FaceRunsExist, FaceRunsTo, FaceStartsExist, SomeFaceOutcome}
use Rattle.face_reading.specs.Reading.{store_setup, word}
use Rattle.face.specs.StoreFace.{part_in}
use Rattle.reading.specs.Reading.{read_in}
use Rattle.record.specs.declared.Record.{Record}
use Rattle.rows.specs.Entries.{relaid}
use Rattle.face_words.specs.Padding.{answer_words}
use Rattle.rules.specs.Papers.{Outcome, after, says}
use Rattle.rules.specs.Tests.{unless}
use Rattle.starting.specs.Starting.{start_in}
use Rattle.schedule.specs.State.{State}
use Rattle.slots.specs.Pools.{Pool}
use Rattle.slots.specs.View.{lens_with, store_with}
use Rattle.tick.specs.Promise.{left as through}
use Rattle.tick.specs.Tick.{Logged, tick_in}
use lib.ListN.{replicate}
use mathlib.Core.List.{List, [], ◌∷◌}
use mathlib.Core.Path.{refl}

module _ (sw an : List ℕ) (t : FaceLent) where
  abbrev tells : {A : Type 0} → Outcome A → List ℕ → FaceAnswer
  tells o b = record { number = (says o).number; words = answered an (says o).values; buffer = b }

  abbrev leaves : ℕ → Outcome State → (State → List ℕ) → FaceLent
  leaves k o f =
      record {
        rec = after o t.rec f;
        store = after o t.store (λ s. store_with (store_setup sw) t.store s.pools);
        lens = after o t.lens (λ s. lens_with (store_setup sw) t.lens s.pools);
        rows = after o t.rows (λ s. relaid t.rows k s.entries);
      }

  looks : {A : Type 0} (o : Outcome A) → FaceLooks sw an t (tells o []) t o
  looks o = record { answer = record { number = refl; words = refl }; lent = refl; buffer = refl }

  stores : (o : Outcome (List Pool))
      → FaceStores sw an t (tells o [])
      (record {
        rec = t.rec;
        store = after o t.store (store_with (store_setup sw) t.store);
        lens = after o t.lens (lens_with (store_setup sw) t.lens);
        rows = t.rows;
      })
      o
  stores o =
      record {
        tables = record { answer = record { number = refl; words = refl }; store = refl; lens = refl };
        rec = refl;
        rows = refl;
        buffer = refl;
      }

  records : (o : Outcome Record) (f : Record → List ℕ)
      → FaceRecords sw an t (tells o []) (record { rec = after o t.rec f; store = t.store; lens = t.lens; rows = t.rows }) o f
  records o f =
      record {
        words = record { answer = record { number = refl; words = refl }; words = refl };
        store = refl;
        lens = refl;
        rows = refl;
        buffer = refl;
      }

  schedules : (k : ℕ) (o : Outcome State) (f : State → List ℕ) → FaceSchedules sw an t (tells o []) (leaves k o f) k o f
  schedules k o f =
      record {
        tables = record { answer = record { number = refl; words = refl }; words = refl; store = refl; lens = refl; rows = refl };
        buffer = refl;
      }

  result : (q : FaceRequest) → FaceResult sw an (request q) t
  unfolding FaceCalls FacePromised
  result (store_add d) = record { answer = _; left = _; call = stores _ }
  result (store_read a buf) =
      let o = of_store sw an t (λ su ps. read_in ps a buf) in
      record {
        answer = tells o (after o buf (λ b. b));
        left = t;
        call = record { read = record { answer = record { number = refl; words = refl }; buffer = refl }; lent = refl };
      }
  result (store_modify a) = record { answer = _; left = _; call = looks _ }
  result (store_part a ys) =
      let x = tells (of_store sw an t (part_in a)) [] in
      record {
        answer = x;
        left = record { rec = t.rec; store = caller_writes x ys t.store; lens = t.lens; rows = t.rows };
        call = record { answer = record { number = refl; words = refl }; lent = refl; buffer = refl };
      }
  result (store_delete a) = record { answer = _; left = _; call = stores _ }
  result (store_has a) = record { answer = _; left = _; call = looks _ }
  result (store_len a) = record { answer = _; left = _; call = looks _ }
  result (set_clock k) = record { answer = _; left = _; call = records _ _ }
  result enable = record { answer = _; left = _; call = records _ _ }
  result disable = record { answer = _; left = _; call = records _ _ }
  result count = record { answer = _; left = _; call = looks _ }
  result (insert_wrapped p) = record { answer = _; left = _; call = schedules _ _ _ }
  result (insert_unwrapped k p) = record { answer = _; left = _; call = schedules _ _ _ }
  result (insert_stored k id a) = record { answer = _; left = _; call = schedules _ _ _ }
  result (window f from g to) = record { answer = _; left = _; call = looks _ }
  result (delete_window f from g to) = record { answer = _; left = _; call = schedules _ _ _ }
  result reset = record { answer = _; left = _; call = schedules _ _ _ }
  result (delete_by_id_keep id) = record { answer = _; left = _; call = schedules _ _ _ }
  result (delete_by_id id) = record { answer = _; left = _; call = schedules _ _ _ }
  result (tick log limit del) =
      let o : Outcome Logged = of_schedule sw an t (λ su. tick_in limit del log) in
      record {
        answer = tells (through o) (after o log (λ y. y.log));
        left = leaves (word t.rec 0) (through o) (count_written t.rec);
        call =
            record {
              tables =
                  record {
                    tables = record { answer = record { number = refl; words = refl }; words = refl; store = refl; lens = refl; rows = refl };
                    log = refl;
                  };
            };
      }

pub some_face_outcome : SomeFaceOutcome
unfolding SomeFaceOutcome FacePromised
some_face_outcome sw an (fresh clock margin) t = record { answer = _; left = _; call = schedules sw an t _ _ _ }
some_face_outcome sw an (request q) t = result sw an t q

run_of : (sw : List ℕ) (qs : List Asked) (t : FaceLent) → FaceRunsTo sw qs t
unfolding FacePromised FaceRuns
run_of sw [] t = record { answers = []; end = t; runs = refl }
run_of sw (q ∷ qs) t =
    let r = result sw q.answer t q.request in
    let k = run_of sw qs r.left in
    record { answers = r.answer ∷ k.answers; end = k.end; runs = record { left = r.left; call = r.call; others = k.runs } }

pub face_runs_exist : FaceRunsExist
unfolding FaceRunsExist
face_runs_exist sw qs t = run_of sw qs t

pub face_starts_exist : FaceStartsExist
unfolding FaceStartsExist FacePromised schedule_call answering start_in unless says
face_starts_exist sw clock margin t w l a b c d =
    let an : List ℕ = replicate answer_words 0 in
    let o : Outcome State = of_start sw an t clock margin in
    record {
      fresh = leaves sw an t (word sw 2) o (all_written t.rec);
      begins =
          record {
            lent = an;
            answer = tells sw an t o [];
            starts = schedules sw an t (word sw 2) o (all_written t.rec);
            not_refused = rw (w, l, a, b, c, d);
          };
    }

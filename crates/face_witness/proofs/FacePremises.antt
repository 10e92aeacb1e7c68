-- The premises of the demands over sequences of C calls are met, and what demand 3 says there.
use Prim.Native.Nat.{◌<◌, ◌≤◌, suc, zero, ℕ}
use Rattle.counting.specs.Counting.{count_in}
use Rattle.face.specs.Face.{answered, answering}
use Rattle.face.specs.ScheduleFace.{schedule_call}
use Rattle.face_demands.proofs.FaceKeepable.{face_runs_exist}
use Rattle.face_demands.proofs.FaceSequences.{face_room_changes_no_answer, face_same_as_the_model}
use Rattle.face_demands.specs.FaceCalling.{FaceAnswer, FaceBegins, FacePromised, FaceRequest, FaceRuns}
use Rattle.face_demands.specs.FaceDemands.{AllRoomy, FaceAnswersAlike, FaceRoomChangesNoAnswer, FaceRunsExist, FaceRunsTo, FaceSameAsTheModel, as_answers}
use Rattle.face_demands.specs.FaceStanding.{ahead, all_told, asks, part_at, request_of, requests_of}
use Rattle.face_reading.specs.Reading.{column, setup_from, switched, well_counted}
use Rattle.face_witness.specs.FaceGiven.{answers, before, before', calls, fresh, fresh', kept, kept_answers, large, none, secs, small}
use Rattle.face_witness.specs.FaceWitness.{FaceAlikeThere, FaceMet}
use Rattle.face_words.specs.Padding.{padded}
use Rattle.gate.specs.Entering.{enter, insert_stored_in, timed}
use Rattle.layout.specs.Judge.{buffers_ok as store_buffers_ok, last_size, setup_ok as store_setup_ok}
use Rattle.layout.specs.Layout.{bytes_before, rows_before, size_at, slots_at}
use Rattle.release_log.specs.Log.{log_bytes, offsets, record_bytes, records, total}
use Rattle.lookup.specs.Calls.{if_held, if_named}
use Rattle.reading.specs.Reading.{read_in}
use Rattle.record.specs.Record.{clock_in}
use Rattle.room.specs.Room.{EveryNamed, Roomier, Spills, addresses, strike, struck}
use Rattle.rows.specs.Entries.{pack, relaid}
use Rattle.rules.specs.Lists.{each}
use Rattle.rules.specs.Papers.{after, says, through}
use Rattle.rules.specs.Tests.{all_below, all_of, unless}
use Rattle.schedule.specs.Judge.{buffers_ok, setup_ok}
use Rattle.scheduler.specs.Fits.{AllOfBytes}
use Rattle.scheduler.specs.Steps.{carried, looked, run, step, ticked}
use Rattle.slots.specs.Pools.{choose, find_at, over}
use Rattle.slots.specs.View.{lens_with, pool_bytes, pool_lens, store_with}
use Rattle.starting.specs.Starting.{fresh_state, start_in}
use Rattle.store.specs.Calls.{add_in, fresh_pools, modify_in, place}
use Rattle.store.specs.Edits.{edit_at}
use Rattle.table.specs.Before.{below}
use Rattle.table_edit.specs.Edits.{insert_sorted}
use Rattle.tick.specs.Tick.{first_lacks, handed_out, tick_in}
use Rattle.turn.specs.Turns.{handout, leave}
use Rattle.witness.proofs.Deciding.{all_of_bytes, every_named}
use Rattle.words.specs.Words.{bytes_of}
use lib.ListN.{replicate}
use mathlib.Core.Bool.{false}
use mathlib.Core.List.{List, []}
use mathlib.Core.Path.{◌∙◌, ◌≡◌, refl, subst}
use native.Mathlib.Omega.{arith}

begins : FaceBegins small (secs 0) none before fresh
unfolding FacePromised schedule_call answering answered padded well_counted column switched start_in unless setup_ok store_setup_ok buffers_ok
    store_buffers_ok all_of all_below last_size bytes_before rows_before says after fresh_pools each store_with lens_with pool_bytes pool_lens
    relaid pack
begins =
    record {
      lent = replicate 8 0;
      answer = record { number = 0; words = replicate 8 0; buffer = [] };
      starts =
          record {
            tables = record { answer = record { number = refl; words = refl }; words = refl; store = refl; lens = refl; rows = refl };
            buffer = refl;
          };
      not_refused = refl;
    }

begins_larger : FaceBegins large (secs 0) none before' fresh'
unfolding FacePromised schedule_call answering answered padded well_counted column switched start_in unless setup_ok store_setup_ok buffers_ok
    store_buffers_ok all_of all_below last_size bytes_before rows_before says after fresh_pools each store_with lens_with pool_bytes pool_lens
    relaid pack
begins_larger =
    record {
      lent = replicate 8 0;
      answer = record { number = 0; words = replicate 8 0; buffer = [] };
      starts =
          record {
            tables = record { answer = record { number = refl; words = refl }; words = refl; store = refl; lens = refl; rows = refl };
            buffer = refl;
          };
      not_refused = refl;
    }

all_roomy : AllRoomy calls
all_roomy = (refl, (refl, (refl, (refl, (refl, (refl, (refl, (refl, (refl, (refl, tt))))))))))

named : EveryNamed (setup_from small) (requests_of calls)
unfolding addresses request_of column each
named = every_named (setup_from small) (requests_of calls) refl

bytes : AllOfBytes (requests_of calls)
unfolding request_of
bytes = all_of_bytes (requests_of calls) refl

more : (k : ℕ) → k < 2 → slots_at (setup_from small).store k ≤ slots_at (setup_from large).store k
unfolding column each
more zero l = omega arith
more (suc zero) l = omega arith
more (suc (suc k)) l = absurd (omega arith)

same : (k : ℕ) → size_at (setup_from large).store k ≡ size_at (setup_from small).store k
unfolding column each
same k = refl

roomier : Roomier (setup_from small) (setup_from large)
roomier = record { same_pools = refl; same_sizes = λ k l. same k; more_slots = more; more_entries = omega arith }

spills : Spills false false (setup_from small) (setup_from large)
unfolding switched
spills = record { first = refl; second = refl }

a_run : FaceRunsTo small calls fresh
unfolding FaceRunsExist
a_run = face_runs_exist small calls fresh

answered_as : all_told small calls (run (setup_from small) (requests_of calls) (fresh_state (setup_from small) (secs 0) none)).answers ≡ answers
unfolding add_in after ahead all_below all_of below bytes_before bytes_of carried choose clock_in column count_in each edit_at enter find_at
    first_lacks
    fresh_pools handed_out handout if_held if_named insert_sorted insert_stored_in leave log_bytes looked modify_in offsets over padded part_at
    place read_in record_bytes records request_of run says step switched through tick_in ticked timed total unless
answered_as = refl

runs : FaceRuns small calls fresh answers a_run.end
unfolding FaceSameAsTheModel
runs =
    subst (λ (xs : List FaceAnswer). FaceRuns small calls fresh xs a_run.end)
    ((face_same_as_the_model small (secs 0) none before fresh calls a_run.answers a_run.end begins all_roomy bytes a_run.runs).answers
    ∙ answered_as)
    a_run.runs

pub face_met : FaceMet
face_met =
    record {
      begins = begins;
      roomy = all_roomy;
      named = named;
      bytes = bytes;
      end = a_run.end;
      runs = runs;
      roomier = roomier;
      spills = spills;
      begins_larger = begins_larger;
    }

calls_left : strike (as_answers answers) (asks calls) ≡ asks kept
unfolding strike struck
calls_left = refl

answers_left : strike (as_answers answers) answers ≡ kept_answers 4
unfolding strike struck
answers_left = refl

-- what the larger answers
larger_run : FaceRunsTo large kept fresh'
unfolding FaceRunsExist
larger_run = face_runs_exist large kept fresh'

kept_bytes : AllOfBytes (requests_of kept)
unfolding request_of
kept_bytes = all_of_bytes (requests_of kept) refl

larger_as : all_told large kept (run (setup_from large) (requests_of kept) (fresh_state (setup_from large) (secs 0) none)).answers ≡ kept_answers 8
unfolding add_in after ahead all_below all_of below bytes_before bytes_of carried choose clock_in column count_in each edit_at enter find_at
    first_lacks
    fresh_pools handed_out handout if_held if_named insert_sorted insert_stored_in leave log_bytes looked modify_in offsets over padded part_at
    place read_in record_bytes records request_of run says step switched through tick_in ticked timed total unless
larger_as = refl

larger_runs : FaceRuns large kept fresh' (kept_answers 8) larger_run.end
unfolding FaceSameAsTheModel
larger_runs =
    subst (λ (xs : List FaceAnswer). FaceRuns large kept fresh' xs larger_run.end)
    ((face_same_as_the_model large (secs 0) none before' fresh' kept larger_run.answers larger_run.end begins_larger
    (refl, (refl, (refl, (refl, (refl, (refl, (refl, (refl, tt)))))))) kept_bytes larger_run.runs).answers
    ∙ larger_as)
    larger_run.runs

pub face_alike : FaceAlikeThere
unfolding FaceRoomChangesNoAnswer
face_alike =
    record {
      calls_left = calls_left;
      answers_left = answers_left;
      alike =
          subst (λ (rs : List FaceRequest). FaceAnswersAlike large rs fresh' (kept_answers 4)) calls_left
          (subst (λ (xs : List FaceAnswer). FaceAnswersAlike large (strike (as_answers answers) (asks calls)) fresh' xs) answers_left
          (face_room_changes_no_answer false small large (secs 0) none calls before fresh a_run.end before' fresh' answers roomier spills named
          all_roomy bytes begins runs begins_larger));
      end = larger_run.end;
      runs = larger_runs;
    }

-- Reset and fresh start over words: what they write of the record, and their promises.
use Prim.Native.Nat.{◌≤◌, ℕ}
use Rattle.deletions.specs.Deleting.{clear_in, reset_in}
use Rattle.record.specs.declared.Record.{Record}
use Rattle.rules.specs.Papers.{Outcome, Paper, after, judged_by, no, refused, says}
use Rattle.rules.specs.Tests.{unless}
use Rattle.schedule.specs.Judge.{judging, setup_ok}
use Rattle.schedule.specs.Promise.{Writes}
use Rattle.starting.specs.Starting.{Starts, start_in}
use Rattle.schedule.specs.State.{State, record_of}
use Rattle.schedule.specs.declared.Setup.{Setup}
use Rattle.lookup.specs.Refusals.{bit}
use Rattle.rows.specs.Entries.{relaid}
use Rattle.time.specs.declared.Margin.{Margin}
use Rattle.time.specs.declared.UnixTime.{UnixTime}
use Rattle.face.proofs.ScheduleCalls.{carries, faces_done, stands_count, worded_is}
use Rattle.face.proofs.Writing.{Ends, ends_done, ends_unless, written_after}
use Rattle.face_reading.specs.Inside.{ReadsSetup, Stands}
use Rattle.face_words.specs.Inside.{eight, record_set, words_of, written_if}
use Rattle.face_reading.specs.Reading.{record_from, word}
use Rattle.face.specs.ScheduleFace.{ScheduleFaces, all_written, judged_call, reset_written, schedule_call}
use Rattle.face_words.specs.declared.Words.{Words}
use lib.ListN.{drop, length, set}
use lib.Seq.{set-get_or}
use mathlib.Core.Bool.{false}
use mathlib.Core.List.{List, [], ◌++◌}
use mathlib.Core.Path.{◌∙◌, ◌≡◌, ap, refl}

-- of the record's words: the count and the mark after a reset, and nothing of a refusal
reset_ends : (su : Setup) (r : Record) (st le ro : List ℕ) → Ends (λ s. Unit {0}) (judging su r st le ro reset_in)
unfolding judging judged_by reset_in clear_in
reset_ends su r st le ro = ends_unless _ _ 0 _ (ends_unless _ _ 1 _ (ends_unless _ _ 2 _ (ends_done _ _ _ tt)))

reset_written_lem : (rw₀ : List ℕ) (r r' : Record) (o : Outcome State) (p : Paper) (w : Words) (rw' : List ℕ) → r.count ≡ word rw₀ 0
    → Ends (λ s. Unit {0}) o → r' ≡ after o r record_of → p ≡ says o → w ≡ words_of p
    → rw' ≡ written_if w.number (set (set rw₀ 0 r'.count) 5 (bit false)) (set rw₀ 0 r'.count) → rw' ≡ after o rw₀ (reset_written rw₀)
unfolding after
reset_written_lem rw₀ r r' o p w rw' c g x q e k =
    written_after (λ s. Unit {0}) (λ v. set (set rw₀ 0 (after v r record_of).count) 5 0) (λ v. set rw₀ 0 (after v r record_of).count) rw₀
    (reset_written rw₀) (λ vs s u. refl) (λ v. rw c (set-get_or rw₀ 0 0)) o p w rw' g q e (rw x at k)

pub resets : {an sw rw₀ st le ro : List ℕ} {su : Setup} {r r' : Record} {p : Paper} {w : Words} {n : ℕ} {rw' st' le' ro' an' : List ℕ} → 8 ≤ length an
    → ReadsSetup sw su → 6 ≤ length rw₀ → Stands (record_from rw₀) r → Writes su r st le ro (judging su r st le ro reset_in) p r' st' le' ro'
    → w ≡ words_of p → n ≡ w.number → an' ≡ eight w.values ++ drop 8 an
    → rw' ≡ written_if w.number (set (set rw₀ 0 r'.count) 5 (bit false)) (set rw₀ 0 r'.count)
    → ScheduleFaces sw (word rw₀ 0) (judged_call an sw rw₀ st le ro (λ su. reset_in)) (reset_written rw₀) rw₀ st le ro an n rw' st' le' ro' an'
resets {rw₀ = rw₀} {st} {le} {ro} {su} {r} {r'} {p} {w} {rw' = rw'} h s l t x e i j m =
    carries (λ v. reset_in) h s l t x e i j
    (reset_written_lem rw₀ r r' (judging su r st le ro reset_in) p w rw' (stands_count rw₀ r t) (reset_ends su r st le ro) x.next x.answer e m)

-- all six words after a fresh start
all_written_lem : (rw₀ : List ℕ) (r r' : Record) (o : Outcome State) (p : Paper) (w : Words) (rw' : List ℕ) → Ends (λ s. Unit {0}) o
    → r' ≡ after o r record_of → p ≡ says o → w ≡ words_of p → rw' ≡ written_if w.number (record_set rw₀ r') rw₀ → rw' ≡ after o rw₀ (all_written rw₀)
unfolding after
all_written_lem rw₀ r r' o p w rw' g x q e k =
    written_after (λ s. Unit {0}) (λ v. record_set rw₀ (after v r record_of)) (λ v. rw₀) rw₀ (all_written rw₀) (λ vs s u. refl) (λ v. refl)
    o p w rw' g q e (rw x at k)

module _ (st le ro : List ℕ) (clock : UnixTime) (margin : Margin) where
  abbrev pub start_by : Setup → Record → Outcome State
  start_by su r = start_in su (length st) (length le) (length ro) clock margin

  start_bad : (su : Setup) (r : Record) → setup_ok su ≡ false → start_by su r ≡ refused (no 1 [])
  unfolding start_in unless
  start_bad su r e = rw e

  start_ends : (su : Setup) (r : Record) → Ends (λ s. Unit {0}) (start_by su r)
  unfolding start_in
  start_ends su r = ends_unless _ _ 0 _ (ends_unless _ _ 1 _ (ends_unless _ _ 3 _ (ends_done _ _ _ tt)))

starts : {an sw rw₀ st le ro : List ℕ} (t : UnixTime) (m : Margin) {su : Setup} {r r' : Record} {p : Paper} {w : Words} {n : ℕ}
    {rw' st' le' ro' an' : List ℕ} → 8 ≤ length an → ReadsSetup sw su → 6 ≤ length rw₀
    → Starts su r st le ro (start_by st le ro t m su r) p r' st' le' ro'
    → w ≡ words_of p → n ≡ w.number → an' ≡ eight w.values ++ drop 8 an → rw' ≡ written_if w.number (record_set rw₀ r') rw₀
    → ScheduleFaces sw (word sw 2) (schedule_call an sw rw₀ (start_by st le ro t m)) (all_written rw₀) rw₀ st le ro an n rw' st' le' ro' an'
starts {sw = sw} {rw₀} {st} {le} {ro} t m {su} {r} {r'} {p} {w} {rw' = rw'} h s l x e i j k =
    faces_done (start_by st le ro t m) r h s
    (worded_is sw rw₀ (start_by st le ro t m) (start_bad st le ro t m) r (λ v. refl) su s l) x.answer e i j
    (all_written_lem rw₀ r r' (start_by st le ro t m su r) p w rw' (start_ends st le ro t m su r) x.next x.answer e k)
    x.store x.lens (x.rows ∙ ap (λ b. after (start_by st le ro t m su r) ro (λ v. relaid ro b v.entries)) s.entries)

-- the same, for a clock made from C's parameters
pub starts_at : {an sw rw₀ st le ro : List ℕ} {x y : UnixTime} (m : Margin) → x ≡ y → {su : Setup} {r r' : Record} {p : Paper} {w : Words} {n : ℕ}
    {rw' st' le' ro' an' : List ℕ} → 8 ≤ length an → ReadsSetup sw su → 6 ≤ length rw₀
    → Starts su r st le ro (start_by st le ro x m su r) p r' st' le' ro'
    → w ≡ words_of p → n ≡ w.number → an' ≡ eight w.values ++ drop 8 an → rw' ≡ written_if w.number (record_set rw₀ r') rw₀
    → ScheduleFaces sw (word sw 2) (schedule_call an sw rw₀ (start_by st le ro y m)) (all_written rw₀) rw₀ st le ro an n rw' st' le' ro' an'
starts_at {x = x} m e h s l q d i j k = rw (← e) (starts x m h s l q d i j k)

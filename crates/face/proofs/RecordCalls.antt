-- The calls that see the record alone, over words, from the record's own promises.
use Prim.Native.Nat.{◌<◌, ◌≤◌, ℕ}
use Rattle.record.specs.Record.{Changes, clock_in, mark_in, with_clock, with_mark}
use Rattle.record.specs.declared.Record.{Record}
use Rattle.rules.specs.Papers.{Outcome, Paper, after, no, refused, says}
use Rattle.rules.specs.Tests.{unless}
use Rattle.time.specs.declared.UnixTime.{UnixTime}
use Rattle.face.proofs.Answering.{answers, answers_no_room, no_room, with_room}
use Rattle.face.proofs.Writing.{Ends, ends_done, ends_unless, written_after}
use Rattle.face_reading.proofs.Standing.{stands_same}
use Rattle.face_reading.specs.Inside.{Stands}
use Rattle.face_words.specs.Inside.{eight, words_of, written_if}
use Rattle.face_reading.specs.Reading.{record_from}
use Rattle.face.specs.RecordFace.{RecordFaces, clock_written, long_enough, mark_written, record_call}
use Rattle.face_words.specs.declared.Words.{Words}
use borrow.Author.Tests.{le-leb, lt-leb}
use lib.ListN.{drop, length}
use mathlib.Core.Bool.{Bool}
use mathlib.Core.List.{List, [], ◌++◌}
use mathlib.Core.Path.{◌∙◌, ◌≡◌, ap, refl, sym}

abbrev worded : List ℕ → (Record → Outcome Record) → Outcome Record
worded rw₀ call = unless (long_enough rw₀) (refused (no 2 [])) (call (record_from rw₀))

module _ {an rw₀ : List ℕ} (call : Record → Outcome Record) {written : Record → List ℕ} where
  pub record_no_room : length an < 8 → RecordFaces (record_call an rw₀ call) written rw₀ an 2 rw₀ an
  unfolding record_call after
  record_no_room h = record { answer = answers_no_room an (worded rw₀ call) h; words = rw (no_room an (worded rw₀ call) h) }

  pub record_short : {w : Words} {n : ℕ} {an' : List ℕ} → 8 ≤ length an → length rw₀ < 6 → w ≡ words_of (no 2 [])
      → n ≡ w.number → an' ≡ eight w.values ++ drop 8 an → RecordFaces (record_call an rw₀ call) written rw₀ an n rw₀ an'
  unfolding record_call after unless says
  record_short {w} {n} {an'} h l e i j =
      let q : worded rw₀ call ≡ refused (no 2 []) = rw (lt-leb 6 (length rw₀) l) in
      record { answer = answers an (worded rw₀ call) (no 2 []) w n an' h (rw q) e i j; words = rw (with_room an (worded rw₀ call) h, q) }

  record_done : {r : Record} (x : Record) {p : Paper} {r' : Record} {w : Words} {n : ℕ} {rw' an' : List ℕ} → 8 ≤ length an → 6 ≤ length rw₀
      → call r ≡ call (record_from rw₀) → Ends (λ y. y ≡ x) (call r) → Changes (call r) r p r' → w ≡ words_of p
      → n ≡ w.number → an' ≡ eight w.values ++ drop 8 an → rw' ≡ written_if w.number (written x) rw₀
      → RecordFaces (record_call an rw₀ call) written rw₀ an n rw' an'
  unfolding record_call unless
  record_done {r} x {p} {w = w} {n} {rw'} {an'} h l q g d e i j k =
      let t : call r ≡ worded rw₀ call = q ∙ sym fine in
      record {
        answer = answers an (worded rw₀ call) p w n an' h (d.answer ∙ ap says t) e i j;
        words =
            rw (with_room an (worded rw₀ call) h, ← t)
            (written_after (λ y. y ≡ x) (λ o. written x) (λ o. rw₀) rw₀ written (λ vs y u. ap written (sym u)) (λ p. refl)
            (call r) p w rw' g d.answer e k);
      }
    where
      fine : worded rw₀ call ≡ call (record_from rw₀)
      fine = rw (le-leb 6 (length rw₀) l)

-- a record that stands for another comes to the same
module _ (x r : Record) (s : Stands x r) where
  clock_stands : (t : UnixTime) → clock_in t r ≡ clock_in t x
  unfolding clock_in unless
  clock_stands t = stands_same (clock_in t) (refused (no 3 [])) x r s (λ y e. rw e)

  mark_stands : (on : Bool) → mark_in on r ≡ mark_in on x
  unfolding mark_in unless
  mark_stands on = stands_same (mark_in on) (refused (no 3 [])) x r s (λ y e. rw e)

-- what each call leaves
clock_ends : (t : UnixTime) (r : Record) → Ends (λ y. y ≡ with_clock t r) (clock_in t r)
unfolding clock_in
clock_ends t r = ends_unless _ _ 2 _ (ends_unless _ _ 3 _ (ends_done _ _ _ refl))

mark_ends : (on : Bool) (r : Record) → Ends (λ y. y ≡ with_mark on r) (mark_in on r)
unfolding mark_in
mark_ends on r = ends_unless _ _ 2 _ (ends_done _ _ _ refl)

module _ {an rw₀ : List ℕ} {r r' : Record} {p : Paper} {w : Words} {n : ℕ} {rw' an' : List ℕ} (h : 8 ≤ length an) (l : 6 ≤ length rw₀)
    (s : Stands (record_from rw₀) r) (e : w ≡ words_of p) (i : n ≡ w.number) (j : an' ≡ eight w.values ++ drop 8 an) where
  pub clock_face : {t t' : UnixTime} → t ≡ t' → Changes (clock_in t r) r p r' → rw' ≡ written_if w.number (clock_written rw₀ (with_clock t r)) rw₀
      → RecordFaces (record_call an rw₀ (clock_in t')) (clock_written rw₀) rw₀ an n rw' an'
  clock_face {t} q d k = rw (← q) (record_done (clock_in t) (with_clock t r) h l (clock_stands (record_from rw₀) r s t) (clock_ends t r) d e i j k)

  pub mark_face : (on : Bool) → Changes (mark_in on r) r p r' → rw' ≡ written_if w.number (mark_written rw₀ (with_mark on r)) rw₀
      → RecordFaces (record_call an rw₀ (mark_in on)) (mark_written rw₀) rw₀ an n rw' an'
  mark_face on d k = record_done (mark_in on) (with_mark on r) h l (mark_stands (record_from rw₀) r s on) (mark_ends on r) d e i j k

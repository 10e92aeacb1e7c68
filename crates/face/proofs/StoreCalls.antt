-- The store's calls over words, from the store's own promises.
use Prim.Native.Nat.{◌<◌, ◌≤◌, ℕ}
use Rattle.rules.proofs.All.{and_left}
use Rattle.rules.specs.Papers.{Outcome, Paper, after, judged_by, no, refused, says}
use Rattle.rules.specs.Tests.{unless}
use Rattle.lookup.specs.Calls.{judging}
use Rattle.layout.specs.Judge.{judged, setup_ok}
use Rattle.slots.specs.Pools.{Pool}
use Rattle.store.specs.Promise.{Writes}
use Rattle.lookup.specs.Promise.{Reads}
use Rattle.layout.specs.declared.Setup.{Setup}
use Rattle.face.proofs.Answering.{answers, answers_no_room, no_room, with_room}
use Rattle.face.specs.Face.{Answers}
use Rattle.face_reading.specs.Inside.{ReadsStore, fine}
use Rattle.face_words.specs.Inside.{eight, words_of}
use Rattle.face_reading.specs.Reading.{store_setup, well_counted}
use Rattle.face.specs.StoreFace.{BufferFaces, StoreFaces, store_call}
use Rattle.face_words.specs.declared.Words.{Words}
use lib.ListN.{drop, length}
use mathlib.Core.Bool.{Bool, ◌&&◌, false, true}
use mathlib.Core.List.{List, [], ◌++◌}
use mathlib.Core.Path.{◌∙◌, ◌≡◌, ap, refl, sym}

module _ {A : Type 0} (sw st le : List ℕ) (call : Setup → List Pool → Outcome A) where
  -- what the call comes to, of the words
  abbrev pub worded : Outcome A
  worded = unless (well_counted sw) (refused (no 1 [])) (judging (store_setup sw) st le (call (store_setup sw)))

  bad_judged : (su : Setup) → setup_ok su ≡ false → judging su st le (call su) ≡ refused (no 1 [])
  unfolding judging judged judged_by unless
  bad_judged su e = rw e

  bad_worded : (b : Bool) → (b && setup_ok (store_setup sw)) ≡ false
      → unless b (refused (no 1 [])) (judging (store_setup sw) st le (call (store_setup sw))) ≡ refused (no 1 [])
  unfolding unless
  bad_worded true e = bad_judged (store_setup sw) e
  bad_worded false e = refl

  -- words of which 1 is due, and others
  pub worded_bad : fine sw ≡ false → worded ≡ refused (no 1 [])
  unfolding fine
  worded_bad f = bad_worded (well_counted sw) f

  pub worded_fine : fine sw ≡ true → worded ≡ judging (store_setup sw) st le (call (store_setup sw))
  unfolding fine unless
  worded_fine f = rw (and_left (well_counted sw) (setup_ok (store_setup sw)) f)

  pub read_judged : (su : Setup) → ReadsStore sw su → judging su st le (call su) ≡ worded
  read_judged su r = go (fine sw) refl
    where
      go : (b : Bool) → fine sw ≡ b → judging su st le (call su) ≡ worded
      go true f = rw (r.same f) (sym (worded_fine f))
      go false f = bad_judged su (r.bad f) ∙ sym (worded_bad f)

-- calls that only answer
module _ {A : Type 0} (an sw st le : List ℕ) (call : Setup → List Pool → Outcome A) where
  pub asks_no_room : length an < 8 → Answers (store_call an sw st le call) an 2 an
  unfolding store_call
  asks_no_room h = answers_no_room an (worded sw st le call) h

  pub asks : {su : Setup} {p : Paper} {w : Words} {n : ℕ} {an' : List ℕ} → 8 ≤ length an → ReadsStore sw su
      → p ≡ says (judging su st le (call su)) → w ≡ words_of p
      → n ≡ w.number → an' ≡ eight w.values ++ drop 8 an → Answers (store_call an sw st le call) an n an'
  unfolding store_call
  asks {su} {p} {w} {n} {an'} h r q e i j =
      answers an (worded sw st le call) p w n an' h (q ∙ ap says (read_judged sw st le call su r)) e i j

-- calls that write the store
module _ (sw st le : List ℕ) (call : Setup → List Pool → Outcome (List Pool)) where
  carry : (su : Setup) (p : Paper) (st' le' : List ℕ) → ReadsStore sw su → Writes su st le (judging su st le (call su)) p st' le'
      → Writes (store_setup sw) st le (worded sw st le call) p st' le'
  unfolding after
  carry su p st' le' r w = go (fine sw) refl
    where
      go : (b : Bool) → fine sw ≡ b → Writes (store_setup sw) st le (worded sw st le call) p st' le'
      go true f = rw (worded_fine sw st le call f) (rw (r.same f) at w)
      go false f =
          let e = read_judged sw st le call su r ∙ worded_bad sw st le call f in
          let v = rw e at w in
          rw (worded_bad sw st le call f) (record { answer = v.answer; store = v.store; lens = v.lens })

module _ {an sw st le : List ℕ} (call : Setup → List Pool → Outcome (List Pool)) where
  pub stores_no_room : length an < 8 → StoreFaces sw (store_call an sw st le call) st le an 2 st le an
  unfolding store_call after
  stores_no_room h =
      let e = no_room an (worded sw st le call) h in
      record { answer = asks_no_room an sw st le call h; store = rw e; lens = rw e }

  pub stores : {su : Setup} {p : Paper} {w : Words} {n : ℕ} {st' le' an' : List ℕ} → 8 ≤ length an → ReadsStore sw su
      → Writes su st le (judging su st le (call su)) p st' le' → w ≡ words_of p
      → n ≡ w.number → an' ≡ eight w.values ++ drop 8 an → StoreFaces sw (store_call an sw st le call) st le an n st' le' an'
  unfolding store_call
  stores {su} {p} {st' = st'} {le'} h r x e i j =
      let k = carry sw st le call su p st' le' r x in
      let m = with_room an (worded sw st le call) h in
      record {
        answer = asks an sw st le call h r x.answer e i j;
        store = rw m k.store;
        lens = rw m k.lens;
      }

-- the call that writes a buffer
module _ (an sw st le buf : List ℕ) (call : Setup → List Pool → Outcome (List ℕ)) where
  pub buffers_no_room : length an < 8 → BufferFaces (store_call an sw st le call) buf an 2 buf an
  unfolding store_call after
  buffers_no_room h = let e = no_room an (worded sw st le call) h in record { answer = asks_no_room an sw st le call h; buffer = rw e }

  pub buffers : {su : Setup} {p : Paper} {w : Words} {n : ℕ} {buf' an' : List ℕ} → 8 ≤ length an → ReadsStore sw su
      → Reads (judging su st le (call su)) buf p buf' → w ≡ words_of p
      → n ≡ w.number → an' ≡ eight w.values ++ drop 8 an → BufferFaces (store_call an sw st le call) buf an n buf' an'
  unfolding store_call
  buffers {su} h r x e i j =
      let m = with_room an (worded sw st le call) h in
      record {
        answer = asks an sw st le call h r x.answer e i j;
        buffer = rw (m, ← read_judged sw st le call su r) x.buffer;
      }

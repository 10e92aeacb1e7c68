-- The number and the answer's words, from an answer by value; and an answer that is too short.
use Prim.Native.Nat.{◌<◌, ◌≤◌, ℕ}
use Rattle.face_words.proofs.Eight.{padded_again}
use Rattle.face_words.specs.Inside.{eight, words_of}
use Rattle.face_words.specs.Padding.{padded}
use Rattle.face_words.specs.declared.Words.{Words}
use Rattle.rules.specs.Papers.{Outcome, Paper, no, refused, says}
use Rattle.rules.specs.Tests.{unless}
use Rattle.face.specs.Face.{Answers, answered, answering}
use borrow.Author.Tests.{le-leb, lt-leb}
use lib.ListN.{drop, length}
use mathlib.Core.List.{List, [], ◌++◌}
use mathlib.Core.Path.{◌∙◌, ◌≡◌, ap}

module _ {A : Type 0} (an : List ℕ) (o : Outcome A) where
  pub no_room : length an < 8 → answering an o ≡ refused (no 2 [])
  unfolding answering unless
  no_room h = rw (lt-leb 8 (length an) h)

  pub with_room : 8 ≤ length an → answering an o ≡ o
  unfolding answering unless
  with_room h = rw (le-leb 8 (length an) h)

  pub answers_no_room : length an < 8 → Answers (answering an o) an 2 an
  unfolding says answered unless
  answers_no_room h = record { number = rw (no_room h); words = rw (lt-leb 8 (length an) h) }

  pub answers : (p : Paper) (w : Words) (n : ℕ) (an' : List ℕ) → 8 ≤ length an → p ≡ says o → w ≡ words_of p
      → n ≡ w.number → an' ≡ eight w.values ++ drop 8 an → Answers (answering an o) an n an'
  unfolding answered unless
  answers p w n an' h q e i j =
      rw (with_room h)
      (record {
        number = i ∙ ap (λ (x : Words). x.number) e ∙ ap (λ (x : Paper). x.number) q;
        words = j ∙ ap (λ (x : Words). eight x.values ++ drop 8 an) (e ∙ ap words_of q) ∙ ap (λ l. l ++ drop 8 an) (padded_again
            (says o).values) ∙ fits;
      })
    where
      fits : padded (says o).values ++ drop 8 an ≡ answered an (says o).values
      fits = rw (le-leb 8 (length an) h)

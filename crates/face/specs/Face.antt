-- What every call of the C face has in common: the number that it returns, and the first 8 words of the lent answer.
use Rattle.std.specs.Prelude.{ℕ, leb, drop, length, Bool, List, [], ◌++◌, ◌≡◌}
use Rattle.face_words.specs.Padding.{answer_words, padded}
use Rattle.rules.specs.Papers.{Outcome, no, refused, says}
use Rattle.rules.specs.Tests.{unless}

abbrev pub roomy : List ℕ → Bool
roomy an = leb answer_words (length an)

-- an answer of fewer than 8 words is judged before anything else: BadBuffers, and nothing at all is written
unfoldable pub answering : {A : Type 0} → List ℕ → Outcome A → Outcome A
answering an o = unless (roomy an) (refused (no 2 [])) o

-- the answer's words afterwards; those behind the first 8 are as they were
unfoldable pub answered : List ℕ → List ℕ → List ℕ
answered an vs = unless (roomy an) an (padded vs ++ drop answer_words an)

-- what a call promises of its number n and its answer's words
pub record Answers {A : Type 0} (o : Outcome A) (an : List ℕ) (n : ℕ) (an' : List ℕ) : Type 0 where
  pub number : n ≡ (says o).number
  pub words : an' ≡ answered an (says o).values

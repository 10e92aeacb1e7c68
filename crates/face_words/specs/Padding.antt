-- An answer's values in the first 8 words of what the caller lends.
use Rattle.std.specs.Prelude.{ℕ, replicate, take, List, ◌++◌}

abbrev pub answer_words : ℕ
answer_words = 8

-- values in 8 words, unused ones 0
unfoldable pub padded : List ℕ → List ℕ
padded vs = take answer_words (vs ++ replicate answer_words 0)

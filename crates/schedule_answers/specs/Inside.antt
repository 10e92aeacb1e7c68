-- An answer that carries another.
-- A reader need not believe this file: contracts below the public calls cite it, no public call's promise does.
use Rattle.std.specs.Prelude.{ℕ, [], ◌∷◌}
use Rattle.face_reading.specs.Reading.{word}
use Rattle.face_words.specs.declared.Words.{Words}

-- an answer that carries another behind two words
abbrev pub carrying : ℕ → ℕ → Words → Words
carrying a b w =
    record {
      number = 0;
      values = a ∷ b ∷ w.number ∷ word w.values 0 ∷ word w.values 1 ∷ word w.values 2 ∷ word w.values 3 ∷ word w.values 4 ∷ [];
    }

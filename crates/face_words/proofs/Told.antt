-- An answer by value, from the case that it is of and the words that it holds.
use Prim.Native.Nat.{ℕ}
use Rattle.face_words.specs.Inside.{words_of}
use Rattle.rules.specs.Papers.{Paper, no}
use mathlib.Core.List.{[], ◌∷◌}
use mathlib.Core.Path.{◌∙◌, ◌≡◌, ap}
use Rattle.face_words.specs.declared.Words.{Words}

-- the case
pub told : {E : Type 0} (f : E → Paper) {e e' : E} {w : Words} → e ≡ e' → w ≡ words_of (f e') → w ≡ words_of (f e)
told f {e} {e'} {w} q h = rw q h

-- the values
pub one_is : {n a b : ℕ} {w : Words} → w ≡ words_of (no n (a ∷ [])) → a ≡ b → w ≡ words_of (no n (b ∷ []))
one_is {n} h q = h ∙ ap (λ x. words_of (no n (x ∷ []))) q

pub two_is : {n a b a' b' : ℕ} {w : Words} → w ≡ words_of (no n (a ∷ b ∷ [])) → a ≡ a' → b ≡ b' → w ≡ words_of (no n (a' ∷ b' ∷ []))
two_is {n} {a} {b} {a'} {b'} h q r = h ∙ ap (λ x. words_of (no n (x ∷ b ∷ []))) q ∙ ap (λ x. words_of (no n (a' ∷ x ∷ []))) r

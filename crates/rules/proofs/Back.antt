-- An answer found again from its paper: from the values where the number is 0, and else from the refusal.
use lib.Dec.{eqb}
use mathlib.Core.Bool.{cond}
use mathlib.Core.List.{List}
use Prim.Native.Nat.{ℕ}
use Rattle.rules.specs.Papers.{Paper}

-- by the refusal of a paper
unfoldable pub answer_of : {A E : Type 0} → (Paper → E) → (List ℕ → A) → (E → A) → Paper → A
answer_of back answer refusal p = cond (eqb p.number 0) (answer p.values) (refusal (back p))

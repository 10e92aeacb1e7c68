-- What is struck, said without `strike`: what was refused as full, and nothing else.
use Rattle.room.specs.Room.{strike, struck}
use Rattle.rules.specs.Papers.{Paper}
use Rattle.scheduler.specs.Steps.{Answer}
use Rattle.std.specs.Prelude.{false, true, List, [], ◌∷◌, ◌⊎◌, ◌≡◌}

-- refused by 12, StoreFull, or 14, ScheduleFull
pub record Full (p : Paper) : Type 0 where
  pub by : (p.number ≡ 12) ⊎ (p.number ≡ 14)

-- answered, or refused by another number
pub record NotFull (p : Paper) : Type 0 where
  pub store : p.number ≡ 12 → ⊥
  pub schedule : p.number ≡ 14 → ⊥

unfoldable pub StruckIfFull : Type 0
StruckIfFull = (p : Paper) → (Full p → struck p ≡ true) × (NotFull p → struck p ≡ false)

-- What is left of requests, or of anything that stands beside their answers: of none, nothing; what was refused as full is gone; all else
-- stays, in its place. This is all of `strike`
pub record StrikesFull (A : Type 0) : Type 0 where
  pub none : strike {A = A} [] [] ≡ []
  pub full_goes : (a : Answer) (given : List Answer) (x : A) (xs : List A) → Full a.paper → strike (a ∷ given) (x ∷ xs) ≡ strike given xs
  pub others_stay : (a : Answer) (given : List Answer) (x : A) (xs : List A) → NotFull a.paper
      → strike (a ∷ given) (x ∷ xs) ≡ x ∷ strike given xs

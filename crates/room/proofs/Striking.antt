-- What is struck: the refusals 12 and 14, and nothing else.
use Rattle.room.specs.Room.{strike, struck}
use Rattle.room.specs.Striking.{Full, NotFull, StrikesFull, StruckIfFull}
use Rattle.rules.specs.Papers.{Paper}
use Rattle.scheduler.specs.Steps.{Answer}
use borrow.Author.Tests.{ne_eqb}
use mathlib.Core.Bool.{Bool, cond, false, true}
use mathlib.Core.List.{List, ◌∷◌}
use mathlib.Core.Logic.{◌⊎◌, inl, inr}
use mathlib.Core.Path.{◌≡◌, ap, refl}

full : (p : Paper) → (p.number ≡ 12) ⊎ (p.number ≡ 14) → struck p ≡ true
unfolding struck
full p (inl e) = rw e
full p (inr e) = rw e

not_full : (p : Paper) → NotFull p → struck p ≡ false
unfolding struck
not_full p n = rw (ne_eqb p.number 12 n.store, ne_eqb p.number 14 n.schedule)

pub struck_if_full : StruckIfFull
unfolding StruckIfFull
struck_if_full p = (λ f. full p f.by, λ n. not_full p n)

module _ {A : Type 0} (a : Answer) (given : List Answer) (x : A) (xs : List A) where
  goes : Full a.paper → strike (a ∷ given) (x ∷ xs) ≡ strike given xs
  unfolding strike
  goes f = ap (λ (b : Bool). cond b (strike given xs) (x ∷ strike given xs)) (full a.paper f.by)

  stays : NotFull a.paper → strike (a ∷ given) (x ∷ xs) ≡ x ∷ strike given xs
  unfolding strike
  stays n = ap (λ (b : Bool). cond b (strike given xs) (x ∷ strike given xs)) (not_full a.paper n)

pub strikes_full : (A : Type 0) → StrikesFull A
unfolding strike
strikes_full A = record { none = refl; full_goes = λ a given x xs. goes a given x xs; others_stay = λ a given x xs. stays a given x xs }

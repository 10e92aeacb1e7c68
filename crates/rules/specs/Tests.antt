-- Tests: all of a list, all below a bound, the first that passes, and an order of refusals.
use Rattle.std.specs.Prelude.{suc, zero, ℕ, Bool, ◌&&◌, cond, false, true, List, [], ◌∷◌}

-- every test of a list passes
unfoldable pub all_of : List Bool → Bool
all_of [] = true
all_of (b ∷ bs) = b && all_of bs

-- x where the test passes, and bad where it fails: a column of these is an order of refusals
unfoldable pub unless {ℓ} : {A : Type ℓ} → Bool → A → A → A
unless true bad x = x
unless false bad x = bad

-- p passes at each index below n
unfoldable pub all_below : (ℕ → Bool) → ℕ → Bool
all_below p zero = true
all_below p (suc n) = all_below p n && p n

-- the first index from i on, of n of them, at which p passes; i + n where there is none
unfoldable pub first_from : (ℕ → Bool) → ℕ → ℕ → ℕ
first_from p i zero = i
first_from p i (suc n) = cond (p i) i (first_from p (suc i) n)

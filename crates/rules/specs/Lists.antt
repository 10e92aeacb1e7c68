-- Lists made by an index.
use Rattle.std.specs.Prelude.{suc, zero, ℕ, List, [], ◌∷◌}

-- f i, f (i + 1), .. : n of them
unfoldable pub each : {A : Type 0} → (ℕ → A) → ℕ → ℕ → List A
each f i zero = []
each f i (suc n) = f i ∷ each f (suc i) n

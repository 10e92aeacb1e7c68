-- What asking for a packet's presence and for its length comes to, in document 01's numbers and by the store's rules.
use Rattle.std.specs.Prelude.{ℕ, List, [], ◌∷◌}
use Rattle.lookup.specs.Calls.{if_named}
use Rattle.rules.specs.Papers.{Outcome, done}
use Rattle.slots.specs.Pools.{Pool, find}

-- a free slot has no element, and length 0
unfoldable pub has_in : List Pool → ℕ → Outcome (Unit {0})
has_in ps a = if_named a (find ps a) (done (0 ∷ []) tt) (λ n b. done (1 ∷ []) tt)

unfoldable pub len_in : List Pool → ℕ → Outcome (Unit {0})
len_in ps a = if_named a (find ps a) (done (0 ∷ []) tt) (λ n b. done (n ∷ []) tt)

-- Deleting a list of addresses, by the store's rule alone.
use Rattle.std.specs.Prelude.{◌+◌, ℕ, List, [], ◌∷◌}
use Rattle.rules.specs.Papers.{Outcome, after, done}
use Rattle.store.specs.Calls.{delete_in}
use Rattle.slots.specs.Pools.{Pool}

-- the subpools after one deletion, and 1 where there was a packet
abbrev pub without_one : List Pool → ℕ → List Pool
without_one ps a = after (delete_in ps a) ps (λ qs. qs)

unfoldable pub one : List Pool → ℕ → ℕ
one ps a = after (delete_in ps a) 0 (λ qs. 1)

unfoldable pub without_all : List ℕ → List Pool → List Pool
without_all [] ps = ps
without_all (a ∷ rest) ps = without_all rest (without_one ps a)

unfoldable pub count_all : List ℕ → List Pool → ℕ
count_all [] ps = 0
count_all (a ∷ rest) ps = one ps a + count_all rest (without_one ps a)

-- how many there were, and what is left
unfoldable pub sweep_in : List ℕ → List Pool → Outcome (List Pool)
sweep_in addrs ps = done (count_all addrs ps ∷ []) (without_all addrs ps)

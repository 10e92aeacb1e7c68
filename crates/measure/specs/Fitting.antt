-- How many entries fit into the log.
use Rattle.std.specs.Prelude.{◌+◌, suc, ℕ, leb, List, [], ◌∷◌}
use Rattle.rules.specs.Tests.{unless}
use Rattle.slots.specs.Pools.{Pool, find}
use Rattle.rows.specs.Entries.{Entry}
use Rattle.turn.specs.Turns.{need}

-- how many of the entries fit into the log, one after the other
unfoldable pub fitting : (List Pool → ℕ → List Pool) → ℕ → ℕ → List Entry → List Pool → ℕ
fitting after used cap [] ps = 0
fitting after used cap (e ∷ es) ps =
    unless (leb (used + need (find ps e.addr)) cap) 0
    (suc (fitting after (used + need (find ps e.addr)) cap es (after ps e.addr)))

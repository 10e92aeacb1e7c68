-- What the log lacks for the first due record.
-- A reader need not believe this file: contracts below the public calls cite it, no public call's promise does.
use Rattle.std.specs.Prelude.{Option, Some, None, ℕ, ltb, not, List, [], ◌∷◌}
use Rattle.rules.specs.Tests.{all_of, unless}
use Rattle.slots.specs.Pools.{Pool}
use Rattle.rows.specs.Entries.{Entry}
use Rattle.turns.specs.Released.{first_total}

-- the log that the first of n entries needs alone, where it does not fit into cap bytes
unfoldable pub lack : ℕ → ℕ → List Entry → List Pool → Option ℕ
lack n cap es ps = unless (not (all_of (ltb 0 n ∷ ltb cap (first_total es ps) ∷ []))) (Some (first_total es ps)) None

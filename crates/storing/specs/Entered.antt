-- How every insertion by bytes ends: the store's answer, and then refusals 13 and 14.
use Rattle.std.specs.Prelude.{ℕ, get_or, List, [], ◌∷◌}
use Rattle.gate.specs.Entering.{enter}
use Rattle.rules.specs.Papers.{Outcome, done, refused}
use Rattle.slots.specs.Pools.{Pool}
use Rattle.time.specs.declared.UnixTime.{UnixTime}
use Rattle.schedule.specs.State.{State, with_pools}
use Rattle.schedule.specs.declared.Setup.{Setup}

-- the store's 11 and 12, then 13 and 14; it answers the address and the request ID
unfoldable pub entered : Setup → UnixTime → ℕ → State → Outcome (List Pool) → Outcome State
entered su t id s (refused p) = refused p
entered su t id s (done vs ps) = enter su t id (get_or vs 0 0) (get_or vs 0 0 ∷ id ∷ []) (with_pools ps s)

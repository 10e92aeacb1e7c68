-- The count: how many entries there are.
use Rattle.std.specs.Prelude.{length, [], ◌∷◌}
use Rattle.rules.specs.Papers.{Outcome, done}
use Rattle.schedule.specs.State.{State}

unfoldable pub count_in : State → Outcome (Unit {0})
count_in s = done (length s.entries ∷ []) tt

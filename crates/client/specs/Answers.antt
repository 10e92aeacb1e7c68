-- The paper of a sweep's answer.
use Rattle.std.specs.Prelude.{Result, Ok, Err, ℕ, [], ◌∷◌}
use Rattle.slots.specs.declared.StoreRefusal.{StoreRefusal}
use Rattle.rules.specs.Papers.{Paper, no}
use Rattle.lookup.specs.Refusals.{paper}

unfoldable pub swept_paper : Result ℕ StoreRefusal → Paper
swept_paper (Ok n) = no 0 (n ∷ [])
swept_paper (Err e) = paper e

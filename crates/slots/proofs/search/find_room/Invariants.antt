-- `slots::search::find_room` meets its contract.
use Rattle.std.proofs.Common.{◌≡◌, ℕ, ◌<◌, ◌≤◌, false}
use Rattle.slots.specs.Inside.{has_free}
use Rattle.slots.proofs.search.find_room.Given as goal

abbrev pub invariant-loop-k : goal.invariant-loop-k
invariant-loop-k l = (j : ℕ) → l.first ≤ j → j < l.k → has_free l.setup l.lens j ≡ false

-- Document 01's number and values for each answer of a call that changes the store, and of judging.
use Rattle.std.specs.Prelude.{Result, Ok, Err, ℕ, [], ◌∷◌}
use Rattle.slots.specs.declared.StoreRefusal.{StoreRefusal}
use Rattle.lookup.specs.Refusals.{paper}
use Rattle.rules.specs.Papers.{Paper, no}

-- of a call whose answer has no value
unfoldable pub done_paper : Result (Unit {0}) StoreRefusal → Paper
done_paper (Ok _) = no 0 []
done_paper (Err e) = paper e

unfoldable pub added_paper : Result ℕ StoreRefusal → Paper
added_paper (Ok a) = no 0 (a ∷ [])
added_paper (Err e) = paper e

-- Document 01's number and values for what a deletion by request ID answers: 0 for one that is no refusal.
use Rattle.std.specs.Prelude.{Result, Ok, Err, Option, Some, None, ℕ, [], ◌∷◌}
use Rattle.slots.specs.declared.StoreRefusal.{StoreRefusal}
use Rattle.record.specs.declared.ScheduleRefusal.{ScheduleRefusal}
use Rattle.record.specs.Refusals.{paper}
use Rattle.rules.specs.Papers.{Paper, no}
use Rattle.lookup.specs.Refusals.{paper as store_paper}

-- 0 for no match; 1 and the address; 1 and 1; 1, 0 and the store's refusal
unfoldable pub taken_paper : Result (Option ℕ) ScheduleRefusal → Paper
taken_paper (Ok None) = no 0 (0 ∷ [])
taken_paper (Ok (Some a)) = no 0 (1 ∷ a ∷ [])
taken_paper (Err e) = paper e

unfoldable pub freed_paper : Result (Option (Result (Unit {0}) StoreRefusal)) ScheduleRefusal → Paper
freed_paper (Ok None) = no 0 (0 ∷ [])
freed_paper (Ok (Some (Ok _))) = no 0 (1 ∷ 1 ∷ [])
freed_paper (Ok (Some (Err e))) = no 0 (1 ∷ 0 ∷ (store_paper e).number ∷ (store_paper e).values)
freed_paper (Err e) = paper e

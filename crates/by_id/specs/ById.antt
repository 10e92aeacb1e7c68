-- The deletions by request ID, which remove one entry: in the earliest release time that has a match, the last match.
use Rattle.std.specs.Prelude.{ℕ, ltb, get_or, length, List, [], ◌∷◌}
use Rattle.rules.specs.Papers.{Outcome, done, refused}
use Rattle.rules.specs.Tests.{unless}
use Rattle.store.specs.Calls.{delete_in}
use Rattle.slots.specs.Pools.{Pool}
use Rattle.table_edit.specs.Edits.{without}
use Rattle.selection.specs.Match.{none, victim}
use Rattle.schedule.specs.State.{State, with_entries, with_pools}

-- no match answers 0; else the entry goes, and what is found at its address decides
unfoldable pub take_in : ℕ → (ℕ → State → Outcome State) → State → Outcome State
take_in id found s =
    unless (ltb (victim id s.entries) (length s.entries)) (done (0 ∷ []) s)
    (found (get_or s.entries (victim id s.entries) none).addr (with_entries (without (victim id s.entries) 1 s.entries) s))

-- one form answers 1 and the address, and keeps the packet
unfoldable pub delete_keeping_in : ℕ → State → Outcome State
delete_keeping_in id s = take_in id (λ a t. done (1 ∷ a ∷ []) t) s

-- the other deletes the packet too, and answers 1 and 1; where the packet is missing the entry still goes, and the answer carries
-- the store's refusal
unfoldable pub freed : State → Outcome (List Pool) → Outcome State
freed s (refused p) = done (1 ∷ 0 ∷ p.number ∷ p.values) s
freed s (done vs ps) = done (1 ∷ 1 ∷ []) (with_pools ps s)

unfoldable pub delete_by_id_in : ℕ → State → Outcome State
delete_by_id_in id s = take_in id (λ a t. freed t (delete_in t.pools a)) s

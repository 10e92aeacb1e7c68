-- With spilling on in the smaller, room does change answers: document 01's line, and that demand 3 fails, whether the larger spills or not.
use Prim.Native.Nat.{◌<◌, ◌≤◌, suc, zero, ℕ}
use Rattle.room.specs.Room.{RoomNeverChangesAnAnswer, addresses, strike, struck}
use Rattle.room.specs.Spilling.{last_answer, line, slots}
use Rattle.rules.specs.Papers.{after, through, no, says}
use Rattle.rules.specs.Tests.{all_below, all_of}
use Rattle.schedule.specs.Judge.{setup_ok}
use Rattle.scheduler.specs.Steps.{Answer, add, carried, run, step}
use Rattle.store.specs.Calls.{add_in, delete_in, fresh_pools, place}
use Rattle.lookup.specs.Calls.{if_held, if_named}
use Rattle.layout.specs.Judge.{last_size, setup_ok as store_setup_ok}
use Rattle.layout.specs.Layout.{bytes_before}
use Rattle.slots.specs.Pools.{choose, find_at, over}
use Rattle.store.specs.Edits.{edit_at}
use Rattle.rules.specs.Lists.{each}
use lib.IntN.{pos}
use lib.ListN.{get_or, replicate}
use mathlib.Core.Bool.{Bool, true}
use mathlib.Core.List.{List, [], ◌∷◌}
use mathlib.Core.Path.{◌≡◌, ap, refl}
use native.Mathlib.Omega.{arith}

-- the smaller accepts w; there r spilled to subpool 1 and q to 2
pub small_accepts : last_answer (slots true 1) (line 65536 131072) ≡ no 0 (131072 ∷ [])
unfolding run step carried through says after fresh_pools each add_in place choose edit_at delete_in if_held if_named find_at over
small_accepts = refl

-- the larger says StoreFull(2); there r lies in subpool 0 and q in 1
pub large_refuses : last_answer (slots true 2) (line 1 65536) ≡ no 12 (2 ∷ [])
unfolding run step carried through says after fresh_pools each add_in place choose edit_at delete_in if_held if_named find_at over
large_refuses = refl

slots_ok : setup_ok (slots true 1) ≡ true
unfolding setup_ok store_setup_ok all_of all_below last_size bytes_before
slots_ok = refl

-- one list of requests for both: the second packet of 16 bytes spills in the smaller alone
pub spilling_changes_answers : (larger : Bool) → RoomNeverChangesAnAnswer true larger → ⊥
unfolding RoomNeverChangesAnAnswer run step carried through says after fresh_pools each add_in place choose edit_at over strike struck addresses
spilling_changes_answers larger demand =
    let qs = add (replicate 16 0) ∷ add (replicate 16 0) ∷ [] in
    let e =
    demand (slots true 1) (slots larger 2) (record { secs = pos 0; nanos = 0 }) (record { secs = 0; nanos = 0 }) qs slots_ok
    (record { same_pools = refl; same_sizes = λ k l. refl; more_slots = more; more_entries = omega arith })
    (record { first = refl; second = refl })
    (tt, (tt, tt)) in
    let z : ◌≡◌ {A = ℕ} 1 65536 = ap (λ (xs : List Answer). get_or (get_or xs 1 (record { paper = no 0 []; buffer = [] })).paper.values 0 0) e in
    omega arith
  where
    more : (k : ℕ) → k < 3 → get_or (1 ∷ 1 ∷ 1 ∷ 0 ∷ 0 ∷ 0 ∷ 0 ∷ 0 ∷ []) k 0 ≤ get_or (2 ∷ 1 ∷ 1 ∷ 0 ∷ 0 ∷ 0 ∷ 0 ∷ 0 ∷ []) k 0
    more zero l = omega arith
    more (suc zero) l = omega arith
    more (suc (suc k)) l = omega arith

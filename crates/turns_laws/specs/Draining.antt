-- Repeated ticks with nothing between them, and the room that they need.
use Rattle.std.specs.Prelude.{◌*◌, ◌+◌, ◌-◌, ◌/◌, ◌≤◌, suc, zero, ℕ, length, Bool, List, ◌++◌}
use Rattle.layout.specs.Layout.{size_at}
use Rattle.slots.specs.Pools.{Pool, find_at}
use Rattle.layout.specs.declared.Setup.{Setup}
use Rattle.rows.specs.Entries.{Entry}
use Rattle.turn.specs.Turns.{Handout, handout, packet_of, stop}

-- a handout, and what follows on what it left
abbrev pub followed_by : Handout → Handout → Handout
followed_by g h = record { records = g.records ++ h.records; left = h.left; pools = h.pools }

-- n ticks with one limit and one room
unfoldable pub drained : (List Pool → ℕ → List Pool) → (Entry → Bool) → ℕ → ℕ → ℕ → ℕ → List Entry → List Pool → Handout
drained after on ck k cap zero es ps = stop es ps
drained after on ck k cap (suc n) es ps =
    followed_by (handout after on ck k 8 cap es ps)
    (drained after on ck k cap n (handout after on ck k 8 cap es ps).left (handout after on ck k 8 cap es ps).pools)

-- d / k, rounded up
abbrev pub rounded_up : ℕ → ℕ → ℕ
rounded_up d k = (d + (k - 1)) / k

-- slot sizes rise: the last subpool's is the largest
abbrev pub largest_slot : Setup → ℕ
largest_slot su = size_at su (su.pools - 1)

-- room for k records with packets of `big` bytes: the log's count and total, and for each record its offset and itself
abbrev pub room_for : ℕ → ℕ → ℕ
room_for k big = 8 + k * (21 + big)

-- no packet is longer than big
unfoldable pub Short : ℕ → List Pool → Type 0
Short big ps = (k i : ℕ) → length (packet_of (find_at ps k i)) ≤ big

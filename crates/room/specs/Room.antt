-- Demand 3: room never changes an answer. Two fresh schedulers, alike but that the second has at least as many entries and as many slots in
-- each subpool, spilling off; any list of requests, every address in them naming a slot of the first. Strike what the first refused as
-- StoreFull or ScheduleFull: the second, given the rest and the same buffers, gives the same answers and writes the same bytes.
use Rattle.std.specs.Prelude.{◌<◌, ◌≤◌, ℕ, eqb, Bool, ◌||◌, cond, true, List, [], ◌∷◌, ◌≡◌}
use Rattle.rules.specs.Papers.{Paper}
use Rattle.schedule.specs.Judge.{setup_ok}
use Rattle.starting.specs.Starting.{fresh_state}
use Rattle.scheduler.specs.Steps.{Answer, Request, add, count, delete, delete_by_id, delete_keeping, delete_window, disable, enable, has_element_at, insert_stored, insert_unwrapped, insert_wrapped, len_of_data, modify, read, reset, retrieve, run, set_clock, tick}
use Rattle.schedule.specs.declared.Setup.{Setup}
use Rattle.address.specs.Address.{pool_of, slot_of}
use Rattle.layout.specs.Layout.{size_at, slots_at}
use Rattle.time.specs.declared.Margin.{Margin}
use Rattle.time.specs.declared.UnixTime.{UnixTime}

-- the second setup has at least the room of the first, and is alike in all else
pub record Roomier (su lu : Setup) : Type 0 where
  pub same_pools : lu.store.pools ≡ su.store.pools
  pub same_sizes : (k : ℕ) → k < su.store.pools → size_at lu.store k ≡ size_at su.store k
  pub more_slots : (k : ℕ) → k < su.store.pools → slots_at su.store k ≤ slots_at lu.store k
  pub more_entries : su.entries ≤ lu.entries

-- whether the first spills, and whether the second does
pub record Spills (b c : Bool) (su lu : Setup) : Type 0 where
  pub first : su.store.spill ≡ b
  pub second : lu.store.spill ≡ c

-- the addresses in a request. An insertion by bytes, like an addition, has none: it answers the one that it chose
unfoldable pub addresses : Request → List ℕ
addresses (add d) = []
addresses (read a buf) = a ∷ []
addresses (modify a d) = a ∷ []
addresses (delete a) = a ∷ []
addresses (has_element_at a) = a ∷ []
addresses (len_of_data a) = a ∷ []
addresses (set_clock t) = []
addresses enable = []
addresses disable = []
addresses count = []
addresses (insert_wrapped p) = []
addresses (insert_unwrapped t p) = []
addresses (insert_stored t id a) = a ∷ []
addresses (retrieve w) = []
addresses (delete_window w) = []
addresses reset = []
addresses (delete_keeping id) = []
addresses (delete_by_id id) = []
addresses (tick limit del log) = []

-- an address names a slot of a setup, by the bits that decoding keeps
abbrev pub Named : Setup → ℕ → Type 0
Named su a = (pool_of a < su.store.pools) × (slot_of a < slots_at su.store (pool_of a))

abbrev pub AllNamed : Setup → List ℕ → Type 0
AllNamed su [] = Unit {0}
AllNamed su (a ∷ xs) = Named su a × AllNamed su xs

abbrev pub EveryNamed : Setup → List Request → Type 0
EveryNamed su [] = Unit {0}
EveryNamed su (q ∷ qs) = AllNamed su (addresses q) × EveryNamed su qs

-- 12, StoreFull, and 14, ScheduleFull
unfoldable pub struck : Paper → Bool
struck p = eqb p.number 12 || eqb p.number 14

-- a list without what was so answered: the requests, or the answers themselves
unfoldable pub strike : {A : Type 0} → List Answer → List A → List A
strike [] xs = []
strike (a ∷ given) [] = []
strike (a ∷ given) (x ∷ xs) = cond (struck a.paper) (strike given xs) (x ∷ strike given xs)

-- what a fresh scheduler answers, with the buffers as they are afterwards
abbrev pub answers_of : Setup → UnixTime → Margin → List Request → List Answer
answers_of su clock margin qs = (run su qs (fresh_state su clock margin)).answers

-- the demand, by whether the smaller spills and whether the larger does: off in both is what is asked for, off in the smaller is enough.
-- Neither fresh start is refused; of that, it needs no more than that the first setup is none of refusal 1
unfoldable pub RoomNeverChangesAnAnswer : Bool → Bool → Type 0
RoomNeverChangesAnAnswer smaller larger =
    (su lu : Setup) (clock : UnixTime) (margin : Margin) (qs : List Request) →
    setup_ok su ≡ true →
    Roomier su lu →
    Spills smaller larger su lu →
    EveryNamed su qs →
    let given : List Answer = answers_of su clock margin qs in
    answers_of lu clock margin (strike given qs) ≡ strike given given

-- What the calls that look a packet up come to, in document 01's numbers and by the store's rules.
use Rattle.std.specs.Prelude.{ℕ, length, take, List, [], ◌∷◌}
use Rattle.address.specs.Address.{address_of, pool_of, slot_of}
use Rattle.layout.specs.Judge.{judged}
use Rattle.rules.specs.Papers.{Outcome, done, no, refused}
use Rattle.slots.specs.Pools.{Found, Pool, find, held, no_pool, no_slot, vacant}
use Rattle.slots.specs.View.{view}
use Rattle.layout.specs.declared.Setup.{Setup}

-- 16 and 17, and else what a free slot gives, or what f makes of the packet
unfoldable pub if_named : {A : Type 0} → ℕ → Found → Outcome A → (ℕ → List ℕ → Outcome A) → Outcome A
if_named a no_pool v f = refused (no 16 (pool_of a ∷ []))
if_named a no_slot v f = refused (no 17 (slot_of a ∷ []))
if_named a vacant v f = v
if_named a (held n b) v f = f n b

-- a free slot is 18
unfoldable pub if_held : {A : Type 0} → ℕ → Found → (ℕ → List ℕ → Outcome A) → Outcome A
if_held a x f = if_named a x (refused (no 18 (address_of (pool_of a) (slot_of a) ∷ []))) f

-- the packet that an address names: its length and its bytes. It is what `modify` answers and lends
unfoldable pub packet_in : List Pool → ℕ → Outcome (List ℕ)
packet_in ps a = if_held a (find ps a) (λ n b. done (n ∷ []) (take n b))

-- every public call judges first: 1, 2, 3
unfoldable pub judging : {A : Type 0} → Setup → List ℕ → List ℕ → (List Pool → Outcome A) → Outcome A
judging su st le call = judged su (length st) le (call (view su st le))

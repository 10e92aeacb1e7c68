-- A larger scheduler beside a smaller one: it is the smaller with fresh slots behind those of each subpool, and stays so request by request.
use Rattle.std.specs.Prelude.{◌<◌, ◌≤◌, suc, zero, ℕ, length, replicate, false, true, List, [], ◌++◌, ◌∷◌, ◌≡◌}
use Rattle.address.specs.Address.{pool_of, slot_of}
use Rattle.room.specs.Room.{struck}
use Rattle.rows.specs.Entries.{Entry}
use Rattle.schedule.specs.State.{State, with_pools}
use Rattle.scheduler.specs.Steps.{Stepped}
use Rattle.slots.specs.Pools.{Pool, free}
use Rattle.turns_laws.specs.Laws.{Addresses}

-- how many slots each subpool has
unfoldable pub shape : List Pool → List ℕ
shape [] = []
shape (p ∷ ps) = length p.slots ∷ shape ps

-- slot i of subpool k is one of so many
abbrev pub NamedAt : List ℕ → ℕ → ℕ → Type 0
NamedAt [] k i = ⊥
NamedAt (n ∷ ns) zero i = i < n
NamedAt (n ∷ ns) (suc k) i = NamedAt ns k i

unfoldable pub Slotted : List ℕ → ℕ → Type 0
Slotted ns a = NamedAt ns (pool_of a) (slot_of a)

-- so many more slots in each subpool
unfoldable pub grow : List ℕ → List Pool → List Pool
grow [] ps = ps
grow (k ∷ ks) [] = []
grow (k ∷ ks) (p ∷ ps) = record { size = p.size; slots = p.slots ++ replicate k (free (replicate p.size 0)) } ∷ grow ks ps

-- at most 256 slots in each subpool
abbrev pub Narrow : List ℕ → Type 0
Narrow [] = Unit {0}
Narrow (n ∷ ns) = (n ≤ 256) × Narrow ns

-- each entry's address names a slot that is one of so many
abbrev pub Slots : List ℕ → List Entry → Type 0
Slots ns es = Addresses (Slotted ns) es

-- a state of the smaller: each entry's address names one of its slots
pub record Fit (ns : List ℕ) (s : State) : Type 0 where
  pub shaped : shape s.pools ≡ ns
  pub named : Slots ns s.entries

-- what the larger has in its place
abbrev pub grown : List ℕ → State → State
grown ks s = with_pools (grow ks s.pools) s

-- one request: x on the smaller, which was at s, and x' on the larger. Not struck, the answers are alike and so are the states; struck, the
-- smaller is as it was
pub record Good (ns ks : List ℕ) (s : State) (x x' : Stepped) : Type 0 where
  pub alike : struck x.answer.paper ≡ false → x' ≡ record { answer = x.answer; state = grown ks x.state }
  pub still : struck x.answer.paper ≡ true → x.state ≡ s
  pub fit : Fit ns x.state
